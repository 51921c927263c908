use Rattle.std.proofs.Common.{◌∙◌, ap, length}
use Rattle.pdus.specs.ClnpOptions.Parameter.{quality}
use Rattle.pdus.specs.ClnpOptions.Edits.{edited, marked}
use Rattle.pdus.specs.PduHeader.Value.{PduValue}
use Rattle.pdus.specs.PduHeader.Headers.{SpellsHeader, with_options}
use Rattle.pdus.proofs.PduHeader.Edited.{StartsAt, start_within, options_formed, edit_spells}
use Rattle.pdus.proofs.pdu_header.header.Header.mark_congestion.Goals as goal

pub mark_congestion-requires-clause-start : goal.mark_congestion-requires-clause-start
mark_congestion-requires-clause-start c =
    let v : PduValue = c.self.invariant.0 in
    let h : SpellsHeader v c.self.inside.cells = c.self.invariant.1 in
    let read : SpellsHeader v c.as_bytes.result.now = rw c.as_bytes.ensures.octets h in
    let start : StartsAt v c.options_index-start.result = c.options_index-start.ensures v read in
    start_within v c.self.inside.cells c.options_index-start.result h start

pub mark_congestion-requires-clause-well_formed : goal.mark_congestion-requires-clause-well_formed
mark_congestion-requires-clause-well_formed c =
    let v : PduValue = c.self.invariant.0 in
    let h : SpellsHeader v c.self.inside.cells = c.self.invariant.1 in
    let read : SpellsHeader v c.as_bytes.result.now = rw c.as_bytes.ensures.octets h in
    let start : StartsAt v c.options_index-start.result = c.options_index-start.ensures v read in
    options_formed v c.self.inside.cells c.options_index-start.result h start

pub take_over-requires-clause-within : goal.take_over-requires-clause-within
take_over-requires-clause-within c =
    let v : PduValue = c.self.invariant.0 in
    let h : SpellsHeader v c.self.inside.cells = c.self.invariant.1 in
    let read : SpellsHeader v c.as_bytes.result.now = rw c.as_bytes.ensures.octets h in
    start_within v c.self.inside.cells c.options_index-start.result h (c.options_index-start.ensures v read)

pub invariant_of-self : goal.invariant_of-self
invariant_of-self c =
    let v : PduValue = c.self.invariant.0 in
    let h : SpellsHeader v c.self.inside.cells = c.self.invariant.1 in
    let read : SpellsHeader v c.as_bytes.result.now = rw c.as_bytes.ensures.octets h in
    let start : StartsAt v c.options_index-start.result = c.options_index-start.ensures v read in
    (with_options ((edited quality marked) v.options) v, edit_spells v (edited quality marked) c.self.inside.cells _ _ _ c.options_index-start.result h start c.mark_congestion.ensures c.as_bytes-2.ensures.octets c.take_over.ensures.changed)

pub returns-clause-spells : goal.returns-clause-spells
returns-clause-spells c w spelt =
    let v : PduValue = w in
    let h : SpellsHeader v c.self.inside.cells = rw c.self.view_is spelt in
    let read : SpellsHeader v c.as_bytes.result.now = rw c.as_bytes.ensures.octets h in
    let start : StartsAt v c.options_index-start.result = c.options_index-start.ensures v read in
    edit_spells v (edited quality marked) c.self.inside.cells _ _ _ c.options_index-start.result h start c.mark_congestion.ensures c.as_bytes-2.ensures.octets c.take_over.ensures.changed

pub returns-clause-len : goal.returns-clause-len
returns-clause-len c = c.take_over.ensures.len ∙ ap length c.self.view_is
