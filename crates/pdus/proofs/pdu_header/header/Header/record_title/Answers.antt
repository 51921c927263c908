use Rattle.std.proofs.Common.{◌≡◌, [], ◌∙◌, ap, subst, sym, length, List, ℕ}
use Rattle.std.proofs.lemmas.Bool.{eqb-true}
use Rattle.std.proofs.lemmas.List.{nil_from_length}
use Rattle.pdus.proofs.ClnpOptions.Parts.{parameters-nil}
use Rattle.pdus.specs.ClnpOptions.Parameter.{Parameter, parameters, recording}
use Rattle.pdus.specs.ClnpOptions.Edits.{edited, recorded}
use Rattle.pdus.specs.PduHeader.Value.{PduValue}
use Rattle.pdus.specs.PduHeader.Headers.{SpellsHeader, IsEdited, with_options}
use Rattle.pdus.proofs.PduHeader.Edited.{StartsAt, start_within, options_formed, edit_spells}
use Rattle.pdus.proofs.pdu_header.header.Header.record_title.Goals as goal

pub record_title-requires-clause-start : goal.record_title-requires-clause-start
record_title-requires-clause-start c =
    let v : PduValue = c.self.invariant.0 in
    let h : SpellsHeader v c.self.inside.cells = c.self.invariant.1 in
    let read : SpellsHeader v c.as_bytes-2.result.now = rw c.as_bytes-2.ensures.octets h in
    let start : StartsAt v c.options_index-start.result = c.options_index-start.ensures v read in
    start_within v c.self.inside.cells c.options_index-start.result h start

pub record_title-requires-clause-well_formed : goal.record_title-requires-clause-well_formed
record_title-requires-clause-well_formed c =
    let v : PduValue = c.self.invariant.0 in
    let h : SpellsHeader v c.self.inside.cells = c.self.invariant.1 in
    let read : SpellsHeader v c.as_bytes-2.result.now = rw c.as_bytes-2.ensures.octets h in
    let start : StartsAt v c.options_index-start.result = c.options_index-start.ensures v read in
    options_formed v c.self.inside.cells c.options_index-start.result h start

pub take_over-requires-clause-within : goal.take_over-requires-clause-within
take_over-requires-clause-within c =
    let v : PduValue = c.self.invariant.0 in
    let h : SpellsHeader v c.self.inside.cells = c.self.invariant.1 in
    let read : SpellsHeader v c.as_bytes-2.result.now = rw c.as_bytes-2.ensures.octets h in
    start_within v c.self.inside.cells c.options_index-start.result h (c.options_index-start.ensures v read)

pub invariant_of-self : goal.invariant_of-self
invariant_of-self c =
    let v : PduValue = c.self.invariant.0 in
    let h : SpellsHeader v c.self.inside.cells = c.self.invariant.1 in
    let read : SpellsHeader v c.as_bytes-2.result.now = rw c.as_bytes-2.ensures.octets h in
    let start : StartsAt v c.options_index-start.result = c.options_index-start.ensures v read in
    let P : List ℕ → Type 0 = λ t. IsEdited c.options_index-start.result (edited recording (recorded t)) c.self.inside.cells c.record_title.new.cells in
    let edit = subst P c.as_bytes-3.ensures.octets c.record_title.ensures in
    (with_options ((edited recording (recorded c.args.title.now)) v.options) v, edit_spells v (edited recording (recorded c.args.title.now)) c.self.inside.cells _ _ _ c.options_index-start.result h start edit c.as_bytes-4.ensures.octets c.take_over.ensures.changed)

pub returns-clause-spells : goal.returns-clause-spells
returns-clause-spells c w spelt =
    let v : PduValue = w in
    let h : SpellsHeader v c.self.inside.cells = rw c.self.view_is spelt in
    let read : SpellsHeader v c.as_bytes-2.result.now = rw c.as_bytes-2.ensures.octets h in
    let start : StartsAt v c.options_index-start.result = c.options_index-start.ensures v read in
    let P : List ℕ → Type 0 = λ t. IsEdited c.options_index-start.result (edited recording (recorded t)) c.self.inside.cells c.record_title.new.cells in
    let edit = subst P c.as_bytes-3.ensures.octets c.record_title.ensures in
    edit_spells v (edited recording (recorded c.args.title.now)) c.self.inside.cells _ _ _ c.options_index-start.result h start edit c.as_bytes-4.ensures.octets c.take_over.ensures.changed

pub returns-clause-len : goal.returns-clause-len
returns-clause-len c = c.take_over.ensures.len ∙ ap length c.self.view_is

-- a header without options has no recording
pub returns-then-is_empty-clause-spells : goal.returns-then-is_empty-clause-spells
unfolding edited
returns-then-is_empty-clause-spells c v spelt =
    let h : SpellsHeader v c.self.inside.cells = rw c.self.view_is spelt in
    let read : SpellsHeader v c.as_bytes.result.now = rw c.as_bytes.ensures.octets h in
    let empty : c.options_of.result.now ≡ [] = nil_from_length c.options_of.result.now (eqb-true _ 0 (sym c.is_empty.ensures ∙ c.if-is_empty.true)) in
    let none : v.options ≡ [] = sym (c.options_of.ensures.options v read) ∙ ap parameters empty ∙ parameters-nil in
    subst (λ (options : List Parameter). SpellsHeader (with_options (edited recording (recorded c.args.title.now) options) v) c.args.self.now) (sym none)
    (subst (λ (options : List Parameter). SpellsHeader (with_options options v) c.args.self.now) none spelt)
