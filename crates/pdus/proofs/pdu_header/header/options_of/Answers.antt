use Rattle.std.proofs.Common.{◌∙◌, ap}
use Rattle.pdus.specs.ClnpOptions.Parameter.{parameters}
use Rattle.pdus.specs.PduHeader.Value.{PduValue}
use Rattle.pdus.proofs.PduHeader.Edited.{StartsAt, start_within, options_formed, options_are}
use Rattle.pdus.proofs.pdu_header.header.options_of.Goals as goal
use Rattle.std.proofs.lemmas.List.{take_rest}

pub slice_bounds-result-count : goal.slice_bounds-result-count
slice_bounds-result-count c =
    let v : PduValue = c.requires.0 in
    start_within v c.args.octets.now c.options_index-start.result c.requires.1 (c.options_index-start.ensures v c.requires.1)

pub slice_bounds-result-start : goal.slice_bounds-result-start
slice_bounds-result-start c = slice_bounds-result-count c

pub returns-clause-well_formed : goal.returns-clause-well_formed
returns-clause-well_formed c =
    let v : PduValue = c.requires.0 in
    let start : StartsAt v c.options_index-start.result = c.options_index-start.ensures v c.requires.1 in
    rw (take_rest c.args.octets.now c.options_index-start.result) (options_formed v c.args.octets.now c.options_index-start.result c.requires.1 start)

pub returns-clause-options : goal.returns-clause-options
returns-clause-options c v h =
    let start : StartsAt v c.options_index-start.result = c.options_index-start.ensures v h in
    ap parameters (take_rest c.args.octets.now c.options_index-start.result) ∙ options_are v c.args.octets.now c.options_index-start.result h start
