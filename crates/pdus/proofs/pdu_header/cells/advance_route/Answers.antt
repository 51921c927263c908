use Rattle.std.proofs.Common.{rules}
use Rattle.pdus.specs.ClnpOptions.Parameter.{source_route}
use Rattle.pdus.specs.ClnpOptions.Edits.{edited, advanced}
use Rattle.pdus.proofs.PduHeader.InPlace.{options_edited}
use Rattle.pdus.proofs.pdu_header.cells.advance_route.Goals as goal

pub returns : goal.returns
returns c =
    let call = c.change.ensures.changed in
    options_edited c.args.start c.args.cells.now c.change.new.self call.shown.now call.left.now (edited source_route advanced)
    c.change.ensures.front c.change.ensures.len call.shows call.leaves (search rules) (search rules) (search rules)
