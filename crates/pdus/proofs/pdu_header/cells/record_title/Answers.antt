use Rattle.std.proofs.Common.{rules}
use Rattle.pdus.specs.ClnpOptions.Parameter.{recording}
use Rattle.pdus.specs.ClnpOptions.Edits.{edited, recorded}
use Rattle.pdus.proofs.PduHeader.InPlace.{options_edited}
use Rattle.pdus.proofs.pdu_header.cells.record_title.Goals as goal

pub returns : goal.returns
returns c =
    let call = c.change.ensures.changed in
    options_edited c.args.start c.args.cells.now c.change.new.self call.shown.now call.left.now (edited recording (recorded c.args.title.now))
    c.change.ensures.front c.change.ensures.len call.shows call.leaves (search rules) (search rules) (search rules)
