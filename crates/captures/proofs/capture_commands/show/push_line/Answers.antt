use Rattle.std.proofs.Common.{◌∙◌, [], length, sym}
use Rattle.std.proofs.lemmas.Bool.{eqb-true}
use Rattle.std.proofs.lemmas.List.{append-nil}
use Rattle.captures.proofs.CaptureCommands.Skipping.{empty_skipped, skipped_good}
use Rattle.captures.proofs.capture_commands.show.push_line.Goals as goal

pub returns-then-is_empty : goal.returns-then-is_empty
returns-then-is_empty c = λ number.
    let none = eqb-true (length c.args.line.now) 0 (sym c.is_empty.ensures ∙ c.if-is_empty.true) in
    ([], skipped_good number c.args.line.now (empty_skipped c.args.line.now none), sym (append-nil c.args.block.now.items))
