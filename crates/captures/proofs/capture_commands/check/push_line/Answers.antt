use Rattle.captures.specs.declared.vector.Verdict.TheVariants.{Pass, Fail}
use Rattle.captures.proofs.CaptureCommands.Vectors.{pushed_vector}
use Rattle.captures.proofs.capture_commands.check.push_line.Goals as goal

pub returns-in-Ok-Pass-clause-pushed : goal.returns-in-Ok-Pass-clause-pushed
returns-in-Ok-Pass-clause-pushed c =
    pushed_vector c.args.line.now c.args.number c.args.tally Pass c.args.block.now.items c.check_line.new.out.items c.push_end.new.block.items c.push_end.result
    (c.check_line.ensures.judged Pass (cc) (λ h. cc)) c.push_end.ensures.ended c.push_end.ensures.refused

pub returns-in-Ok-Fail-clause-pushed : goal.returns-in-Ok-Fail-clause-pushed
returns-in-Ok-Fail-clause-pushed c =
    pushed_vector c.args.line.now c.args.number c.args.tally Fail c.args.block.now.items c.check_line.new.out.items c.push_end-in-Ok-Fail.new.block.items
    c.push_end-in-Ok-Fail.result
    (c.check_line.ensures.judged Fail (cc) (λ h. cc)) c.push_end-in-Ok-Fail.ensures.ended c.push_end-in-Ok-Fail.ensures.refused
