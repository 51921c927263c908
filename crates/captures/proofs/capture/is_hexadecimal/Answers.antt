use Rattle.captures.proofs.CaptureFacts.{tells}
use Rattle.captures.proofs.capture.is_hexadecimal.Goals as goal

pub returns-then-line-eq0 : goal.returns-then-line-eq0
returns-then-line-eq0 c = tells c.are_digits.result c.args.line.now c.are_digits.ensures c.if-line-eq0.true
