use Rattle.captures.proofs.CaptureText.Packed.{asked}
use Rattle.captures.proofs.capture_text.laws.packed_lines_are_asked.Goals as goal

pub returns : goal.returns
returns c = asked
