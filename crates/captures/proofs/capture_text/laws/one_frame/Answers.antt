use Rattle.captures.proofs.CaptureText.Packed.{one_frame}
use Rattle.captures.proofs.capture_text.laws.one_frame.Goals as goal

pub returns : goal.returns
returns c = one_frame
