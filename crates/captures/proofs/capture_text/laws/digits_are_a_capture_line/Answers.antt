use Rattle.captures.proofs.CaptureText.OneLine.{digits_cut}
use Rattle.captures.proofs.CaptureText.LongLines.{digits_read}
use Rattle.captures.proofs.capture_text.laws.digits_are_a_capture_line.Goals as goal

pub returns-clause-one : goal.returns-clause-one
returns-clause-one c = digits_cut

pub returns-clause-read : goal.returns-clause-read
returns-clause-read c = digits_read
