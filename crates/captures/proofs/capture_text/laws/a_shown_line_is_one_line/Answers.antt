use Rattle.captures.proofs.CaptureText.OneLine.{shown_cut}
use Rattle.captures.proofs.CaptureText.LongLines.{shown_long}
use Rattle.captures.proofs.capture_text.laws.a_shown_line_is_one_line.Goals as goal

pub returns-clause-one : goal.returns-clause-one
returns-clause-one c = shown_cut

pub returns-clause-long : goal.returns-clause-long
returns-clause-long c = shown_long
