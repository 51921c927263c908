use Rattle.captures.proofs.CaptureText.Answered.{unread}
use Rattle.captures.proofs.capture_text.pack.packed.Goals as goal

pub returns-in-Err : goal.returns-in-Err
returns-in-Err c = unread c.in-Err.refusal c.args.line.now c.in-Err.ensures
