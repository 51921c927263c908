use Rattle.clnp_machine.proofs.Reporting.{reply_value}
use Rattle.clnp_machine.proofs.laws.replies_are_replies.Goals as goal

pub returns : goal.returns
returns c = reply_value
