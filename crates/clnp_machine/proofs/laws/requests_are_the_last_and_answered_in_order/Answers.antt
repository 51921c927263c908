use Rattle.clnp_machine.proofs.Pending.{newest_pending, oldest_answered, reply_is_stray}
use Rattle.clnp_machine.proofs.Waiting.{stay_elsewhere, stay_unless_answered}
use Rattle.clnp_machine.proofs.laws.requests_are_the_last_and_answered_in_order.Goals as goal

pub returns-clause-made : goal.returns-clause-made
returns-clause-made c = newest_pending

pub returns-clause-stay : goal.returns-clause-stay
returns-clause-stay c = stay_elsewhere

pub returns-clause-unless_answered : goal.returns-clause-unless_answered
returns-clause-unless_answered c s port sender to_group p following = stay_unless_answered p following s port sender to_group

pub returns-clause-answered : goal.returns-clause-answered
returns-clause-answered c = oldest_answered

pub returns-clause-stray : goal.returns-clause-stray
returns-clause-stray c = reply_is_stray
