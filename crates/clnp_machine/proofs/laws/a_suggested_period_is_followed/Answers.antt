use Rattle.clnp_machine.proofs.Following.{hello_follows, hello_stays}
use Rattle.clnp_machine.proofs.laws.a_suggested_period_is_followed.Goals as goal

pub returns-clause-follows : goal.returns-clause-follows
returns-clause-follows c s port sender to_group value following = hello_follows s (record { port = port; snpa = sender }) value

pub returns-clause-stays : goal.returns-clause-stays
returns-clause-stays c s port sender to_group value following = hello_stays s (record { port = port; snpa = sender }) value
