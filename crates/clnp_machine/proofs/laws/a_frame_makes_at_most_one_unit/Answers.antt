use Rattle.clnp_machine.proofs.Single.{content_one}
use Rattle.clnp_machine.proofs.laws.a_frame_makes_at_most_one_unit.Goals as goal

pub returns : goal.returns
returns c s port sender to_group content = content_one s (record { port = port; snpa = sender }) to_group content
