use Rattle.clnp_machine.proofs.Gained.{gains_only}
use Rattle.clnp_machine.proofs.laws.segments_were_kept_or_come.Goals as goal

pub returns : goal.returns
returns c = gains_only
