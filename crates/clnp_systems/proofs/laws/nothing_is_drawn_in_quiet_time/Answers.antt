use Rattle.clnp_machine.specs.Identifiers.{restarted}
use Rattle.clnp_systems.proofs.Rest.{quiet_time, quiet_over}
use Rattle.clnp_systems.proofs.laws.nothing_is_drawn_in_quiet_time.Goals as goal

pub returns : goal.returns
returns c = record { quiet = quiet_time; restarted = λ restart now ids idle. quiet_over now (restarted restart ids) idle }
