use Rattle.clnp_machine.proofs.Changing.{step_ports, step_soundly}
use Rattle.clnp_machine.proofs.Deeds.{step_attached, step_itself, step_moment}
use Rattle.clnp_machine.proofs.laws.a_system_stays_itself.Goals as goal

pub returns-clause-itself : goal.returns-clause-itself
returns-clause-itself c = step_itself

pub returns-clause-moment : goal.returns-clause-moment
returns-clause-moment c = step_moment

pub returns-clause-attached : goal.returns-clause-attached
returns-clause-attached c = step_attached

pub returns-clause-ports : goal.returns-clause-ports
returns-clause-ports c = step_ports

pub returns-clause-soundly : goal.returns-clause-soundly
returns-clause-soundly c = step_soundly c.attachments_stay_sound.ensures.changed
