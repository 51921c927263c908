use Rattle.clnp_machine.proofs.Reporting.{step_reports}
use Rattle.clnp_machine.proofs.laws.reports_are_of_packets.Goals as goal

pub returns : goal.returns
returns c = step_reports
