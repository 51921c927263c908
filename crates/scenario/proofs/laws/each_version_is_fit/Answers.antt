use Rattle.clnp_plan.specs.ClnpBase.Text.{lines_of}
use Rattle.scenario.proofs.Accepted.{accepted}
use Rattle.scenario.proofs.ForRun.{read_anyhow}
use Rattle.scenario.proofs.laws.each_version_is_fit.Goals as goal

pub returns : goal.returns
returns c links newest text plan is =
    accepted (record { options = c.spelled_where_no_rule_is_broken.ensures.accepts; addresses = c.read_is_address.ensures }) newest text plan
    (read_anyhow links newest (lines_of text) plan is)
