use Rattle.clnp_safety.proofs.Clocks.{all_are_current, together_stays, version_1_ticks_together}
use Rattle.clnp_safety.proofs.laws.clocks_that_tick_together_are_one.Goals as goal

pub returns-clause-current : goal.returns-clause-current
returns-clause-current c = all_are_current c.laws_of_steps.ensures.steps.moment

pub returns-clause-together : goal.returns-clause-together
returns-clause-together c = together_stays

pub returns-clause-version_1 : goal.returns-clause-version_1
returns-clause-version_1 c = version_1_ticks_together
