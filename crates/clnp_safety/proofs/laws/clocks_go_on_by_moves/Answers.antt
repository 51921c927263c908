use Rattle.clnp_safety.proofs.Clocks.{clock_by, clocks_by, none_is_ahead, stays_behind}
use Rattle.clnp_safety.proofs.laws.clocks_go_on_by_moves.Goals as goal

pub returns-clause-systems : goal.returns-clause-systems
returns-clause-systems c = clocks_by c.laws_of_steps.ensures.steps.moment

pub returns-clause-network : goal.returns-clause-network
returns-clause-network c = clock_by c.laws_of_steps.ensures.steps.moment

pub returns-clause-none_ahead : goal.returns-clause-none_ahead
returns-clause-none_ahead c = stays_behind c.laws_of_steps.ensures.steps.moment

pub returns-clause-runs : goal.returns-clause-runs
returns-clause-runs c = none_is_ahead c.laws_of_steps.ensures.steps.moment
