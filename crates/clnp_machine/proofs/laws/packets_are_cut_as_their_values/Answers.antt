use Rattle.clnp_machine.proofs.Pieces.{cut_values, cut_carriable}
use Rattle.clnp_machine.proofs.laws.packets_are_cut_as_their_values.Goals as goal

pub returns-clause-values : goal.returns-clause-values
returns-clause-values c = cut_values

pub returns-clause-carriable : goal.returns-clause-carriable
returns-clause-carriable c = cut_carriable
