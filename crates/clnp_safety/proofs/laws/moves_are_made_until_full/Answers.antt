use Rattle.clnp_safety.proofs.Stops.{made_are_first, all_are_made, stops_where_full}
use Rattle.clnp_safety.proofs.laws.moves_are_made_until_full.Goals as goal

pub returns-clause-front : goal.returns-clause-front
returns-clause-front c = made_are_first

pub returns-clause-all : goal.returns-clause-all
returns-clause-all c = all_are_made

pub returns-clause-stopped : goal.returns-clause-stopped
returns-clause-stopped c = stops_where_full
