use Rattle.clnp_machine.proofs.Making.{allowed, allowing, drawn_where_rested, made_where_allowed, rested_is_drawn, unmade_elsewhere}
use Rattle.clnp_machine.proofs.Noted.{refusal_refuses}
use Rattle.clnp_machine.proofs.laws.units_are_made_where_allowed.Goals as goal

pub returns-clause-allowed : goal.returns-clause-allowed
returns-clause-allowed c s u = (allowed s u, allowing s u)

pub returns-clause-refused : goal.returns-clause-refused
returns-clause-refused c = refusal_refuses

pub returns-clause-made : goal.returns-clause-made
returns-clause-made c = made_where_allowed

pub returns-clause-unmade : goal.returns-clause-unmade
returns-clause-unmade c = unmade_elsewhere

pub returns-clause-drawn : goal.returns-clause-drawn
returns-clause-drawn c now ids = (drawn_where_rested now ids, rested_is_drawn now ids)
