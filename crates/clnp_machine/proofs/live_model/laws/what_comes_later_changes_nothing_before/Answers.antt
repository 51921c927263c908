use Rattle.clnp_machine.proofs.LiveModel.Courses.{broken_is_a_front, turns_follow}
use Rattle.clnp_machine.proofs.LiveModel.Longer.{turn_longer}
use Rattle.clnp_machine.proofs.live_model.laws.what_comes_later_changes_nothing_before.Goals as goal

pub returns-clause-turn : goal.returns-clause-turn
returns-clause-turn c = turn_longer

pub returns-clause-turns : goal.returns-clause-turns
returns-clause-turns c dues node turns later = turns_follow turns later dues node

pub returns-clause-front : goal.returns-clause-front
returns-clause-front c dues node turns turn more others = broken_is_a_front turns turn more others dues node
