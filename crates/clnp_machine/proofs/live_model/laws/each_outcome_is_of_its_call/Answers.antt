use Rattle.std.proofs.Common.{ap}
use Rattle.clnp_machine.specs.LiveModel.Node.{Played}
use Rattle.clnp_machine.specs.LiveModel.Course.{behind_turn, course}
use Rattle.clnp_machine.specs.LiveModel.Turn.{due_behind}
use Rattle.clnp_machine.proofs.LiveModel.Calls.{front_is_unfinished, next_call, others_stray}
use Rattle.clnp_machine.proofs.live_model.laws.each_outcome_is_of_its_call.Goals as goal

pub returns-clause-next : goal.returns-clause-next
returns-clause-next c = next_call

pub returns-clause-fewer : goal.returns-clause-fewer
returns-clause-fewer c = front_is_unfinished

pub returns-clause-others : goal.returns-clause-others
returns-clause-others c = others_stray

pub returns-clause-strays : goal.returns-clause-strays
returns-clause-strays c dues node turn turns e =
    ap (λ (p : Played). behind_turn p turns (λ other. course (due_behind turn.moment dues) other turns)) e

pub returns-clause-more : goal.returns-clause-more
returns-clause-more c dues node turn turns last outcome left lines e =
    ap (λ (p : Played). behind_turn p turns (λ other. course (due_behind turn.moment dues) other turns)) e
