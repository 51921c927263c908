-- Where memory is refused nothing is given out.
use Rattle.std.proofs.Common.{List, subst, sym}
use Rattle.std.proofs.Math.Seq.{take-length}
use Rattle.std.proofs.lemmas.Result.{IfOk-from_err}
use Rattle.clnp_machine.specs.ClnpPlan.declared.output.Output.{Output}
use Rattle.clnp_systems.specs.Does.{StaysInFront}
use Rattle.clnp_systems.proofs.Working.{on_err}
use Rattle.clnp_systems.proofs.entity.steps.give_note.Goals as goal

pub returns-in_err-reserve-clause-given : goal.returns-in_err-reserve-clause-given
returns-in_err-reserve-clause-given c = IfOk-from_err c.from_residual.result _ c.from_residual.ensures.0

pub returns-in_err-reserve-clause-none : goal.returns-in_err-reserve-clause-none
returns-in_err-reserve-clause-none c = on_err c.from_residual.result c.in_err-reserve.ensures.items

pub returns-in_err-reserve-clause-front : goal.returns-in_err-reserve-clause-front
returns-in_err-reserve-clause-front c =
    subst (λ (after : List Output). StaysInFront c.args.out.now.items after) (sym c.in_err-reserve.ensures.items) (take-length c.args.out.now.items)
