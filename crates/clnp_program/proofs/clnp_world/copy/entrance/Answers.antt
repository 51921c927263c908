-- One port after another is looked at.
use Rattle.std.proofs.Common.{◌∙◌, sym, arith}
use Rattle.clnp_program.specs.ClnpWorld.Seen.{enters}
use Rattle.clnp_program.proofs.ClnpWorld.FirstSteps.{first_behind, first_here}
use Rattle.clnp_program.proofs.clnp_world.copy.entrance.Goals as goal

pub returns-then-enters-clause-place : goal.returns-then-enters-clause-place
returns-then-enters-clause-place c =
    sym (first_here (enters c.args.copy.now c.args.role) c.args.ports.now c.loop-place.place c.index-ports-place.result c.loop-place.invariant
    (omega arith) c.index-ports-place.is (sym c.enters.ensures ∙ c.if-enters.true))

pub loop-place-preserved : goal.loop-place-preserved
loop-place-preserved c =
    first_behind (enters c.args.copy.now c.args.role) c.args.ports.now c.loop-place.place c.index-ports-place.result c.loop-place.invariant
    (omega arith) c.index-ports-place.is (sym c.enters.ensures ∙ c.if-enters.false)
