-- The network makes the move; where memory is refused it is spent.
use Rattle.std.proofs.Common.{◌≡◌, ◌∙◌, ◌+◌, ◌<◌, true, false, ap, refl, subst, sym}
use Rattle.clnp_machine.specs.ClnpNetwork.LabelledNetwork as network
use Rattle.clnp_program.specs.ClnpWorld.Stands as seen
use Rattle.clnp_program.specs.ClnpWorld.State.{WorldState}
use Rattle.clnp_program.proofs.clnp_world.world.World.make_move.Goals as goal

never : true ≡ false → ⊥
never is = absurd (cc)

pub make_move-requires-clause-running : goal.make_move-requires-clause-running
make_move-requires-clause-running g c =
    let found = c.self.invariant (ap (λ (w : WorldState). w.spent) c.self.view_is ∙ c.in_ok-may_move.ensures.spent) in
    (found.0, found.1.holds)

pub make_move-requires-clause-clock : goal.make_move-requires-clause-clock
make_move-requires-clause-clock g c = subst (λ (w : WorldState). w.network.clock + 1 < 4611686018427387904) (sym c.self.view_is) c.requires

pub invariant_of-self : goal.invariant_of-self
invariant_of-self g c = λ going.
    let found = c.self.invariant going in (
      (network.after c.args.scenario.now found.0 c.args.mv.now).world,
      record { not_spent = going; holds = (c.in-Ok.ensures found.0 found.1.holds).holds },
    )

pub invariant_of-self-in-Err : goal.invariant_of-self-in-Err
invariant_of-self-in-Err g c = λ going. absurd (never going)

pub returns-in-Ok-clause-stands : goal.returns-in-Ok-clause-stands
returns-in-Ok-clause-stands g c = λ model h.
    let held = subst (λ (w : WorldState). seen.Holds w.network model) (sym c.self.view_is) h.holds in
    record {
      not_spent = ap (λ (w : WorldState). w.spent) c.self.view_is ∙ h.not_spent;
      holds = (c.in-Ok.ensures model held).holds;
    }

pub returns-in-Ok-clause-lines : goal.returns-in-Ok-clause-lines
returns-in-Ok-clause-lines g c = λ model h.
    (c.in-Ok.ensures model (subst (λ (w : WorldState). seen.Holds w.network model) (sym c.self.view_is) h.holds)).lines

pub returns-in-Ok-clause-full : goal.returns-in-Ok-clause-full
returns-in-Ok-clause-full g c = λ model h. c.in_ok-may_move.ensures.full model h

pub returns-in-Ok-clause-refused : goal.returns-in-Ok-clause-refused
returns-in-Ok-clause-refused g c = λ spent. absurd (never (sym spent ∙ c.in_ok-may_move.ensures.spent))

pub returns-in-Err-clause-full : goal.returns-in-Err-clause-full
returns-in-Err-clause-full g c = λ model h. tt

pub returns-in-Err-clause-clock : goal.returns-in-Err-clause-clock
returns-in-Err-clause-clock g c = ap (λ (w : WorldState). w.network.clock) c.self.view_is

pub returns-in-Err-clause-refused : goal.returns-in-Err-clause-refused
returns-in-Err-clause-refused g c = λ spent. refl
