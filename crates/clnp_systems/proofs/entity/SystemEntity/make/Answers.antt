-- The step is whole: the entity stands for the state after it.
use Rattle.std.proofs.Common.{refl, sym, subst, false}
use Rattle.clnp_machine.specs.Local.{make}
use Rattle.clnp_machine.specs.System.{SystemState}
use Rattle.clnp_systems.specs.Seen.{state_of}
use Rattle.clnp_systems.specs.EntityState.{SystemEntityState}
use Rattle.clnp_systems.specs.EntityStands.{PartsStand, Stands}
use Rattle.clnp_systems.proofs.EntityParts.{while_spent}
use Rattle.clnp_systems.proofs.Working.{sound_when_spent, takes_a_step}
use Rattle.clnp_systems.proofs.entity.SystemEntity.make.Goals as goal

pub make_unit-requires : goal.make_unit-requires
make_unit-requires c = record { at_work = takes_a_step (state_of c.self.inside) (c.self.invariant.some c.if-self.false); options = c.requires }

pub invariant_of-self : goal.invariant_of-self
invariant_of-self c = sound_when_spent (state_of c.self.inside) c.self.invariant

pub invariant_of-self-in-Ok : goal.invariant_of-self-in-Ok
invariant_of-self-in-Ok c =
    let old = c.self.invariant.some c.if-self.false in
    let t : SystemState = (make old.state c.args.kind c.args.from c.args.to c.args.body.now c.args.ask.now).after in
    record {
      moment = c.self-2.invariant.moment;
      wide = c.self-2.invariant.wide;
      number = c.self-2.invariant.number;
      some = λ free. record {
        state = t;
        stands = record {
          not_spent = refl;
          parts = while_spent _ false _ (subst (λ (e : SystemEntityState). PartsStand e t) (sym c.self-2.view_is)
              (c.in-Ok.ensures.stands old.state (while_spent _ _ old.state old.stands.parts)));
        };
      };
    }

pub returns-in-Ok-clause-answer : goal.returns-in-Ok-clause-answer
returns-in-Ok-clause-answer c = λ s h.
    let here = subst (λ (e : SystemEntityState). Stands e s) (sym c.self.view_is) h in
    c.in-Ok.ensures.answer s (while_spent _ _ s here.parts)

pub returns-in-Ok-clause-stands : goal.returns-in-Ok-clause-stands
returns-in-Ok-clause-stands c = λ s h.
    let here = subst (λ (e : SystemEntityState). Stands e s) (sym c.self.view_is) h in
    record {
      not_spent = refl;
      parts = while_spent _ false _ (subst (λ (e : SystemEntityState). PartsStand e (make s c.args.kind c.args.from c.args.to c.args.body.now c.args.ask.now).after)
          (sym c.self-2.view_is) (c.in-Ok.ensures.stands s (while_spent _ _ s here.parts)));
    }
