-- The step is whole: the entity stands for the state after it.
use Rattle.std.proofs.Common.{◌≤◌, refl, sym, subst, false}
use Rattle.clnp_machine.specs.Step.{moment_comes}
use Rattle.clnp_systems.specs.Seen.{state_of}
use Rattle.clnp_systems.specs.EntityState.{SystemEntityState}
use Rattle.clnp_systems.specs.EntityStands.{PartsStand}
use Rattle.clnp_systems.proofs.EntityParts.{while_spent}
use Rattle.clnp_systems.proofs.Working.{sound_when_spent, takes_a_step}
use Rattle.clnp_systems.proofs.entity.SystemEntity.tick.Goals as goal

pub come_to-requires : goal.come_to-requires
come_to-requires c = record {
  at_work = takes_a_step (state_of c.self.inside) (c.self.invariant.some c.if-self.false);
  later = subst (λ (e : SystemEntityState). e.moment ≤ c.args.now) (sym c.self.view_is) c.requires.later;
  moment = c.requires.moment;
}

pub invariant_of-self : goal.invariant_of-self
invariant_of-self c = sound_when_spent (state_of c.self.inside) c.self.invariant

pub invariant_of-self-2 : goal.invariant_of-self-2
invariant_of-self-2 c =
    let old = c.self.invariant.some c.if-self.false in
    record {
      moment = c.self-2.invariant.moment;
      wide = c.self-2.invariant.wide;
      number = c.self-2.invariant.number;
      some = λ free. record {
        state = (moment_comes old.state c.args.now).after;
        stands = record {
          not_spent = refl;
          parts = while_spent _ false _ (subst (λ (e : SystemEntityState). PartsStand e (moment_comes old.state c.args.now).after) (sym c.self-2.view_is)
              (c.in_default.ensures.stands old.state (while_spent _ _ old.state old.stands.parts)));
        };
      };
    }
