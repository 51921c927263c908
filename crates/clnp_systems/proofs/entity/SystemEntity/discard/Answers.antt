-- The step is whole: the entity stands for the state after it.
use Rattle.std.proofs.Common.{refl, sym, subst, false}
use Rattle.clnp_machine.specs.Local.{discard}
use Rattle.clnp_systems.specs.EntityState.{SystemEntityState}
use Rattle.clnp_systems.specs.EntityStands.{PartsStand, Stands}
use Rattle.clnp_systems.proofs.EntityParts.{while_spent}
use Rattle.clnp_systems.proofs.entity.SystemEntity.discard.Goals as goal

pub returns-clause-stands : goal.returns-clause-stands
returns-clause-stands c = λ s content h carried frame.
    let here = subst (λ (e : SystemEntityState). Stands e s) (sym c.self.view_is) h in
    record {
      not_spent = refl;
      parts = while_spent _ false _ (subst (λ (e : SystemEntityState). PartsStand e (discard s content c.args.reason c.args.place).after) (sym c.self-2.view_is)
          (c.in_ok-drop_frame.ensures.stands s content (while_spent _ _ s here.parts) carried frame));
    }

pub returns-clause-outputs : goal.returns-clause-outputs
returns-clause-outputs c = λ s content h carried frame.
    let here = subst (λ (e : SystemEntityState). Stands e s) (sym c.self.view_is) h in
    c.in_ok-drop_frame.ensures.outputs s content (while_spent _ _ s here.parts) carried frame

pub invariant_of-self-2 : goal.invariant_of-self-2
invariant_of-self-2 c =
    let old = c.self.invariant.some c.if-self.false in
    let content = c.has_content.ensures in
    record {
      moment = c.self-2.invariant.moment;
      wide = c.self-2.invariant.wide;
      number = c.self-2.invariant.number;
      some = λ free. record {
        state = (discard old.state content.0 c.args.reason c.args.place).after;
        stands = record {
          not_spent = refl;
          parts = while_spent _ false _ (subst (λ (e : SystemEntityState). PartsStand e (discard old.state content.0 c.args.reason c.args.place).after) (sym c.self-2.view_is)
              (c.in_ok-drop_frame.ensures.stands old.state content.0 (while_spent _ _ old.state old.stands.parts) content.1 content.2));
        };
      };
    }
