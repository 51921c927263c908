-- The step is whole, or nothing was done yet.
use Rattle.std.proofs.Common.{refl, sym, subst, Bool, false, List}
use Rattle.clnp_machine.specs.SystemTables.declared.esis_tables.fact.Neighbour.{Neighbour}
use Rattle.clnp_machine.specs.ClnpPlan.declared.output.Output.{Output}
use Rattle.clnp_machine.specs.Content.{Content}
use Rattle.clnp_machine.specs.Step.{content_comes}
use Rattle.clnp_machine.specs.System.{SystemState}
use Rattle.clnp_systems.specs.Comes.{ComesOf, LeavesAsItWas}
use Rattle.clnp_systems.specs.Seen.{state_of}
use Rattle.clnp_systems.specs.EntityState.{SystemEntityState}
use Rattle.clnp_systems.specs.EntityStands.{PartsStand, Stands}
use Rattle.clnp_systems.specs.declared.entity.Arrival.{Arrival}
use Rattle.clnp_systems.specs.declared.entity.Arrival.TheVariants.{Done, Passes}
use Rattle.clnp_systems.proofs.EntityParts.{while_spent}
use Rattle.clnp_systems.proofs.Working.{sound_when_spent, takes_a_step}
use Rattle.clnp_systems.proofs.entity.SystemEntity.frame.Goals as goal

pub arrive-requires : goal.arrive-requires
arrive-requires c = record { at_work = takes_a_step (state_of c.self.inside) (c.self.invariant.some c.if-self.false); few = c.requires.few }

pub invariant_of-self : goal.invariant_of-self
invariant_of-self c = sound_when_spent (state_of c.self.inside) c.self.invariant

-- that the entity isn't spent any more changes nothing of what came
comes_again : (arrival : Arrival) (s : SystemState) (neighbour : Neighbour) (group : Bool) (content : Content) (here : SystemEntityState) (spent : Bool)
    (before after : List Output) → ComesOf arrival s neighbour group content here before after
    → ComesOf arrival s neighbour group content (record here { spent = spent }) before after
comes_again Done s neighbour group content here spent before after h =
    record { parts = while_spent here spent _ h.parts; outputs = h.outputs }
comes_again (Passes passing) s neighbour group content here spent before after h = h

-- there is a state for which it stands
some_state : (arrival : Arrival) (s : SystemState) (neighbour : Neighbour) (group : Bool) (content : Content) (old here : SystemEntityState)
    (before after : List Output) → ComesOf arrival s neighbour group content here before after → LeavesAsItWas arrival old here before after
    → PartsStand old s → (t : SystemState) × PartsStand here t
some_state Done s neighbour group content old here before after h left stands = (_, h.parts)
some_state (Passes passing) s neighbour group content old here before after h left stands =
    (s, subst (λ (e : SystemEntityState). PartsStand e s) (sym left.0) stands)

pub returns-in-Ok-clause-comes : goal.returns-in-Ok-clause-comes
returns-in-Ok-clause-comes c = λ s content h carried frame.
    let here = subst (λ (e : SystemEntityState). Stands e s) (sym c.self.view_is) h in
    comes_again c.in-Ok.arrival s c.args.neighbour c.args.group content _ false c.args.out.now.items c.arrive.new.out.items
    (subst (λ (e : SystemEntityState). ComesOf c.in-Ok.arrival s c.args.neighbour c.args.group content e c.args.out.now.items c.arrive.new.out.items)
    (sym c.self-2.view_is) (c.in-Ok.ensures.comes s content (while_spent _ _ s here.parts) carried frame))

pub invariant_of-self-in-Ok : goal.invariant_of-self-in-Ok
invariant_of-self-in-Ok c =
    let old = c.self.invariant.some c.if-self.false in
    let content = c.has_content.ensures in
    let parts = while_spent _ _ old.state old.stands.parts in
    let some = some_state c.in-Ok.arrival old.state c.args.neighbour c.args.group content.0 _ c.arrive.new.self c.args.out.now.items c.arrive.new.out.items
    (c.in-Ok.ensures.comes old.state content.0 parts content.1 content.2) c.in-Ok.ensures.left parts in
    record {
      moment = c.self-2.invariant.moment;
      wide = c.self-2.invariant.wide;
      number = c.self-2.invariant.number;
      some = λ free. record {
        state = some.0;
        stands = record {
          not_spent = refl;
          parts = while_spent _ false _ (subst (λ (e : SystemEntityState). PartsStand e some.0) (sym c.self-2.view_is) some.1);
        };
      };
    }

-- what isn't of CLNP was heard or noted
pub returns-then-not-begins_as_clnp-clause-comes : goal.returns-then-not-begins_as_clnp-clause-comes
returns-then-not-begins_as_clnp-clause-comes c = λ s content h carried frame.
    let here = subst (λ (e : SystemEntityState). Stands e s) (sym c.self.view_is) h in
    let after : SystemState = (content_comes s c.args.neighbour c.args.group content).after in
    let parts = while_spent _ _ s here.parts in
    record {
      parts = while_spent _ false after
          (subst (λ (e : SystemEntityState). PartsStand e after) (sym c.self-then-not-begins_as_clnp.view_is)
          (c.in_ok-other_comes.ensures.stands s c.args.group content parts carried frame));
      outputs = c.in_ok-other_comes.ensures.outputs s c.args.group content parts carried frame;
    }

pub invariant_of-self-then-not-begins_as_clnp : goal.invariant_of-self-then-not-begins_as_clnp
invariant_of-self-then-not-begins_as_clnp c =
    let old = c.self.invariant.some c.if-self.false in
    let content = c.has_content.ensures in
    let after : SystemState = (content_comes old.state c.args.neighbour c.args.group content.0).after in
    let stands = c.in_ok-other_comes.ensures.stands old.state c.args.group content.0 (while_spent _ _ old.state old.stands.parts) content.1 content.2 in
    record {
      moment = c.self-then-not-begins_as_clnp.invariant.moment;
      wide = c.self-then-not-begins_as_clnp.invariant.wide;
      number = c.self-then-not-begins_as_clnp.invariant.number;
      some = λ free. record {
        state = after;
        stands = record {
          not_spent = refl;
          parts = while_spent _ false after
              (subst (λ (e : SystemEntityState). PartsStand e after) (sym c.self-then-not-begins_as_clnp.view_is) stands);
        };
      };
    }
