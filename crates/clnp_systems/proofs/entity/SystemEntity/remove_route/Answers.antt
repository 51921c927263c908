-- It stands for the state in which the route is gone.
use Rattle.clnp_machine.specs.Change.{RouteIsGone}
use Rattle.clnp_machine.specs.Step.{as_changed}
use Rattle.clnp_systems.specs.Seen.{state_of}
use Rattle.clnp_systems.proofs.Changing.{while_gone}
use Rattle.std.proofs.Common.{sym, ap, subst}
use Rattle.clnp_systems.specs.EntityState.{SystemEntityState}
use Rattle.clnp_systems.specs.EntityStands.{Stands}
use Rattle.clnp_systems.proofs.entity.SystemEntity.remove_route.Goals as goal

pub invariant_of-self : goal.invariant_of-self
invariant_of-self c = record {
  moment = c.self.invariant.moment;
  wide = c.self.invariant.wide;
  number = c.self.invariant.number;
  some = λ free.
      let r = c.self.invariant.some free in
      record {
        state = as_changed (RouteIsGone c.args.prefix.now) r.state;
        stands = record {
          not_spent = r.stands.not_spent;
          parts = while_gone (state_of c.self.inside) c.remove.new.self c.args.prefix.now r.state
              (c.remove.ensures.stands r.state.attached.routes r.stands.parts.routes) r.stands.parts;
        };
      };
}

pub returns-clause-there : goal.returns-clause-there
returns-clause-there c = λ s h.
    c.remove.ensures.there s.attached.routes (subst (λ (e : SystemEntityState). Stands e s) (sym c.self.view_is) h).parts.routes

pub returns-clause-stands : goal.returns-clause-stands
returns-clause-stands c = λ s h.
    let here = subst (λ (e : SystemEntityState). Stands e s) (sym c.self.view_is) h in
    record {
      not_spent = here.not_spent;
      parts = while_gone (state_of c.self.inside) c.remove.new.self c.args.prefix.now s (c.remove.ensures.stands s.attached.routes here.parts.routes) here.parts;
    }

pub returns-clause-rest : goal.returns-clause-rest
returns-clause-rest c = ap (λ (e : SystemEntityState). record e { routes = c.remove.new.self }) c.self.view_is

pub returns-clause-spent : goal.returns-clause-spent
returns-clause-spent c = ap (λ (e : SystemEntityState). e.spent) c.self.view_is

pub returns-clause-moment : goal.returns-clause-moment
returns-clause-moment c = ap (λ (e : SystemEntityState). e.moment) c.self.view_is

pub returns-clause-congested : goal.returns-clause-congested
returns-clause-congested c = ap (λ (e : SystemEntityState). e.congested) c.self.view_is

pub returns-clause-config : goal.returns-clause-config
returns-clause-config c = ap (λ (e : SystemEntityState). e.local.configuration) c.self.view_is
