-- Both parts stand for the state after a restart.
use Rattle.std.proofs.Common.{◌≡◌, ◌∙◌, refl, sym, ap, subst, false, length, arith}
use Rattle.clnp_machine.specs.ClnpPlan.Configuration.{SystemConfiguration}
use Rattle.clnp_machine.specs.Local.{restarted}
use Rattle.clnp_machine.specs.System.{SystemState}
use Rattle.clnp_systems.specs.Seen.{state_of}
use Rattle.clnp_systems.specs.EntityState.{SystemEntityState}
use Rattle.clnp_systems.specs.EntityStands.{Stands}
use Rattle.clnp_systems.proofs.entity.SystemEntity.restart.Goals as goal

abbrev inside : goal.After-restart-2 → SystemEntityState
inside c = state_of c.self.inside

abbrev after : goal.After-restart-2 → SystemEntityState
after c = record (inside c) { local = c.restart.new.self; esis = c.restart-2.new.self; congested = false }

again : (c : goal.After-restart-2) (s : SystemState) → Stands (inside c) s → Stands (after c) (restarted s)
again c s h =
    let configuration : s.configuration ≡ c.config.result.now =
    sym h.parts.local.configuration ∙ sym c.restart.ensures.config ∙ sym c.config.ensures in
    record {
      not_spent = h.not_spent;
      parts = record {
        local = c.restart.ensures.stands s h.parts.local (sym h.parts.moment);
        esis = c.restart-2.ensures s s.moment h.parts.esis configuration (sym h.parts.moment);
        ports = h.parts.ports;
        routes = h.parts.routes;
        moment = h.parts.moment;
        congested = refl;
        since = omega arith;
      };
    }

pub returns-clause-stands : goal.returns-clause-stands
returns-clause-stands c = λ s h. again c s (subst (λ (e : SystemEntityState). Stands e s) (sym c.self.view_is) h)

pub invariant_of-self : goal.invariant_of-self
invariant_of-self c = record {
  moment = c.self.invariant.moment;
  wide = c.self.invariant.wide;
  number = c.self.invariant.number ∙ ap (λ (x : SystemConfiguration). length x.ports) (sym c.restart.ensures.config);
  some = λ free.
      let r = c.self.invariant.some free in
      record { state = restarted r.state; stands = again c r.state r.stands };
}
