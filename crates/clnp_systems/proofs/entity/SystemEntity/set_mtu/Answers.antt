-- It stands for the state whose port takes frames of this length.
use Rattle.std.proofs.Common.{◌≡◌, ◌∙◌, refl, sym, ap, subst, ◌<◌, List, length, arith}
use Rattle.std.specs.Prelude.{slice_get, slice_set}
use Rattle.std.specs.List.{AllByRecursion}
use Rattle.clnp_machine.specs.Change.{PortTakes, ports_taking, with_mtu}
use Rattle.clnp_machine.specs.ClnpPlan.Configuration.{IsPort, IsWithin}
use Rattle.clnp_machine.specs.ClnpPlan.declared.config.PortConfig.{PortConfig}
use Rattle.clnp_machine.specs.Step.{as_changed}
use Rattle.clnp_machine.proofs.Keeping.{taking_length}
use Rattle.clnp_systems.specs.Seen.{state_of}
use Rattle.clnp_systems.specs.EntityState.{SystemEntityState}
use Rattle.clnp_systems.specs.EntityStands.{Stands}
use Rattle.clnp_systems.proofs.Changing.{taken, while_taking, wide_taking}
use Rattle.clnp_systems.proofs.entity.SystemEntity.set_mtu.Goals as goal

abbrev ports : goal.After-self-1 → List PortConfig
ports c = c.self.inside.ports.items

now_taken : (c : goal.After-self-1) → slice_set (ports c) c.from.result (with_mtu c.args.mtu c.index_mut-port.result.now)
    ≡ ports_taking c.args.port c.args.mtu (slice_get (ports c) c.args.port) (ports c)
now_taken c =
    let within : c.args.port < length (ports c) =
    subst (λ (e : SystemEntityState). c.args.port < length e.ports) (sym c.self.view_is) c.requires.there in
    taken (ports c) c.args.port c.from.result c.args.mtu c.index_mut-port.result.now c.from.ensures (omega (arith, c.from.ensures))
    c.index_mut-port.ensures.value

pub invariant_of-self : goal.invariant_of-self
invariant_of-self c =
    let found = slice_get (ports c) c.args.port in
    let fair : IsWithin 512 65535 c.args.mtu = record { least = c.requires.mtu; most = omega arith } in
    record {
      moment = c.self.invariant.moment;
      wide = subst (λ (ps : List PortConfig). AllByRecursion IsPort ps) (sym (now_taken c))
          (wide_taking c.args.port c.args.mtu found (ports c) refl c.self.invariant.wide fair);
      number = ap length (now_taken c) ∙ taking_length c.args.port c.args.mtu found (ports c) ∙ c.self.invariant.number;
      some = λ free.
          let r = c.self.invariant.some free in
          record {
            state = as_changed (PortTakes c.args.port c.args.mtu) r.state;
            stands = record {
              not_spent = r.stands.not_spent;
              parts = while_taking (state_of c.self.inside) c.args.port c.args.mtu _ r.state (now_taken c) r.stands.parts;
            };
          };
    }

pub returns-clause-stands : goal.returns-clause-stands
returns-clause-stands c = λ s h.
    let here = subst (λ (e : SystemEntityState). Stands e s) (sym c.self.view_is) h in
    record {
      not_spent = here.not_spent;
      parts = while_taking (state_of c.self.inside) c.args.port c.args.mtu _ s (now_taken c) here.parts;
    }

pub returns-clause-set : goal.returns-clause-set
returns-clause-set c =
    ap (λ (ps : List PortConfig). record (state_of c.self.inside) { ports = ps }) (now_taken c)
    ∙ ap (λ (e : SystemEntityState). record e { ports = ports_taking c.args.port c.args.mtu (slice_get e.ports c.args.port) e.ports })
    c.self.view_is
