-- Where a system sends, by its role.
use Rattle.std.proofs.Common.{◌≡◌, ◌∙◌, sym, ap, ℕ, Bool, false, List, Option, None, Some, option_map}
use Rattle.std.specs.Option.{option_or}
use Rattle.std.specs.Prelude.{if◌then◌else◌}
use Rattle.clnp_machine.specs.SystemTables.declared.esis_tables.fact.Neighbour.{Neighbour}
use Rattle.clnp_machine.specs.SystemTables.declared.esis_tables.fact.TableKind.TheVariants.{Es}
use Rattle.clnp_machine.specs.EsisTables.NextHop as heard
use Rattle.clnp_machine.specs.ClnpPlan.declared.config.Role.{Role}
use Rattle.clnp_machine.specs.ClnpPlan.declared.config.Role.TheVariants.{Host, Router}
use Rattle.clnp_machine.specs.Step.{by_route, hop_by, hop_of, host_hop, is_to_itself, next_hop, to_neighbour, unit_hop, way_of}
use Rattle.clnp_machine.specs.declared.way.Way.{Way}
use Rattle.clnp_machine.specs.System.{SystemState}
use Rattle.clnp_machine.specs.Unit.{DataUnit}
use Rattle.clnp_machine.specs.Forwarding.Longest.{longest}
use Rattle.clnp_machine.specs.SystemTables.declared.forwarding.route.Route.{Route}

-- a host's hop follows from what it heard
pub of_host : (s : SystemState) (now : ℕ) (to : List ℕ) (neighbour : Option Neighbour) → s.configuration.role ≡ Host → now ≡ s.moment
    → neighbour ≡ heard.next_hop now to s.facts → Some (host_hop neighbour) ≡ next_hop s to
of_host s now to neighbour role same is =
    ap (λ (p : Option Neighbour). Some (host_hop p)) (is ∙ ap (λ (m : ℕ). heard.next_hop m to s.facts) same)
    ∙ ap (λ (r : Role). hop_of r s to) (sym role)

-- a router's is on its way
pub of_router : (s : SystemState) (to : List ℕ) (way : Option Way) → s.configuration.role ≡ Router → way ≡ way_of s to
    → option_map hop_by way ≡ next_hop s to
of_router s to way role is =
    ap (λ (w : Option Way). option_map hop_by w) is ∙ ap (λ (r : Role). hop_of r s to) (sym role)

-- a system that was heard of is on the way
pub way_heard : (s : SystemState) (now : ℕ) (to : List ℕ) (neighbour : Neighbour) → now ≡ s.moment
    → Some neighbour ≡ heard.current_neighbour now Es to s.facts → Some (to_neighbour neighbour) ≡ way_of s to
way_heard s now to neighbour same is =
    let there : Some neighbour ≡ heard.current_neighbour s.moment Es to s.facts = is ∙ ap (λ (m : ℕ). heard.current_neighbour m Es to s.facts) same in
    ap (λ (p : Option Neighbour). option_or (option_map to_neighbour p) (option_map by_route (longest to s.attached.routes))) there

-- else the longest route is
pub way_routed : (s : SystemState) (now : ℕ) (to : List ℕ) (route : Option Route) → now ≡ s.moment
    → (let none : Option Neighbour = None in none) ≡ heard.current_neighbour now Es to s.facts → route ≡ longest to s.attached.routes
    → option_map by_route route ≡ way_of s to
way_routed s now to route same none is =
    let there = none ∙ ap (λ (m : ℕ). heard.current_neighbour m Es to s.facts) same in
    ap (λ (r : Option Route). option_map by_route r) is
    ∙ ap (λ (p : Option Neighbour). option_or (option_map to_neighbour p) (option_map by_route (longest to s.attached.routes))) there

-- ---- units of its own

-- another goes by the next hop
pub to_another : (s : SystemState) (u : DataUnit) (role : Role) → s.configuration.role ≡ role → is_to_itself role s u ≡ false
    → next_hop s u.destination ≡ unit_hop s u
to_another s u role is other =
    ap (λ (b : Bool). if b then None else next_hop s u.destination) (sym other)
    ∙ ap (λ (r : Role). if is_to_itself r s u then None else next_hop s u.destination) (sym is)
