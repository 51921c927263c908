-- Where a system sends by what it heard and by its routes; and which packets are all of their unit.
use Rattle.std.proofs.Common.{◌≡◌, ◌∙◌, refl, sym, ap, ℕ, ◌+◌, ◌-◌, ◌≤◌, inl, inr, false, List, Option, None, Some, arith}
use Rattle.std.specs.Prelude.{◌==◌, ◌&&◌, ◌||◌, ◌↔◌, not, is_none, option_map, IsTrue}
use Rattle.std.specs.Option.{option_or}
use Rattle.std.proofs.lemmas.Bool.{and_from, and_parts, eq-eqb, eqb-true, le-ltb, ltb-false, not-true, not_from_false}
use Rattle.clnp_plan.proofs.ClnpBase.Choices.{option_or-none, option_or-some}
use Rattle.clnp_plan.specs.SystemTables.declared.forwarding.route.Route.{Route}
use Rattle.clnp_plan.specs.Forwarding.Longest.{longest}
use Rattle.clnp_plan.specs.PduHeader.Spelling.{header_length}
use Rattle.clnp_plan.specs.SystemTables.declared.esis_tables.fact.Neighbour.{Neighbour}
use Rattle.clnp_plan.specs.SystemTables.declared.esis_tables.fact.TableKind.TheVariants.{Es, Rd}
use Rattle.clnp_plan.specs.EsisTables.NextHop.{current_neighbour, last_router}
use Rattle.clnp_plan.specs.declared.config.Role.{Role}
use Rattle.clnp_plan.specs.declared.config.Role.TheVariants.{Host, Router}
use Rattle.clnp_machine.specs.Unit.{Packet, more_follows, value_of, value_with}
use Rattle.clnp_machine.specs.Local.{is_all}
use Rattle.clnp_machine.specs.System.{SystemState}
use Rattle.clnp_machine.specs.Step.{Way, by_route, hop_by, hop_of, hop_to, host_hop, next_hop, to_neighbour, way_of}
use Rattle.clnp_machine.specs.Ways.{IsAllOfItsUnit}
use Rattle.clnp_machine.proofs.Headers.{header_length-is}

module _ (s : SystemState) (to : List ℕ) where
  abbrev redirected : Option Neighbour
  redirected = current_neighbour s.moment Rd to s.facts

  abbrev end_system : Option Neighbour
  end_system = current_neighbour s.moment Es to s.facts

  abbrev router : Option Neighbour
  router = last_router s.moment s.facts

  host_by : (found : Option Neighbour) → s.configuration.role ≡ Host → option_or redirected (option_or end_system router) ≡ found
      → next_hop s to ≡ Some (host_hop found)
  host_by found host e = ap (λ (role : Role). hop_of role s to) host ∙ ap (λ (neighbour : Option Neighbour). Some (host_hop neighbour)) e

  pub by_redirect : (neighbour : Neighbour) → s.configuration.role ≡ Host → redirected ≡ Some neighbour → next_hop s to ≡ Some (hop_to neighbour)
  by_redirect neighbour host e = host_by (Some neighbour) host (option_or-some redirected (option_or end_system router) neighbour e)

  pub by_end_system : (neighbour : Neighbour) → s.configuration.role ≡ Host → redirected ≡ None → end_system ≡ Some neighbour → next_hop s to ≡ Some (hop_to neighbour)
  by_end_system neighbour host none e =
      host_by (Some neighbour) host
      (option_or-none redirected (option_or end_system router) (Some neighbour) none (option_or-some end_system router neighbour e))

  pub by_last_router : (found : Option Neighbour) → s.configuration.role ≡ Host → redirected ≡ None → end_system ≡ None → router ≡ found
      → next_hop s to ≡ Some (host_hop found)
  by_last_router found host none unheard e =
      host_by found host (option_or-none redirected (option_or end_system router) found none (option_or-none end_system router found unheard e))

  router_by : (found : Option Way) → s.configuration.role ≡ Router → way_of s to ≡ found → next_hop s to ≡ option_map hop_by found
  router_by found is e = ap (λ (role : Role). hop_of role s to) is ∙ ap (option_map hop_by) e

  pub by_neighbour : (neighbour : Neighbour) → s.configuration.role ≡ Router → end_system ≡ Some neighbour → next_hop s to ≡ Some (hop_to neighbour)
  by_neighbour neighbour is e =
      router_by (Some (to_neighbour neighbour)) is
      (option_or-some (option_map to_neighbour end_system) (option_map by_route (longest to s.attached.routes)) (to_neighbour neighbour)
      (ap (option_map to_neighbour) e))

  pub by_longest : (found : Option Route) → s.configuration.role ≡ Router → end_system ≡ None → longest to s.attached.routes ≡ found
      → next_hop s to ≡ option_map hop_by (option_map by_route found)
  by_longest found is none e =
      router_by (option_map by_route found) is
      (option_or-none (option_map to_neighbour end_system) (option_map by_route (longest to s.attached.routes)) (option_map by_route found)
      (ap (option_map to_neighbour) none) (ap (option_map by_route) e))

-- All of a unit.

module _ (p : Packet) where
  same_header : header_length (value_of p) ≡ header_length (value_with p false)
  same_header = header_length-is (value_of p) ∙ sym (header_length-is (value_with p false))

  all_of : (identifier : Option ℕ) → p.unit.identifier ≡ identifier → IsTrue (is_none identifier || ((p.offset == 0) && not (more_follows p identifier)))
      → IsAllOfItsUnit p
  all_of None e all = inl e
  all_of (Some identifier) e all =
      let both = and_parts (p.offset == 0) (not (more_follows p (Some identifier))) all in
      let first = eqb-true p.offset 0 both.0 in
      let last =
      ltb-false (p.offset + p.length) (p.unit.total - header_length (value_with p false)) (not-true (more_follows p (Some identifier)) both.1) in
      let size = same_header in
      inr (first, omega arith)

  all_from : (identifier : Option ℕ) → p.unit.identifier ≡ identifier → IsAllOfItsUnit p → IsTrue (is_none identifier || ((p.offset == 0) && not (more_follows p identifier)))
  all_from None e is = refl
  all_from (Some identifier) e (inl none) = absurd (cc)
  all_from (Some identifier) e (inr both) =
      let size = same_header in
      let first : p.offset ≡ 0 = both.0 in
      let within : p.unit.total ≤ header_length (value_of p) + p.length = both.1 in
      and_from (p.offset == 0) (not (more_follows p (Some identifier))) (eq-eqb p.offset 0 first)
      (not_from_false (more_follows p (Some identifier))
      (le-ltb (p.offset + p.length) (p.unit.total - header_length (value_with p false)) (omega arith)))

  pub all_where_whole : IsTrue (is_all p) ↔ IsAllOfItsUnit p
  all_where_whole = (all_of p.unit.identifier refl, all_from p.unit.identifier refl)
