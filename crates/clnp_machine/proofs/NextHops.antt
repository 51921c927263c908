-- A redirect that comes changes the next hop of its destination alone.
use Rattle.std.proofs.Common.{◌≡◌, ◌∙◌, refl, sym, ap, subst, ℕ, Bool, true, false, List, [], ◌∷◌, Option, Some}
use Rattle.std.specs.Prelude.{if◌then◌else◌, option_map}
use Rattle.std.specs.Option.{option_or}
use Rattle.clnp_plan.specs.Forwarding.Longest.{longest}
use Rattle.pdus.specs.declared.esis_pdus.pdu.EsisBody.{EsisBody}
use Rattle.pdus.specs.EsisPdus.Value.{suggested}
use Rattle.clnp_plan.specs.SystemTables.declared.esis_tables.fact.EsisLimits.{EsisLimits}
use Rattle.clnp_plan.specs.SystemTables.declared.esis_tables.fact.Neighbour.{Neighbour}
use Rattle.clnp_plan.specs.SystemTables.declared.esis_tables.fact.TableKind.TheVariants.{Es, Rd}
use Rattle.clnp_plan.specs.EsisTables.Fact as facts
use Rattle.clnp_plan.specs.EsisTables.Fact.{Fact}
use Rattle.clnp_plan.specs.EsisTables.NextHop as heard
use Rattle.clnp_plan.specs.declared.config.Role.{Role}
use Rattle.clnp_plan.specs.declared.config.Role.TheVariants.{Host, Router}
use Rattle.clnp_plan.specs.declared.note.Note.TheVariants.{Ignored}
use Rattle.clnp_machine.specs.Content.{Content, Labelled, Esis, Unlabelled}
use Rattle.clnp_machine.specs.System.{SystemState, Notes, FrameComes, gives}
use Rattle.clnp_machine.specs.Esis.{esis_heard, esis_limits, heard_now, hears, redirect_heard}
use Rattle.clnp_machine.specs.Step.{by_route, host_hop, hop_of, next_hop, step, to_neighbour}
use Rattle.clnp_machine.specs.EveryStep.{IsRedirectFor, KeepsNextHop, KeepsNextHops}

-- what the tables say of a redirect that is heard: of the next hops towards other destinations, and of end systems
pub record OnRedirects : Type 0 where
  pub others : (limits : EsisLimits) (fact : Fact) (list : List Fact) (now : ℕ) (destination : List ℕ) → fact.table ≡ Rd
      → (fact.key ≡ destination → ⊥) → heard.next_hop now destination (facts.after limits fact list) ≡ heard.next_hop now destination list
  pub systems : (limits : EsisLimits) (fact : Fact) (list : List Fact) (now : ℕ) (key : List ℕ) → fact.table ≡ Rd
      → facts.current now Es key (facts.after limits fact list) ≡ facts.current now Es key list

module _ (law : OnRedirects) (s : SystemState) (neighbour : Neighbour) (holding : ℕ) (destination via : List ℕ) where
  abbrev better : Neighbour
  better = record { port = neighbour.port; snpa = via }

  -- a host, whatever its configuration says that it is
  host_keeps : (address : List ℕ) → (address ≡ destination → ⊥) → s.configuration.role ≡ Host
      → KeepsNextHop s (redirect_heard Host s neighbour holding destination via).after address
  host_keeps address other role = go (heard.is_router s.moment neighbour.snpa s.facts)
    where
      fact : Fact
      fact = heard_now s Rd destination better holding

      by_role : (t : SystemState) → t.configuration.role ≡ Host → heard.next_hop t.moment address t.facts ≡ heard.next_hop s.moment address s.facts
          → next_hop t address ≡ next_hop s address
      by_role t same kept =
          ap (λ (r : Role). hop_of r t address) same ∙ ap (λ (o : Option Neighbour). Some (host_hop o)) kept ∙ ap (λ (r : Role). hop_of r s address) (sym role)

      go : (test : Bool)
          → KeepsNextHop s (if test then hears s Rd destination better holding else gives s (Notes (Ignored true) ∷ [])).after address
      go true = record {
        hop = by_role (hears s Rd destination better holding).after role
            (law.others (esis_limits s) fact s.facts s.moment address refl (λ same. other (sym same)));
        way = ap (λ (found : Option Fact).
            option_or (option_map to_neighbour (option_map heard.neighbour_of found)) (option_map by_route (longest address s.attached.routes)))
            (law.systems (esis_limits s) fact s.facts s.moment address refl);
      }
      go false = record { hop = refl; way = refl }

  redirect_keeps : (role : Role) → s.configuration.role ≡ role → KeepsNextHops destination s (redirect_heard role s neighbour holding destination via).after
  redirect_keeps Host is = λ address other. host_keeps address other is
  redirect_keeps Router is = λ address other. record { hop = refl; way = refl }

pub content_keeps : OnRedirects → (s : SystemState) (port : ℕ) (sender : List ℕ) (to_group : Bool) (content : Content) (destination : List ℕ)
    → IsRedirectFor destination content → KeepsNextHops destination s (step s (FrameComes port sender to_group content)).after
content_keeps law s port sender to_group (Labelled p following) destination is = absurd is
content_keeps law s port sender to_group (Unlabelled octets) destination is = absurd is
content_keeps law s port sender to_group (Esis value following) destination is =
    let neighbour : Neighbour = record { port = port; snpa = sender } in
    subst (λ (told : EsisBody). KeepsNextHops destination s (esis_heard s.configuration.role s neighbour value.holding told (suggested value.body value.options)).after)
    (sym is.2)
    (redirect_keeps law s neighbour value.holding destination is.0 s.configuration.role refl)
