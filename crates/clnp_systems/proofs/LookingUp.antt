-- Which next hop is found.
use Rattle.std.proofs.Common.{◌≡◌, ◌∙◌, ap, ℕ, List, Option, Some, None}
use Rattle.std.specs.Option.{option_or}
use Rattle.clnp_machine.specs.SystemTables.declared.esis_tables.fact.Neighbour.{Neighbour}
use Rattle.clnp_machine.specs.SystemTables.declared.esis_tables.fact.TableKind.TheVariants.{Es, Rd}
use Rattle.clnp_machine.specs.EsisTables.Fact.{Fact}
use Rattle.clnp_machine.specs.EsisTables.NextHop.{current_neighbour, last_router, next_hop}

pub by_redirect : (now : ℕ) (to : List ℕ) (facts : List Fact) (neighbour : Neighbour) → Some neighbour ≡ current_neighbour now Rd to facts → Some neighbour ≡ next_hop now to facts
by_redirect now to facts neighbour redirect = ap (λ (o : Option Neighbour). option_or o (option_or (current_neighbour now Es to facts) (last_router now facts))) redirect

pub by_others : (now : ℕ) (to : List ℕ) (facts : List Fact) (found : Option Neighbour) → None ≡ current_neighbour now Rd to facts
    → found ≡ option_or (current_neighbour now Es to facts) (last_router now facts) → found ≡ next_hop now to facts
by_others now to facts found none others =
    others ∙ ap (λ (o : Option Neighbour). option_or o (option_or (current_neighbour now Es to facts) (last_router now facts))) none

pub by_system : (now : ℕ) (to : List ℕ) (facts : List Fact) (neighbour : Neighbour) → None ≡ current_neighbour now Rd to facts → Some neighbour ≡ current_neighbour now Es to facts
    → Some neighbour ≡ next_hop now to facts
by_system now to facts neighbour none system =
    by_others now to facts (Some neighbour) none (ap (λ (o : Option Neighbour). option_or o (last_router now facts)) system)

pub by_router : (now : ℕ) (to : List ℕ) (facts : List Fact) (found : Option Neighbour) → None ≡ current_neighbour now Rd to facts → None ≡ current_neighbour now Es to facts
    → found ≡ last_router now facts → found ≡ next_hop now to facts
by_router now to facts found none unknown router =
    by_others now to facts found none (router ∙ ap (λ (o : Option Neighbour). option_or o (last_router now facts)) unknown)
