-- Which next hop follows from what was heard (ISO 9542, section 6.5).
use Rattle.std.specs.Prelude.{ℕ, Bool, List, [], ◌∷◌, Option, None, Some}
use Rattle.std.specs.List.{list_any}
use Rattle.std.specs.Option.{option_map, option_or}
use Rattle.std.specs.Str.{bytes_eq}
use Rattle.system_tables.specs.declared.esis_tables.fact.Neighbour.{Neighbour}
use Rattle.system_tables.specs.declared.esis_tables.fact.TableKind.{TableKind}
use Rattle.system_tables.specs.declared.esis_tables.fact.TableKind.TheVariants.{Es, Is, Rd}
use Rattle.system_tables.specs.EsisTables.Fact.{Fact, current, currents}

abbrev pub neighbour_of : Fact → Neighbour
neighbour_of fact = fact.neighbour

-- where the current fact of a key says that its system is reached
abbrev pub current_neighbour : ℕ → TableKind → List ℕ → List Fact → Option Neighbour
current_neighbour now table key facts = option_map neighbour_of (current now table key facts)

abbrev pub last : List Fact → Option Fact
last [] = None
last (fact ∷ later) = option_or (last later) (Some fact)

-- where the intermediate system is reached that was heard last, of those with a current fact
abbrev pub last_router : ℕ → List Fact → Option Neighbour
last_router now facts = option_map neighbour_of (last (currents now Is facts))

-- whether the fact is of a system at this address on its subnetwork
abbrev pub is_at : List ℕ → Fact → Bool
is_at snpa fact = bytes_eq fact.neighbour.snpa snpa

-- whether a current fact says that an intermediate system is there
abbrev pub is_router : ℕ → List ℕ → List Fact → Bool
is_router now snpa facts = list_any (is_at snpa) (currents now Is facts)

-- An end system's next hop towards a destination: the redirect for exactly this destination, else the end system of this
-- address, else the intermediate system heard last. Where there is none of them, it is the group of all end systems.
abbrev pub next_hop : ℕ → List ℕ → List Fact → Option Neighbour
next_hop now destination facts =
    option_or (current_neighbour now Rd destination facts) (option_or (current_neighbour now Es destination facts) (last_router now facts))
