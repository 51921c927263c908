-- The data of a unit, piece by piece.
use Rattle.std.proofs.Common.{◌≡◌, ℕ, ◌+◌, ◌-◌, ◌<◌, ◌≤◌, ◌++◌, Option, Some, option_map, get_or, List, map, sym, ap, ◌∙◌, arith}
use Rattle.std.specs.List.{range_with_len}
use Rattle.system_tables.specs.declared.reassembly.segment.Key.{Key}
use Rattle.system_tables.specs.declared.reassembly.segment.Segment.{Segment}
use Rattle.system_tables.specs.Reassembly.Arrival.{arrival_of, earliest, octet_in}
use Rattle.system_tables.specs.Reassembly.Buffer.{octet_by}
use Rattle.system_tables.specs.Reassembly.Entries.{inside, present}
use Rattle.system_tables.specs.Reassembly.Index.{entry_gives, giver}
use Rattle.pdus.proofs.ClnpBase.Found.{is_first}
use Rattle.pdus.proofs.ClnpBase.Ranges.{map-range-add, map_same}
use Rattle.system_tables.proofs.ReassemblyFacts.Givers.{find-present}
use Rattle.system_tables.proofs.ReassemblyFacts.Run.{arrivals_of, earliest_is}

-- the octet at a place, by the earliest segment of a key, and those at `len` places
abbrev pub octet_at : Key → List (Option Segment) → ℕ → ℕ
octet_at key entries place = octet_by octet_in place (earliest (arrivals_of key (present entries)) place)

abbrev pub octets_at : Key → List (Option Segment) → ℕ → ℕ → List ℕ
octets_at key entries place len = map (octet_at key entries) (range_with_len place len)

-- where a segment is the first that has the octet, it is that segment's
first_octet : (key : Key) (entries : List (Option Segment)) (i place : ℕ) (segment : Segment)
    → giver key place entries ≡ Some i → Some segment ≡ get_or entries i (Some segment)
    → octet_in (arrival_of segment) place ≡ octet_at key entries place
first_octet key entries i place segment first read =
    let found = earliest_is key (present entries) place
    ∙ ap (option_map arrival_of) (find-present key place entries ∙ ap inside ((is_first (entry_gives key place) i entries first).found (Some segment) read)) in
    sym (ap (octet_by octet_in place) found)

-- so it is over a run
pub piece_is : (key : Key) (entries : List (Option Segment)) (i place len : ℕ) (segment : Segment)
    → ((at : ℕ) → place ≤ at → at < place + len → giver key at entries ≡ Some i)
    → Some segment ≡ get_or entries i (Some segment)
    → map (octet_in (arrival_of segment)) (range_with_len place len) ≡ octets_at key entries place len
piece_is key entries i place len segment first read =
    map_same (octet_in (arrival_of segment)) (octet_at key entries) place len
    (λ at low high. first_octet key entries i at segment (first at low high) read)

-- what is left, cut at a place
pub octets-add : (key : Key) (entries : List (Option Segment)) (place next end : ℕ) → place ≤ next → next ≤ end
    → octets_at key entries place (end - place) ≡ octets_at key entries place (next - place) ++ octets_at key entries next (end - next)
octets-add key entries place next end low high =
    map-range-add (octet_at key entries) place (next - place) next (end - next) (end - place) (omega arith) (omega arith)
