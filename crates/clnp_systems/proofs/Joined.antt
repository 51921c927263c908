-- The data of a whole unit, read from the octets of its segments' PDUs, are those of the packets' unit.
use Rattle.std.proofs.Common.{◌≡◌, ℕ, ◌+◌, ◌-◌, ◌<◌, ◌≤◌, true, List, [], ◌∷◌, refl, sym, ap, ◌∙◌, inl, inr, arith, nat_le, nat_lt}
use Rattle.std.specs.Prelude.{slice_index}
use Rattle.std.specs.List.{AllByRecursion, range_with_len}
use Rattle.std.proofs.lemmas.Bool.{and_parts, cases_Bool, leb-true, ltb-true}
use Rattle.clnp_machine.proofs.ClnpBase.Lists.{get_or-behind_part}
use Rattle.clnp_machine.proofs.ClnpBase.Maps.{map-agree}
use Rattle.clnp_machine.specs.PduHeader.Spelling.{header, header_length}
use Rattle.clnp_machine.specs.ClnpViews.Extent.{Extent, seen}
use Rattle.clnp_machine.specs.Reassembly.Arrival.{Arrival, data_len, earliest, has, octet_in}
use Rattle.clnp_machine.specs.Reassembly.Buffer.{Buffer, data_of, octet_by}
use Rattle.clnp_machine.specs.Reassembly.Mapped.{map_arrival, map_buffer}
use Rattle.clnp_machine.specs.Unit.{Packet, value_of, wire, IsCarriable}
use Rattle.clnp_machine.specs.Local.{octet_of, offered}
use Rattle.clnp_machine.specs.Local.{IsAsOffered}
use Rattle.clnp_systems.proofs.Buffers.{data_of-mapped}
use Rattle.clnp_systems.proofs.Parts.{length-header}

-- the octet at a place of the unit's data, in a segment that carries its PDU's octets
abbrev pub octet_at : Arrival (List ℕ) → ℕ → ℕ
octet_at arrival place = slice_index arrival.carried (arrival.shape.head_len + (place - arrival.offset))

-- a packet's PDU has the unit's octet behind its header
in_packet : (p : Packet) (following : List ℕ) (place : ℕ) → IsCarriable p → p.offset ≤ place → place < p.offset + p.length
    → octet_at (map_arrival wire (offered p following)) place ≡ octet_of (offered p following) place
in_packet p following place carriable from to =
    get_or-behind_part (header (value_of p)) p.unit.octets (header_length (value_of p)) (p.offset - p.unit.first_position) p.length (place - p.offset)
    (place - p.unit.first_position) 0 (length-header (value_of p)) (omega arith) (let f = carriable.from in omega arith)

in_offered : (arrival : Arrival Packet) (place : ℕ) → IsAsOffered arrival → has place arrival ≡ true
    → octet_at (map_arrival wire arrival) place ≡ octet_of arrival place
in_offered arrival place offers there =
    let p = arrival.carried in
    let e = offers.is_offered in
    let there_is : has place (offered p offers.following) ≡ true = ap (has place) (sym e) ∙ there in
    let both = and_parts (nat_le p.offset place) (nat_lt place (p.offset + p.length)) there_is in
    ap (λ (a : Arrival Packet). octet_at (map_arrival wire a) place) e
    ∙ in_packet p offers.following place offers.carriable (leb-true p.offset place both.0) (ltb-true place (p.offset + p.length) both.1)
    ∙ ap (λ (a : Arrival Packet). octet_of a place) (sym e)

-- so does the earliest of some segments
in_earliest : (arrivals : List (Arrival Packet)) (place : ℕ) → AllByRecursion IsAsOffered arrivals
    → octet_by (λ (a : Arrival Packet) (k : ℕ). octet_at (map_arrival wire a) k) place (earliest arrivals place)
    ≡ octet_by octet_of place (earliest arrivals place)
in_earliest [] place all = refl
in_earliest (first ∷ others) place all =
    elim (cases_Bool (has place first)) [
      | inl there ↦ rw there (in_offered first place all.0 there)
      | inr not_there ↦ rw not_there (in_earliest others place all.1)
    ]

pub data_shown : (buffer : Buffer Extent) (other : Buffer Packet) → map_buffer seen buffer ≡ map_buffer wire other
    → AllByRecursion IsAsOffered other.kept → data_of octet_in buffer ≡ data_of octet_of other
data_shown buffer other same all =
    sym (data_of-mapped seen octet_in octet_at buffer (λ a place. refl))
    ∙ ap (data_of octet_at) same
    ∙ data_of-mapped wire (λ (a : Arrival Packet) (k : ℕ). octet_at (map_arrival wire a) k) octet_at other (λ a place. refl)
    ∙ map-agree (λ (place : ℕ). octet_by (λ (a : Arrival Packet) (k : ℕ). octet_at (map_arrival wire a) k) place (earliest other.kept place))
    (λ (place : ℕ). octet_by octet_of place (earliest other.kept place)) (range_with_len 0 (data_len other.shape))
    (λ place. in_earliest other.kept place all)
