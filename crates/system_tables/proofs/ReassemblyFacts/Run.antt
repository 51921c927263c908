-- Whether a segment of a key has a place, and the kept segments of a key.
use Rattle.std.proofs.Common.{◌≡◌, ℕ, ◌+◌, ◌-◌, ◌<◌, ◌≤◌, ◌&&◌, nat_le, nat_lt, Bool, true, List, map, option_map}
use Rattle.std.specs.List.{find, list_any}
use Rattle.std.proofs.lemmas.Bool.{and_parts, leb-true, ltb-true}
use Rattle.pdus.specs.ClnpViews.Extent.{Extent}
use Rattle.system_tables.specs.declared.reassembly.segment.Key.{Key}
use Rattle.system_tables.specs.declared.reassembly.segment.Segment.{Segment}
use Rattle.system_tables.specs.Reassembly.Arrival.{Arrival, arrival_of, earliest, has, is_covered, same_key}
use Rattle.system_tables.specs.Reassembly.State.{segments_of}
use Rattle.pdus.proofs.ClnpBase.Maps.{find-map-filter, list_any-map-filter}

-- whether a segment is one of the key and has the octet at a place
abbrev pub gives : Key → ℕ → Segment → Bool
gives key place segment = same_key segment.key key && has place (arrival_of segment)

-- the same, as facts
pub record Gives (key : Key) (place : ℕ) (segment : Segment) : Type 0 where
  pub key_is : same_key segment.key key ≡ true
  pub from : segment.offset ≤ place
  pub to : place < segment.offset + (segment.pdu.len - segment.shape.head_len)

pub does_give : (key : Key) (place : ℕ) (segment : Segment) → gives key place segment ≡ true → Gives key place segment
does_give key place segment e =
    let first = and_parts (same_key segment.key key) (has place (arrival_of segment)) e in
    let second = and_parts (nat_le segment.offset place) (nat_lt place (segment.offset + (segment.pdu.len - segment.shape.head_len))) first.1 in
    record { key_is = first.0; from = leb-true _ _ second.0; to = ltb-true _ _ second.1 }

-- the kept segments of a key, as they came
abbrev pub arrivals_of : Key → List Segment → List (Arrival Extent)
arrivals_of key segments = map arrival_of (segments_of key segments)

pub covered_is : (key : Key) (segments : List Segment) (place : ℕ)
    → is_covered (arrivals_of key segments) place ≡ list_any (gives key place) segments
covered_is key segments place = list_any-map-filter (has place) arrival_of (λ segment. same_key segment.key key) segments

pub earliest_is : (key : Key) (segments : List Segment) (place : ℕ)
    → earliest (arrivals_of key segments) place ≡ option_map arrival_of (find (gives key place) segments)
earliest_is key segments place = find-map-filter (has place) arrival_of (λ segment. same_key segment.key key) segments
