-- The record in front of octets.
use Rattle.std.proofs.Common.{◌≡◌, ℕ, ◌≤◌, true, List, ◌++◌, length, take, drop, Some, sym, ap, ◌∙◌, subst, arith, length-take-le, take-append-drop}
use Rattle.std.specs.Prelude.{nat_le}
use Rattle.std.proofs.lemmas.Bool.{and_parts, leb-true}
use Rattle.std.proofs.lemmas.Bool.Decides.{nat_tests}
use Rattle.std.proofs.lemmas.Option.{cond_some}
use Rattle.hex.specs.Hex.{IsBytes}
use Rattle.pdus.proofs.ClnpBase.ListSteps.{bytes_of_take}
use Rattle.frame_links.specs.declared.pcap_frames.order.Order.{Order}
use Rattle.frame_links.specs.PcapFrames.File.{Captured, IsCaptured, captured_octets, most_captured}
use Rattle.frame_links.specs.PcapFrames.InPlace.{first_in, front_record, has_record, record_size}
use Rattle.frame_links.specs.PcapFrames.Reading.{captured_length}
use Rattle.frame_links.specs.PcapFrames.Stages.{IsWhole}
use Rattle.frame_links.proofs.PcapFrames.AnyOctets.{told_in_front}
use Rattle.frame_links.proofs.PcapFrames.RecordFacts.{begins_record, same_record}
use Rattle.frame_links.proofs.PcapFrames.Steps.{whole_is_captured, whole_spelled}

-- what the two tests tell
pub record HasRecord (order : Order) (octets : List ℕ) : Type 0 where
  pub few : captured_length order octets ≤ most_captured
  pub long : record_size order octets ≤ length octets

pub tested : (order : Order) (octets : List ℕ) → has_record order octets ≡ true → HasRecord order octets
tested order octets e =
    let both = and_parts (nat_le (captured_length order octets) most_captured) (nat_le (record_size order octets) (length octets)) e in
    record {
      few = leb-true (captured_length order octets) most_captured both.0;
      long = leb-true (record_size order octets) (length octets) both.1;
    }

-- the octets are the record in front, and what follows
pub record InFront (order : Order) (octets : List ℕ) : Type 0 where
  pub captured : IsCaptured (front_record order octets)
  pub spelled : octets ≡ captured_octets order (front_record order octets) ++ drop (record_size order octets) octets

pub in_front : (order : Order) (octets : List ℕ) → IsBytes octets → has_record order octets ≡ true → InFront order octets
in_front order octets bytes e =
    let t = tested order octets e in
    let few = t.few in
    let long = t.long in
    let size = record_size order octets in
    let front = take size octets in
    let front_bytes = bytes_of_take octets size bytes in
    let told = told_in_front order octets size (omega arith) long in
    let front_size = length-take-le size octets long in
    let whole : IsWhole order front = record { few = omega arith; size = omega arith } in
    record {
      captured = whole_is_captured order front front_bytes whole;
      spelled =
          sym (take-append-drop size octets)
          ∙ ap (λ (xs : List ℕ). xs ++ drop size octets) (whole_spelled order front front_bytes whole);
    }

pub first_is : (order : Order) (octets : List ℕ) (c : Captured) → IsBytes octets → first_in order octets ≡ Some c
    → IsCaptured c × ((rest : List ℕ) × (octets ≡ captured_octets order c ++ rest))
unfolding first_in
first_is order octets c bytes e =
    let s = cond_some (has_record order octets) (front_record order octets) c e in
    let f = in_front order octets bytes s.0 in
    let rest = drop (record_size order octets) octets in (
      subst IsCaptured s.1 f.captured,
      (rest, f.spelled ∙ ap (λ (d : Captured). captured_octets order d ++ rest) s.1),
    )

pub first_of_laid : (order : Order) (octets : List ℕ) (c : Captured) (rest : List ℕ) → IsBytes octets → IsCaptured c
    → octets ≡ captured_octets order c ++ rest → first_in order octets ≡ Some c
unfolding first_in
first_of_laid order octets c rest bytes is_c e =
    let b = begins_record order octets c rest is_c e in
    let tells = b.tells in
    let size = b.size in
    let few = is_c.few in
    let there : has_record order octets ≡ true = grind (arith, nat_tests) in
    let f = in_front order octets bytes there in
    let same = same_record order (front_record order octets) c _ rest f.captured is_c (sym f.spelled ∙ e) in
    rw there (ap Some same.0)
