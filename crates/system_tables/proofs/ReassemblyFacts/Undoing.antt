-- What the segments are without the last one of a key.
use Rattle.std.proofs.Common.{◌≡◌, ◌∙◌, sym, ap, refl, ℕ, ◌+◌, ◌≤◌, inl, inr, true, false, List, [], ◌∷◌, length, map, arith}
use Rattle.std.specs.List.{AllByRecursion}
use Rattle.std.proofs.lemmas.Bool.{and_from, and_left, and_right, cases_Bool}
use Rattle.std.proofs.lemmas.List.Sums.{sum-map, sum_by-cons}
use Rattle.pdus.specs.ClnpViews.Extent.{Extent}
use Rattle.system_tables.specs.declared.reassembly.segment.Key.{Key}
use Rattle.system_tables.specs.declared.reassembly.segment.Segment.{Segment}
use Rattle.system_tables.specs.Reassembly.Arrival.{Arrival, arrival_of, same_key}
use Rattle.system_tables.specs.Reassembly.Buffer.{but_last}
use Rattle.system_tables.specs.Reassembly.Offered.{total_size}
use Rattle.system_tables.specs.Reassembly.State.{segments_of}
use Rattle.system_tables.specs.Reassembly.Ending.{is_empty, others_of, without_last}
use Rattle.pdus.proofs.ClnpBase.Filters.{filter_not-none}
use Rattle.system_tables.proofs.ReassemblyFacts.Keys.{same_key-other}

from_empty : (segments : List Segment) → is_empty segments ≡ true → segments ≡ []
from_empty [] e = refl
from_empty (segment ∷ others) e = absurd (cc)

but_last-more : (arrival : Arrival Extent) (segments : List Segment) → is_empty segments ≡ false
    → but_last (arrival ∷ map arrival_of segments) ≡ arrival ∷ but_last (map arrival_of segments)
but_last-more arrival [] f = absurd (cc)
but_last-more arrival (segment ∷ others) f = refl

module _ (key : Key) where
  -- each case of the first segment: it is the last of the key, it is an earlier one of the key, or it has another key
  cases_first : (P : List Segment → Type 0) (first : Segment) (others : List Segment)
      → (same_key first.key key ≡ true → segments_of key others ≡ [] → P others)
      → (same_key first.key key ≡ true → is_empty (segments_of key others) ≡ false → P (first ∷ without_last key others))
      → (same_key first.key key ≡ false → P (first ∷ without_last key others))
      → P (without_last key (first ∷ others))
  cases_first P first others last earlier other =
      elim (cases_Bool (same_key first.key key)) [
        | inl t ↦
            elim (cases_Bool (is_empty (segments_of key others))) [
              | inl e ↦ rw (and_from (same_key first.key key) (is_empty (segments_of key others)) t e) (last t (from_empty (segments_of key others) e))
              | inr n ↦ rw (and_right (same_key first.key key) (is_empty (segments_of key others)) n) (earlier t n)
            ]
        | inr f ↦ rw (and_left (same_key first.key key) (is_empty (segments_of key others)) f) (other f)
      ]

  -- the segments of the key are without their last
  pub segments_of-without_last : (segments : List Segment) → map arrival_of (segments_of key (without_last key segments)) ≡ but_last (map arrival_of (segments_of key segments))
  segments_of-without_last [] = refl
  segments_of-without_last (first ∷ others) =
      let IH = segments_of-without_last others in
      cases_first (λ l. map arrival_of (segments_of key l) ≡ but_last (map arrival_of (segments_of key (first ∷ others)))) first others
      (λ t none. rw t (rw none refl))
      (λ t more. rw t (ap (λ l. arrival_of first ∷ l) IH ∙ sym (but_last-more (arrival_of first) (segments_of key others) more)))
      (λ f. rw f IH)

  -- the segments of another key are as they were
  pub others-without_last : (other : Key) → same_key key other ≡ false → (segments : List Segment) → segments_of other (without_last key segments) ≡ segments_of other segments
  others-without_last other differs [] = refl
  others-without_last other differs (first ∷ others) =
      let IH = others-without_last other differs others in
      let more : segments_of other (first ∷ without_last key others) ≡ segments_of other (first ∷ others) =
      elim (cases_Bool (same_key first.key other)) [ inl t ↦ rw t (ap (λ l. first ∷ l) IH) | inr f ↦ rw f IH ] in
      cases_first (λ l. segments_of other l ≡ segments_of other (first ∷ others)) first others
      (λ t none. rw (same_key-other first.key key other t differs) refl) (λ t n. more) (λ f. more)

  pub others_of-without_last : (segments : List Segment) → others_of key (without_last key segments) ≡ others_of key segments
  others_of-without_last [] = refl
  others_of-without_last (first ∷ others) =
      let IH = others_of-without_last others in
      cases_first (λ l. others_of key l ≡ others_of key (first ∷ others)) first others
      (λ t none. rw t refl) (λ t n. rw t IH) (λ f. rw f (ap (λ l. first ∷ l) IH))

  pub All-without_last : (P : Segment → Type 0) (segments : List Segment) → AllByRecursion P segments → AllByRecursion P (without_last key segments)
  All-without_last P [] h = h
  All-without_last P (first ∷ others) h =
      let IH = All-without_last P others h.1 in
      cases_first (AllByRecursion P) first others (λ t none. h.1) (λ t n. (h.0, IH)) (λ f. (h.0, IH))

  pub length-without_last : (segments : List Segment) → length (without_last key segments) ≤ length segments
  length-without_last [] = omega arith
  length-without_last (first ∷ others) =
      let IH = length-without_last others in
      cases_first (λ l. length l ≤ length (first ∷ others)) first others (λ t none. omega arith) (λ t n. omega arith) (λ f. omega arith)

  pub size-without_last : (segments : List Segment) → total_size (without_last key segments) ≤ total_size segments
  size-without_last [] = omega arith
  size-without_last (first ∷ others) =
      let size : Segment → ℕ = λ s. length s.pdu.frame in
      let IH = size-without_last others in
      let whole : total_size (first ∷ others) ≡ size first + total_size others =
      sum-map size (first ∷ others) ∙ sum_by-cons size first others ∙ ap (λ n. size first + n) (sym (sum-map size others)) in
      let rest : total_size (first ∷ without_last key others) ≡ size first + total_size (without_last key others) =
      sum-map size (first ∷ without_last key others) ∙ sum_by-cons size first (without_last key others)
      ∙ ap (λ n. size first + n) (sym (sum-map size (without_last key others))) in
      cases_first (λ l. total_size l ≤ total_size (first ∷ others)) first others
      (λ t none. omega (arith, whole)) (λ t n. omega (arith, whole, rest, IH)) (λ f. omega (arith, whole, rest, IH))

  -- where no segment of the key is left, all others are
  pub without_last-none_left : (segments : List Segment) → segments_of key (without_last key segments) ≡ [] → without_last key segments ≡ others_of key segments
  without_last-none_left segments none =
      sym (filter_not-none (λ s. same_key s.key key) (without_last key segments) (ap length none)) ∙ others_of-without_last segments
