-- When the time of buffers ends.
use Rattle.std.proofs.Common.{◌≡◌, ℕ, ◌<◌, ◌≤◌, ◌⊎◌, min, not, List, [], ◌∷◌, ◌++◌, Option, Some, None, refl, sym, ap, ◌∙◌, inl, inr, arith}
use Rattle.std.specs.Prelude.{nat_le, slice_get}
use Rattle.std.specs.List.{All}
use Rattle.std.proofs.lemmas.Bool.{cases_Bool, leb-false, leb-true}
use Rattle.std.proofs.lemmas.List.Elements.{All-cons, All-head, All-tail}
use Rattle.system_tables.specs.declared.reassembly.segment.Key.{Key}
use Rattle.system_tables.specs.declared.reassembly.table.TableLimits.{TableLimits}
use Rattle.system_tables.specs.Reassembly.Arrival.{Arrival, same_key}
use Rattle.system_tables.specs.Reassembly.Buffer.{Answer, Buffer, after, buffers_of, but_last, due, holding, opened_by, refusal, undone, with_kept, without}
use Rattle.system_tables.specs.Reassembly.Claims.{AllEndInTime, EndsInTime}
use Rattle.system_tables.proofs.ReassemblyFacts.LawDue.{due_of_none, none_due}
use Rattle.system_tables.proofs.ReassemblyFacts.LawKept.{kept_or_not}
use Rattle.pdus.proofs.ClnpBase.Filters.{AllByRecursion-filter}

lesser : (a b : ℕ) → (min a b ≤ a) × (min a b ≤ b) × ((a ≤ min a b) ⊎ (b ≤ min a b))
lesser a b =
    elim (cases_Bool (nat_le a b)) [
      | inl first ↦ let l = leb-true a b first in (omega arith, omega arith, inl (omega arith))
      | inr second ↦ let l = leb-false a b second in (omega arith, omega arith, inr (omega arith))
    ]

module _ {C : Type 0} (limits : TableLimits) where
  opened_in_time : (now : ℕ) (arrival : Arrival C) → EndsInTime limits (opened_by limits now arrival)
  opened_in_time now arrival =
      let l = lesser limits.hold arrival.lifetime in
      record {
        first = arrival;
        came_first = refl;
        hold = omega (arith, l.0);
        lifetime = omega (arith, l.1);
        no_sooner = elim l.2 [ inl h ↦ inl (omega arith) | inr h ↦ inr (omega arith) ];
      }

  still_first : (kept : List (Arrival C)) (first arrival : Arrival C) → slice_get kept 0 ≡ Some first → slice_get (kept ++ arrival ∷ []) 0 ≡ Some first
  still_first [] first arrival e = absurd (cc)
  still_first (a ∷ others) first arrival e = e

  more_in_time : (arrival : Arrival C) (buffer : Buffer C) → EndsInTime limits buffer → EndsInTime limits (record buffer { kept = buffer.kept ++ arrival ∷ [] })
  more_in_time arrival buffer is =
      record {
        first = is.first;
        came_first = still_first buffer.kept is.first arrival is.came_first;
        hold = is.hold;
        lifetime = is.lifetime;
        no_sooner = is.no_sooner;
      }

  with_kept_in_time : (now : ℕ) (arrival : Arrival C) (buffers : List (Buffer C)) → AllEndInTime limits buffers → AllEndInTime limits (with_kept limits now arrival buffers)
  with_kept_in_time now arrival [] all = (opened_in_time now arrival, tt)
  with_kept_in_time now arrival (buffer ∷ others) all =
      elim (cases_Bool (same_key buffer.key arrival.key)) [
        | inl same ↦ rw same (more_in_time arrival buffer all.0, all.1)
        | inr other ↦ rw other (all.0, with_kept_in_time now arrival others all.1)
      ]

  pub after_in_time : (now : ℕ) (arrival : Arrival C) (buffers : List (Buffer C)) → AllEndInTime limits buffers → AllEndInTime limits (after limits now arrival buffers)
  after_in_time now arrival buffers all =
      kept_or_not (AllEndInTime limits) (refusal limits arrival buffers) buffers (with_kept limits now arrival buffers) all
      (λ e. with_kept_in_time now arrival buffers all)

  pub without_in_time : (key : Key) (buffers : List (Buffer C)) → AllEndInTime limits buffers → AllEndInTime limits (without key buffers)
  without_in_time key buffers all =
      AllByRecursion-filter (λ (b : Buffer C). not (same_key b.key key)) (EndsInTime limits) (EndsInTime limits) (λ b t k. k) buffers all

  -- the list without its last begins as it did, where something is left
  first_left : (kept : List (Arrival C)) (first one : Arrival C) (left : List (Arrival C)) → slice_get kept 0 ≡ Some first → but_last kept ≡ one ∷ left → Some one ≡ Some first
  first_left [] first one left e f = absurd (cc)
  first_left (a ∷ []) first one left e f = absurd (let g : [] ≡ one ∷ left = f in cc)
  first_left (a ∷ b ∷ others) first one left e f = let g : (a ∷ but_last (b ∷ others)) ≡ one ∷ left = f in ap (λ l. slice_get l 0) (sym g) ∙ e

  holding_in_time : (kept : List (Arrival C)) (buffer : Buffer C) (others : List (Buffer C)) → but_last buffer.kept ≡ kept → EndsInTime limits buffer
      → AllEndInTime limits others → AllEndInTime limits (holding kept buffer ++ others)
  holding_in_time [] buffer others e is all = all
  holding_in_time (one ∷ left) buffer others e is all = (
    record {
      first = is.first;
      came_first = first_left buffer.kept is.first one left is.came_first e;
      hold = is.hold;
      lifetime = is.lifetime;
      no_sooner = is.no_sooner;
    },
    all,
  )

  pub undone_in_time : (key : Key) (buffers : List (Buffer C)) → AllEndInTime limits buffers → AllEndInTime limits (undone key buffers)
  undone_in_time key [] all = tt
  undone_in_time key (buffer ∷ others) all =
      elim (cases_Bool (same_key buffer.key key)) [
        | inl same ↦ rw same (holding_in_time (but_last buffer.kept) buffer others refl all.0 all.1)
        | inr other ↦ rw other (all.0, undone_in_time key others all.1)
      ]

-- nothing is due at once
module _ {C : Type 0} (limits : TableLimits) (now : ℕ) (arrival : Arrival C) where
  abbrev IsLater : Buffer C → Type 0
  IsLater buffer = now < buffer.deadline

  later-with : 1 ≤ limits.hold → 1 ≤ arrival.lifetime → (buffers : List (Buffer C)) → All IsLater buffers → All IsLater (with_kept limits now arrival buffers)
  later-with hold alive [] all = All-cons IsLater _ [] (omega arith) all
  later-with hold alive (buffer ∷ others) all =
      let here = All-head IsLater buffer others all in
      let there = All-tail IsLater buffer others all in
      elim (cases_Bool (same_key buffer.key arrival.key)) [
        | inl same ↦ rw same (All-cons IsLater (record buffer { kept = buffer.kept ++ arrival ∷ [] }) others here there)
        | inr other ↦ rw other (All-cons IsLater buffer (with_kept limits now arrival others) here (later-with hold alive others there))
      ]

  none_due-by : (refused : Option Answer) (before later : List (Buffer C)) → due now before ≡ None → due now later ≡ None → due now (buffers_of refused before later) ≡ None
  none_due-by None before later none none_later = none_later
  none_due-by (Some told) before later none none_later = none

  pub none_due-after : 1 ≤ limits.hold → 1 ≤ arrival.lifetime → (buffers : List (Buffer C)) → due now buffers ≡ None → due now (after limits now arrival buffers) ≡ None
  none_due-after hold alive buffers none =
      none_due-by (refusal limits arrival buffers) buffers (with_kept limits now arrival buffers) none
      (due_of_none now (with_kept limits now arrival buffers) (later-with hold alive buffers (none_due now buffers none)))

module _ {C : Type 0} where
  pub none_due-without : (now : ℕ) (key : Key) (buffers : List (Buffer C)) → due now buffers ≡ None → due now (without key buffers) ≡ None
  none_due-without now key [] none = refl
  none_due-without now key (buffer ∷ others) none =
      let all = none_due now (buffer ∷ others) none in
      let none_there = none_due-without now key others (due_of_none now others (All-tail (λ (b : Buffer C). now < b.deadline) buffer others all)) in
      elim (cases_Bool (same_key buffer.key key)) [
        | inl same ↦ rw same none_there
        | inr other ↦
            rw other
            (due_of_none now (buffer ∷ without key others)
            (All-cons (λ (b : Buffer C). now < b.deadline) buffer (without key others)
            (All-head (λ (b : Buffer C). now < b.deadline) buffer others all) (none_due now (without key others) none_there)))
      ]
