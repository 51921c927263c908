-- The buffers that a table stands for, where the last segment of one is taken out again.
use Rattle.std.proofs.Common.{◌≡◌, ◌≢◌, ◌∙◌, sym, ap, subst, refl, ℕ, ◌≤◌, inl, inr, true, false, List, [], ◌∷◌, ◌++◌, length, map, arith}
use Rattle.std.specs.Prelude.{filter}
use Rattle.std.specs.List.{AllByRecursion}
use Rattle.std.proofs.lemmas.Bool.{cases_Bool}
use Rattle.pdus.specs.ClnpViews.Extent.{Extent}
use Rattle.system_tables.specs.declared.reassembly.segment.Key.{Key}
use Rattle.system_tables.specs.declared.reassembly.segment.Segment.{Segment}
use Rattle.system_tables.specs.declared.reassembly.openings.Opening.{Opening}
use Rattle.system_tables.specs.declared.reassembly.table.TableLimits.{TableLimits}
use Rattle.system_tables.specs.Reassembly.Arrival.{Arrival, arrival_of, same_key}
use Rattle.system_tables.specs.Reassembly.Buffer.{Buffer, but_last, holding, undone, without}
use Rattle.system_tables.specs.Reassembly.Offered.{MayCome, openings_of, total_size}
use Rattle.system_tables.specs.Reassembly.Sound.{IsSound}
use Rattle.system_tables.specs.Reassembly.State.{TableState, KeepsSegments, Stands, opening_of, segments_of}
use Rattle.system_tables.specs.Reassembly.Ending.{without_last}
use Rattle.pdus.proofs.ClnpBase.Filters.{AllByRecursion-none, filter_not-none}
use Rattle.pdus.proofs.ClnpBase.Lists.{AllByRecursion-implies}
use Rattle.system_tables.proofs.ReassemblyFacts.Keys.{same_key-true, same_key-false_sym}
use Rattle.system_tables.proofs.ReassemblyFacts.Undoing.{All-without_last, length-without_last, others-without_last, segments_of-without_last, size-without_last}

pub sound_undone : (key : Key) (limits : TableLimits) (openings : List Opening) (segments : List Segment) (held : ℕ) → IsSound limits openings segments held
    → IsSound limits openings (without_last key segments) (total_size (without_last key segments))
sound_undone key limits openings segments held h = record {
  distinct = h.distinct;
  shaped = h.shaped;
  owned = All-without_last key (λ s. openings_of s.key openings ≡ 1) segments h.owned;
  came = All-without_last key MayCome segments h.came;
  held_is = refl;
  budget = omega (arith, size-without_last key segments, h.held_is, h.budget);
  few_segments = omega (arith, length-without_last key segments, h.few_segments);
  few_openings = h.few_openings;
  budget_fits = h.budget_fits;
  segments_fit = h.segments_fit;
  slots_fit = h.slots_fit;
}

-- only the buffer of the key may change, and how it does
abbrev LeavesBut : Key → List (Arrival Extent) → Buffer Extent → Type 0
LeavesBut key left buffer = same_key buffer.key key ≡ true → but_last buffer.kept ≡ left

-- where no segment of the key is left, its buffer is taken out
undone-none : (key : Key) (buffers : List (Buffer Extent)) → length (filter (λ b. same_key b.key key) buffers) ≤ 1
    → AllByRecursion (LeavesBut key []) buffers → undone key buffers ≡ without key buffers
undone-none key [] once left = refl
undone-none key (first ∷ others) once left =
    elim (cases_Bool (same_key first.key key)) [
      | inl t ↦
          let e : length (filter (λ b. same_key b.key key) others) ≡ 0 = let k = rw t at once in omega (arith, k) in
          rw t (ap (λ l. holding l first ++ others) (left.0 t) ∙ sym (filter_not-none (λ b. same_key b.key key) others e))
      | inr f ↦ rw f (ap (λ l. first ∷ l) (undone-none key others (rw f at once) left.1))
    ]

openings-holding : (kept : List (Arrival Extent)) (buffer : Buffer Extent) (others : List (Buffer Extent)) → 1 ≤ length kept
    → map opening_of (holding kept buffer ++ others) ≡ map opening_of (buffer ∷ others)
openings-holding [] buffer others more = absurd (omega arith)
openings-holding (arrival ∷ kept) buffer others more = refl

-- where segments of the key are left, the openings are as they were
openings-undone : (key : Key) (left : List (Arrival Extent)) (buffers : List (Buffer Extent)) → 1 ≤ length left
    → AllByRecursion (LeavesBut key left) buffers → map opening_of (undone key buffers) ≡ map opening_of buffers
openings-undone key left [] more h = refl
openings-undone key left (first ∷ others) more h =
    elim (cases_Bool (same_key first.key key)) [
      | inl t ↦ rw t (openings-holding (but_last first.kept) first others (omega (arith, ap length (h.0 t))))
      | inr f ↦ rw f (ap (λ l. opening_of first ∷ l) (openings-undone key left others more h.1))
    ]

some_left : (segments : List Segment) → segments ≢ [] → 1 ≤ length (map arrival_of segments)
some_left [] h = absurd (h refl)
some_left (segment ∷ others) h = omega arith

keep-holding : (table : TableState) (kept : List (Arrival Extent)) (buffer : Buffer Extent) (others : List (Buffer Extent))
    → kept ≡ map arrival_of (segments_of buffer.key table.segments) → AllByRecursion (KeepsSegments table) others
    → AllByRecursion (KeepsSegments table) (holding kept buffer ++ others)
keep-holding table [] buffer others e h = h
keep-holding table (arrival ∷ kept) buffer others e h = (e, h)

module _ (key : Key) (limits : TableLimits) (segments : List Segment) (openings after : List Opening) (slots left_slots : List ℕ) where
  abbrev old : TableState
  old = record { limits = limits; openings = openings; slots = slots; segments = segments }

  abbrev new : TableState
  new = record { limits = limits; openings = after; slots = left_slots; segments = without_last key segments }

  keep-others : (buffer : Buffer Extent) → same_key buffer.key key ≡ false → KeepsSegments old buffer → KeepsSegments new buffer
  keep-others buffer f k =
      k ∙ ap (map arrival_of) (sym (others-without_last key buffer.key (same_key-false_sym buffer.key key f) segments))

  all_others : (buffers : List (Buffer Extent)) → AllByRecursion (λ b. same_key b.key key ≡ false) buffers → AllByRecursion (KeepsSegments old) buffers
      → AllByRecursion (KeepsSegments new) buffers
  all_others [] f h = h
  all_others (first ∷ others) f h = (keep-others first f.0 h.0, all_others others f.1 h.1)

  -- the segments of each buffer after it
  pub keep-undone : (buffers : List (Buffer Extent)) → length (filter (λ b. same_key b.key key) buffers) ≤ 1
      → AllByRecursion (KeepsSegments old) buffers → AllByRecursion (KeepsSegments new) (undone key buffers)
  keep-undone [] once h = h
  keep-undone (first ∷ others) once h =
      elim (cases_Bool (same_key first.key key)) [
        | inl t ↦
            let none : length (filter (λ b. same_key b.key key) others) ≡ 0 = let k = rw t at once in omega (arith, k) in
            let same = same_key-true first.key key t in
            let kept : but_last first.kept ≡ map arrival_of (segments_of first.key (without_last key segments)) =
            ap but_last h.0 ∙ ap (λ k. but_last (map arrival_of (segments_of k segments))) same
            ∙ sym (segments_of-without_last key segments) ∙ ap (λ k. map arrival_of (segments_of k (without_last key segments))) (sym same) in
            rw t (keep-holding new (but_last first.kept) first others kept (all_others others (AllByRecursion-none (λ b. same_key b.key key) others none) h.1))
        | inr f ↦ rw f (keep-others first f h.0, keep-undone others (rw f at once) h.1)
      ]

  abbrev left : List (Arrival Extent)
  left = map arrival_of (segments_of key (without_last key segments))

  leaves-but : (buffers : List (Buffer Extent)) → AllByRecursion (KeepsSegments old) buffers → AllByRecursion (LeavesBut key left) buffers
  leaves-but buffers h =
      AllByRecursion-implies (KeepsSegments old) (LeavesBut key left)
      (λ b k t. ap but_last k ∙ ap (λ k. but_last (map arrival_of (segments_of k segments))) (same_key-true b.key key t) ∙ sym (segments_of-without_last key segments))
      buffers h

  module _ (buffers : List (Buffer Extent)) (once : length (filter (λ b. same_key b.key key) buffers) ≡ 1) (stands : Stands old buffers) where
    -- segments of the key are left
    pub stands_undone : segments_of key (without_last key segments) ≢ [] → after ≡ openings → Stands new (undone key buffers)
    stands_undone more same = record {
      openings = same ∙ stands.openings ∙ sym (openings-undone key left buffers (some_left (segments_of key (without_last key segments)) more) (leaves-but buffers stands.segments));
      segments = keep-undone buffers (omega arith) stands.segments;
    }

    -- none is left
    pub undone_is_without : segments_of key (without_last key segments) ≡ [] → undone key buffers ≡ without key buffers
    undone_is_without none =
        undone-none key buffers (omega arith)
        (subst (λ l. AllByRecursion (LeavesBut key (map arrival_of l)) buffers) none (leaves-but buffers stands.segments))
