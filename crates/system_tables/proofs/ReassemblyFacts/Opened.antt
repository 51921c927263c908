-- One opening more, and one segment more.
use Rattle.std.proofs.Common.{◌≡◌, ℕ, ◌+◌, ◌<◌, ◌≤◌, ◌==◌, true, false, List, [], ◌∷◌, ◌++◌, Some, slice_get, length, ap, sym, ◌∙◌, refl, zero-add, inl, inr, arith}
use Rattle.std.specs.List.{AllByRecursion}
use Rattle.std.proofs.lemmas.Bool.{cases_Bool, ne_eqb}
use Rattle.std.proofs.lemmas.List.{length_push}
use Rattle.std.proofs.lemmas.List.Sums.{sum_by_push, sum-map}
use Rattle.system_tables.specs.declared.reassembly.segment.Key.{Key}
use Rattle.system_tables.specs.declared.reassembly.segment.Segment.{Segment}
use Rattle.system_tables.specs.declared.reassembly.table.TableLimits.{TableLimits}
use Rattle.system_tables.specs.declared.reassembly.openings.Opening.{Opening}
use Rattle.system_tables.specs.Reassembly.Arrival.{same_key}
use Rattle.system_tables.specs.Reassembly.Kept.{opening_by, openings_with, slots_with}
use Rattle.system_tables.specs.Reassembly.Offered.{MayCome, openings_of, total_size}
use Rattle.system_tables.specs.Reassembly.Sound.{IsSound}
use Rattle.system_tables.specs.Reassembly.State.{TableState}
use Rattle.system_tables.proofs.ReassemblyFacts.Keys.{same_key-true, same_key-like}
use Rattle.system_tables.proofs.ReassemblyFacts.Slots.{openings_of-same, openings_of-other}
use Rattle.pdus.proofs.ClnpBase.Lists.{AllByRecursion-push}

module _ {X : Type 0} where
  pub slice_get_push : (xs : List X) (y : X) → slice_get (xs ++ y ∷ []) (length xs) ≡ Some y
  slice_get_push [] y = refl
  slice_get_push (x ∷ xs) y = slice_get_push xs y

-- an opening more is one more of its key, and none of another
pub openings_of-more : (key : Key) (openings : List Opening) (opening : Opening)
    → openings_of key (openings ++ opening ∷ []) ≡ openings_of key openings + openings_of key (opening ∷ [])
openings_of-more key [] opening = sym (zero-add (openings_of key (opening ∷ [])))
openings_of-more key (first ∷ others) opening =
    let rest = openings_of-more key others opening in
    elim (cases_Bool (same_key first.key key)) [
      | inl same ↦ (let a = openings_of-same key first (others ++ opening ∷ []) same in let b = openings_of-same key first others same in omega arith)
      | inr other ↦ (let a = openings_of-other key first (others ++ opening ∷ []) other in let b = openings_of-other key first others other in omega arith)
    ]

pub openings_of-itself : (openings : List Opening) (opening : Opening) → openings_of opening.key openings ≡ 0
    → openings_of opening.key (openings ++ opening ∷ []) ≡ 1
openings_of-itself openings opening none =
    let more = openings_of-more opening.key openings opening in
    let one = openings_of-same opening.key opening [] (same_key-like opening.key opening.key refl) in
    omega arith

-- where a key has no opening, one for it changes no number of another that has one
still_one : (key : Key) (openings : List Opening) (opening : Opening) → openings_of opening.key openings ≡ 0
    → openings_of key openings ≡ 1 → openings_of key (openings ++ opening ∷ []) ≡ 1
still_one key openings opening none one =
    let more = openings_of-more key openings opening in
    elim (cases_Bool (same_key opening.key key)) [
      | inl same ↦ absurd (let e = ap (λ (k : Key). openings_of k openings) (same_key-true opening.key key same) in omega arith)
      | inr other ↦ (let a = openings_of-other key opening [] other in omega arith)
    ]

all_still_one : {X : Type 0} (key_of : X → Key) (openings : List Opening) (opening : Opening) (xs : List X)
    → openings_of opening.key openings ≡ 0 → AllByRecursion (λ x. openings_of (key_of x) openings ≡ 1) xs
    → AllByRecursion (λ x. openings_of (key_of x) (openings ++ opening ∷ []) ≡ 1) xs
all_still_one key_of openings opening [] none all = tt
all_still_one key_of openings opening (x ∷ xs) none all =
    (still_one (key_of x) openings opening none all.0, all_still_one key_of openings opening xs none all.1)

-- a table with an opening more
pub sound_opened : (limits : TableLimits) (openings : List Opening) (segments : List Segment) (held : ℕ) (opening : Opening)
    → IsSound limits openings segments held → openings_of opening.key openings ≡ 0 → length openings < limits.slots
    → opening.shape.head_len < opening.shape.total → IsSound limits (openings ++ opening ∷ []) segments held
sound_opened limits openings segments held opening sound none room shaped = record {
  distinct = AllByRecursion-push (λ other. openings_of other.key (openings ++ opening ∷ []) ≡ 1) openings opening
      (all_still_one (λ (other : Opening). other.key) openings opening openings none sound.distinct)
      (openings_of-itself openings opening none);
  shaped = AllByRecursion-push (λ other. other.shape.head_len < other.shape.total) openings opening sound.shaped shaped;
  owned = all_still_one (λ (segment : Segment). segment.key) openings opening segments none sound.owned;
  came = sound.came;
  held_is = sound.held_is;
  budget = sound.budget;
  few_segments = sound.few_segments;
  few_openings = (let e = length_push openings opening in omega arith);
  budget_fits = sound.budget_fits;
  segments_fit = sound.segments_fit;
  slots_fit = sound.slots_fit;
}

-- the octets of one segment more
pub total_size-more : (segments : List Segment) (segment : Segment)
    → total_size (segments ++ segment ∷ []) ≡ total_size segments + length segment.pdu.frame
total_size-more segments segment =
    sum-map (λ (s : Segment). length s.pdu.frame) (segments ++ segment ∷ [])
    ∙ (sum_by_push (λ (s : Segment). length s.pdu.frame) segments segment
    ∙ ap (λ n. n + length segment.pdu.frame) (sym (sum-map (λ (s : Segment). length s.pdu.frame) segments)))

-- a table with a segment more, whose key has its opening
pub sound_more : (limits : TableLimits) (openings : List Opening) (segments : List Segment) (held : ℕ) (segment : Segment)
    → IsSound limits openings segments held → openings_of segment.key openings ≡ 1 → MayCome segment
    → held + length segment.pdu.frame ≤ limits.budget → length segments < limits.segments
    → IsSound limits openings (segments ++ segment ∷ []) (held + length segment.pdu.frame)
sound_more limits openings segments held segment sound one may within room = record {
  distinct = sound.distinct;
  shaped = sound.shaped;
  owned = AllByRecursion-push (λ other. openings_of other.key openings ≡ 1) segments segment sound.owned one;
  came = AllByRecursion-push MayCome segments segment sound.came may;
  held_is = (let e = total_size-more segments segment in let h = sound.held_is in omega arith);
  budget = within;
  few_segments = (let e = length_push segments segment in omega arith);
  few_openings = sound.few_openings;
  budget_fits = sound.budget_fits;
  segments_fit = sound.segments_fit;
  slots_fit = sound.slots_fit;
}

-- the openings where a key has one, and where it has none
pub openings_with-none : (limits : TableLimits) (now : ℕ) (segment : Segment) (openings : List Opening) → openings_of segment.key openings ≡ 0
    → openings_with limits now segment openings ≡ openings ++ opening_by limits now segment ∷ []
openings_with-none limits now segment openings none =
    let test : (openings_of segment.key openings == 0) ≡ true = rw none refl in
    rw test refl

pub openings_with-some : (limits : TableLimits) (now : ℕ) (segment : Segment) (openings : List Opening) → 1 ≤ openings_of segment.key openings
    → openings_with limits now segment openings ≡ openings
openings_with-some limits now segment openings some =
    let test : (openings_of segment.key openings == 0) ≡ false = ne_eqb (openings_of segment.key openings) 0 (λ e. omega arith) in
    rw test refl

-- and the slots
pub slots_with-none : (segment : Segment) (slot : ℕ) (table : TableState) → openings_of segment.key table.openings ≡ 0
    → slots_with segment slot table ≡ table.slots ++ slot ∷ []
slots_with-none segment slot table none =
    let test : (openings_of segment.key table.openings == 0) ≡ true = rw none refl in
    rw test refl

pub slots_with-some : (segment : Segment) (slot : ℕ) (table : TableState) → 1 ≤ openings_of segment.key table.openings
    → slots_with segment slot table ≡ table.slots
slots_with-some segment slot table some =
    let test : (openings_of segment.key table.openings == 0) ≡ false = ne_eqb (openings_of segment.key table.openings) 0 (λ e. omega arith) in
    rw test refl
