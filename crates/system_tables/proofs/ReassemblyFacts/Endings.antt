-- The last segment of a key, taken out.
use Rattle.std.proofs.Common.{◌≡◌, ◌∙◌, ap, refl, ℕ, zero, suc, ◌≤◌, inl, inr, true, false, Option, List, [], ◌∷◌, length, drop, arith, Some, None}
use Rattle.std.specs.Prelude.{slice_get, slice_set}
use Rattle.std.proofs.lemmas.Bool.{and_from, and_left, and_right, cases_Bool}
use Rattle.std.proofs.lemmas.Option.{none-some, same_Some}
use Rattle.system_tables.specs.declared.reassembly.segment.Key.{Key}
use Rattle.system_tables.specs.declared.reassembly.segment.Segment.{Segment}
use Rattle.system_tables.specs.Reassembly.Arrival.{same_key}
use Rattle.system_tables.specs.Reassembly.State.{segments_of}
use Rattle.system_tables.specs.Reassembly.Ending.{is_empty, without_last}
use Rattle.system_tables.specs.Reassembly.Entries.{present}
use Rattle.system_tables.proofs.ReassemblyFacts.Entries.{present_counted}

same-empty : (segments : List Segment) → segments ≡ [] → is_empty segments ≡ true
same-empty segments e = ap is_empty e

not_empty : (segments : List Segment) → 1 ≤ length segments → is_empty segments ≡ false
not_empty [] h = absurd (omega arith)
not_empty (segment ∷ others) h = refl

-- the last segment of a key: no later one has the key
pub present-last : (key : Key) (entries : List (Option Segment)) (index : ℕ) (segment : Segment) → slice_get entries index ≡ Some (Some segment)
    → same_key segment.key key ≡ true → segments_of key (present (drop (suc index) entries)) ≡ []
    → present (slice_set entries index None) ≡ without_last key (present entries)
present-last key [] index segment e is none = absurd (none-some (Some segment) e)
present-last key (None ∷ others) zero segment e is none = absurd (none-some segment (same_Some None (Some segment) e))
present-last key (None ∷ others) (suc index) segment e is none = present-last key others index segment e is none
present-last key (Some first ∷ others) zero segment e is none =
    let same : first ≡ segment = same_Some first segment (same_Some (Some first) (Some segment) e) in
    let t : same_key first.key key ≡ true = ap (λ (s : Segment). same_key s.key key) same ∙ is in
    rw (and_from (same_key first.key key) (is_empty (segments_of key (present others))) t (same-empty (segments_of key (present others)) none)) refl
present-last key (Some first ∷ others) (suc index) segment e is none =
    let later = present_counted key others index segment e is in
    rw (and_right (same_key first.key key) (is_empty (segments_of key (present others))) (not_empty (segments_of key (present others)) later))
    (ap (λ (l : List Segment). first ∷ l) (present-last key others index segment e is none))

pub without_last-none : (key : Key) (segments : List Segment) → segments_of key segments ≡ [] → segments ≡ without_last key segments
without_last-none key [] none = refl
without_last-none key (first ∷ others) none =
    elim (cases_Bool (same_key first.key key)) [
      | inl t ↦ let e = ap length (rw t at none) in absurd (omega (arith, e))
      | inr f ↦
          rw (and_left (same_key first.key key) (is_empty (segments_of key others)) f)
          (ap (λ l. first ∷ l) (without_last-none key others (rw f at none)))
    ]
