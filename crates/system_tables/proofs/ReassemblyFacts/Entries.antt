-- The segments that are in entries, where one comes, some are taken out, and the empty entries are closed up.
use Rattle.std.proofs.Common.{◌≡◌, ◌≢◌, ℕ, zero, suc, ◌+◌, ◌≤◌, true, false, List, [], ◌∷◌, ◌++◌, length, Option, None, Some, inl, inr, refl, sym, ap, ◌∙◌, arith}
use Rattle.std.specs.Prelude.{IfSome, drop, filter, is_some, slice_get, slice_set, take}
use Rattle.std.specs.List.{AllByRecursion}
use Rattle.std.proofs.lemmas.Bool.{cases_Bool}
use Rattle.std.proofs.lemmas.List.{length-set}
use Rattle.std.proofs.lemmas.Option.{none-some, same_Some, slice_get_within}
use Rattle.pdus.proofs.ClnpBase.Filters.{counted_at}
use Rattle.pdus.proofs.ClnpBase.Lists.{AllByRecursion-slice_get, slice_get-set, slice_get-set_other}
use Rattle.pdus.proofs.ClnpBase.Sums.{sum_cons}
use Rattle.system_tables.specs.declared.reassembly.segment.Key.{Key}
use Rattle.system_tables.specs.declared.reassembly.segment.Segment.{Segment}
use Rattle.system_tables.specs.Reassembly.Arrival.{same_key}
use Rattle.system_tables.specs.Reassembly.Ending.{others_of}
use Rattle.system_tables.specs.Reassembly.Entries.{emptied_at, emptied_of, full, is_entry_of, present, without_key}
use Rattle.system_tables.specs.Reassembly.Offered.{total_size}
use Rattle.system_tables.specs.Reassembly.State.{segments_of}

pub present-append : (xs ys : List (Option Segment)) → present (xs ++ ys) ≡ present xs ++ present ys
present-append [] ys = refl
present-append (None ∷ xs) ys = present-append xs ys
present-append (Some segment ∷ xs) ys = ap (λ (l : List Segment). segment ∷ l) (present-append xs ys)

pub length-present : (entries : List (Option Segment)) → length (present entries) ≤ length entries
length-present [] = omega arith
length-present (None ∷ others) = let rest = length-present others in omega (arith, rest)
length-present (Some segment ∷ others) = let rest = length-present others in omega (arith, rest)

pub present-full : (segments : List Segment) → present (full segments) ≡ segments
present-full [] = refl
present-full (segment ∷ others) = ap (λ (l : List Segment). segment ∷ l) (present-full others)

pub filter-full : (entries : List (Option Segment)) → filter (λ entry. is_some entry) entries ≡ full (present entries)
filter-full [] = refl
filter-full (None ∷ others) = filter-full others
filter-full (Some segment ∷ others) = ap (λ (l : List (Option Segment)). Some segment ∷ l) (filter-full others)

-- ---- the segment at an index

pub present_at : (entries : List (Option Segment)) (index : ℕ) (segment : Segment) → slice_get entries index ≡ Some (Some segment)
    → (place : ℕ) × (slice_get (present entries) place ≡ Some segment)
present_at [] index segment e = absurd (none-some (Some segment) e)
present_at (None ∷ others) zero segment e = absurd (none-some segment (same_Some None (Some segment) e))
present_at (None ∷ others) (suc index) segment e = present_at others index segment e
present_at (Some first ∷ others) zero segment e = (0, same_Some (Some first) (Some segment) e)
present_at (Some first ∷ others) (suc index) segment e = let rest = present_at others index segment e in (suc rest.0, rest.1)

pub present_counted : (key : Key) (entries : List (Option Segment)) (index : ℕ) (segment : Segment) → slice_get entries index ≡ Some (Some segment)
    → same_key segment.key key ≡ true → 1 ≤ length (segments_of key (present entries))
present_counted key entries index segment e same =
    let there = present_at entries index segment e in
    counted_at (λ (s : Segment). same_key s.key key) (present entries) there.0 segment there.1 same

pub each_present : (P : Segment → Type 0) (entries : List (Option Segment))
    → ((index : ℕ) (segment : Segment) → slice_get entries index ≡ Some (Some segment) → P segment) → AllByRecursion P (present entries)
each_present P [] h = tt
each_present P (None ∷ others) h = each_present P others (λ index segment e. h (suc index) segment e)
each_present P (Some first ∷ others) h = (h 0 first refl, each_present P others (λ index segment e. h (suc index) segment e))

-- what is left once it is taken out
pub taken_size : (entries : List (Option Segment)) (index : ℕ) (segment : Segment) → slice_get entries index ≡ Some (Some segment)
    → total_size (present entries) ≡ total_size (present (slice_set entries index None)) + length segment.pdu.frame
taken_size [] index segment e = absurd (none-some (Some segment) e)
taken_size (None ∷ others) zero segment e = absurd (none-some segment (same_Some None (Some segment) e))
taken_size (None ∷ others) (suc index) segment e = taken_size others index segment e
taken_size (Some first ∷ others) zero segment e =
    let is : first ≡ segment = same_Some first segment (same_Some (Some first) (Some segment) e) in
    let size = sum_cons (λ (s : Segment). length s.pdu.frame) first (present others) in
    let same = ap (λ (s : Segment). length s.pdu.frame) is in
    omega (arith, size, same)
taken_size (Some first ∷ others) (suc index) segment e =
    let rest = taken_size others index segment e in
    let before = sum_cons (λ (s : Segment). length s.pdu.frame) first (present others) in
    let after = sum_cons (λ (s : Segment). length s.pdu.frame) first (present (slice_set others index None)) in
    omega (arith, rest, before, after)

pub taken_number : (entries : List (Option Segment)) (index : ℕ) (segment : Segment) → slice_get entries index ≡ Some (Some segment)
    → length (present entries) ≡ length (present (slice_set entries index None)) + 1
taken_number [] index segment e = absurd (none-some (Some segment) e)
taken_number (None ∷ others) zero segment e = absurd (none-some segment (same_Some None (Some segment) e))
taken_number (None ∷ others) (suc index) segment e = taken_number others index segment e
taken_number (Some first ∷ others) zero segment e = omega arith
taken_number (Some first ∷ others) (suc index) segment e = let rest = taken_number others index segment e in omega (arith, rest)

-- where no segment of a key is behind an entry, and it has none
pub none_further : (key : Key) (entries : List (Option Segment)) (index : ℕ) (entry : Option Segment) → slice_get entries index ≡ Some entry
    → is_entry_of key entry ≡ false → segments_of key (present (drop (suc index) entries)) ≡ [] → segments_of key (present (drop index entries)) ≡ []
none_further key [] index entry e f none = absurd (none-some entry e)
none_further key (None ∷ others) zero entry e f none = none
none_further key (Some first ∷ others) zero entry e f none =
    let other : same_key first.key key ≡ false = ap (is_entry_of key) (same_Some (Some first) entry e) ∙ f in
    rw other none
none_further key (first ∷ others) (suc index) entry e f none = none_further key others index entry e f none

-- ---- the segments of a key are taken out

pub present-emptied : (key : Key) (entries : List (Option Segment)) → present (emptied_of key entries) ≡ others_of key (present entries)
present-emptied key [] = refl
present-emptied key (None ∷ others) = present-emptied key others
present-emptied key (Some first ∷ others) =
    elim (cases_Bool (same_key first.key key)) [
      | inl t ↦ rw t (present-emptied key others)
      | inr f ↦ rw f (ap (λ (l : List Segment). first ∷ l) (present-emptied key others))
    ]

pub emptied-set : (key : Key) (entries : List (Option Segment)) (index : ℕ) (entry : Option Segment) → slice_get entries index ≡ Some entry
    → without_key key entry ≡ None → emptied_of key (slice_set entries index None) ≡ emptied_of key entries
emptied-set key [] index entry e is = absurd (none-some entry e)
emptied-set key (first ∷ others) zero entry e is =
    let here : without_key key first ≡ None = ap (without_key key) (same_Some first entry e) ∙ is in
    ap (λ (x : Option Segment). x ∷ emptied_of key others) (sym here)
emptied-set key (first ∷ others) (suc index) entry e is =
    ap (λ (l : List (Option Segment)). without_key key first ∷ l) (emptied-set key others index entry e is)

pub none_to_empty : (key : Key) (entries : List (Option Segment))
    → ((index : ℕ) (segment : Segment) → slice_get entries index ≡ Some (Some segment) → same_key segment.key key ≡ true → ⊥)
    → entries ≡ emptied_of key entries
none_to_empty key [] never = refl
none_to_empty key (None ∷ others) never =
    ap (λ (l : List (Option Segment)). None ∷ l) (none_to_empty key others (λ index segment e. never (suc index) segment e))
none_to_empty key (Some first ∷ others) never =
    elim (cases_Bool (same_key first.key key)) [
      | inl t ↦ absurd (never 0 first refl t)
      | inr f ↦ rw f (ap (λ (l : List (Option Segment)). Some first ∷ l)
          (none_to_empty key others (λ index segment e. never (suc index) segment e)))
    ]

-- an entry that has a segment once those of a key are taken out had it before, and it isn't of the key
pub still_there : (key : Key) (entry : Option Segment) (segment : Segment) → without_key key entry ≡ Some segment
    → (entry ≡ Some segment) × (same_key segment.key key ≡ false)
still_there key None segment e = absurd (none-some segment e)
still_there key (Some first) segment e =
    elim (cases_Bool (same_key first.key key)) [
      | inl t ↦ absurd (none-some segment (rw t at e))
      | inr f ↦
          let same : first ≡ segment = same_Some first segment (rw f at e) in
          (ap (λ (s : Segment). Some s) same, ap (λ (s : Segment). same_key s.key key) (sym same) ∙ f)
    ]

-- what is there once the segment at an index is taken out stands elsewhere, and was there
pub left_there : (entries : List (Option Segment)) (taken index : ℕ) (segment : Segment)
    → slice_get (slice_set entries taken None) index ≡ Some (Some segment) → (taken ≢ index) × (slice_get entries index ≡ Some (Some segment))
left_there entries taken index segment at =
    let within = slice_get_within (slice_set entries taken None) index (Some segment) at in
    let long = length-set entries taken None in
    let apart : taken ≢ index = λ same.
    let gone : slice_get (slice_set entries taken None) index ≡ Some None =
    ap (slice_get (slice_set entries taken None)) (sym same) ∙ slice_get-set entries taken None (omega (arith, within, long, same)) in
    none-some segment (same_Some None (Some segment) (sym gone ∙ at)) in
    (apart, sym (slice_get-set_other entries taken index None apart) ∙ at)

-- an entry of a key has a segment of it
pub has_segment : (key : Key) (entry : Option Segment) → is_entry_of key entry ≡ true
    → (segment : Segment) × (entry ≡ Some segment) × (same_key segment.key key ≡ true)
has_segment key None e = absurd (cc)
has_segment key (Some segment) e = (segment, refl, e)

-- ---- a part of the entries

pub all_taken : (P : Segment → Type 0) (entries : List (Option Segment)) (n : ℕ) → AllByRecursion P (present entries) → AllByRecursion P (present (take n entries))
all_taken P [] zero all = all
all_taken P [] (suc n) all = all
all_taken P (first ∷ others) zero all = tt
all_taken P (None ∷ others) (suc n) all = all_taken P others n all
all_taken P (Some first ∷ others) (suc n) all = (all.0, all_taken P others n all.1)

pub fewer_taken : (entries : List (Option Segment)) (index : ℕ) (segment : Segment) → slice_get entries index ≡ Some (Some segment)
    → length (present (take index entries)) + 1 ≤ length (present entries)
fewer_taken [] index segment e = absurd (none-some (Some segment) e)
fewer_taken (None ∷ others) zero segment e = absurd (none-some segment (same_Some None (Some segment) e))
fewer_taken (None ∷ others) (suc index) segment e = fewer_taken others index segment e
fewer_taken (Some first ∷ others) zero segment e = omega arith
fewer_taken (Some first ∷ others) (suc index) segment e = let rest = fewer_taken others index segment e in omega (arith, rest)

pub if_there : (P : Segment → Type 0) (entries : List (Option Segment)) (index : ℕ) (entry : Option Segment) → slice_get entries index ≡ Some entry
    → AllByRecursion P (present entries) → IfSome entry P
if_there P entries index None e all = tt
if_there P entries index (Some segment) e all =
    let there = present_at entries index segment e in
    AllByRecursion-slice_get P (present entries) there.0 segment there.1 all

pub length-emptied : (by : Option ℕ) (entries : List (Option Segment)) → length (emptied_at by entries) ≡ length entries
length-emptied None entries = refl
length-emptied (Some taken) entries = length-set entries taken None

-- where an entry has a segment, fewer are before it
pub fewer_if : (entries : List (Option Segment)) (index : ℕ) (entry : Option Segment) → slice_get entries index ≡ Some entry
    → (P : Type 0) → (length (present (take index entries)) + 1 ≤ length (present entries) → P) → IfSome entry (λ segment. P)
fewer_if entries index None e P then = tt
fewer_if entries index (Some segment) e P then = then (fewer_taken entries index segment e)
