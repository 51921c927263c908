-- Where the segments that fill a unit's runs are taken out, all of its key are.
use Rattle.std.proofs.Common.{◌≡◌, ℕ, zero, suc, ◌+◌, ◌<◌, ◌≤◌, ◌==◌, ◌&&◌, ◌||◌, nat_le, nat_lt, Bool, true, false, cond, List, [], ◌∷◌, length, drop, get_or, Option, None, Some, inl, inr, refl, sym, ap, ◌∙◌, arith}
use Rattle.std.specs.Prelude.{slice_get, slice_set}
use Rattle.std.specs.List.{AllByRecursion, find, list_any}
use Rattle.std.specs.Option.{option_map}
use Rattle.std.proofs.lemmas.Bool.{and_from, and_left, and_parts, cases_Bool, cases_eq, eq-eqb, le-leb, lt-leb, lt-ltb, ne_eqb}
use Rattle.std.proofs.lemmas.Option.{get_or_from_slice_get, none-some, slice_get_within}
use Rattle.pdus.proofs.ClnpBase.Filters.{find-no_position, find-position}
use Rattle.pdus.proofs.ClnpBase.Found.{is_first}
use Rattle.pdus.proofs.ClnpBase.Lists.{AllByRecursion-implies, slice_get_some, slice_get-set, slice_get-set_other}
use Rattle.system_tables.specs.declared.reassembly.runs.Run.{Run}
use Rattle.system_tables.specs.declared.reassembly.segment.Key.{Key}
use Rattle.system_tables.specs.declared.reassembly.segment.Segment.{Segment}
use Rattle.system_tables.specs.declared.reassembly.openings.Opening.{Opening}
use Rattle.system_tables.specs.Reassembly.Arrival.{arrival_of, data_len, has, same_key}
use Rattle.system_tables.specs.Reassembly.Ending.{first_pdu, is_start_of}
use Rattle.system_tables.specs.Reassembly.Entries.{IsWithin, emptied_at, emptied_of, inside, present, segment_by, without_key}
use Rattle.system_tables.specs.Reassembly.Index.{AreRunsOf, emptied_by, entry_gives, giver}
use Rattle.system_tables.specs.Reassembly.Runs.{AreJoined, filler, first_by, has_place}
use Rattle.system_tables.proofs.ReassemblyFacts.Entries.{each_present, emptied-set, left_there, none_to_empty}
use Rattle.system_tables.proofs.ReassemblyFacts.Filling.{have_from, joined_order, not_behind}
use Rattle.system_tables.proofs.ReassemblyFacts.Givers.{find-present}
use Rattle.system_tables.proofs.ReassemblyFacts.Run.{does_give, gives}

-- ---- each run is filled by a segment of the key

-- what has an index, if there is one, is a segment of the key, or is taken out already
abbrev Empties : Key → List (Option Segment) → Option ℕ → Type 0
Empties key entries None = Unit {0}
Empties key entries (Some index) = (entry : Option Segment) × (slice_get entries index ≡ Some entry) × (without_key key entry ≡ None)

given_of : (key : Key) (place : ℕ) (entry : Option Segment) → entry_gives key place entry ≡ true → without_key key entry ≡ None
given_of key place None e = refl
given_of key place (Some segment) e = rw (and_parts (same_key segment.key key) (has place (arrival_of segment)) e).0 refl

giver_empties : (key : Key) (entries : List (Option Segment)) (place : ℕ) (by : Option ℕ) → by ≡ giver key place entries → Empties key entries by
giver_empties key entries place None e = tt
giver_empties key entries place (Some index) e =
    let first = is_first (entry_gives key place) index entries (sym e) in
    let there = slice_get_some entries index first.within in
    (there.0, there.1, given_of key place there.0 (first.passes there.0 (sym (get_or_from_slice_get entries index there.0 there.0 there.1))))

runs_empty : (key : Key) (entries : List (Option Segment)) (low high : ℕ) (runs : List Run) → AreJoined low high runs
    → ((place : ℕ) → low ≤ place → place < high → filler place runs ≡ giver key place entries)
    → AllByRecursion (λ (run : Run). Empties key entries run.by) runs
runs_empty key entries low high [] joined fills = tt
runs_empty key entries low high (run ∷ others) joined fills =
    let order = joined_order run.to high others joined.1.1 in
    let has = have_from low run (omega (arith, joined.0)) (omega (arith, joined.0, joined.1.0)) in
    let here : run.by ≡ giver key low entries = rw has at (fills low (omega arith) (omega (arith, joined.0, joined.1.0, order))) in (
      giver_empties key entries low run.by here,
      runs_empty key entries run.to high others joined.1.1
          (λ place least most. rw (not_behind place run least) at (fills place (omega (arith, least, joined.0, joined.1.0)) most)),
    )

empties_within : (key : Key) (entries : List (Option Segment)) (by : Option ℕ) → Empties key entries by → IsWithin (length entries) by
empties_within key entries None h = tt
empties_within key entries (Some index) h = slice_get_within entries index h.0 h.1

-- once one is taken out
still_empties : (key : Key) (entries : List (Option Segment)) (by taken : Option ℕ) → Empties key entries by → Empties key (emptied_at taken entries) by
still_empties key entries None taken h = tt
still_empties key entries (Some index) None h = h
still_empties key entries (Some index) (Some taken) h =
    elim (cases_eq taken index) [
      | inl same ↦ (
        None,
        ap (slice_get (slice_set entries taken None)) (sym same) ∙ slice_get-set entries taken None (omega (arith, same, slice_get_within entries index h.0 h.1)),
        refl,
      )
      | inr other ↦ (h.0, slice_get-set_other entries taken index None other ∙ h.1, h.2)
    ]

-- ---- each segment of the key fills a run

-- whether an index is this one
abbrev is_index : ℕ → Option ℕ → Bool
is_index index None = false
is_index index (Some by) = by == index

abbrev pub fills_any : ℕ → List Run → Bool
fills_any index runs = list_any (λ (run : Run). is_index index run.by) runs

filler_any : (place index : ℕ) (runs : List Run) → filler place runs ≡ Some index → fills_any index runs ≡ true
filler_any place index [] e = absurd (none-some index e)
filler_any place index (run ∷ others) e =
    elim (cases_Bool (has_place place run)) [
      | inl t ↦
          let by : run.by ≡ Some index = rw t at e in
          let here : is_index index run.by ≡ true = ap (is_index index) by ∙ eq-eqb index index refl in
          rw here refl
      | inr f ↦ or_right (is_index index run.by) (fills_any index others) (filler_any place index others (rw f at e))
    ]
  where
    or_right : (b c : Bool) → c ≡ true → (b || c) ≡ true
    or_right true c e = refl
    or_right false c e = e

-- an index that is left fills one of the other runs
left_any : (entries : List (Option Segment)) (index : ℕ) (by : Option ℕ) (segment : Segment) (rest : Bool)
    → slice_get (emptied_at by entries) index ≡ Some (Some segment)
    → (slice_get entries index ≡ Some (Some segment) → (is_index index by || rest) ≡ true) → rest ≡ true
left_any entries index None segment rest at each = each at
left_any entries index (Some taken) segment rest at each =
    let left = left_there entries taken index segment at in
    rw (ne_eqb taken index left.0) at (each left.1)

same_left : (key : Key) (entries : List (Option Segment)) (by : Option ℕ) → Empties key entries by
    → emptied_of key (emptied_at by entries) ≡ emptied_of key entries
same_left key entries None h = refl
same_left key entries (Some taken) h = emptied-set key entries taken h.0 h.1 h.2

-- the segments that fill runs are those of a key
emptied_is : (key : Key) (runs : List Run) (entries : List (Option Segment)) → AllByRecursion (λ (run : Run). Empties key entries run.by) runs
    → ((index : ℕ) (segment : Segment) → slice_get entries index ≡ Some (Some segment) → same_key segment.key key ≡ true → fills_any index runs ≡ true)
    → emptied_by runs entries ≡ emptied_of key entries
emptied_is key [] entries all each =
    none_to_empty key entries (λ index segment at mine. let f : false ≡ true = each index segment at mine in cc)
emptied_is key (run ∷ others) entries all each =
    emptied_is key others (emptied_at run.by entries)
    (AllByRecursion-implies (λ (r : Run). Empties key entries r.by) (λ (r : Run). Empties key (emptied_at run.by entries) r.by)
    (λ r h. still_empties key entries r.by run.by h) others all.1)
    (λ index segment at mine. left_any entries index run.by segment (fills_any index others) at (λ before. each index segment before mine))
    ∙ same_left key entries run.by all.0

-- ---- the segment at the beginning of a unit

first_filler : (low high : ℕ) (runs : List Run) → AreJoined low high runs → low < high → first_by runs ≡ filler low runs
first_filler low high [] joined some = absurd (omega (arith, joined, some))
first_filler low high (run ∷ others) joined some =
    let has = have_from low run (omega (arith, joined.0)) (omega (arith, joined.0, joined.1.0)) in
    sym (rw has refl)

given_is : (key : Key) (place : ℕ) (entries : List (Option Segment)) (by : Option ℕ) → giver key place entries ≡ by
    → segment_by by entries ≡ inside (find (entry_gives key place) entries)
given_is key place entries None e = sym (ap inside (find-no_position (entry_gives key place) 0 entries e))
given_is key place entries (Some index) e =
    let found = find-position (entry_gives key place) 0 entries index e in
    let same : found.0 ≡ index = omega (arith, found.2) in
    ap inside (ap (slice_get entries) (sym same) ∙ found.3) ∙ sym (ap inside found.4)

find_same : (p q : Segment → Bool) (segments : List Segment) → AllByRecursion (λ (s : Segment). p s ≡ q s) segments → find p segments ≡ find q segments
find_same p q [] h = refl
find_same p q (first ∷ others) h =
    ap (λ (b : Bool). cond b (Some first) (find p others)) h.0 ∙ ap (λ (o : Option Segment). cond (q first) (Some first) o) (find_same p q others h.1)

-- a segment with an octet has the first place exactly where it begins its unit
begins : (offset len : ℕ) → 0 < len → (nat_le offset 0 && nat_lt 0 (offset + len)) ≡ (offset == 0)
begins offset len some =
    elim (cases_eq offset 0) [
      | inl zero_is ↦
          and_from (nat_le offset 0) (nat_lt 0 (offset + len)) (le-leb offset 0 (omega (arith, zero_is))) (lt-ltb 0 (offset + len) (omega (arith, some)))
          ∙ sym (eq-eqb offset 0 zero_is)
      | inr other ↦
          and_left (nat_le offset 0) (nat_lt 0 (offset + len)) (lt-leb offset 0 (omega (arith, other))) ∙ sym (ne_eqb offset 0 other)
    ]

begins_where : (key : Key) (segment : Segment) → (same_key segment.key key ≡ true → 0 < (arrival_of segment).len) → gives key 0 segment ≡ is_start_of key segment
begins_where key segment some =
    elim (cases_Bool (same_key segment.key key)) [
      | inl t ↦ rw t (begins segment.offset (arrival_of segment).len (some t))
      | inr f ↦ rw f refl
    ]

-- ---- the runs of an opening

module _ (entries : List (Option Segment)) (opening : Opening) (runs : List Run) (are : AreRunsOf entries opening runs) where
  all_empty : AllByRecursion (λ (run : Run). Empties opening.key entries run.by) runs
  all_empty =
      runs_empty opening.key entries 0 (data_len opening.shape) runs are.joined (λ place least most. are.filled place most)

  pub by_within : AllByRecursion (λ (run : Run). IsWithin (length entries) run.by) runs
  by_within =
      AllByRecursion-implies (λ (run : Run). Empties opening.key entries run.by) (λ (run : Run). IsWithin (length entries) run.by)
      (λ run h. empties_within opening.key entries run.by h) runs all_empty

  pub emptied_runs : emptied_by runs entries ≡ emptied_of opening.key entries
  emptied_runs =
      emptied_is opening.key runs entries all_empty
      (λ index segment at mine.
      let place = are.each index segment at mine in
      filler_any place.0 index runs (are.filled place.0 place.1 ∙ place.2))

  has_octet : (index : ℕ) (segment : Segment) → slice_get entries index ≡ Some (Some segment) → same_key segment.key opening.key ≡ true
      → 0 < (arrival_of segment).len
  has_octet index segment at mine =
      let place = are.each index segment at mine in
      let read = sym (get_or_from_slice_get entries index (Some segment) (Some segment) at) in
      let given = does_give opening.key place.0 segment ((is_first (entry_gives opening.key place.0) index entries place.2).passes (Some segment) read) in
      omega (arith, given.from, given.to)

  pub first_is : 0 < data_len opening.shape
      → option_map (λ segment. segment.pdu) (segment_by (first_by runs) entries) ≡ first_pdu opening.key (present entries)
  first_is some =
      let by : first_by runs ≡ giver opening.key 0 entries = first_filler 0 (data_len opening.shape) runs are.joined some ∙ are.filled 0 some in
      let same = each_present (λ (s : Segment). gives opening.key 0 s ≡ is_start_of opening.key s) entries
      (λ index segment at. begins_where opening.key segment (has_octet index segment at)) in
      ap (λ (o : Option Segment). option_map (λ segment. segment.pdu) o)
      (ap (λ (o : Option ℕ). segment_by o entries) by
      ∙ given_is opening.key 0 entries (giver opening.key 0 entries) refl
      ∙ sym (find-present opening.key 0 entries)
      ∙ find_same (gives opening.key 0) (is_start_of opening.key) (present entries) same)

-- what some runs take out, one run after the other
pub emptied-rest : (runs : List Run) (i : ℕ) (d : Run) (entries : List (Option Segment)) → i < length runs
    → emptied_by (drop i runs) entries ≡ emptied_by (drop (suc i) runs) (emptied_at (get_or runs i d).by entries)
emptied-rest [] i d entries within = absurd (omega (arith, within))
emptied-rest (first ∷ others) zero d entries within = refl
emptied-rest (first ∷ others) (suc i) d entries within = emptied-rest others i d entries (omega (arith, within))

pub emptied-none : (runs : List Run) (i : ℕ) (entries : List (Option Segment)) → length runs ≤ i → emptied_by (drop i runs) entries ≡ entries
emptied-none [] zero entries end = refl
emptied-none [] (suc i) entries end = refl
emptied-none (first ∷ others) zero entries end = absurd (omega (arith, end))
emptied-none (first ∷ others) (suc i) entries end = emptied-none others i entries (omega (arith, end))
