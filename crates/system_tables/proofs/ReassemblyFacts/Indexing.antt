-- The runs of a table's openings, where openings and segments come and go.
use Rattle.std.proofs.Common.{◌≡◌, ◌≢◌, ◌⊎◌, ℕ, zero, suc, ◌+◌, ◌-◌, ◌*◌, ◌<◌, ◌≤◌, ◌==◌, ◌&&◌, not, nat_le, nat_lt, Bool, true, false, cond, List, [], ◌∷◌, ◌++◌, length, map, sum, take, Option, None, Some, inl, inr, refl, sym, ap, subst, ◌∙◌, arith, zero-add}
use Rattle.std.specs.Prelude.{◌^◌, is_none, is_some, slice_get, slice_set}
use Rattle.std.specs.List.{AllByRecursion, list_any, remove}
use Rattle.std.proofs.lemmas.List.Edits.{length-remove}
use Rattle.std.proofs.lemmas.Bool.{and_from, both_ways, cases_Bool, cases_eq, eq-eqb, le-leb, lt-ltb, ne_eqb}
use Rattle.std.proofs.lemmas.List.{append-nil, length-map, length-set, length_push}
use Rattle.std.proofs.lemmas.Option.{get_or_from_slice_get, same_Some, slice_get_within, none-some}
use Rattle.pdus.proofs.ClnpBase.Choices.{no_value}
use Rattle.pdus.proofs.ClnpBase.Found.{is_first}
use Rattle.pdus.proofs.ClnpBase.Lists.{AllByRecursion-from_places, AllByRecursion-slice_get, slice_get_some, slice_get-push, slice_get-push_other, slice_get-set, slice_get-set_other}
use Rattle.system_tables.specs.declared.reassembly.runs.Run.{Run}
use Rattle.system_tables.specs.declared.reassembly.segment.Key.{Key}
use Rattle.system_tables.specs.declared.reassembly.segment.Segment.{Segment}
use Rattle.system_tables.specs.declared.reassembly.openings.Opening.{Opening}
use Rattle.system_tables.specs.Reassembly.Arrival.{are_covered, arrival_of, data_len, is_covered, same_key}
use Rattle.pdus.specs.ClnpViews.Extent.{Extent}
use Rattle.system_tables.specs.declared.reassembly.table.TableLimits.{TableLimits}
use Rattle.system_tables.specs.Reassembly.Entries.{emptied_at, emptied_of, full, places_present, present, without_key}
use Rattle.system_tables.specs.Reassembly.Sound.{IsSound}
use Rattle.system_tables.specs.Reassembly.Index.{AreRunsOf, EachGives, HasNew, IsIndexOf, MayBeIndexed, entry_gives, giver, lack}
use Rattle.system_tables.specs.Reassembly.Offered.{openings_of}
use Rattle.system_tables.specs.Reassembly.Runs.{AreInOrder, AreJoined, filled, filler, has_place, is_gap, named_in, pieces, renamed, total_runs, unfilled}
use Rattle.system_tables.specs.Reassembly.State.{segments_of}
use Rattle.system_tables.proofs.ReassemblyFacts.Counted.{counted_once, ones, weights}
use Rattle.system_tables.proofs.ReassemblyFacts.Covered.{not_each}
use Rattle.system_tables.proofs.ReassemblyFacts.Filling.{or_else, have_from, joined_order, not_behind, filled-filler, filled-joined, filled_tells, length-filled, renamed-filler, renamed-joined}
use Rattle.system_tables.proofs.ReassemblyFacts.Entries.{left_there, present-append, present-emptied, present-full, present_counted, still_there}
use Rattle.system_tables.proofs.ReassemblyFacts.Givers.{came_from, covered-giver, giver-before, giver-closed, giver-emptied, giver-empty, giver-none, giver-other, giver-same, giver-set, giver-still, lack-closed, lack_first, lack_last}
use Rattle.system_tables.proofs.ReassemblyFacts.Ended.{segments_of-others}
use Rattle.system_tables.proofs.ReassemblyFacts.Keeping.{segments_of-other, segments_of-same}
use Rattle.system_tables.proofs.ReassemblyFacts.Keys.{same_key-like, same_key-true}
use Rattle.system_tables.proofs.ReassemblyFacts.Run.{arrivals_of, does_give}
use Rattle.system_tables.proofs.ReassemblyFacts.Slots.{openings_of-other, openings_of-same}
use Rattle.system_tables.proofs.ReassemblyFacts.Whole.{some_at}
use Rattle.pdus.proofs.ClnpBase.Sums.{sum-cons}

-- ---- keys are of one opening each

two_at : (openings : List Opening) (i j : ℕ) (a b : Opening) → slice_get openings i ≡ Some a → slice_get openings j ≡ Some b → i ≢ j
    → a.key ≡ b.key → 2 ≤ openings_of b.key openings
two_at [] i j a b at_i at_j other same = absurd (none-some a at_i)
two_at (first ∷ others) zero zero a b at_i at_j other same = absurd (other refl)
two_at (first ∷ others) zero (suc j) a b at_i at_j other same =
    let here = openings_of-same b.key first others (same_key-like first.key b.key (ap (λ (o : Opening). o.key) (same_Some first a at_i) ∙ same)) in
    omega (arith, here, some_at others j b at_j)
two_at (first ∷ others) (suc i) zero a b at_i at_j other same =
    let here = openings_of-same b.key first others (same_key-like first.key b.key (ap (λ (o : Opening). o.key) (same_Some first b at_j))) in
    let there = subst (λ (k : Key). 1 ≤ openings_of k others) same (some_at others i a at_i) in
    omega (arith, here, there)
two_at (first ∷ others) (suc i) (suc j) a b at_i at_j other same =
    let rest = two_at others i j a b at_i at_j (λ e. other (ap suc e)) same in
    elim (cases_Bool (same_key first.key b.key)) [
      | inl t ↦ omega (arith, openings_of-same b.key first others t, rest)
      | inr f ↦ omega (arith, openings_of-other b.key first others f, rest)
    ]

pub other_keys : (openings : List Opening) (i j : ℕ) (a b : Opening) → AllByRecursion (λ o. openings_of o.key openings ≡ 1) openings
    → slice_get openings i ≡ Some a → slice_get openings j ≡ Some b → i ≢ j → same_key a.key b.key ≡ false
other_keys openings i j a b distinct at_i at_j other =
    elim (cases_Bool (same_key a.key b.key)) [
      | inl t ↦ absurd (omega (
        arith,
        two_at openings i j a b at_i at_j other (same_key-true a.key b.key t),
        AllByRecursion-slice_get (λ o. openings_of o.key openings ≡ 1) openings j b at_j distinct,
      ))
      | inr f ↦ f
    ]

-- ---- how many pieces there are

abbrev count_if : Bool → ℕ
count_if b = cond b 1 0

piece_or_hole : (run : Run) (others : List Run) → pieces (run ∷ others) + cond (is_none run.by) 1 0 ≡ pieces others + 1
piece_or_hole run others =
    elim (cases_Bool (is_none run.by)) [
      | inl t ↦ rw t (omega arith)
      | inr f ↦ rw f (omega arith)
    ]

-- the last run
last_fills : (from to : ℕ) (run : Run) (next : Run) (others : List Run) → AreJoined from to (run ∷ next ∷ others)
    → filler (to - 1) (run ∷ next ∷ others) ≡ filler (to - 1) (next ∷ others)
last_fills from to run next others joined =
    let more = joined.1.1 in
    let order = joined_order next.to to others more.1.1 in
    rw (not_behind (to - 1) run (omega (arith, more.0, more.1.0, order))) refl

pieces_last : (from to : ℕ) (runs : List Run) → AreJoined from to runs → from < to
    → pieces runs + cond (is_none (filler (to - 1) runs)) 1 0 ≤ length runs
pieces_last from to [] joined some = absurd (omega (arith, joined))
pieces_last from to (run ∷ []) joined some =
    let has = have_from (to - 1) run (omega (arith, joined.0, joined.1.0, joined.1.1)) (omega (arith, joined.1.0, joined.1.1)) in
    rw has (omega (arith, piece_or_hole run []))
pieces_last from to (run ∷ next ∷ others) joined some =
    let more = joined.1.1 in
    let order = joined_order next.to to others more.1.1 in
    let rest = pieces_last run.to to (next ∷ others) more (omega (arith, more.0, more.1.0, order)) in
    let here = piece_or_hole run (next ∷ others) in
    let e = last_fills from to run next others joined in
    subst (λ (o : Option ℕ). pieces (run ∷ next ∷ others) + cond (is_none o) 1 0 ≤ length (run ∷ next ∷ others)) (sym e)
    (omega (arith, rest, here))

-- beside the pieces there is a hole at each end that isn't filled
pub pieces_ends : (to : ℕ) (runs : List Run) → AreJoined 0 to runs
    → (pieces runs ≡ 0) ⊎ (pieces runs + (cond (is_none (filler 0 runs)) 1 0 + cond (is_none (filler (to - 1) runs)) 1 0) ≤ length runs)
pieces_ends to [] joined = inl refl
pieces_ends to (run ∷ []) joined =
    let first = have_from 0 run (omega (arith, joined.0)) (omega (arith, joined.1.0)) in
    let last = have_from (to - 1) run (omega (arith, joined.0)) (omega (arith, joined.1.0, joined.1.1)) in
    let here = piece_or_hole run [] in
    elim (cases_Bool (is_none run.by)) [
      | inl t ↦ inl (omega (arith, here, ap (λ (b : Bool). count_if b) t))
      | inr f ↦ inr (rw (first, last) (omega (arith, here, ap (λ (b : Bool). count_if b) f)))
    ]
pieces_ends to (run ∷ next ∷ others) joined =
    let more = joined.1.1 in
    let order = joined_order next.to to others more.1.1 in
    let first = have_from 0 run (omega (arith, joined.0)) (omega (arith, joined.1.0)) in
    let rest = pieces_last run.to to (next ∷ others) more (omega (arith, more.0, more.1.0, order)) in
    let here = piece_or_hole run (next ∷ others) in
    let e = last_fills 0 to run next others joined in
    let first_is : filler 0 (run ∷ next ∷ others) ≡ run.by = rw first refl in
    inr (subst (λ (o : Option ℕ). pieces (run ∷ next ∷ others) + (cond (is_none o) 1 0 + cond (is_none (filler (to - 1) (run ∷ next ∷ others))) 1 0) ≤ length (run ∷ next ∷ others)) (sym first_is)
    (subst (λ (o : Option ℕ). pieces (run ∷ next ∷ others) + (cond (is_none run.by) 1 0 + cond (is_none o) 1 0) ≤ length (run ∷ next ∷ others)) (sym e)
    (omega (arith, rest, here))))

pub pieces_few : (key : Key) (high count : ℕ) (entries : List (Option Segment)) (runs : List Run) → AreJoined 0 high runs → 0 < high
    → ((place : ℕ) → place < high → filler place runs ≡ giver key place entries)
    → length runs + 1 ≤ 2 * count + (lack key 0 entries + lack key (high - 1) entries) → 1 ≤ count → pieces runs + 1 ≤ 2 * count
pieces_few key high count entries runs joined some fills few more =
    elim (pieces_ends high runs joined) [
      | inl none ↦ omega (arith, none, more)
      | inr ends ↦
          let a = ap (λ (o : Option ℕ). count_if (is_none o)) (fills 0 some) in
          let b = ap (λ (o : Option ℕ). count_if (is_none o)) (fills (high - 1) (omega (arith, some))) in
          omega (arith, a, b, ends, few)
    ]

-- ---- an opening more

unfilled-filler : (place places : ℕ) → filler place (unfilled places) ≡ None
unfilled-filler place places =
    elim (cases_Bool (has_place place (record { from = 0; to = places; by = None }))) [
      | inl t ↦ rw t refl
      | inr f ↦ rw f refl
    ]

pub opened_runs : (entries : List (Option Segment)) (opening : Opening) → segments_of opening.key (present entries) ≡ [] → 0 < data_len opening.shape
    → AreRunsOf entries opening (unfilled (data_len opening.shape))
opened_runs entries opening none some =
    let lacks = λ (place : ℕ). giver-none opening.key place entries none in
    record {
      joined = (refl, (some, refl));
      filled = λ place within. unfilled-filler place (data_len opening.shape) ∙ sym (lacks place);
      few = rw (lacks 0, lacks (data_len opening.shape - 1)) (omega arith);
      few_pieces = λ more. absurd (omega (arith, ap length none, more));
      each = λ index segment at same. absurd (omega (arith, ap length none, present_counted opening.key entries index segment at same));
    }

pub opened_index : (entries : List (Option Segment)) (openings : List Opening) (groups : List (List Run)) (opening : Opening)
    → IsIndexOf entries openings groups → segments_of opening.key (present entries) ≡ [] → 0 < data_len opening.shape
    → IsIndexOf entries (openings ++ opening ∷ []) (groups ++ unfilled (data_len opening.shape) ∷ [])
opened_index entries openings groups opening index none some =
    let new = unfilled (data_len opening.shape) in
    record {
      number = length_push groups new ∙ (ap (λ n. n + 1) index.number ∙ sym (length_push openings opening));
      each = λ slot told runs at there.
          elim (cases_eq (length openings) slot) [
            | inl here ↦
                let told_is = same_Some opening told (sym (slice_get-push openings slot opening here) ∙ at) in
                let runs_are = same_Some new runs (sym (slice_get-push groups slot new (index.number ∙ here)) ∙ there) in
                subst (λ (r : List Run). AreRunsOf entries told r) runs_are
                (subst (λ (o : Opening). AreRunsOf entries o new) told_is (opened_runs entries opening none some))
            | inr other ↦
                index.each slot told runs (sym (slice_get-push_other openings slot opening other) ∙ at)
                (sym (slice_get-push_other groups slot new (λ e. other (sym index.number ∙ e))) ∙ there)
          ];
    }

-- ---- an entry more

module _ (entries : List (Option Segment)) (opening : Opening) (runs : List Run) (are : AreRunsOf entries opening runs) where
  -- what gave before gives still, where the new entry isn't one of the opening
  each_still : (entry : Option Segment) → ((segment : Segment) → entry ≡ Some segment → same_key segment.key opening.key ≡ true → ⊥)
      → EachGives (entries ++ entry ∷ []) opening
  each_still entry never index segment at same =
      elim (cases_eq (length entries) index) [
        | inl here ↦ absurd (never segment (same_Some entry (Some segment) (sym (slice_get-push entries index entry here) ∙ at)) same)
        | inr other ↦
            let old = are.each index segment (sym (slice_get-push_other entries index entry other) ∙ at) same in
            (old.0, old.1, giver-still opening.key old.0 entries entry index old.2)
      ]

  present_none : present (entries ++ None ∷ []) ≡ present entries
  present_none = present-append entries (None ∷ []) ∙ append-nil (present entries)

  present_some : (segment : Segment) → present (entries ++ Some segment ∷ []) ≡ present entries ++ segment ∷ []
  present_some segment = present-append entries (Some segment ∷ [])

  empty_runs : AreRunsOf (entries ++ None ∷ []) opening runs
  empty_runs =
      let same = λ (place : ℕ). giver-empty opening.key place entries in
      let number = ap (λ (l : List Segment). length (segments_of opening.key l)) present_none in
      record {
        joined = are.joined;
        filled = λ place within. are.filled place within ∙ sym (same place);
        few = rw (same 0, same (data_len opening.shape - 1), number) are.few;
        few_pieces = rw number are.few_pieces;
        each = each_still None (λ segment e same_is. none-some segment e);
      }

  other_runs : (segment : Segment) → same_key segment.key opening.key ≡ false → AreRunsOf (entries ++ Some segment ∷ []) opening runs
  other_runs segment other =
      let same = λ (place : ℕ). giver-other opening.key place entries segment other in
      let number = ap (λ (l : List Segment). length (segments_of opening.key l)) (present_some segment)
      ∙ ap length (segments_of-other opening.key (present entries) segment other) in
      record {
        joined = are.joined;
        filled = λ place within. are.filled place within ∙ sym (same place);
        few = rw (same 0, same (data_len opening.shape - 1), number) are.few;
        few_pieces = rw number are.few_pieces;
        each = each_still (Some segment) (λ told e mine. both_ways (same_key segment.key opening.key) other
            (ap (λ (s : Segment). same_key s.key opening.key) (same_Some segment told e) ∙ mine));
      }

  module _ (segment : Segment) (from to : ℕ) (same : same_key segment.key opening.key ≡ true)
      (from_is : from ≡ segment.offset) (to_is : to ≡ segment.offset + (arrival_of segment).len) where
    more_segments : length (segments_of opening.key (present (entries ++ Some segment ∷ []))) ≡ length (segments_of opening.key (present entries)) + 1
    more_segments =
        ap (λ (l : List Segment). length (segments_of opening.key l)) (present_some segment)
        ∙ sym (length-map (segments_of opening.key (present entries ++ segment ∷ [])) arrival_of)
        ∙ ap length (segments_of-same opening.key (present entries) segment same)
        ∙ length_push (map arrival_of (segments_of opening.key (present entries))) (arrival_of segment)
        ∙ ap (λ n. n + 1) (length-map (segments_of opening.key (present entries)) arrival_of)

    -- the new segment is the earliest at the place of its new octet
    own_each : HasNew entries segment opening → EachGives (entries ++ Some segment ∷ []) opening
    own_each new index told at mine =
        elim (cases_eq (length entries) index) [
          | inl here ↦
              let inside : (nat_le from new.0 && nat_lt new.0 to) ≡ true =
              and_from (nat_le from new.0) (nat_lt new.0 to) (le-leb from new.0 (omega (arith, from_is, new.3))) (lt-ltb new.0 to (omega (arith, to_is, new.4))) in
              (new.0, new.1, giver-same opening.key new.0 entries from to segment same from_is to_is ∙ (rw (new.2, inside) (ap (λ (n : ℕ). Some n) here)))
          | inr other ↦
              let old = are.each index told (sym (slice_get-push_other entries index (Some segment) other) ∙ at) mine in
              (old.0, old.1, giver-still opening.key old.0 entries (Some segment) index old.2)
        ]

    own_runs : 0 < data_len opening.shape → HasNew entries segment opening
        → AreRunsOf (entries ++ Some segment ∷ []) opening (filled from to (length entries) runs)
    own_runs some new =
        let high = data_len opening.shape in
        let joined = filled-joined from to (length entries) 0 high runs are.joined in
        let fills = λ (place : ℕ) (within : place < high).
        filled-filler from to (length entries) place 0 high runs are.joined (omega arith) within
        ∙ ap (λ (o : Option ℕ). or_else o (cond (nat_le from place && nat_lt place to) (Some (length entries)) None)) (are.filled place within)
        ∙ sym (giver-same opening.key place entries from to segment same from_is to_is) in
        let number = more_segments in
        let few : length (filled from to (length entries) runs) + 1 ≤ 2 * (length (segments_of opening.key (present entries)) + 1)
        + (lack opening.key 0 (entries ++ Some segment ∷ []) + lack opening.key (high - 1) (entries ++ Some segment ∷ [])) =
        omega (
          arith,
          length-filled from to (length entries) high runs are.joined,
          are.few,
          lack_first opening.key from to entries segment same from_is to_is,
          lack_last opening.key from to high entries segment same from_is to_is,
        ) in
        record {
          joined = joined;
          filled = fills;
          few = rw number few;
          few_pieces = λ more. rw number (pieces_few opening.key high (length (segments_of opening.key (present entries)) + 1) (entries ++ Some segment ∷ [])
              (filled from to (length entries) runs) joined some fills few (omega arith));
          each = own_each new;
        }

pub kept_index : (entries : List (Option Segment)) (openings : List Opening) (groups : List (List Run)) (segment : Segment) (slot : ℕ) (opening : Opening) (runs : List Run) (from to : ℕ)
    → IsIndexOf entries openings groups → AllByRecursion (λ o. openings_of o.key openings ≡ 1) openings
    → slice_get openings slot ≡ Some opening → slice_get groups slot ≡ Some runs → opening.key ≡ segment.key → 0 < data_len opening.shape
    → from ≡ segment.offset → to ≡ segment.offset + (arrival_of segment).len → HasNew entries segment opening
    → IsIndexOf (entries ++ Some segment ∷ []) openings (slice_set groups slot (filled from to (length entries) runs))
kept_index entries openings groups segment slot opening runs from to index distinct at there key_is some from_is to_is gives =
    let new = filled from to (length entries) runs in
    let within = slice_get_within groups slot runs there in
    record {
      number = length-set groups slot new ∙ index.number;
      each = λ i told told_runs told_at told_there.
          elim (cases_eq slot i) [
            | inl here ↦
                let told_is = same_Some opening told (sym at ∙ ap (slice_get openings) here ∙ told_at) in
                let runs_are = same_Some new told_runs (sym (slice_get-set groups slot new within) ∙ ap (slice_get (slice_set groups slot new)) here ∙ told_there) in
                subst (λ (r : List Run). AreRunsOf (entries ++ Some segment ∷ []) told r) runs_are
                (subst (λ (o : Opening). AreRunsOf (entries ++ Some segment ∷ []) o new) told_is
                (own_runs entries opening runs (index.each slot opening runs at there) segment from to
                (same_key-like segment.key opening.key (sym key_is)) from_is to_is some gives))
            | inr other ↦
                let apart = other_keys openings slot i opening told distinct at told_at other in
                other_runs entries told told_runs
                (index.each i told told_runs told_at (sym (slice_get-set_other groups slot i new other) ∙ told_there))
                segment (subst (λ (k : Key). same_key k told.key ≡ false) key_is apart)
          ];
    }

-- the same, where the code tells what the runs are
pub index_kept : (entries : List (Option Segment)) (openings : List Opening) (groups after : List (List Run)) (segment : Segment) (slot : ℕ) (opening : Opening) (from to by : ℕ)
    → IsIndexOf entries openings groups → AllByRecursion (λ o. openings_of o.key openings ≡ 1) openings
    → AllByRecursion (λ o. o.shape.head_len < o.shape.total) openings → slice_get openings slot ≡ Some opening → opening.key ≡ segment.key
    → from ≡ segment.offset → to ≡ segment.offset + (arrival_of segment).len → by ≡ length entries → HasNew entries segment opening
    → ((runs : List Run) → slice_get groups slot ≡ Some runs → after ≡ slice_set groups slot (filled from to by runs))
    → IsIndexOf (entries ++ Some segment ∷ []) openings after
index_kept entries openings groups after segment slot opening from to by index distinct shaped at key_is from_is to_is by_is new fills =
    let group = slice_get_some groups slot (omega (arith, slice_get_within openings slot opening at, index.number)) in
    let has_data = AllByRecursion-slice_get (λ o. o.shape.head_len < o.shape.total) openings slot opening at shaped in
    let kept = kept_index entries openings groups segment slot opening group.0 from to index distinct at group.1 key_is (omega (arith, has_data)) from_is to_is new in
    subst (λ (l : List (List Run)). IsIndexOf (entries ++ Some segment ∷ []) openings l)
    (sym (fills group.0 group.1 ∙ ap (λ (n : ℕ). slice_set groups slot (filled from to n group.0)) by_is)) kept

pub index_order : (entries : List (Option Segment)) (openings : List Opening) (groups : List (List Run)) → IsIndexOf entries openings groups
    → (slot : ℕ) (runs : List Run) → slice_get groups slot ≡ Some runs → AreInOrder runs
index_order entries openings groups index slot runs told =
    let opening = slice_get_some openings slot (omega (arith, slice_get_within groups slot runs told, index.number)) in
    (0, data_len opening.0.shape, (index.each slot opening.0 runs opening.1 told).joined)

pub empty_index : (entries : List (Option Segment)) (openings : List Opening) (groups : List (List Run)) → IsIndexOf entries openings groups
    → IsIndexOf (entries ++ None ∷ []) openings groups
empty_index entries openings groups index =
    record {
      number = index.number;
      each = λ slot opening runs at there. empty_runs entries opening runs (index.each slot opening runs at there);
    }

-- ---- how many runs there are

lack_one : (by : Option ℕ) → cond (is_none by) 1 0 ≤ 1
lack_one None = omega arith
lack_one (Some x) = omega arith

total_each : (entries : List (Option Segment)) (openings : List Opening) (groups : List (List Run)) → length groups ≡ length openings
    → ((slot : ℕ) (opening : Opening) (runs : List Run) → slice_get openings slot ≡ Some opening → slice_get groups slot ≡ Some runs → AreRunsOf entries opening runs)
    → total_runs groups ≤ 2 * sum (weights (λ (s : Segment). 1) (present entries) openings) + length openings
total_each entries [] [] number each = omega arith
total_each entries [] (runs ∷ groups) number each = absurd (omega (arith, number))
total_each entries (opening ∷ openings) [] number each = absurd (omega (arith, number))
total_each entries (opening ∷ openings) (runs ∷ groups) number each =
    let segments = present entries in
    let rest = total_each entries openings groups (omega (arith, number)) (λ slot. each (suc slot)) in
    let here = each 0 opening runs refl refl in
    let a = sum-cons (length runs) (map (λ r. length r) groups) in
    let b = sum-cons (sum (map (λ (s : Segment). 1) (segments_of opening.key segments))) (weights (λ (s : Segment). 1) segments openings) in
    omega (arith, rest, here.few, a, b, ones (segments_of opening.key segments), lack_one (giver opening.key 0 entries), lack_one (giver opening.key (data_len opening.shape - 1) entries))

pub total_few : (entries : List (Option Segment)) (openings : List Opening) (groups : List (List Run)) → IsIndexOf entries openings groups
    → AllByRecursion (λ s. openings_of s.key openings ≡ 1) (present entries) → total_runs groups ≤ 2 * length (present entries) + length openings
total_few entries openings groups index owned =
    omega (arith, total_each entries openings groups index.number index.each, counted_once (λ (s : Segment). 1) openings (present entries) owned, ones (present entries))

-- ---- places that are covered

pub gap_tells_cover : (entries : List (Option Segment)) (opening : Opening) (runs : List Run) (from len to : ℕ) → AreRunsOf entries opening runs
    → from + len ≡ to → to ≤ data_len opening.shape
    → not (list_any (is_gap from to) runs) ≡ are_covered (arrivals_of opening.key (present entries)) from len
gap_tells_cover entries opening runs from len to are counted within =
    filled_tells (is_covered (arrivals_of opening.key (present entries))) from len to (data_len opening.shape) runs are.joined counted within
    (λ place inside. covered-giver opening.key place entries ∙ ap is_some (sym (are.filled place inside)))

-- a place of a segment that isn't covered, of which each place is in the unit
pub new_place : (entries : List (Option Segment)) (segment : Segment) (opening : Opening) → opening.key ≡ segment.key
    → segment.offset + (arrival_of segment).len ≤ data_len opening.shape
    → are_covered (arrivals_of segment.key (present entries)) segment.offset (arrival_of segment).len ≡ false → HasNew entries segment opening
new_place entries segment opening key_is within uncovered =
    let len = (arrival_of segment).len in
    let found = not_each (is_covered (arrivals_of segment.key (present entries))) segment.offset len uncovered in
    let none : giver opening.key found.0 entries ≡ None =
    no_value (giver opening.key found.0 entries) (sym (covered-giver opening.key found.0 entries)
    ∙ ap (λ (k : Key). is_covered (arrivals_of k (present entries)) found.0) key_is ∙ found.3) in
    (found.0, omega (arith, found.2, within), none, found.1, found.2)

-- ---- an opening and its segments are taken out

module _ {X Y : Type 0} where
  pub remove_at : (xs : List X) (ys : List Y) (slot i : ℕ) (x : X) (y : Y) → slice_get (remove xs slot) i ≡ Some x → slice_get (remove ys slot) i ≡ Some y
      → (j : ℕ) × (slice_get xs j ≡ Some x) × (slice_get ys j ≡ Some y) × (j ≢ slot)
  remove_at [] ys zero i x y at there = absurd (none-some x at)
  remove_at [] ys (suc slot) i x y at there = absurd (none-some x at)
  remove_at (a ∷ xs) [] zero i x y at there = absurd (none-some y there)
  remove_at (a ∷ xs) [] (suc slot) i x y at there = absurd (none-some y there)
  remove_at (a ∷ xs) (b ∷ ys) zero i x y at there = (suc i, at, there, (λ e. omega (arith, e)))
  remove_at (a ∷ xs) (b ∷ ys) (suc slot) zero x y at there = (zero, at, there, (λ e. omega (arith, e)))
  remove_at (a ∷ xs) (b ∷ ys) (suc slot) (suc i) x y at there =
      let rest = remove_at xs ys slot i x y at there in
      (suc rest.0, rest.1, rest.2, (λ e. rest.3 (omega (arith, e))))

  pub map_at : (f : X → Y) (xs : List X) (i : ℕ) (y : Y) → slice_get (map f xs) i ≡ Some y → (x : X) × (slice_get xs i ≡ Some x) × (f x ≡ y)
  map_at f [] i y e = absurd (none-some y e)
  map_at f (x ∷ xs) zero y e = (x, refl, same_Some (f x) y e)
  map_at f (x ∷ xs) (suc i) y e = map_at f xs i y e

left_runs : (entries : List (Option Segment)) (key : Key) (opening : Opening) (runs : List Run) → same_key opening.key key ≡ false
    → AreRunsOf entries opening runs → AreRunsOf (emptied_of key entries) opening runs
left_runs entries key opening runs other are =
    let high = data_len opening.shape in
    let same = λ (place : ℕ). giver-emptied opening.key key place entries other in
    let number = ap (λ (l : List Segment). length (segments_of opening.key l)) (present-emptied key entries)
    ∙ ap length (segments_of-others opening.key key other (present entries)) in
    record {
      joined = are.joined;
      filled = λ place within. are.filled place within ∙ sym (same place);
      few = rw (same 0, same (high - 1), number) are.few;
      few_pieces = rw number are.few_pieces;
      each = λ index segment at mine.
          let before = map_at (without_key key) entries index (Some segment) at in
          let still = still_there key before.0 segment before.2 in
          let old = are.each index segment (before.1 ∙ ap (λ (o : Option Segment). Some o) still.0) mine in
          (old.0, old.1, same old.0 ∙ old.2);
    }

pub left_index : (entries : List (Option Segment)) (openings : List Opening) (groups : List (List Run)) (slot : ℕ) (closed : Opening)
    → IsIndexOf entries openings groups → AllByRecursion (λ o. openings_of o.key openings ≡ 1) openings → slice_get openings slot ≡ Some closed
    → IsIndexOf (emptied_of closed.key entries) (remove openings slot) (remove groups slot)
left_index entries openings groups slot closed index distinct at =
    let within = slice_get_within openings slot closed at in
    record {
      number = omega (arith, length-remove openings slot within, length-remove groups slot (omega (arith, within, index.number)), index.number);
      each = λ i told runs told_at told_there.
          let both = remove_at openings groups slot i told runs told_at told_there in
          left_runs entries closed.key told runs (other_keys openings both.0 slot told closed distinct both.1 at both.3)
          (index.each both.0 told runs both.1 both.2);
    }

-- ---- the empty entries are closed up

closed_runs : (entries : List (Option Segment)) (opening : Opening) (runs : List Run) → 0 < data_len opening.shape
    → AreRunsOf entries opening runs → AreRunsOf (full (present entries)) opening (map (renamed (places_present 0 entries)) runs)
closed_runs entries opening runs some are =
    let names = places_present 0 entries in
    let high = data_len opening.shape in
    let after = map (renamed names) runs in
    let joined = renamed-joined names 0 high runs are.joined in
    let fills = λ (place : ℕ) (within : place < high).
    renamed-filler names place runs ∙ ap (named_in names) (are.filled place within) ∙ sym (giver-closed opening.key place entries) in
    let number = ap (λ (l : List Segment). length (segments_of opening.key l)) (present-full (present entries)) in
    let few : length after + 1 ≤ 2 * length (segments_of opening.key (present (full (present entries))))
    + (lack opening.key 0 (full (present entries)) + lack opening.key (high - 1) (full (present entries))) =
    omega (arith, number, length-map runs (renamed names), are.few, lack-closed opening.key 0 entries, lack-closed opening.key (high - 1) entries) in
    record {
      joined = joined;
      filled = fills;
      few = few;
      few_pieces = λ more. pieces_few opening.key high (length (segments_of opening.key (present (full (present entries))))) (full (present entries)) after joined some fills few more;
      each = λ index segment at mine.
          let from = came_from 0 entries index segment at in
          let old = are.each from.0 segment from.1 mine in
          let named : slice_get names from.0 ≡ Some index = from.2 ∙ ap (λ (n : ℕ). Some n) (zero-add index) in
          (old.0, old.1, giver-closed opening.key old.0 entries ∙ ap (named_in names) old.2 ∙ named);
    }

pub closed_index : (entries : List (Option Segment)) (openings : List Opening) (groups : List (List Run))
    → AllByRecursion (λ o. o.shape.head_len < o.shape.total) openings → IsIndexOf entries openings groups
    → IsIndexOf (full (present entries)) openings (map (map (renamed (places_present 0 entries))) groups)
closed_index entries openings groups shaped index =
    let f = map (renamed (places_present 0 entries)) in
    record {
      number = length-map groups f ∙ index.number;
      each = λ slot opening runs at there.
          let before = map_at f groups slot runs there in
          let some = AllByRecursion-slice_get (λ o. o.shape.head_len < o.shape.total) openings slot opening at shaped in
          subst (λ (r : List Run). AreRunsOf (full (present entries)) opening r) before.2
          (closed_runs entries opening before.0 (omega (arith, some)) (index.each slot opening before.0 at before.1));
    }

-- ---- all entries go where each is empty

idle_runs : (entries : List (Option Segment)) (opening : Opening) (runs : List Run) → present entries ≡ [] → AreRunsOf entries opening runs
    → AreRunsOf [] opening runs
idle_runs entries opening runs idle are =
    let none = λ (place : ℕ). giver-none opening.key place entries (ap (segments_of opening.key) idle) in
    let lacks = λ (place : ℕ). ap {B = ℕ} (λ (o : Option ℕ). cond (is_none o) 1 0) (none place) in
    let number = ap (λ (l : List Segment). length (segments_of opening.key l)) idle in
    record {
      joined = are.joined;
      filled = λ place within. are.filled place within ∙ none place;
      few = omega (arith, number, are.few, lacks 0, lacks (data_len opening.shape - 1));
      few_pieces = λ more. absurd (omega (arith, more));
      each = λ index segment at mine. absurd (let no : ⊥ = cc at in no);
    }

pub idle_index : (entries : List (Option Segment)) (openings : List Opening) (groups : List (List Run)) → present entries ≡ []
    → IsIndexOf entries openings groups → IsIndexOf [] openings groups
idle_index entries openings groups idle index = record {
  number = index.number;
  each = λ slot opening runs at there. idle_runs entries opening runs idle (index.each slot opening runs at there);
}

-- ---- one segment is taken out

each_without : (entries : List (Option Segment)) (opening : Opening) (by : Option ℕ) → EachGives entries opening → EachGives (emptied_at by entries) opening
each_without entries opening None each = each
each_without entries opening (Some taken) each = λ index segment at mine.
    let left = left_there entries taken index segment at in
    let old = each index segment left.1 mine in
    (old.0, old.1, giver-set opening.key old.0 index taken entries old.2 left.0)

-- each segment of each opening
all_give : (entries : List (Option Segment)) (openings : List Opening) (groups : List (List Run)) (by : Option ℕ) → IsIndexOf entries openings groups
    → AllByRecursion (EachGives (emptied_at by entries)) openings
all_give entries openings groups by index =
    AllByRecursion-from_places (EachGives (emptied_at by entries)) openings
    (λ slot opening at.
    let group = slice_get_some groups slot (omega (arith, slice_get_within openings slot opening at, index.number)) in
    each_without entries opening by (index.each slot opening group.0 at group.1).each)

all_removed : {X : Type 0} (P : X → Type 0) (xs : List X) (i : ℕ) → AllByRecursion P xs → AllByRecursion P (remove xs i)
all_removed P [] zero h = tt
all_removed P [] (suc i) h = tt
all_removed P (x ∷ xs) zero h = h.1
all_removed P (x ∷ xs) (suc i) h = (h.0, all_removed P xs i h.1)

-- ---- what holds of a sound table

pub indexable : (limits : TableLimits) (openings : List Opening) (entries : List (Option Segment)) (held : ℕ) → IsSound limits openings (present entries) held
    → length entries < 2 ^ 16 → AllByRecursion (EachGives entries) openings → MayBeIndexed openings entries
indexable limits openings entries held sound fit each = record {
  distinct = sound.distinct;
  shaped = sound.shaped;
  owned = sound.owned;
  came = sound.came;
  entries_fit = fit;
  each = each;
}

-- whether an empty part is covered
pub empty_cover : (from len to : ℕ) → from + len ≡ to → (from == to) ≡ are_covered {C = Extent} [] from len
empty_cover from zero to counted = eq-eqb from to (omega arith)
empty_cover from (suc len) to counted = ne_eqb from to (λ e. omega arith)

-- a segment that comes next has an octet that none before it has, where each is the earliest at some place
pub next_new : (entries : List (Option Segment)) (index : ℕ) (segment : Segment) (opening : Opening) → slice_get entries index ≡ Some (Some segment)
    → EachGives entries opening → opening.key ≡ segment.key → HasNew (take index entries) segment opening
next_new entries index segment opening at each key_is =
    let old = each index segment at (same_key-like segment.key opening.key (sym key_is)) in
    let read = sym (get_or_from_slice_get entries index (Some segment) (Some segment) at) in
    let given = does_give opening.key old.0 segment ((is_first (entry_gives opening.key old.0) index entries old.2).passes (Some segment) read) in
    (old.0, old.1, giver-before opening.key old.0 entries index old.2, given.from, given.to)

pub undone_give : (entries after : List (Option Segment)) (openings left : List Opening) (groups : List (List Run)) (by : Option ℕ) (slot : ℕ)
    → IsIndexOf entries openings groups → after ≡ emptied_at by entries → (left ≡ remove openings slot) ⊎ (left ≡ openings)
    → AllByRecursion (EachGives after) left
undone_give entries after openings left groups by slot index after_is cases =
    let all = subst (λ (l : List (Option Segment)). AllByRecursion (EachGives l) openings) (sym after_is) (all_give entries openings groups by index) in
    elim cases [
      | inl removed ↦ subst (AllByRecursion (EachGives after)) (sym removed) (all_removed (EachGives after) openings slot all)
      | inr same ↦ subst (AllByRecursion (EachGives after)) (sym same) all
    ]
