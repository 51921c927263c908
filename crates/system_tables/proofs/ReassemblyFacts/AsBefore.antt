-- A table from which the segment that was kept last was taken out again is as it was before.
use Rattle.std.proofs.Common.{◌≡◌, ◌≢◌, ◌∙◌, sym, ap, refl, subst, ℕ, zero, suc, ◌+◌, ◌==◌, ◌≤◌, ◌<◌, true, false, inl, inr, List, [], ◌∷◌, ◌++◌, length, map, Option, Some, None, nat_le, nat_lt, arith}
use Rattle.std.specs.Prelude.{slice_get}
use Rattle.std.specs.List.{AllByRecursion, remove}
use Rattle.std.proofs.lemmas.Bool.{and_parts, and_right, cases_Bool, leb-true, ltb-true}
use Rattle.std.proofs.lemmas.List.{length_push}
use Rattle.std.proofs.lemmas.Option.{none-some, same_Some, slice_get_within}
use Rattle.pdus.proofs.ClnpBase.Choices.{is_equal, not_equal}
use Rattle.pdus.proofs.ClnpBase.Lists.{AllByRecursion-slice_get, slice_get-push, slice_get-push_other}
use Rattle.pdus.proofs.ClnpBase.Ranges.{each_of_all}
use Rattle.pdus.specs.ClnpViews.Extent.{Extent}
use Rattle.system_tables.specs.declared.reassembly.segment.Key.{Key}
use Rattle.system_tables.specs.declared.reassembly.segment.Segment.{Segment}
use Rattle.system_tables.specs.declared.reassembly.openings.Opening.{Opening}
use Rattle.system_tables.specs.Reassembly.Arrival.{Arrival, are_covered, arrival_of, data_len, has, is_covered, same_key}
use Rattle.system_tables.specs.Reassembly.Buffer.{Buffer, buffer_of}
use Rattle.system_tables.specs.Reassembly.Ending.{is_empty, without_last}
use Rattle.system_tables.specs.Reassembly.Kept.{IsKept, opening_by}
use Rattle.system_tables.specs.Reassembly.Offered.{MayCome, openings_of}
use Rattle.system_tables.specs.Reassembly.State.{IsWholeSlot, KeepsSegments, TableState, opening_of, place_of, segments_of}
use Rattle.system_tables.proofs.ReassemblyFacts.Keeping.{segments_of-same}
use Rattle.system_tables.proofs.ReassemblyFacts.Keys.{same_key-like}
use Rattle.system_tables.proofs.ReassemblyFacts.Opened.{openings_with-none, openings_with-some, slots_with-none, slots_with-some}
use Rattle.system_tables.proofs.ReassemblyFacts.Slots.{no_segments, slot_missing}
use Rattle.system_tables.proofs.ReassemblyFacts.Standing.{buffer_missing, buffer_there, of_found}
use Rattle.system_tables.proofs.ReassemblyFacts.Whole.{some_at}

-- ---- a segment that isn't all of its unit

module _ {C : Type 0} where
  has_place : (arrival : Arrival C) (n place : ℕ) → are_covered (arrival ∷ []) 0 n ≡ true → place < n → has place arrival ≡ true
  has_place arrival n place all within =
      let covered = each_of_all (is_covered (arrival ∷ [])) 0 n place all (omega arith) (omega arith) in
      elim (cases_Bool (has place arrival)) [ inl is_so ↦ is_so | inr isnt ↦ absurd (let f : false ≡ true = rw isnt at covered in cc) ]

  -- it doesn't make its unit whole alone
  alone : (arrival : Arrival C) (n : ℕ) → arrival.len < n → are_covered (arrival ∷ []) 0 n ≡ true → ⊥
  alone arrival n part all =
      let first = and_parts (nat_le arrival.offset 0) (nat_lt 0 (arrival.offset + arrival.len)) (has_place arrival n 0 all (omega arith)) in
      let last = and_parts (nat_le arrival.offset arrival.len) (nat_lt arrival.len (arrival.offset + arrival.len)) (has_place arrival n arrival.len all part) in
      let low = leb-true arrival.offset 0 first.0 in
      let high = ltb-true arrival.len (arrival.offset + arrival.len) last.1 in
      omega arith

-- ---- the last segment and the last opening, taken out again

not_empty : (segments : List Segment) (segment : Segment) → is_empty (segments_of segment.key (segments ++ segment ∷ [])) ≡ false
not_empty [] segment = rw (same_key-like segment.key segment.key refl) refl
not_empty (first ∷ others) segment =
    elim (cases_Bool (same_key first.key segment.key)) [ inl same ↦ rw same refl | inr other ↦ rw other (not_empty others segment) ]

without_pushed : (segments : List Segment) (segment : Segment) → without_last segment.key (segments ++ segment ∷ []) ≡ segments
without_pushed [] segment = rw (same_key-like segment.key segment.key refl) refl
without_pushed (first ∷ others) segment =
    rw (and_right (same_key first.key segment.key) (is_empty (segments_of segment.key (others ++ segment ∷ []))) (not_empty others segment))
    (ap (λ (l : List Segment). first ∷ l) (without_pushed others segment))

remove-push : {X : Type 0} (xs : List X) (i : ℕ) (x : X) → length xs ≡ i → remove (xs ++ x ∷ []) i ≡ xs
remove-push [] zero x e = refl
remove-push [] (suc i) x e = absurd (omega arith)
remove-push (first ∷ rest) zero x e = absurd (omega arith)
remove-push (first ∷ rest) (suc i) x e = ap (λ l. first ∷ l) (remove-push rest i x (omega arith))

-- the buffer of a key is that of a unit of the shape that its opening has
shape_by : (openings : List Opening) (key : Key) (P : Opening → Type 0) (buffers : List (Buffer Extent)) (buffer : Buffer Extent)
    → openings ≡ map opening_of buffers → ((slot : ℕ) (opening : Opening) → place_of key openings ≡ Some slot → slice_get openings slot ≡ Some opening → P opening)
    → buffer_of key buffers ≡ Some buffer → (place : Option ℕ) → place_of key openings ≡ place → P (opening_of buffer)
shape_by openings key P buffers buffer same holds found None e =
    let none = buffer_missing key buffers (subst (λ (l : List Opening). openings_of key l ≡ 0) same (slot_missing key 0 openings e)) in
    absurd (none-some buffer (sym none ∙ found))
shape_by openings key P buffers buffer same holds found (Some place) e =
    let there = buffer_there key 0 place buffers (subst (λ (l : List Opening). place_of key l ≡ Some place) same e) in
    let at : there.at ≡ place = (let f = there.counted in omega arith) in
    let here : slice_get openings place ≡ Some (opening_of there.buffer)
    = subst (λ (n : ℕ). slice_get openings n ≡ Some (opening_of there.buffer)) at
    (ap (λ (l : List Opening). slice_get l there.at) same ∙ there.stands_at) in
    subst (λ (b : Buffer Extent). P (opening_of b)) (same_Some there.buffer buffer (sym there.found ∙ found)) (holds place (opening_of there.buffer) e here)

-- ---- the table

module _ (before old new : TableState) (now place slot : ℕ) (segment : Segment) (closed : Opening) (kept : IsKept now segment before old)
    (at : slice_get old.openings place ≡ Some closed) (key_is : closed.key ≡ segment.key) (as_many : length old.slots ≡ length old.openings)
    (came : AllByRecursion MayCome old.segments) (whole : IsWholeSlot old slot) (whole_key : whole.buffer.key ≡ segment.key)
    (limits : new.limits ≡ old.limits) (taken : new.segments ≡ without_last closed.key old.segments)
    (closed_now : segments_of closed.key new.segments ≡ [] → (new.openings ≡ remove old.openings place) × (new.slots ≡ remove old.slots place))
    (open_still : segments_of closed.key new.segments ≢ [] → (new.openings ≡ old.openings) × (new.slots ≡ old.slots)) where
  segments_old : old.segments ≡ before.segments ++ segment ∷ []
  segments_old = ap (λ (t : TableState). t.segments) kept.is

  segments_back : new.segments ≡ before.segments
  segments_back =
      taken ∙ ap (λ (k : Key). without_last k old.segments) key_is ∙ ap (without_last segment.key) segments_old
      ∙ without_pushed before.segments segment

  -- the segments of the key that are left
  left_is : segments_of closed.key new.segments ≡ segments_of segment.key before.segments
  left_is = (λ i. segments_of (key_is i) (segments_back i))

  -- its opening was made for it
  module _ (none : openings_of segment.key before.openings ≡ 0) where
    none_left : segments_of closed.key new.segments ≡ []
    none_left = left_is ∙ no_segments segment.key before.openings before.segments none kept.owned

    opened : old.openings ≡ before.openings ++ opening_by before.limits now segment ∷ []
    opened = ap (λ (t : TableState). t.openings) kept.is ∙ openings_with-none before.limits now segment before.openings none

    in_slot : old.slots ≡ before.slots ++ kept.slot ∷ []
    in_slot = ap (λ (t : TableState). t.slots) kept.is ∙ slots_with-none segment kept.slot before none

    at_end : length before.openings ≡ place
    at_end =
        let long = ap length opened ∙ length_push before.openings (opening_by before.limits now segment) in
        let within = slice_get_within old.openings place closed at in
        let not_before : place < length before.openings → ⊥ = λ earlier. (
        let there : slice_get before.openings place ≡ Some closed =
        sym (slice_get-push_other before.openings place (opening_by before.limits now segment) (λ same. omega arith))
        ∙ ap (λ (l : List Opening). slice_get l place) (sym opened) ∙ at in
        let some = subst (λ (k : Key). 1 ≤ openings_of k before.openings) key_is (some_at before.openings place closed there) in
        omega arith) in
        omega arith

    slots_end : length before.slots ≡ place
    slots_end =
        let long = ap length opened ∙ length_push before.openings (opening_by before.limits now segment) in
        let many = ap length in_slot ∙ length_push before.slots kept.slot in
        let end = at_end in
        omega arith

    opened_back : (new.openings ≡ before.openings) × (new.slots ≡ before.slots)
    opened_back = (
      (closed_now none_left).0 ∙ ap (λ (l : List Opening). remove l place) opened ∙ remove-push before.openings place _ at_end,
      (closed_now none_left).1 ∙ ap (λ (l : List ℕ). remove l place) in_slot ∙ remove-push before.slots place kept.slot slots_end,
    )

  -- it was there, and has other segments
  module _ (some : 1 ≤ openings_of segment.key before.openings) where
    stayed : old.openings ≡ before.openings
    stayed = ap (λ (t : TableState). t.openings) kept.is ∙ openings_with-some before.limits now segment before.openings some

    slots_stayed : old.slots ≡ before.slots
    slots_stayed = ap (λ (t : TableState). t.slots) kept.is ∙ slots_with-some segment kept.slot before some

    shape_is : whole.buffer.shape ≡ segment.shape
    shape_is =
        shape_by before.openings segment.key (λ (o : Opening). o.shape ≡ segment.shape) whole.buffers whole.buffer
        (sym stayed ∙ whole.stands.openings) kept.may.same_unit
        (subst (λ (k : Key). buffer_of k whole.buffers ≡ Some whole.buffer) whole_key whole.is_there)
        (place_of segment.key before.openings) refl

    part : (arrival_of segment).len < data_len segment.shape
    part =
        (AllByRecursion-slice_get MayCome old.segments (length before.segments) segment
        (ap (λ (l : List Segment). slice_get l (length before.segments)) segments_old ∙ slice_get-push before.segments (length before.segments) segment refl) came).is_part

    others_left : segments_of closed.key new.segments ≢ []
    others_left none =
        let keeps = of_found (KeepsSegments old) whole.buffer.key whole.buffers whole.buffer whole.stands.segments whole.is_there in
        let kept_one : whole.buffer.kept ≡ arrival_of segment ∷ [] =
        keeps.0 ∙ (λ i. map arrival_of (segments_of (whole_key i) (segments_old i)))
        ∙ segments_of-same segment.key before.segments segment (same_key-like segment.key segment.key refl)
        ∙ ap (λ (l : List Segment). map arrival_of l ++ arrival_of segment ∷ []) (sym left_is ∙ none) in
        alone (arrival_of segment) (data_len whole.buffer.shape)
        (subst (λ n. (arrival_of segment).len < data_len n) (sym shape_is) part)
        (subst (λ (l : List (Arrival Extent)). are_covered l 0 (data_len whole.buffer.shape) ≡ true) kept_one whole.whole)

    stayed_back : (new.openings ≡ before.openings) × (new.slots ≡ before.slots)
    stayed_back = ((open_still others_left).0 ∙ stayed, (open_still others_left).1 ∙ slots_stayed)

  openings_back : (new.openings ≡ before.openings) × (new.slots ≡ before.slots)
  openings_back =
      elim (cases_Bool (openings_of segment.key before.openings == 0)) [
        | inl none ↦ opened_back (is_equal (openings_of segment.key before.openings) 0 none)
        | inr some ↦ stayed_back (let differs = not_equal (openings_of segment.key before.openings) 0 some in omega arith)
      ]

  pub as_before : new ≡ before
  as_before =
      let same = limits ∙ ap (λ (t : TableState). t.limits) kept.is in
      let back = openings_back in
      λ i. record { limits = same i; openings = back.0 i; slots = back.1 i; segments = segments_back i }
