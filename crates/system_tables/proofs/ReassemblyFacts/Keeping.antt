-- Keeping a segment in a table is keeping it in the buffers that the table stands for.
use Rattle.std.proofs.Common.{◌≡◌, ℕ, ◌≤◌, Bool, true, false, cond, List, [], ◌∷◌, ◌++◌, Option, Some, None, map, slice_get, ap, sym, ◌∙◌, refl, subst, inl, inr, ◌⊎◌, arith}
use Rattle.std.specs.List.{AllByRecursion}
use Rattle.std.proofs.lemmas.Bool.{cases_Bool}
use Rattle.std.proofs.lemmas.List.{append-nil, map-append}
use Rattle.std.proofs.lemmas.List.Elements.{filter-append}
use Rattle.pdus.specs.ClnpViews.Extent.{Extent}
use Rattle.system_tables.specs.declared.reassembly.segment.Key.{Key}
use Rattle.system_tables.specs.declared.reassembly.segment.Segment.{Segment}
use Rattle.system_tables.specs.declared.reassembly.segment.Shape.{Shape}
use Rattle.system_tables.specs.declared.reassembly.table.TableLimits.{TableLimits}
use Rattle.system_tables.specs.declared.reassembly.openings.Opening.{Opening}
use Rattle.system_tables.specs.Reassembly.Arrival.{Arrival, arrival_of, are_covered, data_len, same_key}
use Rattle.system_tables.specs.Reassembly.Buffer.{Buffer, Held, Whole, buffer_of, is_whole, kept_answer, opened_by, shape_in, with_kept}
use Rattle.system_tables.specs.Reassembly.Kept.{opening_by, with_segment}
use Rattle.system_tables.specs.Reassembly.Offered.{openings_of}
use Rattle.system_tables.specs.Reassembly.State.{KeepsSegments, MayKeep, Stands, TableState, opening_of, segments_of, place_of}
use Rattle.system_tables.proofs.ReassemblyFacts.Keys.{same_key-like, same_key-sym}
use Rattle.system_tables.proofs.ReassemblyFacts.Slots.{no_segments, openings_of-other, openings_of-same, slot_missing, slot_there}
use Rattle.system_tables.proofs.ReassemblyFacts.Standing.{buffer_missing, buffer_there, of_found}
use Rattle.system_tables.proofs.ReassemblyFacts.Opened.{openings_with-none, openings_with-some}
use Rattle.pdus.proofs.ClnpBase.Lists.{AllByRecursion-slice_get, AllByRecursion-push}

-- the buffer has the segments of its key among these
abbrev pub Keeps : List Segment → Buffer Extent → Type 0
Keeps segments buffer = buffer.kept ≡ map arrival_of (segments_of buffer.key segments)

-- a segment at the end is one more of its key, and none of another
pub segments_of-same : (key : Key) (segments : List Segment) (segment : Segment) → same_key segment.key key ≡ true
    → map arrival_of (segments_of key (segments ++ segment ∷ [])) ≡ map arrival_of (segments_of key segments) ++ arrival_of segment ∷ []
segments_of-same key segments segment same =
    let last : segments_of key (segment ∷ []) ≡ segment ∷ [] = rw same refl in
    ap (map arrival_of) (filter-append (λ (s : Segment). same_key s.key key) segments (segment ∷ [])
    ∙ ap (λ (tail : List Segment). segments_of key segments ++ tail) last)
    ∙ map-append arrival_of (segments_of key segments) (segment ∷ [])

pub segments_of-other : (key : Key) (segments : List Segment) (segment : Segment) → same_key segment.key key ≡ false
    → segments_of key (segments ++ segment ∷ []) ≡ segments_of key segments
segments_of-other key segments segment other =
    let last : segments_of key (segment ∷ []) ≡ [] = rw other refl in
    filter-append (λ (s : Segment). same_key s.key key) segments (segment ∷ [])
    ∙ (ap (λ (tail : List Segment). segments_of key segments ++ tail) last ∙ append-nil (segments_of key segments))

keeps_other : (segments : List Segment) (segment : Segment) (buffer : Buffer Extent) → same_key buffer.key segment.key ≡ false
    → Keeps segments buffer → Keeps (segments ++ segment ∷ []) buffer
keeps_other segments segment buffer other keeps =
    keeps ∙ ap (map arrival_of) (sym (segments_of-other buffer.key segments segment (same_key-sym segment.key buffer.key ∙ other)))

-- buffers of other keys keep what they did
keep_others : (segments : List Segment) (segment : Segment) (buffers : List (Buffer Extent))
    → openings_of segment.key (map opening_of buffers) ≡ 0 → AllByRecursion (Keeps segments) buffers
    → AllByRecursion (Keeps (segments ++ segment ∷ [])) buffers
keep_others segments segment [] none all = all
keep_others segments segment (buffer ∷ others) none all =
    elim (cases_Bool (same_key buffer.key segment.key)) [
      | inl same ↦ absurd (let one = openings_of-same segment.key (opening_of buffer) (map opening_of others) same in omega arith)
      | inr other ↦ (let rest : openings_of segment.key (map opening_of others) ≡ 0
          = sym (openings_of-other segment.key (opening_of buffer) (map opening_of others) other) ∙ none in
          (keeps_other segments segment buffer other all.0, keep_others segments segment others rest all.1))
    ]

-- where the key has no buffer, a new one stands at the end
pub with_kept-none : (limits : TableLimits) (now : ℕ) (arrival : Arrival Extent) (buffers : List (Buffer Extent))
    → openings_of arrival.key (map opening_of buffers) ≡ 0
    → with_kept limits now arrival buffers ≡ buffers ++ opened_by limits now arrival ∷ []
with_kept-none limits now arrival [] none = refl
with_kept-none limits now arrival (buffer ∷ others) none =
    elim (cases_Bool (same_key buffer.key arrival.key)) [
      | inl same ↦ absurd (let one = openings_of-same arrival.key (opening_of buffer) (map opening_of others) same in omega arith)
      | inr other ↦ rw other (ap (λ (tail : List (Buffer Extent)). buffer ∷ tail) (with_kept-none limits now arrival others
          (sym (openings_of-other arrival.key (opening_of buffer) (map opening_of others) other) ∙ none)))
    ]

-- where the key has a buffer, the openings stay
pub with_kept-openings : (limits : TableLimits) (now : ℕ) (arrival : Arrival Extent) (buffers : List (Buffer Extent))
    → 1 ≤ openings_of arrival.key (map opening_of buffers) → map opening_of buffers ≡ map opening_of (with_kept limits now arrival buffers)
with_kept-openings limits now arrival [] some = absurd (omega arith)
with_kept-openings limits now arrival (buffer ∷ others) some =
    elim (cases_Bool (same_key buffer.key arrival.key)) [
      | inl same ↦ rw same refl
      | inr other ↦ rw other (ap (λ (tail : List Opening). opening_of buffer ∷ tail) (with_kept-openings limits now arrival others
          (let e = openings_of-other arrival.key (opening_of buffer) (map opening_of others) other in omega arith)))
    ]

-- and each buffer has the segments of its key
pub with_kept-keeps : (limits : TableLimits) (now : ℕ) (segments : List Segment) (segment : Segment) (buffers : List (Buffer Extent))
    → openings_of segment.key (map opening_of buffers) ≡ 1 → AllByRecursion (Keeps segments) buffers
    → AllByRecursion (Keeps (segments ++ segment ∷ [])) (with_kept limits now (arrival_of segment) buffers)
with_kept-keeps limits now segments segment [] one all = absurd (omega arith)
with_kept-keeps limits now segments segment (buffer ∷ others) one all =
    elim (cases_Bool (same_key buffer.key segment.key)) [
      | inl same ↦ (let rest : openings_of segment.key (map opening_of others) ≡ 0
          = (let e = openings_of-same segment.key (opening_of buffer) (map opening_of others) same in omega arith) in
          let here : (buffer.kept ++ arrival_of segment ∷ []) ≡ map arrival_of (segments_of buffer.key (segments ++ segment ∷ []))
          = ap (λ (kept : List (Arrival Extent)). kept ++ arrival_of segment ∷ []) all.0
          ∙ sym (segments_of-same buffer.key segments segment (same_key-sym segment.key buffer.key ∙ same)) in
          rw same (here, keep_others segments segment others rest all.1))
      | inr other ↦ (let rest : openings_of segment.key (map opening_of others) ≡ 1
          = sym (openings_of-other segment.key (opening_of buffer) (map opening_of others) other) ∙ one in
          rw other (keeps_other segments segment buffer other all.0, with_kept-keeps limits now segments segment others rest all.1))
    ]

-- the table with the segment stands for the buffers with it
pub stands_with : (now slot : ℕ) (segment : Segment) (table : TableState) (buffers : List (Buffer Extent)) → Stands table buffers
    → AllByRecursion (λ other. openings_of other.key table.openings ≡ 1) table.segments
    → (openings_of segment.key table.openings ≡ 0) ⊎ (openings_of segment.key table.openings ≡ 1)
    → Stands (with_segment now segment slot table) (with_kept table.limits now (arrival_of segment) buffers)
stands_with now slot segment table buffers stands owned (inl none) =
    let absent : openings_of segment.key (map opening_of buffers) ≡ 0 = rw (← stands.openings) none in
    let empty = no_segments segment.key table.openings table.segments none owned in
    let last : (arrival_of segment ∷ []) ≡ map arrival_of (segments_of segment.key (table.segments ++ segment ∷ []))
    = sym (segments_of-same segment.key table.segments segment (same_key-like segment.key segment.key refl)
    ∙ ap (λ (kept : List Segment). map arrival_of kept ++ arrival_of segment ∷ []) empty) in
    let new = with_kept-none table.limits now (arrival_of segment) buffers absent in
    record {
      openings = openings_with-none table.limits now segment table.openings none
          ∙ (ap (λ (openings : List Opening). openings ++ opening_by table.limits now segment ∷ []) stands.openings
          ∙ (sym (map-append opening_of buffers (opened_by table.limits now (arrival_of segment) ∷ []))
          ∙ ap (map opening_of) (sym new)));
      segments = rw new (AllByRecursion-push (Keeps (table.segments ++ segment ∷ [])) buffers (opened_by table.limits now (arrival_of segment))
          (keep_others table.segments segment buffers absent stands.segments) last);
    }
stands_with now slot segment table buffers stands owned (inr one) =
    let there : openings_of segment.key (map opening_of buffers) ≡ 1 = rw (← stands.openings) one in
    record {
      openings = openings_with-some table.limits now segment table.openings (omega arith)
          ∙ (stands.openings ∙ with_kept-openings table.limits now (arrival_of segment) buffers (omega arith));
      segments = with_kept-keeps table.limits now table.segments segment buffers there stands.segments;
    }

-- the buffer in which a segment is kept
pub record IsKeptIn (key : Key) (shape : Shape) (buffers : List (Buffer Extent)) : Type 0 where
  pub buffer : Buffer Extent
  pub found : buffer_of key buffers ≡ Some buffer
  pub shape_is : buffer.shape ≡ shape

pub kept_found : (limits : TableLimits) (now : ℕ) (arrival : Arrival Extent) (buffers : List (Buffer Extent))
    → IsKeptIn arrival.key (shape_in (buffer_of arrival.key buffers) arrival.shape) (with_kept limits now arrival buffers)
kept_found limits now arrival [] =
    record { buffer = opened_by limits now arrival; found = rw (same_key-like arrival.key arrival.key refl) refl; shape_is = refl }
kept_found limits now arrival (buffer ∷ others) =
    elim (cases_Bool (same_key buffer.key arrival.key)) [
      | inl same ↦ rw same (record { buffer = record buffer { kept = buffer.kept ++ arrival ∷ [] }; found = rw same refl; shape_is = refl })
      | inr other ↦ (let rest = kept_found limits now arrival others in
          rw other (record { buffer = rest.buffer; found = rw other rest.found; shape_is = rest.shape_is }))
    ]

-- the answer to a segment that is kept, as the table's segments have it
pub kept_answer-is : (table : TableState) (key : Key) (shape : Shape) (buffers : List (Buffer Extent)) → Stands table buffers
    → IsKeptIn key shape buffers
    → kept_answer key buffers ≡ cond (are_covered (map arrival_of (segments_of key table.segments)) 0 (data_len shape)) Whole Held
kept_answer-is table key shape buffers stands kept =
    let keeps = of_found (KeepsSegments table) key buffers kept.buffer stands.segments kept.found in
    let whole : is_whole kept.buffer ≡ are_covered (map arrival_of (segments_of key table.segments)) 0 (data_len shape)
    = (rw (keeps.0, keeps.1, kept.shape_is) refl) in
    rw kept.found (ap (λ (b : Bool). cond b Whole Held) whole)

-- a key has one opening or none
pub none_or_one : (key : Key) (openings : List Opening) (slot : Option ℕ)
    → AllByRecursion (λ opening. openings_of opening.key openings ≡ 1) openings → place_of key openings ≡ slot
    → (openings_of key openings ≡ 0) ⊎ (openings_of key openings ≡ 1)
none_or_one key openings None distinct e = inl (slot_missing key 0 openings e)
none_or_one key openings (Some slot) distinct e =
    let there = slot_there key 0 slot openings e in
    let one = AllByRecursion-slice_get (λ (opening : Opening). openings_of opening.key openings ≡ 1) openings there.at there.opening there.stands_at distinct in
    inr (subst (λ (k : Key). openings_of k openings ≡ 1) there.key_is one)

-- the buffer of the segment's key, if there is one, is that of a unit of its shape
pub shape_there : (table : TableState) (segment : Segment) (buffers : List (Buffer Extent)) (slot : Option ℕ) → Stands table buffers
    → MayKeep table segment → place_of segment.key table.openings ≡ slot
    → shape_in (buffer_of segment.key buffers) segment.shape ≡ segment.shape
shape_there table segment buffers None stands may e =
    let missing = buffer_missing segment.key buffers (rw (← stands.openings) (slot_missing segment.key 0 table.openings e)) in
    rw missing refl
shape_there table segment buffers (Some slot) stands may e =
    let there = buffer_there segment.key 0 slot buffers (rw (← stands.openings) e) in
    let at : there.at ≡ slot = (let f = there.counted in omega arith) in
    let here : slice_get table.openings slot ≡ Some (opening_of there.buffer)
    = subst (λ (n : ℕ). slice_get table.openings n ≡ Some (opening_of there.buffer)) at
    (ap (λ (openings : List Opening). slice_get openings there.at) stands.openings ∙ there.stands_at) in
    rw there.found (may.same_unit slot (opening_of there.buffer) e here)

-- the answer to a segment that is kept
pub answer_with : (now slot : ℕ) (segment : Segment) (table : TableState) (buffers : List (Buffer Extent)) → Stands table buffers
    → Stands (with_segment now segment slot table) (with_kept table.limits now (arrival_of segment) buffers) → MayKeep table segment
    → kept_answer segment.key (with_kept table.limits now (arrival_of segment) buffers)
    ≡ cond (are_covered (map arrival_of (segments_of segment.key (table.segments ++ segment ∷ []))) 0 (data_len segment.shape)) Whole Held
answer_with now slot segment table buffers stands after may =
    let shape = shape_there table segment buffers (place_of segment.key table.openings) stands may refl in
    let kept = kept_found table.limits now (arrival_of segment) buffers in
    kept_answer-is (with_segment now segment slot table) segment.key segment.shape (with_kept table.limits now (arrival_of segment) buffers) after
    (record { buffer = kept.buffer; found = kept.found; shape_is = kept.shape_is ∙ shape })
