-- Why a segment isn't kept, as the table has it.
use Rattle.std.proofs.Common.{◌≡◌, ℕ, ◌+◌, ◌<◌, ◌==◌, ◌&&◌, Bool, true, false, cond, List, Option, Some, None, map, slice_get, length, nat_le, nat_lt, ap, sym, ◌∙◌, refl, subst, inl, inr, arith}
use Rattle.std.specs.Prelude.{IfSome, MatchOption, if◌then◌else◌, is_none}
use Rattle.std.specs.Bool.{Decides}
use Rattle.std.specs.List.{AllByRecursion}
use Rattle.std.proofs.lemmas.Bool.{cases_Bool, cond-false, cond-true, leb-false}
use Rattle.std.proofs.lemmas.Bool.Decides.{Decides-and, Decides-eqb, Decides-like}
use Rattle.std.proofs.lemmas.List.{length-map}
use Rattle.std.proofs.lemmas.Option.{slice_get_within}
use Rattle.pdus.specs.ClnpViews.Extent.{Extent}
use Rattle.system_tables.specs.declared.reassembly.segment.Key.{Key}
use Rattle.system_tables.specs.declared.reassembly.segment.Segment.{Segment}
use Rattle.system_tables.specs.declared.reassembly.segment.Shape.{Shape}
use Rattle.system_tables.specs.declared.reassembly.table.TableLimits.{TableLimits}
use Rattle.system_tables.specs.declared.reassembly.openings.Opening.{Opening}
use Rattle.system_tables.specs.Reassembly.Arrival.{Arrival, arrival_of, are_covered, same_shape}
use Rattle.system_tables.specs.Reassembly.Buffer.{Buffer, Crowded, Interference, Many, NoSlot, Repeat, buffer_of, clashes, held, kept, kept_in, refusal, shape_in}
use Rattle.system_tables.specs.Reassembly.Offered.{openings_of}
use Rattle.system_tables.specs.Reassembly.State.{Stands, TableState, opening_of, segments_of, place_of}
use Rattle.system_tables.proofs.ReassemblyFacts.Slots.{slot_missing, slot_there}
use Rattle.system_tables.proofs.ReassemblyFacts.Standing.{buffer_missing, buffer_there, kept_there}

-- two shapes are the same exactly where the test says so
shape_of_parts : (a b : Shape) → a.total ≡ b.total → a.head_len ≡ b.head_len → a.kind ≡ b.kind → a ≡ b
shape_of_parts a b total head_len kind = λ i. record { total = total i; head_len = head_len i; kind = kind i }

pub same_shape-Decides : (a b : Shape) → Decides (same_shape a b) (a ≡ b)
same_shape-Decides a b =
    Decides-like (same_shape a b)
    (λ parts. shape_of_parts a b parts.0 parts.1.0 parts.1.1)
    (λ e. (ap (λ (shape : Shape). shape.total) e, (ap (λ (shape : Shape). shape.head_len) e, ap (λ (shape : Shape). shape.kind) e)))
    (Decides-and (a.total == b.total) ((a.head_len == b.head_len) && (a.kind == b.kind)) (Decides-eqb a.total b.total)
    (Decides-and (a.head_len == b.head_len) (a.kind == b.kind) (Decides-eqb a.head_len b.head_len) (Decides-eqb a.kind b.kind)))

-- the place of an opening is one of the table
pub slot_within : (key : Key) (openings : List Opening) (slot : Option ℕ) → place_of key openings ≡ slot
    → IfSome slot (λ place. place < length openings)
slot_within key openings None e = tt
slot_within key openings (Some slot) e =
    let there = slot_there key 0 slot openings e in
    let within = slice_get_within openings there.at there.opening there.stands_at in
    let counted = there.counted in omega arith

-- the shape of the opening at a place, if it is another one
abbrev pub IsOther : List Opening → Shape → Option ℕ → Option Shape → Type 0
IsOther openings shape slot other =
    MatchOption slot (other ≡ None) (λ place. (opening : Opening) → slice_get openings place ≡ Some opening
    → other ≡ (if same_shape opening.shape shape then None else Some opening.shape))

-- what it says of the buffer of the key
pub record Clashes (buffer : Option (Buffer Extent)) (shape : Shape) (other : Option Shape) : Type 0 where
  pub none : other ≡ None → clashes buffer shape ≡ false
  pub some : (kept : Shape) → other ≡ Some kept → clashes buffer shape ≡ true
  pub shape_is : (kept : Shape) → other ≡ Some kept → shape_in buffer shape ≡ kept

clashes_by : (buffer : Buffer Extent) (shape : Shape) (other : Option Shape) (same : Bool) → same_shape buffer.shape shape ≡ same
    → other ≡ cond same None (Some buffer.shape) → Clashes (Some buffer) shape other
clashes_by buffer shape other true e is = record {
  none = λ _. rw e refl;
  some = λ kept f. absurd (let g : None ≡ Some kept = sym is ∙ f in cc);
  shape_is = λ kept f. absurd (let g : None ≡ Some kept = sym is ∙ f in cc);
}
clashes_by buffer shape other false e is = record {
  none = λ f. absurd (let g : Some buffer.shape ≡ None = sym is ∙ f in cc);
  some = λ kept f. rw e refl;
  shape_is = λ kept f. (let g : Some buffer.shape ≡ Some kept = sym is ∙ f in cc);
}

pub clashes_there : (table : TableState) (key : Key) (shape : Shape) (buffers : List (Buffer Extent)) (slot : Option ℕ) (other : Option Shape)
    → Stands table buffers → place_of key table.openings ≡ slot → IsOther table.openings shape slot other
    → Clashes (buffer_of key buffers) shape other
clashes_there table key shape buffers None other stands e is =
    let missing = buffer_missing key buffers (subst (λ (openings : List Opening). openings_of key openings ≡ 0) stands.openings (slot_missing key 0 table.openings e)) in
    rw missing (record {
      none = λ _. refl;
      some = λ kept f. absurd (let g : None ≡ Some kept = sym is ∙ f in cc);
      shape_is = λ kept f. absurd (let g : None ≡ Some kept = sym is ∙ f in cc);
    })
clashes_there table key shape buffers (Some slot) other stands e is =
    let there = buffer_there key 0 slot buffers (subst (λ (openings : List Opening). place_of key openings ≡ Some slot) stands.openings e) in
    let at : there.at ≡ slot = (let f = there.counted in omega arith) in
    let here : slice_get table.openings slot ≡ Some (opening_of there.buffer)
    = subst (λ (n : ℕ). slice_get table.openings n ≡ Some (opening_of there.buffer)) at
    (ap (λ (openings : List Opening). slice_get openings there.at) stands.openings ∙ there.stands_at) in
    subst (λ (found : Option (Buffer Extent)). Clashes found shape other) (sym there.found)
    (clashes_by there.buffer shape other (same_shape there.buffer.shape shape) refl (is (opening_of there.buffer) here))

-- there is no buffer where there is no opening
pub none_there : (table : TableState) (key : Key) (buffers : List (Buffer Extent)) (slot : Option ℕ) → Stands table buffers
    → place_of key table.openings ≡ slot → is_none slot ≡ is_none (buffer_of key buffers)
none_there table key buffers None stands e =
    let missing = buffer_missing key buffers (subst (λ (openings : List Opening). openings_of key openings ≡ 0) stands.openings (slot_missing key 0 table.openings e)) in
    sym (ap (λ (found : Option (Buffer Extent)). is_none found) missing)
none_there table key buffers (Some slot) stands e =
    let there = buffer_there key 0 slot buffers (subst (λ (openings : List Opening). place_of key openings ≡ Some slot) stands.openings e) in
    sym (ap (λ (found : Option (Buffer Extent)). is_none found) there.found)

-- a buffer whose shape is no other has this one
pub same_unit_there : (openings : List Opening) (key : Key) (shape : Shape) (slot : Option ℕ) (other : Option Shape) → place_of key openings ≡ slot
    → IsOther openings shape slot other → other ≡ None → (place : ℕ) (opening : Opening) → place_of key openings ≡ Some place
    → slice_get openings place ≡ Some opening → opening.shape ≡ shape
same_unit_there openings key shape None other e is none place opening f there = absurd (let g : None ≡ Some place = sym e ∙ f in cc)
same_unit_there openings key shape (Some slot) other e is none place opening f there =
    let g : slot ≡ place = (let h : Some slot ≡ Some place = sym e ∙ f in cc) in
    let told = is opening (subst (λ (n : ℕ). slice_get openings n ≡ Some opening) (sym g) there) in
    elim (cases_Bool (same_shape opening.shape shape)) [
      | inl same ↦ (same_shape-Decides opening.shape shape).0 same
      | inr different ↦ absurd (let h : None ≡ Some opening.shape = sym none ∙ (told ∙ cond-false (same_shape opening.shape shape) None (Some opening.shape) different) in cc)
    ]

-- a table that lacks no opening has room for one
pub room_there : (openings : List Opening) (key : Key) (slots : ℕ) (slot : Option ℕ) → place_of key openings ≡ slot
    → (is_none slot && nat_le slots (length openings)) ≡ false → openings_of key openings ≡ 0 → length openings < slots
room_there openings key slots None e room none = leb-false slots (length openings) room
room_there openings key slots (Some slot) e room none = let there = slot_there key 0 slot openings e in let some = there.some in absurd (omega arith)

-- the octets of a segment are there, as the table's segments have it
pub covered_there : (table : TableState) (segment : Segment) (buffers : List (Buffer Extent)) (segments : List Segment) (there : Bool)
    → Stands table buffers → AllByRecursion (λ other. openings_of other.key table.openings ≡ 1) table.segments
    → segments ≡ table.segments
    → there ≡ are_covered (map arrival_of (segments_of segment.key segments)) (arrival_of segment).offset (arrival_of segment).len
    → are_covered (kept_in (buffer_of segment.key buffers)) (arrival_of segment).offset (arrival_of segment).len ≡ there
covered_there table segment buffers segments there stands owned same told =
    ap (λ (arrivals : List (Arrival Extent)). are_covered arrivals (arrival_of segment).offset (arrival_of segment).len)
    (kept_there table segment.key buffers (buffer_of segment.key buffers) stands owned refl
    ∙ ap (λ (kept : List Segment). map arrival_of (segments_of segment.key kept)) (sym same))
    ∙ sym told

-- there is no buffer and none is left, as the table's openings have it
pub full_there : (table : TableState) (key : Key) (buffers : List (Buffer Extent)) (slot : Option ℕ) (full : Bool) → Stands table buffers
    → place_of key table.openings ≡ slot → full ≡ (is_none slot && nat_le table.limits.slots (length table.openings))
    → (is_none (buffer_of key buffers) && nat_le table.limits.slots (length buffers)) ≡ full
full_there table key buffers slot full stands e told =
    let none = none_there table key buffers slot stands e in
    let number : length table.openings ≡ length buffers = ap length stands.openings ∙ length-map buffers opening_of in
    sym (told ∙ (ap (λ (b : Bool). b && nat_le table.limits.slots (length table.openings)) none
    ∙ ap (λ (n : ℕ). is_none (buffer_of key buffers) && nat_le table.limits.slots n) number))

-- the refusals, one by one
module _ {C : Type 0} where
  pub by_shape : (limits : TableLimits) (arrival : Arrival C) (buffers : List (Buffer C))
      → clashes (buffer_of arrival.key buffers) arrival.shape ≡ true
      → refusal limits arrival buffers ≡ Some (Interference (shape_in (buffer_of arrival.key buffers) arrival.shape) arrival.shape)
  by_shape limits arrival buffers clash = cond-true _ _ _ clash

  pub by_repeat : (limits : TableLimits) (arrival : Arrival C) (buffers : List (Buffer C))
      → clashes (buffer_of arrival.key buffers) arrival.shape ≡ false
      → are_covered (kept_in (buffer_of arrival.key buffers)) arrival.offset arrival.len ≡ true
      → refusal limits arrival buffers ≡ Some Repeat
  by_repeat limits arrival buffers clash covered = cond-false _ _ _ clash ∙ cond-true _ _ _ covered

  pub by_slots : (limits : TableLimits) (arrival : Arrival C) (buffers : List (Buffer C))
      → clashes (buffer_of arrival.key buffers) arrival.shape ≡ false
      → are_covered (kept_in (buffer_of arrival.key buffers)) arrival.offset arrival.len ≡ false
      → (is_none (buffer_of arrival.key buffers) && nat_le limits.slots (length buffers)) ≡ true
      → refusal limits arrival buffers ≡ Some (NoSlot (length buffers))
  by_slots limits arrival buffers clash covered full = cond-false _ _ _ clash ∙ (cond-false _ _ _ covered ∙ cond-true _ _ _ full)

  pub by_budget : (limits : TableLimits) (arrival : Arrival C) (buffers : List (Buffer C))
      → clashes (buffer_of arrival.key buffers) arrival.shape ≡ false
      → are_covered (kept_in (buffer_of arrival.key buffers)) arrival.offset arrival.len ≡ false
      → (is_none (buffer_of arrival.key buffers) && nat_le limits.slots (length buffers)) ≡ false
      → nat_lt limits.budget (held buffers + arrival.size) ≡ true
      → refusal limits arrival buffers ≡ Some (Crowded (held buffers) arrival.size)
  by_budget limits arrival buffers clash covered full over =
      cond-false _ _ _ clash ∙ (cond-false _ _ _ covered ∙ (cond-false _ _ _ full ∙ cond-true _ _ _ over))

  pub by_segments : (limits : TableLimits) (arrival : Arrival C) (buffers : List (Buffer C))
      → clashes (buffer_of arrival.key buffers) arrival.shape ≡ false
      → are_covered (kept_in (buffer_of arrival.key buffers)) arrival.offset arrival.len ≡ false
      → (is_none (buffer_of arrival.key buffers) && nat_le limits.slots (length buffers)) ≡ false
      → nat_lt limits.budget (held buffers + arrival.size) ≡ false
      → (many : Bool) → nat_le limits.segments (kept buffers) ≡ many
      → refusal limits arrival buffers ≡ cond many (Some (Many (kept buffers))) None
  by_segments limits arrival buffers clash covered full over many e =
      cond-false _ _ _ clash ∙ (cond-false _ _ _ covered ∙ (cond-false _ _ _ full ∙ (cond-false _ _ _ over
      ∙ ap (λ (b : Bool). cond b (Some (Many (kept buffers))) None) e)))
