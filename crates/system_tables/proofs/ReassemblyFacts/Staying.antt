-- Buffers keep their slots.
use Rattle.std.proofs.Common.{◌≡◌, ◌≢◌, ◌∙◌, sym, ap, refl, ℕ, zero, suc, ◌==◌, ◌≤◌, not, List, [], ◌∷◌, ◌++◌, map, Some, inl, inr, arith}
use Rattle.std.specs.Prelude.{filter, slice_get}
use Rattle.std.specs.List.{AllByRecursion, remove}
use Rattle.std.proofs.lemmas.Bool.{cases_Bool}
use Rattle.std.proofs.lemmas.Option.{none-some, same_Some, slice_get_within}
use Rattle.pdus.proofs.ClnpBase.Choices.{is_equal, not_equal}
use Rattle.pdus.proofs.ClnpBase.Lists.{slice_get-push_other}
use Rattle.system_tables.specs.declared.reassembly.segment.Key.{Key}
use Rattle.system_tables.specs.declared.reassembly.segment.Segment.{Segment}
use Rattle.system_tables.specs.declared.reassembly.openings.Opening.{Opening}
use Rattle.system_tables.specs.Reassembly.Arrival.{same_key}
use Rattle.system_tables.specs.Reassembly.Kept.{IsKept, opening_by}
use Rattle.system_tables.specs.Reassembly.Offered.{openings_of}
use Rattle.system_tables.specs.Reassembly.State.{SlotsStay, TableState, opening_of}
use Rattle.system_tables.proofs.ReassemblyFacts.Ended.{remove-slot}
use Rattle.system_tables.proofs.ReassemblyFacts.Opened.{openings_with-none, openings_with-some, slots_with-none, slots_with-some}
use Rattle.system_tables.proofs.ReassemblyFacts.Standing.{buffer_missing}

-- where they and the openings are as they were
pub same_slots : (before after : TableState) → after.openings ≡ before.openings → after.slots ≡ before.slots → SlotsStay before after
same_slots before after openings slots slot key buffers buffer named stands found =
    record {
      place = named.place;
      has_slot = ap (λ l. slice_get l named.place) slots ∙ named.has_slot;
      is_at = record {
        opening = named.is_at.opening;
        stands_at = ap (λ l. slice_get l named.place) openings ∙ named.is_at.stands_at;
        key_is = named.is_at.key_is;
      };
    }

module _ {X : Type 0} where
  get-push : (xs : List X) (i : ℕ) (x y : X) → slice_get xs i ≡ Some x → slice_get (xs ++ y ∷ []) i ≡ Some x
  get-push xs i x y e =
      let within = slice_get_within xs i x e in
      slice_get-push_other xs i y (λ same. omega arith) ∙ e

-- where an opening came to the end
pub more_slots : (before after : TableState) (opening : Opening) (taken : ℕ) → after.openings ≡ before.openings ++ opening ∷ []
    → after.slots ≡ before.slots ++ taken ∷ [] → SlotsStay before after
more_slots before after opening taken openings slots slot key buffers buffer named stands found =
    record {
      place = named.place;
      has_slot = ap (λ l. slice_get l named.place) slots ∙ get-push before.slots named.place slot taken named.has_slot;
      is_at = record {
        opening = named.is_at.opening;
        stands_at = ap (λ l. slice_get l named.place) openings
            ∙ get-push before.openings named.place named.is_at.opening opening named.is_at.stands_at;
        key_is = named.is_at.key_is;
      };
    }

-- where a segment is kept
pub kept_slots : (now : ℕ) (segment : Segment) (before after : TableState) → IsKept now segment before after → SlotsStay before after
kept_slots now segment before after kept =
    let openings = ap (λ (t : TableState). t.openings) kept.is in
    let slots = ap (λ (t : TableState). t.slots) kept.is in
    elim (cases_Bool (openings_of segment.key before.openings == 0)) [
      | inl is ↦ (let none = is_equal (openings_of segment.key before.openings) 0 is in
          more_slots before after (opening_by before.limits now segment) kept.slot
          (openings ∙ openings_with-none before.limits now segment before.openings none) (slots ∙ slots_with-none segment kept.slot before none))
      | inr isnt ↦ (let differs = not_equal (openings_of segment.key before.openings) 0 isnt in
          let some : 1 ≤ openings_of segment.key before.openings = omega arith in
          same_slots before after
          (openings ∙ openings_with-some before.limits now segment before.openings some) (slots ∙ slots_with-some segment kept.slot before some))
    ]

-- where what stood at a place stands once another was taken out
abbrev moved : ℕ → ℕ → ℕ
moved zero out = zero
moved (suc place) zero = place
moved (suc place) (suc out) = suc (moved place out)

get-remove : {X : Type 0} (xs : List X) (i out : ℕ) (x : X) → i ≢ out → slice_get xs i ≡ Some x → slice_get (remove xs out) (moved i out) ≡ Some x
get-remove [] i out x other e = absurd (none-some x e)
get-remove (first ∷ rest) zero zero x other e = absurd (other refl)
get-remove (first ∷ rest) zero (suc out) x other e = e
get-remove (first ∷ rest) (suc i) zero x other e = e
get-remove (first ∷ rest) (suc i) (suc out) x other e = get-remove rest i out x (λ same. other (ap suc same)) e

-- no opening of a key is left once those of it are taken out
none_left : (key : Key) (openings : List Opening) → openings_of key (filter (λ o. not (same_key o.key key)) openings) ≡ 0
none_left key [] = refl
none_left key (opening ∷ others) =
    elim (cases_Bool (same_key opening.key key)) [
      | inl same ↦ rw same (none_left key others)
      | inr other ↦ rw other (rw other (none_left key others))
    ]

-- where an opening was taken out
pub left_slots : (before after : TableState) (place : ℕ) (closed : Opening) → slice_get before.openings place ≡ Some closed
    → AllByRecursion (λ o. openings_of o.key before.openings ≡ 1) before.openings
    → after.openings ≡ remove before.openings place → after.slots ≡ remove before.slots place → SlotsStay before after
left_slots before after place closed at distinct openings slots slot key buffers buffer named stands found =
    let gone : (named.place ≡ place) → ⊥ = λ same. (
    let closed_is : named.is_at.opening ≡ closed = same_Some named.is_at.opening closed
    (sym named.is_at.stands_at ∙ ap (λ n. slice_get before.openings n) same ∙ at) in
    let key_is : closed.key ≡ key = ap (λ (o : Opening). o.key) (sym closed_is) ∙ named.is_at.key_is in
    let none : openings_of key (map opening_of buffers) ≡ 0 =
    ap (openings_of key) (sym stands.openings ∙ openings ∙ remove-slot before.openings place closed at key key_is distinct) ∙ none_left key before.openings in
    none-some buffer (sym (buffer_missing key buffers none) ∙ found)) in
    record {
      place = moved named.place place;
      has_slot = ap (λ l. slice_get l (moved named.place place)) slots ∙ get-remove before.slots named.place place slot gone named.has_slot;
      is_at = record {
        opening = named.is_at.opening;
        stands_at = ap (λ l. slice_get l (moved named.place place)) openings
            ∙ get-remove before.openings named.place place named.is_at.opening gone named.is_at.stands_at;
        key_is = named.is_at.key_is;
      };
    }
