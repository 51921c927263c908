-- What stands in the slots that are taken, in the order of opening.
use Rattle.std.proofs.Common.{◌≡◌, ◌≢◌, ◌∙◌, sym, ap, refl, ℕ, zero, suc, ◌+◌, ◌==◌, ◌<◌, true, cond, List, [], ◌∷◌, ◌++◌, length, Option, Some, None, is_some, arith}
use Rattle.std.specs.Prelude.{slice_get}
use Rattle.std.specs.List.{AllByRecursion, cons_option, filter_map, position_from, remove}
use Rattle.std.proofs.lemmas.Bool.{false≢true, ne_eqb}
use Rattle.std.proofs.lemmas.Option.{none-some, same_Some}
use Rattle.system_tables.specs.declared.reassembly.segment.Key.{Key}
use Rattle.system_tables.specs.declared.reassembly.openings.Opening.{Opening}
use Rattle.system_tables.specs.Reassembly.Arrival.{same_key}
use Rattle.system_tables.specs.Reassembly.Openings.{AreApart, ends_at, is_of}
use Rattle.pdus.proofs.ClnpBase.Choices.{equal_is}
use Rattle.pdus.proofs.ClnpBase.Lists.{AllByRecursion-both, AllByRecursion-implies, AllByRecursion-push, AllByRecursion-slice_get}

-- ---- numbers of which none stands twice

-- each stands first where it stands
pub first_place : (slots : List ℕ) (n place slot : ℕ) → AreApart slots → slice_get slots place ≡ Some slot
    → position_from (λ other. other == slot) n slots ≡ Some (n + place)
first_place [] n place slot apart e = absurd (none-some slot e)
first_place (first ∷ others) n zero slot apart e =
    let here : n ≡ n + 0 = omega arith in
    rw (equal_is first slot (same_Some first slot e)) (ap (λ (k : ℕ). Some k) here)
first_place (first ∷ others) n (suc place) slot apart e =
    let differs : slot ≢ first = AllByRecursion-slice_get (λ other. other ≢ first) others place slot e apart.0 in
    let counted : n + 1 + place ≡ n + suc place = omega arith in
    rw (ne_eqb first slot (λ same. differs (sym same)))
    (first_place others (n + 1) place slot apart.1 e ∙ ap (λ (k : ℕ). Some k) counted)

-- no other place has what stands at a place
pub same_place : (slots : List ℕ) (slot place other : ℕ) → AreApart slots → slice_get slots place ≡ Some slot → slice_get slots other ≡ Some slot → place ≡ other
same_place slots slot place other apart here there =
    let same = same_Some (0 + place) (0 + other) (sym (first_place slots 0 place slot apart here) ∙ first_place slots 0 other slot apart there) in
    omega (arith, same)

pub AreApart-push : (slots : List ℕ) (slot : ℕ) → AreApart slots → AllByRecursion (λ other. other ≢ slot) slots → AreApart (slots ++ slot ∷ [])
AreApart-push [] slot apart differ = (tt, tt)
AreApart-push (first ∷ others) slot apart differ = (
  AllByRecursion-push (λ other. other ≢ first) others slot apart.0 (λ same. differ.0 (sym same)),
  AreApart-push others slot apart.1 differ.1,
)

pub AllByRecursion-remove : {X : Type 0} (P : X → Type 0) (xs : List X) (i : ℕ) → i < length xs → AllByRecursion P xs → AllByRecursion P (remove xs i)
AllByRecursion-remove P [] i within all = absurd (omega arith)
AllByRecursion-remove P (x ∷ xs) zero within all = all.1
AllByRecursion-remove P (x ∷ xs) (suc i) within all = (all.0, AllByRecursion-remove P xs i (omega arith) all.1)

pub AreApart-remove : (slots : List ℕ) (place : ℕ) → place < length slots → AreApart slots → AreApart (remove slots place)
AreApart-remove [] place within apart = absurd (omega arith)
AreApart-remove (first ∷ others) zero within apart = apart.1
AreApart-remove (first ∷ others) (suc place) within apart =
    (AllByRecursion-remove (λ other. other ≢ first) others place (omega arith) apart.0, AreApart-remove others place (omega arith) apart.1)

-- ---- what stands in slots

value_there : {X : Type 0} (option : Option X) → is_some option ≡ true → (x : X) × (option ≡ Some x)
value_there None e = absurd (false≢true e)
value_there (Some x) e = (x, refl)

cons_option-append : {X : Type 0} (option : Option X) (xs ys : List X) → cons_option option xs ++ ys ≡ cons_option option (xs ++ ys)
cons_option-append None xs ys = refl
cons_option-append (Some x) xs ys = refl

remove-cons_option : {X : Type 0} (option : Option X) (xs : List X) (place : ℕ) → is_some option ≡ true
    → remove (cons_option option xs) (suc place) ≡ cons_option option (remove xs place)
remove-cons_option None xs place e = absurd (false≢true e)
remove-cons_option (Some x) xs place e = refl

module _ {X : Type 0} (old : ℕ → Option X) where
  abbrev pub AllTaken : List ℕ → Type 0
  AllTaken slots = AllByRecursion (λ slot. is_some (old slot) ≡ true) slots

  pub list_at : (slots : List ℕ) (place slot : ℕ) → AllTaken slots → slice_get slots place ≡ Some slot → slice_get (filter_map old slots) place ≡ old slot
  list_at [] place slot taken e = absurd (none-some slot e)
  list_at (first ∷ others) zero slot taken e =
      let there = value_there (old first) taken.0 in
      rw there.1 (sym there.1 ∙ ap old (same_Some first slot e))
  list_at (first ∷ others) (suc place) slot taken e =
      let there = value_there (old first) taken.0 in
      rw there.1 (list_at others place slot taken.1 e)

  pub nothing_at : (slots : List ℕ) (place : ℕ) → AllTaken slots → slice_get slots place ≡ None → slice_get (filter_map old slots) place ≡ None
  nothing_at [] place taken e = refl
  nothing_at (first ∷ others) zero taken e = absurd (cc)
  nothing_at (first ∷ others) (suc place) taken e =
      let there = value_there (old first) taken.0 in
      rw there.1 (nothing_at others place taken.1 e)

  pub length-list : (slots : List ℕ) → AllTaken slots → length (filter_map old slots) ≡ length slots
  length-list [] taken = refl
  length-list (first ∷ others) taken =
      let there = value_there (old first) taken.0 in
      rw there.1 (ap suc (length-list others taken.1))

  module _ (new : ℕ → Option X) (slot : ℕ) (others_stay : (other : ℕ) → other ≢ slot → new other ≡ old other) where
    stays_taken : (other : ℕ) → other ≢ slot → is_some (old other) ≡ true → is_some (new other) ≡ true
    stays_taken other differs taken = ap is_some (others_stay other differs) ∙ taken

    -- a slot more
    module _ (was_free : old slot ≡ None) where
      free_differs : (other : ℕ) → is_some (old other) ≡ true → other ≢ slot
      free_differs other taken = λ same. false≢true (sym (ap is_some (ap old same ∙ was_free)) ∙ taken)

      pub all_differ : (slots : List ℕ) → AllTaken slots → AllByRecursion (λ other. other ≢ slot) slots
      all_differ slots taken =
          AllByRecursion-implies (λ other. is_some (old other) ≡ true) (λ other. other ≢ slot) free_differs slots taken

      pub taken-push : (slots : List ℕ) → AllTaken slots → is_some (new slot) ≡ true
          → AllByRecursion (λ other. is_some (new other) ≡ true) (slots ++ slot ∷ [])
      taken-push slots taken here =
          AllByRecursion-push (λ other. is_some (new other) ≡ true) slots slot
          (AllByRecursion-implies (λ other. is_some (old other) ≡ true) (λ other. is_some (new other) ≡ true)
          (λ other there. stays_taken other (free_differs other there) there) slots taken)
          here

      pub list-push : (slots : List ℕ) (x : X) → AllTaken slots → new slot ≡ Some x
          → filter_map new (slots ++ slot ∷ []) ≡ filter_map old slots ++ x ∷ []
      list-push [] x taken here = rw here refl
      list-push (first ∷ others) x taken here =
          let same = others_stay first (free_differs first taken.0) in
          let rest = list-push others x taken.1 here in
          (λ i. cons_option (same i) (rest i)) ∙ sym (cons_option-append (old first) (filter_map old others) (x ∷ []))

    -- a slot less
    list-same : (slots : List ℕ) → AllByRecursion (λ other. other ≢ slot) slots → filter_map new slots ≡ filter_map old slots
    list-same [] differ = refl
    list-same (first ∷ others) differ =
        rw (others_stay first differ.0) (ap (λ (l : List X). cons_option (old first) l) (list-same others differ.1))

    other_than_first : (first place : ℕ) (others : List ℕ) → AllByRecursion (λ other. other ≢ first) others → slice_get others place ≡ Some slot → first ≢ slot
    other_than_first first place others apart e = λ same. AllByRecursion-slice_get (λ other. other ≢ first) others place slot e apart (sym same)

    pub taken-remove : (slots : List ℕ) (place : ℕ) → AreApart slots → AllTaken slots → slice_get slots place ≡ Some slot
        → AllByRecursion (λ other. is_some (new other) ≡ true) (remove slots place)
    taken-remove [] place apart taken e = absurd (none-some slot e)
    taken-remove (first ∷ others) zero apart taken e =
        AllByRecursion-both (λ other. other ≢ first) (λ other. is_some (old other) ≡ true) (λ other. is_some (new other) ≡ true)
        (λ other differs there. stays_taken other (λ same. differs (same ∙ sym (same_Some first slot e))) there) others apart.0 taken.1
    taken-remove (first ∷ others) (suc place) apart taken e =
        (stays_taken first (other_than_first first place others apart.0 e) taken.0, taken-remove others place apart.1 taken.1 e)

    pub list-remove : (slots : List ℕ) (place : ℕ) → AreApart slots → AllTaken slots → slice_get slots place ≡ Some slot
        → filter_map new (remove slots place) ≡ remove (filter_map old slots) place
    list-remove [] place apart taken e = absurd (none-some slot e)
    list-remove (first ∷ others) zero apart taken e =
        let there = value_there (old first) taken.0 in
        rw there.1 (list-same others (AllByRecursion-implies (λ other. other ≢ first) (λ other. other ≢ slot)
        (λ other differs. λ same. differs (same ∙ sym (same_Some first slot e))) others apart.0))
    list-remove (first ∷ others) (suc place) apart taken e =
        let same = others_stay first (other_than_first first place others apart.0 e) in
        let rest = list-remove others place apart.1 taken.1 e in
        (λ i. cons_option (same i) (rest i)) ∙ sym (remove-cons_option (old first) (filter_map old others) place taken.0)

-- the place of a key's opening is that of its slot
pub place-list : (old : ℕ → Option Opening) (key : Key) (n : ℕ) (slots : List ℕ) → AllTaken old slots
    → position_from (λ slot. is_of key (old slot)) n slots ≡ position_from (λ opening. same_key opening.key key) n (filter_map old slots)
place-list old key n [] taken = refl
place-list old key n (first ∷ others) taken =
    let there = value_there (old first) taken.0 in
    rw there.1 (ap (λ (o : Option ℕ). cond (same_key there.0.key key) (Some n) o) (place-list old key (n + 1) others taken.1))

-- the first place of an opening whose time ends at a moment is that of its slot
pub place-ending : (old : ℕ → Option Opening) (moment n : ℕ) (slots : List ℕ) → AllTaken old slots
    → position_from (λ slot. ends_at moment (old slot)) n slots ≡ position_from (λ opening. opening.deadline == moment) n (filter_map old slots)
place-ending old moment n [] taken = refl
place-ending old moment n (first ∷ others) taken =
    let there = value_there (old first) taken.0 in
    rw there.1 (ap (λ (o : Option ℕ). cond (there.0.deadline == moment) (Some n) o) (place-ending old moment (n + 1) others taken.1))
