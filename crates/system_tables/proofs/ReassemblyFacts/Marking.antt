-- How many openings have a mark, after one more or one less; and a key whose mark none has.
use Rattle.std.proofs.Common.{◌≡◌, ◌≢◌, ℕ, zero, suc, ◌+◌, ◌-◌, ◌*◌, ◌==◌, ◌<◌, ◌≤◌, Bool, true, false, List, [], ◌∷◌, ◌++◌, length, get_or, Option, Some, None, refl, sym, ap, ◌∙◌, inl, inr, arith}
use Rattle.std.specs.Prelude.{replicate, slice_get, slice_set}
use Rattle.std.specs.List.{AllByRecursion, position_from, remove}
use Rattle.std.proofs.lemmas.Bool.{cases_Bool, false≢true}
use Rattle.std.proofs.lemmas.List.{get_or-set_other, get_or-set_same, get_or-replicate, length-set, length-replicate}
use Rattle.std.proofs.lemmas.Nat.{mod_below}
use Rattle.std.proofs.lemmas.Option.{none-some, same_Some}
use Rattle.pdus.proofs.ClnpBase.Choices.{equal_is, is_equal}
use Rattle.pdus.proofs.ClnpBase.Lists.{AllByRecursion-slice_get}
use Rattle.system_tables.specs.declared.reassembly.segment.Key.{Key}
use Rattle.system_tables.specs.declared.reassembly.openings.Opening.{Opening}
use Rattle.system_tables.specs.Reassembly.Arrival.{same_key}
use Rattle.system_tables.specs.Reassembly.Marks.{AreCounted, mark_of, marked}
use Rattle.system_tables.specs.Reassembly.Offered.{openings_of}
use Rattle.system_tables.specs.Reassembly.Openings.{is_of}
use Rattle.system_tables.proofs.ReassemblyFacts.Keys.{same_key-true}
use Rattle.system_tables.proofs.ReassemblyFacts.Slots.{openings_of-other, openings_of-same}

-- 1 where an opening has a mark
abbrev pub one_if : Bool → ℕ
one_if true = 1
one_if false = 0

one_most : (b : Bool) → one_if b ≤ 1
one_most true = omega arith
one_most false = omega arith

module _ (number mark : ℕ) where
  abbrev pub has_mark : Opening → Bool
  has_mark opening = mark_of number opening.key == mark

  marked-same : (opening : Opening) (others : List Opening) → (mark_of number opening.key == mark) ≡ true → marked number mark (opening ∷ others) ≡ suc (marked number mark others)
  marked-same opening others e = rw e refl

  marked-other : (opening : Opening) (others : List Opening) → (mark_of number opening.key == mark) ≡ false → marked number mark (opening ∷ others) ≡ marked number mark others
  marked-other opening others e = rw e refl

  marked-cons : (opening : Opening) (others : List Opening) → marked number mark (opening ∷ others) ≡ one_if (has_mark opening) + marked number mark others
  marked-cons opening others =
      elim (cases_Bool (mark_of number opening.key == mark)) [
        | inl t ↦ (let one : one_if (has_mark opening) ≡ 1 = ap one_if t in omega (arith, one, marked-same opening others t))
        | inr f ↦ (let none : one_if (has_mark opening) ≡ 0 = ap one_if f in omega (arith, none, marked-other opening others f))
      ]

  pub marked-push : (openings : List Opening) (opening : Opening)
      → marked number mark (openings ++ opening ∷ []) ≡ marked number mark openings + one_if (has_mark opening)
  marked-push [] opening = let e = marked-cons opening [] in omega (arith, e)
  marked-push (first ∷ others) opening =
      let e = marked-cons first (others ++ opening ∷ []) in
      let f = marked-cons first others in
      let rest = marked-push others opening in
      omega (arith, e, f, rest)

  pub marked-remove : (openings : List Opening) (place : ℕ) (opening : Opening) → slice_get openings place ≡ Some opening
      → marked number mark (remove openings place) + one_if (has_mark opening) ≡ marked number mark openings
  marked-remove [] place opening e = absurd (none-some opening e)
  marked-remove (first ∷ others) zero opening e =
      let f = marked-cons first others in
      let same : one_if (has_mark first) ≡ one_if (has_mark opening) = ap (λ o. one_if (has_mark o)) (same_Some first opening e) in
      omega (arith, f, same)
  marked-remove (first ∷ others) (suc place) opening e =
      let f = marked-cons first (remove others place) in
      let g = marked-cons first others in
      let rest = marked-remove others place opening e in
      omega (arith, f, g, rest)

  pub marked_few : (openings : List Opening) → marked number mark openings ≤ length openings
  marked_few [] = omega arith
  marked_few (first ∷ others) =
      let f = marked-cons first others in
      let one = one_most (has_mark first) in
      let rest = marked_few others in
      omega (arith, f, one, rest)

-- ---- the counts

module _ (counts : List ℕ) (openings : List Opening) (counted : AreCounted openings counts) where
  mark_within : (key : Key) (mark : ℕ) → mark ≡ mark_of (length counts) key → mark < length counts
  mark_within key mark is = omega (arith, is, mod_below (key.id + 67 * get_or key.from (length key.from - 1) 0) (length counts) counted.some)

  each-push : (opening : Opening) (mark : ℕ) → mark ≡ mark_of (length counts) opening.key → mark < length counts
      → (other : ℕ) → other < length (slice_set counts mark (get_or counts mark 0 + 1))
      → get_or (slice_set counts mark (get_or counts mark 0 + 1)) other 0
      ≡ marked (length (slice_set counts mark (get_or counts mark 0 + 1))) other (openings ++ opening ∷ [])
  each-push opening mark is within other other_within =
      let long = length-set counts mark (get_or counts mark 0 + 1) in
      let inside : other < length counts = omega (arith, other_within, long) in
      let number : marked (length (slice_set counts mark (get_or counts mark 0 + 1))) other (openings ++ opening ∷ [])
      ≡ marked (length counts) other (openings ++ opening ∷ []) = ap (λ n. marked n other (openings ++ opening ∷ [])) long in
      let more = marked-push (length counts) other openings opening in
      elim (cases_Bool (mark_of (length counts) opening.key == other)) [
        | inl t ↦ (let same : mark ≡ other = is ∙ is_equal (mark_of (length counts) opening.key) other t in
            let here = ap (λ n. get_or (slice_set counts mark (get_or counts mark 0 + 1)) n 0) (sym same)
            ∙ get_or-set_same counts mark (get_or counts mark 0 + 1) 0 within in
            let before = counted.each other inside in
            let read = ap (λ n. get_or counts n 0) same in
            let one : one_if (mark_of (length counts) opening.key == other) ≡ 1 = ap one_if t in
            omega (arith, number, more, here, before, read, one))
        | inr f ↦ (let differs : other ≢ mark = λ e. false≢true (sym f ∙ equal_is (mark_of (length counts) opening.key) other (sym is ∙ sym e)) in
            let here = get_or-set_other counts mark other (get_or counts mark 0 + 1) 0 differs in
            let before = counted.each other inside in
            let none : one_if (mark_of (length counts) opening.key == other) ≡ 0 = ap one_if f in
            omega (arith, number, more, here, before, none))
      ]

  -- one opening more
  pub counted-push : (opening : Opening) (mark : ℕ) → mark ≡ mark_of (length counts) opening.key
      → AreCounted (openings ++ opening ∷ []) (slice_set counts mark (get_or counts mark 0 + 1))
  counted-push opening mark is =
      let within : mark < length counts = mark_within opening.key mark is in
      record {
        some = omega (arith, counted.some, length-set counts mark (get_or counts mark 0 + 1));
        each = λ other other_within. each-push opening mark is within other other_within;
      }

  -- one opening less
  each-remove : (place : ℕ) (opening : Opening) (mark : ℕ) → slice_get openings place ≡ Some opening
      → mark ≡ mark_of (length counts) opening.key → mark < length counts
      → (other : ℕ) → other < length (slice_set counts mark (get_or counts mark 0 - 1))
      → get_or (slice_set counts mark (get_or counts mark 0 - 1)) other 0
      ≡ marked (length (slice_set counts mark (get_or counts mark 0 - 1))) other (remove openings place)
  each-remove place opening mark stands is within other other_within =
      let long = length-set counts mark (get_or counts mark 0 - 1) in
      let inside : other < length counts = omega (arith, other_within, long) in
      let number : marked (length (slice_set counts mark (get_or counts mark 0 - 1))) other (remove openings place)
      ≡ marked (length counts) other (remove openings place) = ap (λ n. marked n other (remove openings place)) long in
      let less = marked-remove (length counts) other openings place opening stands in
      elim (cases_Bool (mark_of (length counts) opening.key == other)) [
        | inl t ↦ (let same : mark ≡ other = is ∙ is_equal (mark_of (length counts) opening.key) other t in
            let here = ap (λ n. get_or (slice_set counts mark (get_or counts mark 0 - 1)) n 0) (sym same)
            ∙ get_or-set_same counts mark (get_or counts mark 0 - 1) 0 within in
            let before = counted.each other inside in
            let read = ap (λ n. get_or counts n 0) same in
            let one : one_if (mark_of (length counts) opening.key == other) ≡ 1 = ap one_if t in
            omega (arith, number, less, here, before, read, one))
        | inr f ↦ (let differs : other ≢ mark = λ e. false≢true (sym f ∙ equal_is (mark_of (length counts) opening.key) other (sym is ∙ sym e)) in
            let here = get_or-set_other counts mark other (get_or counts mark 0 - 1) 0 differs in
            let before = counted.each other inside in
            let none : one_if (mark_of (length counts) opening.key == other) ≡ 0 = ap one_if f in
            omega (arith, number, less, here, before, none))
      ]

  pub counted-remove : (place : ℕ) (opening : Opening) (mark : ℕ) → slice_get openings place ≡ Some opening → mark ≡ mark_of (length counts) opening.key
      → AreCounted (remove openings place) (slice_set counts mark (get_or counts mark 0 - 1))
  counted-remove place opening mark stands is =
      let within : mark < length counts = mark_within opening.key mark is in
      record {
        some = omega (arith, counted.some, length-set counts mark (get_or counts mark 0 - 1));
        each = λ other other_within. each-remove place opening mark stands is within other other_within;
      }

  -- the mark of an opening is counted
  pub counted_some : (place : ℕ) (opening : Opening) (mark : ℕ) → slice_get openings place ≡ Some opening
      → mark ≡ mark_of (length counts) opening.key → 0 < get_or counts mark 0
  counted_some place opening mark stands is =
      let within : mark < length counts = mark_within opening.key mark is in
      let less = marked-remove (length counts) mark openings place opening stands in
      let one : one_if (mark_of (length counts) opening.key == mark) ≡ 1 = ap one_if (equal_is (mark_of (length counts) opening.key) mark (sym is)) in
      let before = counted.each mark within in
      omega (arith, less, one, before)

  -- no more than the openings are counted
  pub counted_few : (key : Key) (mark : ℕ) → mark ≡ mark_of (length counts) key → get_or counts mark 0 ≤ length openings
  counted_few key mark is =
      let within : mark < length counts = mark_within key mark is in
      let before = counted.each mark within in
      let few = marked_few (length counts) mark openings in
      omega (arith, before, few)

-- nothing is counted where there are no openings
pub counted_none : (number : ℕ) → 0 < number → AreCounted [] (replicate number 0)
counted_none number some = record {
  some = omega (arith, some, length-replicate {A = ℕ} number 0);
  each = λ mark within. get_or-replicate number mark 0 0 (omega (arith, within, length-replicate {A = ℕ} number 0));
}

-- ---- the place of a key

-- where no opening has its mark, none has it
pub unmarked_missing : (key : Key) (number n : ℕ) (openings : List Opening) → marked number (mark_of number key) openings ≡ 0
    → position_from (λ opening. same_key opening.key key) n openings ≡ None
unmarked_missing key number n [] none = refl
unmarked_missing key number n (first ∷ others) none =
    let cons = marked-cons number (mark_of number key) first others in
    elim (cases_Bool (same_key first.key key)) [
      | inl same ↦ absurd (
          let e : mark_of number first.key ≡ mark_of number key = ap (mark_of number) (same_key-true first.key key same) in
          let one : one_if (mark_of number first.key == mark_of number key) ≡ 1 = ap one_if (equal_is (mark_of number first.key) (mark_of number key) e) in
          omega (arith, cons, one, none))
      | inr other ↦ rw other (unmarked_missing key number (n + 1) others (omega (arith, cons, none)))
    ]

openings_there : (key : Key) (place : ℕ) (openings : List Opening) (opening : Opening) → slice_get openings place ≡ Some opening
    → same_key opening.key key ≡ true → 1 ≤ openings_of key openings
openings_there key place [] opening e same = absurd (none-some opening e)
openings_there key zero (first ∷ others) opening e same =
    let here : same_key first.key key ≡ true = ap (λ (o : Opening). same_key o.key key) (same_Some first opening e) ∙ same in
    let more = openings_of-same key first others here in
    omega (arith, more)
openings_there key (suc place) (first ∷ others) opening e same =
    let some = openings_there key place others opening e same in
    elim (cases_Bool (same_key first.key key)) [
      | inl t ↦ (let more = openings_of-same key first others t in omega (arith, more, some))
      | inr f ↦ (let more = openings_of-other key first others f in omega (arith, more, some))
    ]

-- where each key has one opening, it stands where an opening of it stands
pub at_its_place : (key : Key) (n place : ℕ) (openings : List Opening) (opening : Opening) → openings_of key openings ≡ 1
    → slice_get openings place ≡ Some opening → same_key opening.key key ≡ true
    → position_from (λ opening. same_key opening.key key) n openings ≡ Some (n + place)
at_its_place key n place [] opening one e same = absurd (none-some opening e)
at_its_place key n zero (first ∷ others) opening one e same =
    let here : same_key first.key key ≡ true = ap (λ (o : Opening). same_key o.key key) (same_Some first opening e) ∙ same in
    let at : n ≡ n + 0 = omega arith in
    rw here (ap (λ (k : ℕ). Some k) at)
at_its_place key n (suc place) (first ∷ others) opening one e same =
    let counted : n + 1 + place ≡ n + suc place = omega arith in
    let some = openings_there key place others opening e same in
    elim (cases_Bool (same_key first.key key)) [
      | inl t ↦ absurd (let more = openings_of-same key first others t in omega (arith, more, some, one))
      | inr f ↦ rw f (at_its_place key (n + 1) place others opening (sym (openings_of-other key first others f) ∙ one) e same ∙ ap (λ (k : ℕ). Some k) counted)
    ]

pub unmarked_place : (key : Key) (openings : List Opening) (counts : List ℕ) → AreCounted openings counts → mark_of (length counts) key < length counts
    → get_or counts (mark_of (length counts) key) 0 ≡ 0 → None ≡ position_from (λ opening. same_key opening.key key) 0 openings
unmarked_place key openings counts counted within none =
    sym (unmarked_missing key (length counts) 0 openings (sym (counted.each (mark_of (length counts) key) within) ∙ none))

found_there : (key : Key) (openings : List Opening) (place : ℕ) (opening : Opening) → AllByRecursion (λ opening. openings_of opening.key openings ≡ 1) openings
    → slice_get openings place ≡ Some opening → same_key opening.key key ≡ true → Some place ≡ position_from (λ opening. same_key opening.key key) 0 openings
found_there key openings place opening distinct stands same =
    let one = AllByRecursion-slice_get (λ (o : Opening). openings_of o.key openings ≡ 1) openings place opening stands distinct in
    let at = at_its_place key 0 place openings opening (ap (λ (k : Key). openings_of k openings) (sym (same_key-true opening.key key same)) ∙ one) stands same in
    let counted : 0 + place ≡ place = omega arith in
    sym (at ∙ ap (λ (n : ℕ). Some n) counted)

-- an opening of the key stands at a place
pub found_at : (key : Key) (openings : List Opening) (place : ℕ) (there : Option Opening) → AllByRecursion (λ opening. openings_of opening.key openings ≡ 1) openings
    → slice_get openings place ≡ there → is_of key there ≡ true → Some place ≡ position_from (λ opening. same_key opening.key key) 0 openings
found_at key openings place None distinct stands same = absurd (false≢true same)
found_at key openings place (Some opening) distinct stands same = found_there key openings place opening distinct stands same
