-- The first element of a list that passes a test, whether there is one, and what a list contains.
use Rattle.std.proofs.Common.{◌≡◌, ℕ, suc, ◌+◌, ◌<◌, Bool, true, false, List, [], ◌∷◌, None, Some, is_some, take, get_or, length, inl, inr, ap, sym, subst, ◌∙◌, refl, arith}
use Rattle.std.specs.List.{Contains, find, list_any, position_from}
use Rattle.std.proofs.lemmas.Bool.{cases_Bool, true≢false, or_from}
use Rattle.std.proofs.lemmas.List.Folds.{Any-from_list_any, list_any_more, list_any_at}

module _ {X : Type 0} where
  -- one that passes a test is contained
  pub any_contains : (test : X → Bool) (xs : List X) → list_any test xs ≡ true → (x : X) × Contains xs x × (test x ≡ true)
  any_contains test xs e = let a = Any-from_list_any test xs e in (a.1, (a.0, a.2, a.3), a.4)

  pub contains_any : (test : X → Bool) (xs : List X) (x : X) → Contains xs x → test x ≡ true → list_any test xs ≡ true
  contains_any test xs x within passes = list_any_at test xs within.0 x within.1 (ap test within.2 ∙ passes)

  contains_here : (x : X) (xs : List X) → Contains (x ∷ xs) x
  contains_here x xs = (0, omega arith, refl)

  contains_behind : (x y : X) (xs : List X) → Contains xs y → Contains (x ∷ xs) y
  contains_behind x y xs within = (suc within.0, (let l : within.0 < length xs = within.1 in omega arith), within.2)

  -- the first that passes a test
  pub record IsFound (test : X → Bool) (xs : List X) (x : X) : Type 0 where
    pub is : find test xs ≡ Some x
    pub within : Contains xs x
    pub passes : test x ≡ true

  pub find_any : (test : X → Bool) (xs : List X) → list_any test xs ≡ true → (x : X) × IsFound test xs x
  find_any test [] e = absurd (true≢false (sym e))
  find_any test (x ∷ xs) e =
      elim (cases_Bool (test x)) [
        | inl passes ↦ (x, record { is = rw passes; within = contains_here x xs; passes = passes })
        | inr fails ↦
            let found = find_any test xs (rw fails at e) in (
              found.0,
              record {
                is = rw fails found.1.is;
                within = contains_behind x found.0 xs found.1.within;
                passes = found.1.passes;
              },
            )
      ]

  pub find_none : (test : X → Bool) (xs : List X) → list_any test xs ≡ false → find test xs ≡ None
  find_none test [] e = refl
  find_none test (x ∷ xs) e =
      elim (cases_Bool (test x)) [
        | inl passes ↦ absurd (true≢false (rw passes at e))
        | inr fails ↦ rw fails (find_none test xs (rw fails at e))
      ]

  pub is_some-find : (test : X → Bool) (xs : List X) → is_some (find test xs) ≡ list_any test xs
  is_some-find test [] = refl
  is_some-find test (x ∷ xs) =
      elim (cases_Bool (test x)) [ inl passes ↦ rw passes refl | inr fails ↦ rw fails (is_some-find test xs) ]

  -- where the first that passes stands
  record StandsFirst (p : X → Bool) (n i : ℕ) (xs : List X) : Type 0 where
    pub place : ℕ
    pub counted : n + place ≡ i
    pub within : place < length xs
    pub before : list_any p (take place xs) ≡ false
    pub passes : (d : X) → p (get_or xs place d) ≡ true
    pub found : (d : X) → find p xs ≡ Some (get_or xs place d)

  stands_first : (p : X → Bool) (n i : ℕ) (xs : List X) → position_from p n xs ≡ Some i → StandsFirst p n i xs
  stands_first p n i [] e = absurd (cc)
  stands_first p n i (x ∷ xs) e =
      elim (cases_Bool (p x)) [
        | inl holds ↦
            (let here : n ≡ i = grind (arith, holds, e) in
            record {
              place = 0;
              counted = omega arith;
              within = omega arith;
              before = refl;
              passes = λ d. holds;
              found = λ d. grind (arith, holds);
            })
        | inr fails ↦
            (let later = stands_first p (n + 1) i xs (grind (arith, fails, e)) in
            record {
              place = suc later.place;
              counted = omega arith;
              within = omega (arith, later.within);
              before = grind (arith, fails, later.before);
              passes = λ d. later.passes d;
              found = λ d. grind (arith, fails, later.found d);
            })
      ]

  pub none_found : (p : X → Bool) (n : ℕ) (xs : List X) → position_from p n xs ≡ None → list_any p xs ≡ false
  none_found p n [] e = refl
  none_found p n (x ∷ xs) e =
      let no : p x ≡ false = grind (arith, e) in
      let others : position_from p (n + 1) xs ≡ None = grind (arith, no, e) in
      let rest = none_found p (n + 1) xs others in
      grind (arith, no, rest)

  pub position_none : (p : X → Bool) (n : ℕ) (xs : List X) → list_any p xs ≡ false → position_from p n xs ≡ None
  position_none p n [] none = refl
  position_none p n (x ∷ xs) none =
      let no : p x ≡ false = grind (arith, none) in
      let others : list_any p xs ≡ false = grind (arith, none, no) in
      let rest = position_none p (n + 1) xs others in
      grind (arith, no, rest)

  -- one more element that does not pass, and one that was read
  pub none_more : (p : X → Bool) (k : ℕ) (xs : List X) (x : X) → k < length xs → x ≡ get_or xs k x → list_any p (take k xs) ≡ false
      → p x ≡ false → list_any p (take (k + 1) xs) ≡ false
  none_more p k xs x lt read before fails =
      list_any_more p xs k x lt ∙ or_from (list_any p (take k xs)) (p (get_or xs k x)) before (sym (ap p read) ∙ fails)

  -- the first that passes, counted from 0
  pub record IsFirst (p : X → Bool) (i : ℕ) (xs : List X) : Type 0 where
    pub within : i < length xs
    pub before : list_any p (take i xs) ≡ false
    pub passes : (x : X) → x ≡ get_or xs i x → p x ≡ true
    pub found : (x : X) → x ≡ get_or xs i x → find p xs ≡ Some x

  pub is_first : (p : X → Bool) (i : ℕ) (xs : List X) → position_from p 0 xs ≡ Some i → IsFirst p i xs
  is_first p i xs e =
      let first = stands_first p 0 i xs e in
      let same : first.place ≡ i = omega arith in
      record {
        within = omega arith;
        before = subst (λ k. list_any p (take k xs) ≡ false) same first.before;
        passes = λ x read. ap p read ∙ subst (λ k. p (get_or xs k x) ≡ true) same (first.passes x);
        found = λ x read. subst (λ k. find p xs ≡ Some (get_or xs k x)) same (first.found x) ∙ ap Some (sym read);
      }
