-- What putting a list in order leaves as it is.
use Rattle.std.proofs.Common.{◌≡◌, ℕ, ◌+◌, Bool, true, false, cond, ◌||◌, subst, List, [], ◌∷◌, ◌++◌, Option, None, Some, refl, ap, ◌∙◌, inl, inr, arith, length, map, fold, slice_get}
use Rattle.std.proofs.lemmas.Bool.{cases_Bool}
use Rattle.std.specs.List.{AllByRecursion, filter, find, list_any}
use Rattle.std.specs.Option.{option_to_list}
use Rattle.std.specs.Str.{bytes_eq}
use Rattle.system_tables.specs.EsisTables.Order.{is_before, put_in, in_order, IsRising}
use Rattle.pdus.proofs.ClnpBase.SameOctets.{same_from, other-back}
use Rattle.system_tables.proofs.EsisTables.Rising.{NoneHas, Differ, length-put_in, put_in-rising, filter-put_in, all_put_in, filter_none}
use Rattle.pdus.proofs.ClnpBase.Choices.{or_false}

module _ {X : Type 0} (key : X → List ℕ) where
  abbrev pub put_all : List X → List X → List X
  put_all sorted xs = fold (λ s x. put_in key x s) sorted xs

  -- a rising list, and others that are put into it, none of which has a key of it or of another
  pub record AreApart (sorted xs : List X) : Type 0 where
    pub rising : IsRising key sorted
    pub differ : Differ key xs
    pub new : AllByRecursion (λ x. NoneHas key (key x) sorted) xs

  new_with : (x : X) (sorted xs : List X) → NoneHas key (key x) xs → AllByRecursion (λ y. NoneHas key (key y) sorted) xs
      → AllByRecursion (λ y. NoneHas key (key y) (put_in key x sorted)) xs
  new_with x sorted [] others new = tt
  new_with x sorted (y ∷ ys) others new = (
    all_put_in key (λ z. bytes_eq (key z) (key y) ≡ false) x sorted (other-back (key y) (key x) others.0) new.0,
    new_with x sorted ys others.1 new.1,
  )

  pub apart-step : (x : X) (sorted xs : List X) → AreApart sorted (x ∷ xs) → AreApart (put_in key x sorted) xs
  apart-step x sorted xs apart = record {
    rising = put_in-rising key x sorted apart.rising apart.new.0;
    differ = apart.differ.1;
    new = new_with x sorted xs apart.differ.0 apart.new.1;
  }

  none_of_none : (xs : List X) → AllByRecursion (λ x. NoneHas key (key x) []) xs
  none_of_none [] = tt
  none_of_none (x ∷ xs) = (tt, none_of_none xs)

  pub apart-start : (xs : List X) → Differ key xs → AreApart [] xs
  apart-start xs differ = record { rising = tt; differ = differ; new = none_of_none xs }

  length_put_all : (sorted xs : List X) → length (fold (λ s x. put_in key x s) sorted xs) ≡ length sorted + length xs
  length_put_all sorted [] = omega arith
  length_put_all sorted (x ∷ xs) = omega (arith, length_put_all (put_in key x sorted) xs, length-put_in key x sorted)

  pub length-sorted : (xs : List X) → length (in_order key xs) ≡ length xs
  length-sorted xs = omega (arith, length_put_all [] xs)

  rising-put_all : (sorted xs : List X) → AreApart sorted xs → IsRising key (put_all sorted xs)
  rising-put_all sorted [] apart = apart.rising
  rising-put_all sorted (x ∷ xs) apart = rising-put_all (put_in key x sorted) xs (apart-step x sorted xs apart)

  pub in_order-rising : (xs : List X) → Differ key xs → IsRising key (in_order key xs)
  in_order-rising xs differ = rising-put_all [] xs (apart-start xs differ)

  filter-put_all : (p : X → Bool) (sorted xs : List X) → AreApart sorted xs
      → filter p (put_all sorted xs) ≡ put_all (filter p sorted) (filter p xs)
  filter-put_all p sorted [] apart = refl
  filter-put_all p sorted (x ∷ xs) apart =
      let step = filter-put_all p (put_in key x sorted) xs (apart-step x sorted xs apart) in
      let here = filter-put_in key p x sorted apart.rising in
      elim (cases_Bool (p x)) [
        | inl t ↦ rw t (step ∙ ap (λ l. put_all l (filter p xs)) (here ∙ ap (λ b. cond b (put_in key x (filter p sorted)) (filter p sorted)) t))
        | inr f ↦ rw f (step ∙ ap (λ l. put_all l (filter p xs)) (here ∙ ap (λ b. cond b (put_in key x (filter p sorted)) (filter p sorted)) f))
      ]

  pub filter-in_order : (p : X → Bool) (xs : List X) → Differ key xs → filter p (in_order key xs) ≡ in_order key (filter p xs)
  filter-in_order p xs differ = filter-put_all p [] xs (apart-start xs differ)

  -- a list is put in order item by item
  pub in_order-push : (xs : List X) (x : X) → in_order key (xs ++ x ∷ []) ≡ put_in key x (in_order key xs)
  in_order-push xs x = put_all-push [] xs
    where
      put_all-push : (sorted xs : List X) → put_all sorted (xs ++ x ∷ []) ≡ put_in key x (put_all sorted xs)
      put_all-push sorted [] = refl
      put_all-push sorted (y ∷ ys) = put_all-push (put_in key y sorted) ys

  -- what holds of each item in order holds of each
  all_put_in-back : (P : X → Type 0) (x : X) (xs : List X) → AllByRecursion P (put_in key x xs) → P x × AllByRecursion P xs
  all_put_in-back P x [] all = all
  all_put_in-back P x (y ∷ ys) all =
      elim (cases_Bool (is_before (key x) (key y))) [
        | inl t ↦ let all' = rw t at all in (all'.0, all'.1)
        | inr f ↦ let all' = rw f at all in let rest = all_put_in-back P x ys all'.1 in (rest.0, (all'.0, rest.1))
      ]

  all_put_all-back : (P : X → Type 0) (sorted xs : List X) → AllByRecursion P (put_all sorted xs) → AllByRecursion P sorted × AllByRecursion P xs
  all_put_all-back P sorted [] all = (all, tt)
  all_put_all-back P sorted (x ∷ xs) all =
      let rest = all_put_all-back P (put_in key x sorted) xs all in
      let here = all_put_in-back P x sorted rest.0 in
      (here.1, (here.0, rest.1))

  pub all_in_order-back : (P : X → Type 0) (xs : List X) → AllByRecursion P (in_order key xs) → AllByRecursion P xs
  all_in_order-back P xs all = (all_put_all-back P [] xs all).1

  list_any-put_in : (p : X → Bool) (x : X) (xs : List X) → list_any p (put_in key x xs) ≡ list_any p (x ∷ xs)
  list_any-put_in p x [] = refl
  list_any-put_in p x (y ∷ ys) = grind (arith, cases_Bool (is_before (key x) (key y)), cases_Bool (p x), cases_Bool (p y), list_any-put_in p x ys)

  list_any-put_all : (p : X → Bool) (sorted xs : List X) → list_any p (put_all sorted xs) ≡ (list_any p xs || list_any p sorted)
  list_any-put_all p sorted [] = refl
  list_any-put_all p sorted (x ∷ xs) =
      list_any-put_all p (put_in key x sorted) xs ∙ ap (λ b. list_any p xs || b) (list_any-put_in p x sorted)
      ∙ turned (list_any p xs) (p x) (list_any p sorted)
    where
      turned : (a b c : Bool) → (a || (b || c)) ≡ ((b || a) || c)
      turned true true c = refl
      turned true false c = refl
      turned false true c = refl
      turned false false c = refl

  pub list_any-in_order : (p : X → Bool) (xs : List X) → list_any p (in_order key xs) ≡ list_any p xs
  list_any-in_order p xs = list_any-put_all p [] xs ∙ or_false (list_any p xs)

  -- at most one item has a key
  pub filter_one : (k : List ℕ) (xs : List X) → Differ key xs
      → filter (λ x. bytes_eq (key x) k) xs ≡ option_to_list (find (λ x. bytes_eq (key x) k) xs)
  filter_one k [] differ = refl
  filter_one k (x ∷ xs) differ =
      elim (cases_Bool (bytes_eq (key x) k)) [
        | inl t ↦
            let none : NoneHas key k xs = subst (λ j. NoneHas key j xs) (same_from (key x) k t) differ.0 in
            rw t (ap (λ l. x ∷ l) (filter_none (λ x. bytes_eq (key x) k) xs none))
        | inr f ↦ rw f (filter_one k xs differ.1)
      ]

  first_of_filter : (p : X → Bool) (xs : List X) → find p xs ≡ slice_get (filter p xs) 0
  first_of_filter p [] = refl
  first_of_filter p (x ∷ xs) = grind (arith, cases_Bool (p x), first_of_filter p xs)

  first_of_one : (o : Option X) → slice_get (in_order key (option_to_list o)) 0 ≡ o
  first_of_one None = refl
  first_of_one (Some x) = refl

  pub find-in_order : (k : List ℕ) (xs : List X) → Differ key xs
      → find (λ x. bytes_eq (key x) k) (in_order key xs) ≡ find (λ x. bytes_eq (key x) k) xs
  find-in_order k xs differ =
      let p : X → Bool = λ x. bytes_eq (key x) k in
      first_of_filter p (in_order key xs) ∙ ap (λ l. slice_get l 0) (filter-in_order p xs differ)
      ∙ ap (λ l. slice_get (in_order key l) 0) (filter_one k xs differ) ∙ first_of_one (find p xs)

module _ {X Y : Type 0} (key : X → List ℕ) (key' : Y → List ℕ) (f : X → Y) (same : (x : X) → key' (f x) ≡ key x) where
  pub map-put_in : (x : X) (xs : List X) → map f (put_in key x xs) ≡ put_in key' (f x) (map f xs)
  map-put_in x [] = refl
  map-put_in x (y ∷ ys) =
      let tested : is_before (key' (f x)) (key' (f y)) ≡ is_before (key x) (key y) =
      ap (λ k. is_before k (key' (f y))) (same x) ∙ ap (is_before (key x)) (same y) in
      rw tested (elim (cases_Bool (is_before (key x) (key y))) [
        | inl t ↦ rw t refl
        | inr e ↦ rw e (ap (λ l. f y ∷ l) (map-put_in x ys))
      ])

  map-put_all : (sorted xs : List X) → map f (put_all key sorted xs) ≡ put_all key' (map f sorted) (map f xs)
  map-put_all sorted [] = refl
  map-put_all sorted (x ∷ xs) =
      map-put_all (put_in key x sorted) xs ∙ ap (λ l. put_all key' l (map f xs)) (map-put_in x sorted)

  pub map-in_order : (xs : List X) → map f (in_order key xs) ≡ in_order key' (map f xs)
  map-in_order xs = map-put_all [] xs
