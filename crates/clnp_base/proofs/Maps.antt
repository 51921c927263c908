-- Words of lists over a mapped list.
use Rattle.std.proofs.Common.{◌≡◌, Bool, true, false, cond, ◌&&◌, ◌||◌, List, [], ◌∷◌, Some, map, refl, ap, inl, inr}
use Rattle.std.specs.Prelude.{option_map}
use Rattle.std.specs.List.{list_any, list_all, filter, find, flat_map, position, position_or_len}
use Rattle.std.proofs.lemmas.Bool.{cases_Bool}
use Rattle.std.proofs.lemmas.List.{length-map}
use Rattle.std.proofs.lemmas.List.Folds.{list_any-append}

module _ {X Y : Type 0} where
  pub list_any-map : (f : X → Y) (test : Y → Bool) (xs : List X) → list_any test (map f xs) ≡ list_any (λ x. test (f x)) xs
  list_any-map f test [] = refl
  list_any-map f test (x ∷ xs) = rw (list_any-map f test xs)

  pub find-map : (f : X → Y) (test : Y → Bool) (xs : List X) → find test (map f xs) ≡ option_map f (find (λ x. test (f x)) xs)
  find-map f test [] = refl
  find-map f test (x ∷ xs) =
      elim (cases_Bool (test (f x))) [
        | inl passes ↦ rw passes
        | inr fails ↦ rw fails (find-map f test xs)
      ]

  pub filter-map : (f : X → Y) (test : Y → Bool) (xs : List X) → filter test (map f xs) ≡ map f (filter (λ x. test (f x)) xs)
  filter-map f test [] = refl
  filter-map f test (x ∷ xs) =
      elim (cases_Bool (test (f x))) [
        | inl passes ↦ rw passes (ap (λ rest. f x ∷ rest) (filter-map f test xs))
        | inr fails ↦ rw fails (filter-map f test xs)
      ]

  pub map-map : {Z : Type 0} (f : X → Y) (g : Y → Z) (xs : List X) → map g (map f xs) ≡ map (λ x. g (f x)) xs
  map-map f g [] = refl
  map-map f g (x ∷ xs) = ap (λ rest. g (f x) ∷ rest) (map-map f g xs)

  -- in what is made of the elements that pass another test
  pub find-map-filter : (p : Y → Bool) (f : X → Y) (q : X → Bool) (xs : List X)
      → find p (map f (filter q xs)) ≡ option_map f (find (λ x. q x && p (f x)) xs)
  find-map-filter p f q [] = refl
  find-map-filter p f q (x ∷ xs) =
      elim (q x) as (λ b. find p (map f (cond b (x ∷ filter q xs) (filter q xs)))
      ≡ option_map f (cond (b && p (f x)) (Some x) (find (λ y. q y && p (f y)) xs))) [
        | true ↦ elim (p (f x)) as (λ b. cond b (Some (f x)) (find p (map f (filter q xs)))
            ≡ option_map f (cond b (Some x) (find (λ y. q y && p (f y)) xs))) [
              | true ↦ refl
              | false ↦ find-map-filter p f q xs
            ]
        | false ↦ find-map-filter p f q xs
      ]

  pub list_any-map-filter : (p : Y → Bool) (f : X → Y) (q : X → Bool) (xs : List X)
      → list_any p (map f (filter q xs)) ≡ list_any (λ x. q x && p (f x)) xs
  list_any-map-filter p f q [] = refl
  list_any-map-filter p f q (x ∷ xs) =
      elim (q x) as (λ b. list_any p (map f (cond b (x ∷ filter q xs) (filter q xs)))
      ≡ ((b && p (f x)) || list_any (λ y. q y && p (f y)) xs)) [
        | true ↦ ap (λ b. p (f x) || b) (list_any-map-filter p f q xs)
        | false ↦ list_any-map-filter p f q xs
      ]

  pub position_or_len-map : (f : X → Y) (p : Y → Bool) (xs : List X) → position_or_len p (map f xs) ≡ position_or_len (λ x. p (f x)) xs
  position_or_len-map f p [] = refl
  position_or_len-map f p (x ∷ xs) = rw (position_or_len-map f p xs) refl

  pub position-map : (f : X → Y) (p : Y → Bool) (xs : List X) → position p (map f xs) ≡ position (λ x. p (f x)) xs
  position-map f p xs = rw (position_or_len-map f p xs, length-map xs f) refl

  pub list_any-flat_map : (p : Y → Bool) (f : X → List Y) (xs : List X) → list_any p (flat_map f xs) ≡ list_any (λ x. list_any p (f x)) xs
  list_any-flat_map p f [] = refl
  list_any-flat_map p f (x ∷ xs) = rw (list_any-append p (f x) (flat_map f xs), list_any-flat_map p f xs) refl

  -- functions that agree everywhere
  pub map-agree : (f g : X → Y) (xs : List X) → ((x : X) → f x ≡ g x) → map f xs ≡ map g xs
  map-agree f g [] same = refl
  map-agree f g (x ∷ xs) same = let a = same x in let b = map-agree f g xs same in cc

-- tests that agree everywhere
pub list_all-agree : {X : Type 0} (p q : X → Bool) (xs : List X) → ((x : X) → p x ≡ q x) → list_all p xs ≡ list_all q xs
list_all-agree p q [] same = refl
list_all-agree p q (x ∷ xs) same = rw (same x, list_all-agree p q xs same)
