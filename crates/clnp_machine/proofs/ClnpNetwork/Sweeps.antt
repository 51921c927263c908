-- An element after another is changed where it stands.
use Rattle.std.proofs.Common.{◌≡◌, ◌∙◌, refl, sym, ap, ℕ, ◌+◌, List, [], ◌∷◌, ◌++◌, length, map, Option, None, Some, append_assoc, length-append, arith}
use Rattle.std.specs.Prelude.{slice_get, slice_set}
use Rattle.std.specs.List.{range_with_len}

module _ {X : Type 0} (f : X → X) where
  -- the element that was found at a place is changed there
  abbrev pub change_at : ℕ → Option X → List X → List X
  change_at place None xs = xs
  change_at place (Some x) xs = slice_set xs place (f x)

  -- each one at some places
  abbrev pub sweep : List ℕ → List X → List X
  sweep [] xs = xs
  sweep (place ∷ places) xs = sweep places (change_at place (slice_get xs place) xs)

  behind_front : (front : List X) (x : X) (rest : List X) → slice_get (front ++ x ∷ rest) (length front) ≡ Some x
  behind_front [] x rest = refl
  behind_front (y ∷ front) x rest = behind_front front x rest

  set_behind : (front : List X) (x y : X) (rest : List X) → slice_set (front ++ x ∷ rest) (length front) y ≡ front ++ y ∷ rest
  set_behind [] x y rest = refl
  set_behind (z ∷ front) x y rest = ap (λ xs. z ∷ xs) (set_behind front x y rest)

  -- those behind a front
  sweep_behind : (rest front : List X) (from : ℕ) → length front ≡ from → sweep (range_with_len from (length rest)) (front ++ rest) ≡ front ++ map f rest
  sweep_behind [] front from at = refl
  sweep_behind (x ∷ rest) front from at =
      ap (λ n. sweep (range_with_len (from + 1) (length rest)) (change_at n (slice_get (front ++ x ∷ rest) n) (front ++ x ∷ rest))) (sym at)
      ∙ ap (λ found. sweep (range_with_len (from + 1) (length rest)) (change_at (length front) found (front ++ x ∷ rest))) (behind_front front x rest)
      ∙ ap (sweep (range_with_len (from + 1) (length rest))) (set_behind front x (f x) rest ∙ sym (append_assoc front (f x ∷ []) rest))
      ∙ sweep_behind rest (front ++ f x ∷ []) (from + 1) (let len = length-append front (f x ∷ []) in omega arith)
      ∙ append_assoc front (f x ∷ []) (map f rest)

  pub sweep_all : (xs : List X) → sweep (range_with_len 0 (length xs)) xs ≡ map f xs
  sweep_all xs = sweep_behind xs [] 0 refl
