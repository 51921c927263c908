-- Sums over lists where one is put at the end, or some are taken out.
use Rattle.std.proofs.Common.{◌≡◌, ℕ, ◌+◌, ◌≤◌, Bool, List, [], ◌∷◌, ◌++◌, length, map, refl, sym, ap, ◌∙◌, inl, inr, arith}
use Rattle.std.specs.List.{sum, filter}
use Rattle.std.proofs.lemmas.Bool.{cases_Bool}
use Rattle.std.proofs.lemmas.List.Sums.{sum-map, sum_by-cons}
use Rattle.std.proofs.lemmas.List.{length-append}
use Rattle.std.proofs.lemmas.List.Elements.{filter-append}

pub sum-cons : (n : ℕ) (ns : List ℕ) → sum (n ∷ ns) ≡ n + sum ns
sum-cons n ns = sum_by-cons (λ (m : ℕ). m) n ns

module _ {X : Type 0} where
  pub sum_cons : (f : X → ℕ) (x : X) (xs : List X) → sum (map f (x ∷ xs)) ≡ f x + sum (map f xs)
  sum_cons f x xs = sum-map f (x ∷ xs) ∙ sum_by-cons f x xs ∙ ap (λ s. f x + s) (sym (sum-map f xs))

  pub sum_one : (f : X → ℕ) (x : X) → sum (map f (x ∷ [])) ≡ f x
  sum_one f x = let e = sum_cons f x [] in let z : sum (map f []) ≡ 0 = refl in omega arith

  pub sum_push : (f : X → ℕ) (xs : List X) (x : X) → sum (map f (xs ++ x ∷ [])) ≡ sum (map f xs) + f x
  sum_push f [] x = let e = sum_one f x in let z : sum (map f []) ≡ 0 = refl in omega arith
  sum_push f (y ∷ xs) x =
      let a : sum (map f (y ∷ (xs ++ x ∷ []))) ≡ f y + sum (map f (xs ++ x ∷ [])) = sum_cons f y (xs ++ x ∷ []) in
      let b = sum_cons f y xs in
      let c = sum_push f xs x in
      omega arith

  pub sum_front : (f : X → ℕ) (xs ys : List X) → sum (map f (xs ++ ys)) ≡ sum (map f xs) + sum (map f ys)
  sum_front f [] ys = let z : sum (map f []) ≡ 0 = refl in omega arith
  sum_front f (y ∷ xs) ys =
      let a : sum (map f (y ∷ (xs ++ ys))) ≡ f y + sum (map f (xs ++ ys)) = sum_cons f y (xs ++ ys) in
      let b = sum_cons f y xs in
      let c = sum_front f xs ys in
      omega arith

  pub sum_filter : (f : X → ℕ) (test : X → Bool) (xs : List X) → sum (map f (filter test xs)) ≤ sum (map f xs)
  sum_filter f test [] = omega arith
  sum_filter f test (x ∷ xs) =
      let ih = sum_filter f test xs in
      let b = sum_cons f x xs in
      elim (cases_Bool (test x)) [
        | inl passes ↦ rw passes (let a = sum_cons f x (filter test xs) in omega arith)
        | inr fails ↦ rw fails (omega arith)
      ]

  pub length_filter : (test : X → Bool) (xs : List X) → length (filter test xs) ≤ length xs
  length_filter test [] = omega arith
  length_filter test (x ∷ xs) =
      let ih = length_filter test xs in
      elim (cases_Bool (test x)) [
        | inl passes ↦ rw passes (omega arith)
        | inr fails ↦ rw fails (omega arith)
      ]

  pub length_filter-append : (test : X → Bool) (xs ys : List X) → length (filter test (xs ++ ys)) ≡ length (filter test xs) + length (filter test ys)
  length_filter-append test xs ys = ap length (filter-append test xs ys) ∙ length-append (filter test xs) (filter test ys)
