-- What a filter and a removal leave of a list, and what is found in it.
use Rattle.std.proofs.Common.{◌≡◌, ◌∙◌, sym, ap, refl, ℕ, suc, zero, ◌+◌, ◌<◌, ◌≤◌, inl, inr, Bool, true, false, not, ◌&&◌, List, [], ◌∷◌, ◌++◌, length, arith, Some, None}
use Rattle.std.specs.Prelude.{filter, slice_get}
use Rattle.std.specs.List.{AllByRecursion, find, position_from, remove}
use Rattle.std.proofs.lemmas.Bool.{cases_Bool}
use Rattle.std.proofs.lemmas.Option.{none-some, same_Some}
use Rattle.clnp_base.proofs.Sums.{length_filter}

module _ {X : Type 0} (p : X → Bool) where
  -- where no element passes, all fail
  pub filter_not-none : (xs : List X) → length (filter p xs) ≡ 0 → filter (λ x. not (p x)) xs ≡ xs
  filter_not-none [] h = refl
  filter_not-none (x ∷ xs) h =
      elim (cases_Bool (p x)) [
        | inl t ↦ let e = rw t at h in absurd (omega (arith, e))
        | inr f ↦ rw f (ap (λ l. x ∷ l) (filter_not-none xs (rw f at h)))
      ]

  pub counted_at : (xs : List X) (i : ℕ) (x : X) → slice_get xs i ≡ Some x → p x ≡ true → 1 ≤ length (filter p xs)
  counted_at [] i x e t = absurd (none-some x e)
  counted_at (y ∷ ys) zero x e t = let at_y : p y ≡ true = ap p (same_Some y x e) ∙ t in rw at_y (omega arith)
  counted_at (y ∷ ys) (suc i) x e t =
      elim (cases_Bool (p y)) [ inl here ↦ rw here (omega arith) | inr f ↦ rw f (counted_at ys i x e t) ]

  -- to remove the only element that passes leaves all that fail
  pub remove-only : (xs : List X) (i : ℕ) (x : X) → slice_get xs i ≡ Some x → p x ≡ true → length (filter p xs) ≡ 1
      → remove xs i ≡ filter (λ y. not (p y)) xs
  remove-only [] i x e t h = absurd (none-some x e)
  remove-only (y ∷ ys) zero x e t h =
      let at_y : p y ≡ true = ap p (same_Some y x e) ∙ t in
      let rest : length (filter p ys) ≡ 0 = let k = rw at_y at h in omega (arith, k) in
      rw at_y (sym (filter_not-none ys rest))
  remove-only (y ∷ ys) (suc i) x e t h =
      elim (cases_Bool (p y)) [
        | inl here ↦ let k = rw here at h in absurd (omega (arith, k, counted_at ys i x e t))
        | inr f ↦ rw f (ap (λ l. y ∷ l) (remove-only ys i x e t (rw f at h)))
      ]

  -- to remove an element that fails changes nothing of what passes
  pub filter-remove : (xs : List X) (i : ℕ) (x : X) → slice_get xs i ≡ Some x → p x ≡ false → filter p (remove xs i) ≡ filter p xs
  filter-remove [] i x e f = absurd (none-some x e)
  filter-remove (y ∷ ys) zero x e f = let at_y : p y ≡ false = ap p (same_Some y x e) ∙ f in rw at_y refl
  filter-remove (y ∷ ys) (suc i) x e f =
      elim (cases_Bool (p y)) [
        | inl t ↦ rw t (ap (λ l. y ∷ l) (filter-remove ys i x e f))
        | inr g ↦ rw g (filter-remove ys i x e f)
      ]

  pub AllByRecursion-filter : (P Q : X → Type 0) → ((x : X) → p x ≡ true → P x → Q x) → (xs : List X) → AllByRecursion P xs → AllByRecursion Q (filter p xs)
  AllByRecursion-filter P Q weaker [] h = h
  AllByRecursion-filter P Q weaker (x ∷ xs) h =
      let rest = AllByRecursion-filter P Q weaker xs h.1 in
      elim (cases_Bool (p x)) [ inl t ↦ rw t (weaker x t h.0, rest) | inr f ↦ rw f rest ]

  -- where no element passes, each fails
  pub AllByRecursion-none : (xs : List X) → length (filter p xs) ≡ 0 → AllByRecursion (λ x. p x ≡ false) xs
  AllByRecursion-none [] h = tt
  AllByRecursion-none (x ∷ xs) h =
      elim (cases_Bool (p x)) [
        | inl t ↦ let e = rw t at h in absurd (omega (arith, e))
        | inr f ↦ (f, AllByRecursion-none xs (rw f at h))
      ]

  -- the only element that passes is the one that is found
  pub find-only : (xs : List X) (i : ℕ) (x : X) → slice_get xs i ≡ Some x → p x ≡ true → length (filter p xs) ≡ 1 → find p xs ≡ Some x
  find-only [] i x e t h = absurd (none-some x e)
  find-only (y ∷ ys) zero x e t h = let at_y : p y ≡ true = ap p (same_Some y x e) ∙ t in rw at_y e
  find-only (y ∷ ys) (suc i) x e t h =
      elim (cases_Bool (p y)) [
        | inl here ↦ let k = rw here at h in absurd (omega (arith, k, counted_at ys i x e t))
        | inr f ↦ rw f (find-only ys i x e t (rw f at h))
      ]

  -- the first that passes, by its index
  pub find-position : (start : ℕ) (xs : List X) (i : ℕ) → position_from p start xs ≡ Some i
      → (j : ℕ) × (x : X) × (i ≡ start + j) × (slice_get xs j ≡ Some x) × (find p xs ≡ Some x) × (p x ≡ true)
  find-position start [] i e = absurd (none-some i e)
  find-position start (x ∷ xs) i e =
      elim (cases_Bool (p x)) [
        | inl t ↦ let k = rw t at e in (0, x, omega (arith, same_Some start i k), refl, rw t refl, t)
        | inr f ↦ let r = find-position (start + 1) xs i (rw f at e) in (suc r.0, r.1, omega (arith, r.2), r.3, rw f r.4, r.5)
      ]

  pub find-no_position : (start : ℕ) (xs : List X) → position_from p start xs ≡ None → find p xs ≡ None
  find-no_position start [] e = refl
  find-no_position start (x ∷ xs) e =
      elim (cases_Bool (p x)) [
        | inl t ↦ let k = rw t at e in absurd (none-some start (sym k))
        | inr f ↦ rw f (find-no_position (start + 1) xs (rw f at e))
      ]

  module _ (q : X → Bool) where
    -- a second filter that passes all that the first does changes nothing
    pub filter-filter : ((x : X) → p x ≡ true → q x ≡ true) → (xs : List X) → filter p (filter q xs) ≡ filter p xs
    filter-filter weaker [] = refl
    filter-filter weaker (x ∷ xs) =
        let rest = filter-filter weaker xs in
        elim (cases_Bool (p x)) [
          | inl t ↦ rw (weaker x t, t) (ap (λ l. x ∷ l) rest)
          | inr f ↦ elim (cases_Bool (q x)) [ inl u ↦ rw (u, f) rest | inr g ↦ rw (g, f) rest ]
        ]

    pub find-filter : (xs : List X) → find q (filter p xs) ≡ find (λ x. p x && q x) xs
    find-filter [] = refl
    find-filter (x ∷ xs) =
        let rest = find-filter xs in
        elim (cases_Bool (p x)) [
          | inl t ↦ elim (cases_Bool (q x)) [ inl u ↦ rw (t, u) refl | inr g ↦ rw (t, g) rest ]
          | inr f ↦ rw f rest
        ]

  -- a filter leaves fewer where one doesn't pass
  pub filter-fewer : (front : List X) (x : X) (behind : List X) → p x ≡ false → length (filter p (front ++ x ∷ behind)) < length (front ++ x ∷ behind)
  filter-fewer [] x behind fails = rw fails (let rest = length_filter p behind in omega arith)
  filter-fewer (y ∷ front) x behind fails =
      let rest = filter-fewer front x behind fails in
      elim (cases_Bool (p y)) [ inl t ↦ rw t (omega arith) | inr f ↦ rw f (omega arith) ]
