-- Lists whose keys rise, and one more item in them.
use Rattle.std.proofs.Common.{◌≡◌, ℕ, suc, if◌then◌else◌, Bool, true, false, cond, List, [], ◌∷◌, refl, sym, ap, ◌∙◌, inl, inr, arith, length}
use Rattle.std.proofs.lemmas.Bool.{cases_Bool, cond_both}
use Rattle.std.specs.List.{AllByRecursion, filter}
use Rattle.std.specs.Str.{bytes_eq}
use Rattle.system_tables.specs.EsisTables.Order.{is_before, put_in, IsRising}
use Rattle.pdus.proofs.ClnpBase.SameOctets.{other-back}
use Rattle.system_tables.proofs.EsisTables.Addresses.{before-trans, after-other}
use Rattle.pdus.proofs.ClnpBase.Lists.{AllByRecursion-implies}

pub all_filter : {X : Type 0} (P : X → Type 0) (p : X → Bool) (xs : List X) → AllByRecursion P xs → AllByRecursion P (filter p xs)
all_filter P p [] h = tt
all_filter P p (x ∷ xs) h =
    cond_both (p x) (x ∷ filter p xs) (filter p xs) (AllByRecursion P) (λ t. (h.0, all_filter P p xs h.1)) (λ f. all_filter P p xs h.1)

module _ {X : Type 0} (key : X → List ℕ) where
  -- none of these has the key
  abbrev pub NoneHas : List ℕ → List X → Type 0
  NoneHas k xs = AllByRecursion (λ y. bytes_eq (key y) k ≡ false) xs

  -- no two of these have one key
  abbrev pub Differ : List X → Type 0
  Differ [] = Unit {0}
  Differ (x ∷ xs) = NoneHas (key x) xs × Differ xs

  pub all_put_in : (P : X → Type 0) (x : X) (xs : List X) → P x → AllByRecursion P xs → AllByRecursion P (put_in key x xs)
  all_put_in P x [] here all = (here, tt)
  all_put_in P x (y ∷ ys) here all =
      cond_both (is_before (key x) (key y)) (x ∷ y ∷ ys) (y ∷ put_in key x ys) (AllByRecursion P)
      (λ t. (here, all)) (λ f. (all.0, all_put_in P x ys here all.1))

  pub put_in-rising : (x : X) (xs : List X) → IsRising key xs → NoneHas (key x) xs → IsRising key (put_in key x xs)
  put_in-rising x [] rising new = (tt, tt)
  put_in-rising x (y ∷ ys) rising new =
      cond_both (is_before (key x) (key y)) (x ∷ y ∷ ys) (y ∷ put_in key x ys) (IsRising key)
      (λ t. (
        (
          t,
          AllByRecursion-implies (λ z. is_before (key y) (key z) ≡ true) (λ z. is_before (key x) (key z) ≡ true)
              (λ z before. before-trans (key x) (key y) (key z) t before) ys rising.0,
        ),
        rising,
      ))
      (λ f. (
        all_put_in (λ z. is_before (key y) (key z) ≡ true) x ys (after-other (key x) (key y) (other-back (key y) (key x) new.0) f) rising.0,
        put_in-rising x ys rising.1 new.1,
      ))

  -- before all of these
  pub put_in-front : (x : X) (xs : List X) → AllByRecursion (λ y. is_before (key x) (key y) ≡ true) xs → put_in key x xs ≡ x ∷ xs
  put_in-front x [] h = refl
  put_in-front x (y ∷ ys) h = rw h.0 refl

  pub length-put_in : (x : X) (xs : List X) → length (put_in key x xs) ≡ length (x ∷ xs)
  length-put_in x [] = refl
  length-put_in x (y ∷ ys) =
      cond_both (is_before (key x) (key y)) (x ∷ y ∷ ys) (y ∷ put_in key x ys) (λ l. length l ≡ length (x ∷ y ∷ ys))
      (λ t. refl) (λ f. ap suc (length-put_in x ys))

  pub filter-put_in : (p : X → Bool) (x : X) (xs : List X) → IsRising key xs
      → filter p (put_in key x xs) ≡ (if p x then put_in key x (filter p xs) else filter p xs)
  filter-put_in p x [] rising = refl
  filter-put_in p x (y ∷ ys) rising =
      let step = filter-put_in p x ys rising.1 in
      elim (cases_Bool (is_before (key x) (key y))) [
        | inl t ↦
            let before : AllByRecursion (λ z. is_before (key x) (key z) ≡ true) (y ∷ ys) = (
              t,
              AllByRecursion-implies (λ z. is_before (key y) (key z) ≡ true) (λ z. is_before (key x) (key z) ≡ true)
                  (λ z before. before-trans (key x) (key y) (key z) t before) ys rising.0,
            ) in
            let front : put_in key x (filter p (y ∷ ys)) ≡ x ∷ filter p (y ∷ ys) =
            put_in-front x (filter p (y ∷ ys)) (all_filter (λ z. is_before (key x) (key z) ≡ true) p (y ∷ ys) before) in
            ap (filter p) (put_in-front x (y ∷ ys) before) ∙ ap (λ l. cond (p x) l (filter p (y ∷ ys))) (sym front)
        | inr f ↦ grind (arith, f, step)
      ]

-- nothing passes a test that nothing passes
pub filter_none : {X : Type 0} (p : X → Bool) (xs : List X) → AllByRecursion (λ x. p x ≡ false) xs → filter p xs ≡ []
filter_none p [] h = refl
filter_none p (x ∷ xs) h = rw h.0 (filter_none p xs h.1)

-- everything passes a test that everything passes
pub filter_all : {X : Type 0} (p : X → Bool) (xs : List X) → AllByRecursion (λ x. p x ≡ true) xs → filter p xs ≡ xs
filter_all p [] h = refl
filter_all p (x ∷ xs) h = rw h.0 (ap (λ l. x ∷ l) (filter_all p xs h.1))
