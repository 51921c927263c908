-- What holds of each element of a list, what stands at a place of it, and its parts.
use Rattle.std.proofs.Common.{◌≡◌, ◌≢◌, ℕ, zero, suc, ◌+◌, ◌-◌, ◌<◌, ◌≤◌, ◌⊎◌, inl, inr, List, [], ◌∷◌, ◌++◌, length, map, take, drop, get_or, Some, None, All, AllPairs, Contains, refl, sym, ap, subst, ◌∙◌, arith, length-append, Bool}
use Rattle.std.specs.Prelude.{slice_get, slice_set}
use Rattle.std.specs.List.{AllByRecursion, find}
use Rattle.std.proofs.lemmas.Bool.{cases_Bool, cases_order}
use Rattle.std.proofs.lemmas.Option.{slice_get_within, get_or_from_slice_get, none-some, same_Some}
use Rattle.std.proofs.lemmas.List.{set-get_or, drop-take, drop-drop, take-take, length-take, length-drop, get_or_default, get_or_append_left, get_or-append-add, get_or-take, get_or-drop, get_or-append_right}

-- ---- what holds of each element

module _ {X : Type 0} (P : X → Type 0) where
  pub AllByRecursion-append : (xs ys : List X) → AllByRecursion P xs → AllByRecursion P ys → AllByRecursion P (xs ++ ys)
  AllByRecursion-append [] ys h k = k
  AllByRecursion-append (x ∷ xs) ys h k = (h.0, AllByRecursion-append xs ys h.1 k)

  pub AllByRecursion-push : (xs : List X) (x : X) → AllByRecursion P xs → P x → AllByRecursion P (xs ++ x ∷ [])
  AllByRecursion-push xs x all last = AllByRecursion-append xs (x ∷ []) all (last, tt)

  pub AllByRecursion-put : (xs : List X) (x : X) (ys : List X) → P x → AllByRecursion P (xs ++ ys) → AllByRecursion P (xs ++ x ∷ ys)
  AllByRecursion-put [] x ys p h = (p, h)
  AllByRecursion-put (y ∷ xs) x ys p h = (h.0, AllByRecursion-put xs x ys p h.1)

  pub AllByRecursion-front : (xs ys : List X) → AllByRecursion P (xs ++ ys) → AllByRecursion P xs
  AllByRecursion-front [] ys h = tt
  AllByRecursion-front (x ∷ xs) ys h = (h.0, AllByRecursion-front xs ys h.1)

  -- what holds of everything, and what holds of none
  pub AllByRecursion-any : ((x : X) → P x) → (xs : List X) → AllByRecursion P xs
  AllByRecursion-any f [] = tt
  AllByRecursion-any f (x ∷ xs) = (f x, AllByRecursion-any f xs)

  pub AllByRecursion-no_element : (xs : List X) → length xs ≤ 0 → AllByRecursion P xs
  AllByRecursion-no_element [] none = tt
  AllByRecursion-no_element (x ∷ xs) none = absurd (omega arith)

  -- what holds of each holds of one, by its place, or by what it is
  pub AllByRecursion-get_or : (xs : List X) (i : ℕ) (d : X) → i < length xs → AllByRecursion P xs → P (get_or xs i d)
  AllByRecursion-get_or [] i d l h = absurd (omega arith)
  AllByRecursion-get_or (x ∷ xs) zero d l h = h.0
  AllByRecursion-get_or (x ∷ xs) (suc i) d l h = AllByRecursion-get_or xs i d (omega arith) h.1

  pub AllByRecursion-read : (xs : List X) (i : ℕ) (x : X) → i < length xs → x ≡ get_or xs i x → AllByRecursion P xs → P x
  AllByRecursion-read xs i x lt read all = subst P (sym read) (AllByRecursion-get_or xs i x lt all)

  pub AllByRecursion-slice_get : (xs : List X) (i : ℕ) (x : X) → slice_get xs i ≡ Some x → AllByRecursion P xs → P x
  AllByRecursion-slice_get xs i x e h =
      subst P (get_or_from_slice_get xs i x x e) (AllByRecursion-get_or xs i x (slice_get_within xs i x e) h)

  pub AllByRecursion-contains : (xs : List X) (x : X) → Contains xs x → AllByRecursion P xs → P x
  AllByRecursion-contains xs x there h = subst P there.2 (AllByRecursion-get_or xs there.0 x there.1 h)

  pub AllByRecursion-find : (p : X → Bool) (xs : List X) (x : X) → find p xs ≡ Some x → AllByRecursion P xs → P x
  AllByRecursion-find p [] x e h = absurd (none-some x e)
  AllByRecursion-find p (y ∷ ys) x e h =
      elim (cases_Bool (p y)) [
        | inl t ↦ subst P (same_Some y x (rw t at e)) h.0
        | inr f ↦ AllByRecursion-find p ys x (rw f at e) h.1
      ]

  -- each element, told by its place
  pub AllByRecursion-from_places : (xs : List X) → ((i : ℕ) (x : X) → slice_get xs i ≡ Some x → P x) → AllByRecursion P xs
  AllByRecursion-from_places [] h = tt
  AllByRecursion-from_places (x ∷ xs) h = (h zero x (cc), AllByRecursion-from_places xs (λ i y e. h (suc i) y e))

  pub AllByRecursion-implies : (Q : X → Type 0) → ((x : X) → P x → Q x) → (xs : List X) → AllByRecursion P xs → AllByRecursion Q xs
  AllByRecursion-implies Q f [] h = tt
  AllByRecursion-implies Q f (x ∷ xs) h = (f x h.0, AllByRecursion-implies Q f xs h.1)

  pub AllByRecursion-both : (Q R : X → Type 0) → ((x : X) → P x → Q x → R x) → (xs : List X) → AllByRecursion P xs → AllByRecursion Q xs → AllByRecursion R xs
  AllByRecursion-both Q R both [] h k = tt
  AllByRecursion-both Q R both (x ∷ xs) h k = (both x h.0 k.0, AllByRecursion-both Q R both xs h.1 k.1)

  -- of what is made of each element
  pub AllByRecursion-mapped : {Y : Type 0} (Q : Y → Type 0) (f : X → Y) (xs : List X) → ((x : X) → P x → Q (f x)) → AllByRecursion P xs → AllByRecursion Q (map f xs)
  AllByRecursion-mapped Q f [] g h = tt
  AllByRecursion-mapped Q f (x ∷ xs) g h = (g x h.0, AllByRecursion-mapped Q f xs g h.1)

  pub AllByRecursion-map : {Y : Type 0} (f : Y → X) (ys : List Y) → AllByRecursion P (map f ys) → AllByRecursion (λ y. P (f y)) ys
  AllByRecursion-map f [] h = tt
  AllByRecursion-map f (y ∷ ys) h = (h.0, AllByRecursion-map f ys h.1)

  pub AllByRecursion-map_any : {Y : Type 0} (f : Y → X) (ys : List Y) → ((y : Y) → P (f y)) → AllByRecursion P (map f ys)
  AllByRecursion-map_any f [] g = tt
  AllByRecursion-map_any f (y ∷ ys) g = (g y, AllByRecursion-map_any f ys g)

-- ---- what stands at a place

module _ {X : Type 0} where
  pub slice_get_none : (xs : List X) (i : ℕ) → slice_get xs i ≡ None → length xs ≤ i
  slice_get_none [] i e = omega arith
  slice_get_none (x ∷ xs) zero e = absurd (cc)
  slice_get_none (x ∷ xs) (suc i) e = let l = slice_get_none xs i e in omega arith

  pub slice_get_some : (xs : List X) (i : ℕ) → i < length xs → (x : X) × (slice_get xs i ≡ Some x)
  slice_get_some [] i within = absurd (omega arith)
  slice_get_some (first ∷ rest) zero within = (first, refl)
  slice_get_some (first ∷ rest) (suc i) within = slice_get_some rest i (omega arith)

  pub slice_set-same : (xs : List X) (i : ℕ) (x : X) → slice_get xs i ≡ Some x → slice_set xs i x ≡ xs
  slice_set-same xs i x e =
      subst (λ y. slice_set xs i y ≡ xs) (get_or_from_slice_get xs i x x e) (set-get_or xs i x)

  pub slice_get-set : (xs : List X) (i : ℕ) (x : X) → i < length xs → slice_get (slice_set xs i x) i ≡ Some x
  slice_get-set [] i x within = absurd (omega arith)
  slice_get-set (first ∷ rest) zero x within = refl
  slice_get-set (first ∷ rest) (suc i) x within = slice_get-set rest i x (omega arith)

  pub slice_get-set_other : (xs : List X) (i j : ℕ) (x : X) → i ≢ j → slice_get (slice_set xs i x) j ≡ slice_get xs j
  slice_get-set_other [] i j x other = refl
  slice_get-set_other (first ∷ rest) zero zero x other = absurd (other refl)
  slice_get-set_other (first ∷ rest) zero (suc j) x other = refl
  slice_get-set_other (first ∷ rest) (suc i) zero x other = refl
  slice_get-set_other (first ∷ rest) (suc i) (suc j) x other = slice_get-set_other rest i j x (λ same. other (ap suc same))

  pub slice_get-push : (xs : List X) (i : ℕ) (x : X) → length xs ≡ i → slice_get (xs ++ x ∷ []) i ≡ Some x
  slice_get-push [] zero x there = refl
  slice_get-push [] (suc i) x there = absurd (omega arith)
  slice_get-push (first ∷ rest) zero x there = absurd (omega arith)
  slice_get-push (first ∷ rest) (suc i) x there = slice_get-push rest i x (omega arith)

  pub slice_get-push_other : (xs : List X) (i : ℕ) (x : X) → length xs ≢ i → slice_get (xs ++ x ∷ []) i ≡ slice_get xs i
  slice_get-push_other [] zero x other = absurd (other refl)
  slice_get-push_other [] (suc i) x other = refl
  slice_get-push_other (first ∷ rest) zero x other = refl
  slice_get-push_other (first ∷ rest) (suc i) x other = slice_get-push_other rest i x (λ same. other (ap suc same))

  -- what stands at each place after one element is written
  pub set_each : (P Q : ℕ → X → Type 0) (xs : List X) (place : ℕ) (x : X) → ((i : ℕ) (y : X) → slice_get xs i ≡ Some y → P i y)
      → ((i : ℕ) (y : X) → i ≢ place → P i y → Q i y) → Q place x
      → (i : ℕ) (y : X) → slice_get (slice_set xs place x) i ≡ Some y → Q i y
  set_each P Q [] place x h others here i y e = absurd (cc)
  set_each P Q (z ∷ xs) zero x h others here zero y e = let same : x ≡ y = cc in subst (Q zero) same here
  set_each P Q (z ∷ xs) zero x h others here (suc i) y e = others (suc i) y (omega arith) (h (suc i) y e)
  set_each P Q (z ∷ xs) (suc place) x h others here zero y e = others zero y (omega arith) (h zero y e)
  set_each P Q (z ∷ xs) (suc place) x h others here (suc i) y e =
      set_each (λ k. P (suc k)) (λ k. Q (suc k)) xs place x (λ k. h (suc k)) (λ k v other. others (suc k) v (omega arith)) here i y e

  -- two elements are written that stand side by side
  pub set_pair : (front rest : List X) (x y a b : X) → slice_set (slice_set (front ++ x ∷ y ∷ rest) (length front) a) (suc (length front)) b ≡ front ++ a ∷ b ∷ rest
  set_pair [] rest x y a b = refl
  set_pair (f ∷ front) rest x y a b = ap (λ t. f ∷ t) (set_pair front rest x y a b)

-- ---- parts

module _ {X : Type 0} where
  pub part_of_part : (xs : List X) (a m b n : ℕ) → b + n ≤ m → take n (drop b (take m (drop a xs))) ≡ take n (drop (a + b) xs)
  part_of_part xs a m b n h =
      let split : m ≡ b + (m - b) = omega arith in
      ap (λ t. take n (drop b (take t (drop a xs)))) split
      ∙ ap (λ t. take n t) (drop-take b (m - b) (drop a xs))
      ∙ take-take n (m - b) (drop b (drop a xs)) (omega arith)
      ∙ ap (λ t. take n t) (drop-drop b a xs)

  pub length_part : (xs : List X) (a n : ℕ) → a + n ≤ length xs → length (take n (drop a xs)) ≡ n
  length_part xs a n h = length-take n (drop a xs) ∙ omega (arith, length-drop a xs)

  pub take_drop_swap : (a n : ℕ) (xs : List X) → a ≤ n → take (n - a) (drop a xs) ≡ drop a (take n xs)
  take_drop_swap a n xs within = sym (drop-take a (n - a) xs) ∙ ap (λ k. drop a (take k xs)) (omega arith)

  -- what stands behind a front in a part of a list
  pub get_or-behind_part : (front xs : List X) (n from len i place : ℕ) (d : X) → length front ≡ n → i < len → from + i ≡ place
      → get_or (front ++ take len (drop from xs)) (n + i) d ≡ get_or xs place d
  get_or-behind_part front xs n from len i place d e within at =
      get_or-append_right front (take len (drop from xs)) n (n + i) d e (omega arith)
      ∙ ap (λ (k : ℕ). get_or (take len (drop from xs)) k d) (let k : n + i - n ≡ i = omega arith in k)
      ∙ get_or-take len (drop from xs) i d within
      ∙ get_or-drop from xs i d
      ∙ ap (λ (k : ℕ). get_or xs k d) at

-- ---- pairs of elements

module _ {X : Type 0} (R : X → X → Type 0) where
  pub pair_at : (xs : List X) (i j : ℕ) (x y : X) → AllPairs R xs → i < j → j < length xs → get_or xs i x ≡ x → get_or xs j y ≡ y → R x y
  pair_at xs i j x y pairs before within at_i at_j =
      let same : get_or xs j x ≡ y = get_or_default xs j x y within ∙ at_j in
      subst (λ z. R x z) same (subst (λ z. R z (get_or xs j x)) at_i (pairs i j x before within))

  same_place : (xs : List X) (i j : ℕ) (x y : X) → i ≡ j → j < length xs → get_or xs i x ≡ x → get_or xs j y ≡ y → x ≡ y
  same_place xs i j x y e within at_i at_j =
      sym at_i ∙ ap (λ k. get_or xs k x) e ∙ get_or_default xs j x y within ∙ at_j

  -- two elements are one, or one of them is a later one
  pub pair_cases : (xs : List X) (x y : X) → AllPairs R xs → Contains xs x → Contains xs y → (x ≡ y) ⊎ R x y ⊎ R y x
  pair_cases xs x y pairs has_x has_y =
      elim (cases_order has_x.0 has_y.0) [
        | inl same ↦ inl (same_place xs has_x.0 has_y.0 x y same has_y.1 has_x.2 has_y.2)
        | inr (inl before) ↦ inr (inl (pair_at xs has_x.0 has_y.0 x y pairs before has_y.1 has_x.2 has_y.2))
        | inr (inr after) ↦ inr (inr (pair_at xs has_y.0 has_x.0 y x pairs after has_x.1 has_y.2 has_x.2))
      ]

  -- an element of a front and one of what follows it
  pub pair_across : (xs ys : List X) (x y : X) → AllPairs R (xs ++ ys) → Contains xs x → Contains ys y → R x y
  pair_across xs ys x y pairs has_x has_y =
      let at_x : get_or (xs ++ ys) has_x.0 x ≡ x = get_or_append_left xs ys x has_x.0 has_x.1 ∙ has_x.2 in
      let within : has_x.0 < length xs = has_x.1 in
      let there : has_y.0 < length ys = has_y.1 in
      let long = length-append xs ys in
      pair_at (xs ++ ys) has_x.0 (length xs + has_y.0) x y pairs (omega arith) (omega arith) at_x
      (get_or-append-add xs ys has_y.0 y ∙ has_y.2)

  -- the pairs of the first element, and those of the others
  pub pairs_first : (x : X) (xs : List X) → AllPairs R (x ∷ xs) → All (R x) xs
  pairs_first x xs pairs k d within = pairs zero (suc k) d (omega arith) (omega arith)

  pub pairs_others : (x : X) (xs : List X) → AllPairs R (x ∷ xs) → AllPairs R xs
  pairs_others x xs pairs i j d before within = pairs (suc i) (suc j) d (omega arith) (omega arith)

  -- the pairs of what follows a front
  pub pairs_behind : (xs ys : List X) → AllPairs R (xs ++ ys) → AllPairs R ys
  pairs_behind xs ys pairs i j d before within =
      let long = length-append xs ys in
      let at_i : get_or (xs ++ ys) (length xs + i) d ≡ get_or ys i d = get_or-append-add xs ys i d in
      let at_j : get_or (xs ++ ys) (length xs + j) d ≡ get_or ys j d = get_or-append-add xs ys j d in
      subst (λ z. R (get_or ys i d) z) at_j
      (subst (λ z. R z (get_or (xs ++ ys) (length xs + j) d)) at_i (pairs (length xs + i) (length xs + j) d (omega arith) (omega arith)))
