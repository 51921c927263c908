-- Lists that are read, written and made longer at one place.
use Rattle.std.proofs.Common.{◌≡◌, ℕ, zero, suc, ◌+◌, List, [], ◌∷◌, ◌++◌, length, take, drop, map, cond, Bool, true, false, Option, None, Some, refl, sym, ap, ◌∙◌, arith, add-one}
use Rattle.std.specs.Prelude.{nat_lt, not, slice_get, slice_set}
use Rattle.std.proofs.lemmas.Bool.{ltb-false}
use Rattle.std.proofs.lemmas.List.Sums.{prefix_len-le-length}
use Rattle.std.specs.List.{AllByRecursion, position, position_or_len, range_with_len}
use Rattle.std.proofs.lemmas.List.{drop-drop}
use Rattle.hex.specs.Hex.{IsBytes}
use Rattle.std.proofs.lemmas.Grind.{common_steps}

pub slice_get_front : {X : Type 0} (xs ys : List X) (i : ℕ) (x : X) → slice_get xs i ≡ Some x → slice_get (xs ++ ys) i ≡ Some x
slice_get_front [] ys i x e = cc
slice_get_front (z ∷ zs) ys zero x e = e
slice_get_front (z ∷ zs) ys (suc i) x e = slice_get_front zs ys i x e

pub slice_get_map : {X Y : Type 0} (f : X → Y) (xs : List X) (i : ℕ) (x : X) → slice_get xs i ≡ Some x → slice_get (map f xs) i ≡ Some (f x)
slice_get_map f [] i x e = absurd (cc)
slice_get_map f (y ∷ ys) zero x e = cc
slice_get_map f (y ∷ ys) (suc i) x e = slice_get_map f ys i x e

pub drop_next : {X : Type 0} (n : ℕ) (xs : List X) (y : X) (ys : List X) → drop n xs ≡ y ∷ ys → drop (n + 1) xs ≡ ys
drop_next n xs y ys e = sym (drop-drop 1 n xs) ∙ ap (λ zs. drop 1 zs) e

-- what stands in its place looks the same
pub map_set : {X Y : Type 0} (f : X → Y) (xs : List X) (i : ℕ) (x y : X) → slice_get xs i ≡ Some x → f y ≡ f x
    → map f (slice_set xs i y) ≡ map f xs
map_set f [] i x y e h = refl
map_set f (z ∷ zs) zero x y e h = let same : z ≡ x = cc in ap (λ v. v ∷ map f zs) (h ∙ ap f (sym same))
map_set f (z ∷ zs) (suc i) x y e h = ap (λ vs. f z ∷ vs) (map_set f zs i x y e h)

pub take_push : {X : Type 0} (xs : List X) (i : ℕ) (x : X) → slice_get xs i ≡ Some x → (take (i + 1) xs ≡ take i xs ++ x ∷ []) × (length (take i xs) ≡ i)
take_push [] i x e = absurd (cc)
take_push (y ∷ ys) zero x e = (cc, refl)
take_push (y ∷ ys) (suc i) x e =
    let r = take_push ys i x e in (rw add-one (ap (λ zs. y ∷ zs) (rw add-one at r.0)), ap suc r.1)

range_suc : (a n : ℕ) → range_with_len a (suc n) ≡ range_with_len a n ++ (a + n) ∷ []
range_suc a zero = let e : a + zero ≡ a = omega arith in rw e refl
range_suc a (suc n) =
    let e : a + suc n ≡ (a + 1) + n = omega arith in
    rw e (ap (λ (zs : List ℕ). a ∷ zs) (range_suc (a + 1) n))

pub range_push : (a n : ℕ) → range_with_len a (n + 1) ≡ range_with_len a n ++ (a + n) ∷ []
range_push a n = rw add-one (range_suc a n)

-- Octets of a part.

pub bytes_of_drop : (xs : List ℕ) (n : ℕ) → IsBytes xs → IsBytes (drop n xs)
bytes_of_drop xs n h = λ i. grind (arith, common_steps, h (n + i))

pub bytes_of_take : (xs : List ℕ) (n : ℕ) → IsBytes xs → IsBytes (take n xs)
bytes_of_take xs n h = λ i. grind (arith, common_steps, h i)

-- All of some elements.

pub all_set : {X : Type 0} (P : X → Type 0) (xs : List X) (i : ℕ) (x : X) → AllByRecursion P xs → P x → AllByRecursion P (slice_set xs i x)
all_set P [] i x h k = tt
all_set P (y ∷ ys) zero x h k = (k, h.1)
all_set P (y ∷ ys) (suc i) x h k = (h.0, all_set P ys i x h.1 k)

-- those before a place, and the one that was written there
pub all_take_set : {X : Type 0} (P : X → Type 0) (xs : List X) (i : ℕ) (x : X) → AllByRecursion P (take i xs) → P x
    → AllByRecursion P (take (i + 1) (slice_set xs i x))
all_take_set P [] i x h k = rw add-one tt
all_take_set P (y ∷ ys) zero x h k = (k, tt)
all_take_set P (y ∷ ys) (suc i) x h k = rw add-one (h.0, rw add-one at (all_take_set P ys i x h.1 k))

-- The first element that passes a test.

pub first_past : {X : Type 0} (p : X → Bool) (xs : List X) → (let none : Option ℕ = None in none) ≡ position p xs → length xs ≡ position_or_len p xs
first_past p xs e = by_test (nat_lt (position_or_len p xs) (length xs)) refl
  where
    by_test : (b : Bool) → nat_lt (position_or_len p xs) (length xs) ≡ b → length xs ≡ position_or_len p xs
    by_test true is =
        let some : position p xs ≡ Some (position_or_len p xs) = ap (λ (b : Bool). cond b (Some (position_or_len p xs)) None) is in absurd (cc)
    by_test false is = omega (arith, prefix_len-le-length (λ x. not (p x)) xs, ltb-false (position_or_len p xs) (length xs) is)
