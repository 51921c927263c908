-- One place of a list changes.
use Rattle.std.proofs.Common.{◌≡◌, ℕ, zero, suc, ◌+◌, ◌<◌, ◌≢◌, List, [], ◌∷◌, ◌++◌, length, map, take, drop, get_or, add-one, Some, refl, sym, ap, ◌∙◌, arith, inl, inr, ◌⊎◌, true}
use Rattle.std.proofs.lemmas.List.{length-map}
use Rattle.std.specs.Prelude.{slice_get, slice_set}
use Rattle.frame_links.specs.LinkBoard.Ports.{ChangesPort, KeepsAttached, PortState, is_attached_at}

map_set : {X Y : Type 0} (f : X → Y) (xs : List X) (i : ℕ) (y : X) → map f (slice_set xs i y) ≡ slice_set (map f xs) i (f y)
map_set f [] i y = refl
map_set f (x ∷ xs) zero y = refl
map_set f (x ∷ xs) (suc i) y = ap (λ ys. f x ∷ ys) (map_set f xs i y)

read_at : {X Y : Type 0} (f : X → Y) (xs : List X) (i : ℕ) (x : X) → x ≡ get_or xs i x → i < length (map f xs) → slice_get (map f xs) i ≡ Some (f x)
read_at f [] i x e h = absurd (omega arith)
read_at f (y ∷ xs) zero x e h = ap (λ z. Some (f z)) (sym e)
read_at f (y ∷ xs) (suc i) x e h = read_at f xs i x e (omega arith)

-- where an element changes so, so does what is seen of it
pub changes_at : {X : Type 0} (f : X → PortState) (xs : List X) (i : ℕ) (x y : X) (P : PortState → PortState → Type 0)
    → x ≡ get_or xs i x → i < length (map f xs) → P (f x) (f y) → ChangesPort i (map f xs) (map f (slice_set xs i y)) P
changes_at f xs i x y P e h p =
    record { old = f x; new = f y; was = read_at f xs i x e h; others = map_set f xs i y; changed = p }

pub set_other : {X : Type 0} (xs : List X) (i : ℕ) (x : X) (other : ℕ) → other ≢ i → slice_get (slice_set xs i x) other ≡ slice_get xs other
set_other [] i x other h = refl
set_other (y ∷ xs) zero x zero h = absurd (h refl)
set_other (y ∷ xs) zero x (suc other) h = refl
set_other (y ∷ xs) (suc i) x zero h = refl
set_other (y ∷ xs) (suc i) x (suc other) h = set_other xs i x other (λ e. h (ap suc e))

-- the first elements of a list are changed, and then one more
pub one_more : {A : Type 0} (g : A → A) (xs : List A) (i : ℕ) (x : A) → slice_get (map g (take i xs) ++ drop i xs) i ≡ Some x
    → slice_set (map g (take i xs) ++ drop i xs) i (g x) ≡ map g (take (i + 1) xs) ++ drop (i + 1) xs
one_more g [] zero x e = absurd (cc)
one_more g [] (suc i) x e = absurd (cc)
one_more g (y ∷ xs) zero x e = let same : y ≡ x = cc in ap (λ z. g z ∷ xs) (sym same)
one_more g (y ∷ xs) (suc i) x e =
    let r : slice_set (map g (take i xs) ++ drop i xs) i (g x) ≡ map g (take (i + 1) xs) ++ drop (i + 1) xs = one_more g xs i x e in
    rw add-one (ap (λ zs. g y ∷ zs) (rw add-one at r))

pub over_next : {X : Type 0} (f : X → PortState) (g : PortState → PortState) (xs ys : List X) (i : ℕ) (x y : X)
    → map f ys ≡ map g (take i (map f xs)) ++ drop i (map f xs) → x ≡ get_or ys i x → i < length ys → f y ≡ g (f x)
    → map f (slice_set ys i y) ≡ map g (take (i + 1) (map f xs)) ++ drop (i + 1) (map f xs)
over_next f g xs ys i x y e a h k =
    map_set f ys i y ∙ (ap (λ z. slice_set (map f ys) i z) k ∙ (ap (λ zs. slice_set zs i (g (f x))) e
    ∙ one_more g (map f xs) i (f x) (rw (← e) (read_at f ys i x a (rw length-map h)))))

-- a write leaves another place, or is at this one
set_cases : {X : Type 0} (xs : List X) (i other : ℕ) (x : X) → (slice_get (slice_set xs i x) other ≡ slice_get xs other) ⊎ (other ≡ i)
set_cases [] i other x = inl refl
set_cases (y ∷ xs) zero zero x = inr refl
set_cases (y ∷ xs) zero (suc other) x = inl refl
set_cases (y ∷ xs) (suc i) zero x = inl refl
set_cases (y ∷ xs) (suc i) (suc other) x = elim (set_cases xs i other x) [ inl e ↦ inl e | inr e ↦ inr (ap suc e) ]

-- what is written is what stood there
set_same : {X : Type 0} (xs : List X) (i : ℕ) (x y : X) → x ≡ get_or xs i x → y ≡ x → slice_set xs i y ≡ xs
set_same [] i x y a e = refl
set_same (z ∷ xs) zero x y a e = ap (λ w. w ∷ xs) (e ∙ a)
set_same (z ∷ xs) (suc i) x y a e = ap (λ ws. z ∷ ws) (set_same xs i x y a e)

get_at : {X : Type 0} (xs : List X) (i : ℕ) (x : X) → x ≡ get_or xs i x → i < length xs → slice_get xs i ≡ Some x
get_at [] i x a h = absurd (omega arith)
get_at (z ∷ xs) zero x a h = ap Some (sym a)
get_at (z ∷ xs) (suc i) x a h = get_at xs i x a (omega arith)

attached_there : {X : Type 0} (f : X → PortState) (xs : List X) (i : ℕ) (x : X) → slice_get xs i ≡ Some x
    → is_attached_at i (map f xs) ≡ true → (f x).attached ≡ true
attached_there f [] i x e h = absurd (cc)
attached_there f (z ∷ xs) zero x e h = let same : z ≡ x = cc in rw (← same) h
attached_there f (z ∷ xs) (suc i) x e h = attached_there f xs i x e h

-- one more element is changed, and stays what it was where its port is attached
pub kept_next : {X : Type 0} (f : X → PortState) (xs ys : List X) (i : ℕ) (x y : X)
    → KeepsAttached (map f xs) xs ys → x ≡ get_or ys i x → i < length ys → ((f x).attached ≡ true → y ≡ x)
    → KeepsAttached (map f xs) xs (slice_set ys i y)
kept_next f xs ys i x y k a h same other attached =
    elim (set_cases ys i other y) [
      | inl e ↦ e ∙ k other attached
      | inr e ↦
          let at : is_attached_at i (map f xs) ≡ true = rw (← e) attached in
          let stood : slice_get xs i ≡ Some x = sym (k i at) ∙ get_at ys i x a h in
          rw (set_same ys i x y a (same (attached_there f xs i x stood at))) (k other attached)
    ]
