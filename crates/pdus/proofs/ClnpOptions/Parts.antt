-- What the options of a part are.
use Rattle.std.proofs.Common.{◌≡◌, ◌∙◌, sym, ap, refl, ℕ, zero, suc, ◌+◌, ◌-◌, ◌≤◌, ◌<◌, inl, inr, List, [], ◌∷◌, ◌++◌, length, take, drop, get_or, arith, length-append, append_assoc}
use Rattle.std.proofs.lemmas.Bool.{cond-true, cond-false, le-leb, lt-leb, cases_lt}
use Rattle.std.proofs.lemmas.List.{length-take-le, take-append-drop, append-nil, take_all}
use Rattle.std.proofs.Math.Seq.{take-append_seam, drop-append_seam}
use Rattle.pdus.specs.ClnpOptions.Parameter.{Parameter, spelling, spelled, parameters_after, parameters}

-- what is left out is dropped
pub parameters_after-drop : (skipped : ℕ) (xs : List ℕ) → parameters_after skipped xs ≡ parameters (drop skipped xs)
unfolding parameters_after
parameters_after-drop zero xs = refl
parameters_after-drop (suc k) [] = refl
parameters_after-drop (suc k) (x ∷ xs) = parameters_after-drop k xs

pub parameters-nil : parameters [] ≡ []
unfolding parameters_after
parameters-nil = refl

pub parameters-one : (x : ℕ) → parameters (x ∷ []) ≡ []
unfolding parameters_after
parameters-one x = refl

-- a code and a length behind which too few octets stand
pub parameters-short : (code size : ℕ) (rest : List ℕ) → length rest < size → parameters (code ∷ size ∷ rest) ≡ []
unfolding parameters_after
parameters-short code size rest h = cond-false _ _ _ (lt-leb size (length rest) h)

pub parameters-cons : (code size : ℕ) (rest : List ℕ) → size ≤ length rest → parameters (code ∷ size ∷ rest) ≡ record { code = code; value = take size rest } ∷ parameters (drop size rest)
unfolding parameters_after
parameters-cons code size rest h =
    cond-true _ _ _ (le-leb size (length rest) h)
    ∙ ap (λ (ps : List Parameter). record { code = code; value = take size rest } ∷ ps) (parameters_after-drop size rest)

-- an option and what follows it
pub parameters-spelling : (o : Parameter) (rest : List ℕ) → parameters (spelling o ++ rest) ≡ o ∷ parameters rest
parameters-spelling o rest =
    let fits : length o.value ≤ length (o.value ++ rest) = omega (arith, length-append {A = ℕ}) in
    parameters-cons o.code (length o.value) (o.value ++ rest) fits
    ∙ rw (take-append_seam, drop-append_seam) refl

pub spelled-nil : spelled [] ≡ []
unfolding spelled
spelled-nil = refl

pub spelled-cons : (o : Parameter) (os : List Parameter) → spelled (o ∷ os) ≡ spelling o ++ spelled os
unfolding spelled
spelled-cons o os = refl

pub spelled-append : (os ps : List Parameter) → spelled (os ++ ps) ≡ spelled os ++ spelled ps
unfolding spelled
spelled-append [] ps = refl
spelled-append (o ∷ os) ps = ap (λ t. spelling o ++ t) (spelled-append os ps) ∙ sym (append_assoc (spelling o) (spelled os) (spelled ps))

-- what is spelled is read again, whatever follows
pub parameters-spelled : (os : List Parameter) (rest : List ℕ) → parameters (spelled os ++ rest) ≡ os ++ parameters rest
unfolding spelled
parameters-spelled [] rest = refl
parameters-spelled (o ∷ os) rest =
    rw append_assoc
    (parameters-spelling o (spelled os ++ rest) ∙ ap (λ t. o ∷ t) (parameters-spelled os rest))

pub parameters-of_spelled : (os : List Parameter) → parameters (spelled os) ≡ os
parameters-of_spelled os =
    ap parameters (sym (append-nil (spelled os))) ∙ parameters-spelled os [] ∙ ap (λ t. os ++ t) parameters-nil ∙ append-nil os

pub parameters-Forms : (os : List Parameter) (part : List ℕ) → part ≡ spelled os → parameters part ≡ os
parameters-Forms os part e = ap parameters e ∙ parameters-of_spelled os

pub record Splits (octets : List ℕ) : Type 0 where
  pub rest : List ℕ
  pub octets_are : octets ≡ spelled (parameters octets) ++ rest
  pub none_left : parameters rest ≡ []

split_cons : (code size : ℕ) (rest : List ℕ) → size ≤ length rest → Splits (drop size rest) → Splits (code ∷ size ∷ rest)
split_cons code size rest h s = record {
  rest = s.rest;
  octets_are =
      rw (parameters-cons code size rest h, spelled-cons, length-take-le size rest h, append_assoc (take size rest) (spelled (parameters (drop size rest))) s.rest, ← s.octets_are, take-append-drop size rest) refl;
  none_left = s.none_left;
}

split_after : (skipped : ℕ) (xs : List ℕ) → Splits (drop skipped xs)
split_after zero [] = record { rest = []; octets_are = rw (parameters-nil, spelled-nil) refl; none_left = parameters-nil }
split_after (suc k) [] = record { rest = []; octets_are = rw (parameters-nil, spelled-nil) refl; none_left = parameters-nil }
split_after zero (x ∷ []) = record { rest = x ∷ []; octets_are = rw (parameters-one x, spelled-nil) refl; none_left = parameters-one x }
split_after zero (code ∷ size ∷ rest) =
    elim (cases_lt (length rest) size) [
      | inl h ↦ record {
        rest = code ∷ size ∷ rest;
        octets_are = rw (parameters-short code size rest h, spelled-nil) refl;
        none_left = parameters-short code size rest h;
      }
      | inr h ↦ split_cons code size rest h (split_after size rest)
    ]
split_after (suc k) (x ∷ xs) = split_after k xs

-- each part is what its options spell, and octets with which no option begins
pub split_of : (part : List ℕ) → Splits part
split_of part = split_after 0 part

pub parameters-below_two : (xs : List ℕ) → length xs < 2 → parameters xs ≡ []
parameters-below_two [] h = parameters-nil
parameters-below_two (x ∷ []) h = parameters-one x
parameters-below_two (x ∷ y ∷ xs) h = absurd (omega arith)

pub parameters-cut_off : (xs : List ℕ) → 2 ≤ length xs → length xs < get_or xs 1 0 + 2 → parameters xs ≡ []
parameters-cut_off [] h k = parameters-nil
parameters-cut_off (x ∷ []) h k = parameters-one x
parameters-cut_off (x ∷ y ∷ xs) h k = parameters-short x y xs (omega arith)

-- what a split of the octets behind code and length gives
pub octets_at : (xs value rest : List ℕ) → 2 ≤ length xs → get_or xs 1 0 + 2 ≤ length xs → value ≡ take (get_or xs 1 0) (take (length xs - 2) (drop 2 xs)) → rest ≡ drop (get_or xs 1 0) (take (length xs - 2) (drop 2 xs)) → xs ≡ get_or xs 0 0 ∷ length value ∷ (value ++ rest)
octets_at [] value rest h fits v r = absurd (omega arith)
octets_at (x ∷ []) value rest h fits v r = absurd (omega arith)
octets_at (x ∷ y ∷ ys) value rest h fits v r =
    let all : take (length (x ∷ y ∷ ys) - 2) ys ≡ ys = take_all _ ys (omega arith) in
    let within : y ≤ length ys = omega arith in
    rw (v, r, all, length-take-le y ys within, take-append-drop y ys) refl

pub parameters-from : (xs value rest : List ℕ) → 2 ≤ length xs → get_or xs 1 0 + 2 ≤ length xs → value ≡ take (get_or xs 1 0) (take (length xs - 2) (drop 2 xs)) → rest ≡ drop (get_or xs 1 0) (take (length xs - 2) (drop 2 xs)) → parameters xs ≡ record { code = get_or xs 0 0; value = value } ∷ parameters rest
parameters-from xs value rest h fits v r =
    ap parameters (octets_at xs value rest h fits v r) ∙ parameters-spelling (record { code = get_or xs 0 0; value = value }) rest
