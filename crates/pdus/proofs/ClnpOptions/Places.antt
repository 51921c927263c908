-- The place at which a rule is broken, option by option.
use Rattle.std.proofs.Common.{◌≡◌, ◌∙◌, sym, ap, refl, ℕ, ◌+◌, Bool, true, false, ◌<◌, ◌≢◌, ◌⊎◌, inl, inr, get_or, set, replicate, List, [], ◌∷◌, length, arith, length-append, Option, Some, None, is_some}
use Rattle.std.specs.List.{list_any}
use Rattle.std.proofs.lemmas.Bool.{cond-true, cond-false, eq-eqb, ne_eqb, cases_eq, cases_Bool}
use Rattle.std.proofs.lemmas.List.{length-replicate, length-set, get_or-replicate, get_or-set_same, get_or-set_other}
use Rattle.std.proofs.Math.Bool.{and-false}
use Rattle.pdus.specs.ClnpOptions.Parameter.{Parameter, padding, spelled, size_of, parameters}
use Rattle.pdus.specs.ClnpOptions.Rules.{place_of, place_of_repeat, place_of_reason, place_of_unfit, is_reason, contains_code}

pub place_of-nil : (test : Parameter → Bool) (place : ℕ) → place_of test place [] ≡ None
unfolding place_of
place_of-nil test place = refl

pub place_of-found : (test : Parameter → Bool) (place : ℕ) (o : Parameter) (os : List Parameter) → test o ≡ true → place_of test place (o ∷ os) ≡ Some place
unfolding place_of
place_of-found test place o os h = cond-true _ _ _ h

pub place_of-passed : (test : Parameter → Bool) (place : ℕ) (o : Parameter) (os : List Parameter) → test o ≡ false → place_of test place (o ∷ os) ≡ place_of test (place + size_of o) os
unfolding place_of
place_of-passed test place o os h = cond-false _ _ _ h

-- the octets of the whole options, one more
pub fitting-cons : (o : Parameter) (os : List Parameter) → length (spelled (o ∷ os)) ≡ size_of o + length (spelled os)
unfolding spelled
fitting-cons o os = omega (arith, length-append o.value (spelled os))

-- the table says of each octet whether it is one of the codes
abbrev pub Tells : List Bool → List ℕ → Type 0
Tells seen codes = (c : ℕ) → c < 256 → get_or seen c false ≡ contains_code codes c

pub record RepeatSoFar (seen : List Bool) (place : ℕ) (rest : List ℕ) (first : ℕ) (part : List ℕ) : Type 0 where
  pub codes : List ℕ
  pub room : length seen ≡ 256
  pub tells : Tells seen codes
  pub same : place_of_repeat codes place (parameters rest) ≡ place_of_repeat [] first (parameters part)

pub Tells-none : Tells (replicate 256 false) []
Tells-none c h = get_or-replicate 256 c false false h

pub Tells-set : (seen : List Bool) (codes : List ℕ) (code : ℕ) → length seen ≡ 256 → code < 256 → Tells seen codes → Tells (set seen code true) (code ∷ codes)
Tells-set seen codes code room below tells c h =
    elim (cases_eq code c) [
      | inl e ↦ rw (← e, get_or-set_same seen code true false (omega arith), eq-eqb code code refl) refl
      | inr ne ↦ rw (get_or-set_other seen code c true false (λ q. ne (sym q)), ne_eqb code c ne) (tells c h)
    ]

pub place_of_repeat-nil : (seen : List ℕ) (place : ℕ) → place_of_repeat seen place [] ≡ None
unfolding place_of_repeat
place_of_repeat-nil seen place = refl

pub place_of_repeat-found : (seen : List ℕ) (place : ℕ) (o : Parameter) (os : List Parameter) → o.code ≢ padding → contains_code seen o.code ≡ true → place_of_repeat seen place (o ∷ os) ≡ Some place
unfolding place_of_repeat
place_of_repeat-found seen place o os n h = rw (ne_eqb o.code padding n, h) refl

pub place_of_repeat-passed : (seen : List ℕ) (place : ℕ) (o : Parameter) (os : List Parameter) → (o.code ≡ padding) ⊎ (contains_code seen o.code ≡ false) → place_of_repeat seen place (o ∷ os) ≡ place_of_repeat (o.code ∷ seen) (place + size_of o) os
unfolding place_of_repeat
place_of_repeat-passed seen place o os (inl e) = rw (eq-eqb o.code padding e) refl
place_of_repeat-passed seen place o os (inr h) = rw (h, and-false) refl

pub place_of-found_at : (test : Parameter → Bool) (place : ℕ) (o : Parameter) (rest others : List ℕ) (whole : Option ℕ) → parameters rest ≡ o ∷ parameters others → place_of test place (parameters rest) ≡ whole → test o ≡ true → Some place ≡ whole
place_of-found_at test place o rest others whole e s h = sym (ap (place_of test place) e ∙ place_of-found test place o (parameters others) h) ∙ s

pub place_of-passed_at : (test : Parameter → Bool) (place : ℕ) (o : Parameter) (rest others : List ℕ) (whole : Option ℕ) → parameters rest ≡ o ∷ parameters others → place_of test place (parameters rest) ≡ whole → test o ≡ false → place_of test (place + size_of o) (parameters others) ≡ whole
place_of-passed_at test place o rest others whole e s h = sym (ap (place_of test place) e ∙ place_of-passed test place o (parameters others) h) ∙ s

pub place_of-none_at : (test : Parameter → Bool) (place : ℕ) (rest : List ℕ) (whole : Option ℕ) → parameters rest ≡ [] → place_of test place (parameters rest) ≡ whole → None ≡ whole
place_of-none_at test place rest whole e s = sym (ap (place_of test place) e ∙ place_of-nil test place) ∙ s

-- a test picks an option exactly where there is a place of one
pub is_some-place_of : (test : Parameter → Bool) (place : ℕ) (os : List Parameter) → is_some (place_of test place os) ≡ list_any test os
unfolding place_of
is_some-place_of test place [] = refl
is_some-place_of test place (o ∷ os) =
    elim (cases_Bool (test o)) [
      | inl h ↦ rw (h) refl
      | inr h ↦ rw (h) (is_some-place_of test (place + size_of o) os)
    ]

pub place_of_reason-found : (first : ℕ) (os : List Parameter) (place : ℕ) → Some place ≡ place_of is_reason first os → place_of_reason true first os ≡ None
place_of_reason-found first os place h =
    let any : list_any is_reason os ≡ true = sym (is_some-place_of is_reason first os) ∙ ap is_some (sym h) in
    cond-true _ _ _ any

pub place_of_reason-none : (first : ℕ) (os : List Parameter) → None ≡ place_of is_reason first os → place_of_reason true first os ≡ Some 5
place_of_reason-none first os h =
    let none : list_any is_reason os ≡ false = sym (is_some-place_of is_reason first os) ∙ ap is_some (sym h) in
    cond-false _ _ _ none

pub RepeatSoFar-start : (first : ℕ) (part : List ℕ) → RepeatSoFar (replicate 256 false) first part first part
RepeatSoFar-start first part = record { codes = []; room = length-replicate 256 false; tells = Tells-none; same = refl }

pub RepeatSoFar-found : (seen : List Bool) (place first : ℕ) (o : Parameter) (rest others part : List ℕ) → RepeatSoFar seen place rest first part → parameters rest ≡ o ∷ parameters others → o.code < 256 → o.code ≢ padding → get_or seen o.code false ≡ true → Some place ≡ place_of_repeat [] first (parameters part)
RepeatSoFar-found seen place first o rest others part s e below n h =
    sym (ap (place_of_repeat s.codes place) e ∙ place_of_repeat-found s.codes place o (parameters others) n (sym (s.tells o.code below) ∙ h)) ∙ s.same

pub RepeatSoFar-passed : (seen : List Bool) (place first : ℕ) (o : Parameter) (rest others part : List ℕ) → RepeatSoFar seen place rest first part → parameters rest ≡ o ∷ parameters others → o.code < 256 → (o.code ≡ padding) ⊎ (get_or seen o.code false ≡ false) → RepeatSoFar (set seen o.code true) (place + size_of o) others first part
RepeatSoFar-passed seen place first o rest others part s e below h = record {
  codes = o.code ∷ s.codes;
  room = length-set seen o.code true ∙ s.room;
  tells = Tells-set seen s.codes o.code s.room below s.tells;
  same = sym (ap (place_of_repeat s.codes place) e ∙ place_of_repeat-passed s.codes place o (parameters others) (unseen h)) ∙ s.same;
}
  where
    unseen : (o.code ≡ padding) ⊎ (get_or seen o.code false ≡ false) → (o.code ≡ padding) ⊎ (contains_code s.codes o.code ≡ false)
    unseen (inl p) = inl p
    unseen (inr p) = inr (sym (s.tells o.code below) ∙ p)

pub RepeatSoFar-end : (seen : List Bool) (place first : ℕ) (rest part : List ℕ) → RepeatSoFar seen place rest first part → parameters rest ≡ [] → None ≡ place_of_repeat [] first (parameters part)
RepeatSoFar-end seen place first rest part s e = sym (ap (place_of_repeat s.codes place) e ∙ place_of_repeat-nil s.codes place) ∙ s.same

pub fitting_at : (o : Parameter) (rest others : List ℕ) → parameters rest ≡ o ∷ parameters others → length (spelled (parameters rest)) ≡ size_of o + length (spelled (parameters others))
fitting_at o rest others e = ap (λ ps. length (spelled ps)) e ∙ fitting-cons o (parameters others)

pub fitting_none : (rest : List ℕ) → parameters rest ≡ [] → length (spelled (parameters rest)) ≡ 0
unfolding spelled
fitting_none rest e = ap (λ ps. length (spelled ps)) e

pub place_of_unfit-none : (first : ℕ) (part : List ℕ) → length (spelled (parameters part)) ≡ length part → None ≡ place_of_unfit first part
place_of_unfit-none first part h = sym (cond-true _ _ _ (eq-eqb _ _ h))

pub place_of_unfit-some : (place first : ℕ) (part : List ℕ) → (length (spelled (parameters part)) ≡ length part → ⊥) → place ≡ first + length (spelled (parameters part)) → Some place ≡ place_of_unfit first part
place_of_unfit-some place first part n e = ap (λ p. Some p) e ∙ sym (cond-false _ _ _ (ne_eqb _ _ n))
