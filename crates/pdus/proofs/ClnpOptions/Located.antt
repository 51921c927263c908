-- Where an option's value stands in a part.
use Rattle.std.proofs.Common.{◌≡◌, ◌∙◌, sym, ap, refl, ℕ, ◌≢◌, List, [], ◌∷◌, ◌++◌, length, append_assoc, Some, None}
use Rattle.std.specs.Prelude.{eqb}
use Rattle.std.proofs.Common.{inl, inr}
use Rattle.std.proofs.lemmas.Bool.{cond-true, cond-false, cases_Bool, ne_eqb, eq-eqb}
use Rattle.std.proofs.lemmas.List.{append-nil}
use Rattle.pdus.specs.ClnpOptions.Parameter.{Parameter, spelling, spelled, parameters}
use Rattle.pdus.specs.ClnpOptions.Edits.{value_of}
use Rattle.pdus.proofs.ClnpOptions.Parts.{spelled-append, spelled-cons, spelled-nil}
use Rattle.std.proofs.lemmas.Option.{none-some}

-- the options before `rest` have another code
pub record SoFar (part : List ℕ) (code : ℕ) (rest : List ℕ) : Type 0 where
  pub before : List Parameter
  pub octets : part ≡ spelled before ++ rest
  pub options : parameters part ≡ before ++ parameters rest
  pub none_before : value_of code before ≡ None

pub SoFar-start : (part : List ℕ) (code : ℕ) → SoFar part code part
unfolding spelled value_of
SoFar-start part code = record { before = []; octets = refl; options = refl; none_before = refl }

pub value_of-append : (code : ℕ) (os ps : List Parameter) → value_of code os ≡ None → value_of code (os ++ ps) ≡ value_of code ps
unfolding value_of
value_of-append code [] ps h = refl
value_of-append code (o ∷ os) ps h =
    elim (cases_Bool (eqb o.code code)) [
      | inl t ↦ absurd (none-some o.value (sym (sym (rw t refl) ∙ h)))
      | inr f ↦ rw f (value_of-append code os ps (rw f at h))
    ]

pub value_of-other : (code : ℕ) (o : Parameter) (os : List Parameter) → o.code ≢ code → value_of code (o ∷ os) ≡ value_of code os
unfolding value_of
value_of-other code o os n = cond-false _ _ _ (ne_eqb o.code code n)

pub value_of-same : (code : ℕ) (o : Parameter) (os : List Parameter) → o.code ≡ code → value_of code (o ∷ os) ≡ Some o.value
unfolding value_of
value_of-same code o os e = cond-true _ _ _ (eq-eqb o.code code e)

pub value_of-nil : (code : ℕ) → value_of code [] ≡ None
unfolding value_of
value_of-nil code = refl

spelled_push : (before : List Parameter) (o : Parameter) (others : List ℕ) → spelled before ++ (spelling o ++ others) ≡ spelled (before ++ o ∷ []) ++ others
spelled_push before o others =
    sym (append_assoc (spelled before) (spelling o) others)
    ∙ ap (λ t. t ++ others) (sym (spelled-append before (o ∷ []) ∙ ap (λ t. spelled before ++ t) (spelled-cons o [] ∙ ap (λ t. spelling o ++ t) spelled-nil ∙ append-nil (spelling o))))

pub SoFar-more : (part rest others value : List ℕ) (code found : ℕ) → SoFar part code rest → rest ≡ found ∷ length value ∷ (value ++ others) → parameters rest ≡ record { code = found; value = value } ∷ parameters others → found ≢ code → SoFar part code others
SoFar-more part rest others value code found s e o n =
    let option : Parameter = record { code = found; value = value } in
    record {
      before = s.before ++ option ∷ [];
      octets = s.octets ∙ ap (λ t. spelled s.before ++ t) e ∙ spelled_push s.before option others;
      options = s.options ∙ ap (λ t. s.before ++ t) o ∙ sym (append_assoc s.before (option ∷ []) (parameters others));
      none_before = value_of-append code s.before (option ∷ []) s.none_before ∙ value_of-other code option [] n ∙ value_of-nil code;
    }
