-- The octets of a list of options, with one option behind the others.
use Rattle.std.proofs.Common.{◌≡◌, ◌∙◌, sym, ap, ℕ, ◌+◌, List, [], ◌∷◌, ◌++◌, length, arith, length-append, append_assoc}
use Rattle.std.proofs.lemmas.List.{append-nil}
use Rattle.pdus.specs.ClnpOptions.Parameter.{Parameter, spelling, spelled, parameters}
use Rattle.pdus.specs.ClnpOptions.Grammar.{Forms}
use Rattle.pdus.specs.ClnpOptions.Rules.{IsWellFormed, AreWellFormed}
use Rattle.pdus.proofs.ClnpOptions.Parts.{spelled-append, spelled-cons, spelled-nil, parameters-of_spelled}
use Rattle.pdus.proofs.ClnpOptions.Agree.{forms_of, well_formed_from, are_formed}

pub well_formed-nil : IsWellFormed []
well_formed-nil =
    well_formed_from [] [] (record { octets = sym spelled-nil; formed = record { formed = λ k d within. absurd (omega arith); distinct = λ i j d lt within. absurd (omega arith) } })

-- an option behind the others
pub Forms-pushed : (xs : List ℕ) (o : Parameter) → IsWellFormed xs → AreWellFormed (parameters xs ++ o ∷ []) → Forms (parameters xs ++ o ∷ []) (xs ++ spelling o)
Forms-pushed xs o w h = record {
  octets = spelled_push xs o w;
  formed = are_formed (parameters xs ++ o ∷ []) h;
}
  where
    spelled_push : (xs : List ℕ) (o : Parameter) → IsWellFormed xs → xs ++ spelling o ≡ spelled (parameters xs ++ o ∷ [])
    spelled_push xs o w =
        ap (λ t. t ++ spelling o) (forms_of xs w).octets
        ∙ ap (λ t. spelled (parameters xs) ++ t) (sym (spelled-cons o [] ∙ ap (λ t. spelling o ++ t) spelled-nil ∙ append-nil (spelling o)))
        ∙ sym (spelled-append (parameters xs) (o ∷ []))

pub well_formed-pushed : (xs : List ℕ) (o : Parameter) → IsWellFormed xs → AreWellFormed (parameters xs ++ o ∷ []) → IsWellFormed (xs ++ spelling o)
well_formed-pushed xs o w h = well_formed_from (parameters xs ++ o ∷ []) (xs ++ spelling o) (Forms-pushed xs o w h)

pub parameters-pushed : (xs : List ℕ) (o : Parameter) → IsWellFormed xs → AreWellFormed (parameters xs ++ o ∷ []) → parameters (xs ++ spelling o) ≡ parameters xs ++ o ∷ []
parameters-pushed xs o w h =
    ap parameters (Forms-pushed xs o w h).octets ∙ parameters-of_spelled (parameters xs ++ o ∷ [])

-- code and length, and two pieces of the value, behind the octets
pub put_behind : (code size : ℕ) (xs front back : List ℕ) → size ≡ length front + length back
    → xs ++ (code ∷ size ∷ []) ++ front ++ back ≡ xs ++ spelling (record { code = code; value = front ++ back })
put_behind code size xs front back e =
    append_assoc (xs ++ (code ∷ size ∷ [])) front back
    ∙ append_assoc xs (code ∷ size ∷ []) (front ++ back)
    ∙ ap (λ (n : ℕ). xs ++ (code ∷ n ∷ (front ++ back))) (e ∙ sym (length-append front back))
