-- Reading words and lines one after the other, as a loop does.
use Rattle.std.proofs.Common.{◌≡◌, List, [], ◌∷◌, ◌++◌, Result, Ok, Err, refl, ap, append_assoc}
use Rattle.scenario.specs.Words.{◌>>=◌}

-- what was read before, and what is still read
abbrev pub with_front : {A E : Type 0} → List A → Result (List A) E → Result (List A) E
with_front front reading = reading >>= λ others. Ok (front ++ others)

pub regroup : {A E : Type 0} (front : List A) (x : A) (reading : Result (List A) E)
    → with_front front (reading >>= λ others. Ok (x ∷ others)) ≡ with_front (front ++ x ∷ []) reading
regroup {A = A} front x (Ok others) = ap (λ (xs : List A). Ok xs) (simp append_assoc)
regroup front x (Err bad) = refl

pub nothing_before : {A E : Type 0} (reading : Result (List A) E) → with_front [] reading ≡ reading
nothing_before (Ok others) = refl
nothing_before (Err bad) = refl
