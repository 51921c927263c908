-- Steps of a reading that are known to succeed.
use Rattle.std.proofs.Common.{◌≡◌, ◌∙◌, Bool, true, Option, Some, Result, Ok, ap}
use Rattle.scenario.specs.Words.{◌>>=◌, found, wanted}
use Rattle.scenario.specs.declared.code.Code.{Code}

pub step : {A B E : Type 0} (r : Result A E) (f : A → Result B E) (x : A) (y : Result B E) → r ≡ Ok x → f x ≡ y → (r >>= f) ≡ y
step r f x y e k = ap (λ s. s >>= f) e ∙ k

pub step_found : {A B : Type 0} (o : Option A) (code : Code) (f : A → Result B Code) (x : A) (y : Result B Code) → o ≡ Some x → f x ≡ y → (found o code >>= f) ≡ y
step_found o code f x y e k = ap (λ s. found s code >>= f) e ∙ k

pub step_wanted : {B : Type 0} (b : Bool) (code : Code) (f : Unit {0} → Result B Code) (y : Result B Code) → b ≡ true → f tt ≡ y → (wanted b code >>= f) ≡ y
step_wanted b code f y e k = ap (λ s. wanted s code >>= f) e ∙ k
