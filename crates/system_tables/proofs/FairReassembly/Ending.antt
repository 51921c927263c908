-- Buffers whose time has ended are taken out until none is due.
use Rattle.std.proofs.Common.{◌≡◌, ℕ, zero, suc, ◌<◌, ◌≤◌, Bool, not, List, [], ◌∷◌, ◌++◌, length, Option, None, Some, refl, sym, ap, ◌∙◌, subst, arith}
use Rattle.std.specs.Prelude.{filter}
use Rattle.pdus.proofs.ClnpBase.Filters.{filter-fewer}
use Rattle.pdus.specs.ClnpViews.Extent.{Extent}
use Rattle.system_tables.specs.Reassembly.Arrival.{same_key}
use Rattle.system_tables.specs.Reassembly.Buffer.{Buffer, due, without}
use Rattle.system_tables.proofs.ReassemblyFacts.Shared.{due_is, same_key-refl}
use Rattle.system_tables.specs.FairReassembly.Classes.{Effect, and_then, ends, ends_due, expire, expire_all, rests}

-- a due buffer is there, and is taken out
pub fewer_without_due : (now : ℕ) (buffers : List (Buffer Extent)) (ended : Buffer Extent) → due now buffers ≡ Some ended
    → length (without ended.key buffers) < length buffers
fewer_without_due now buffers ended is =
    let found = due_is now buffers ended is in
    let stays : Buffer Extent → Bool = λ buffer. not (same_key buffer.key ended.key) in
    subst (λ (l : List (Buffer Extent)). length (filter stays l) < length l) (sym found.stands_there)
    (filter-fewer stays found.before ended found.behind (ap not (same_key-refl ended.key)))

same_ends : (found : Option (Buffer Extent)) (f g : List (Buffer Extent) → Effect) (buffers : List (Buffer Extent))
    → ((ended : Buffer Extent) → found ≡ Some ended → f (without ended.key buffers) ≡ g (without ended.key buffers))
    → ends_due found f buffers ≡ ends_due found g buffers
same_ends None f g buffers same = refl
same_ends (Some ended) f g buffers same =
    let then : Effect → Effect = λ effect. record { told = (ends ended buffers).told ++ effect.told; buffers = effect.buffers } in
    ap then (same ended refl)

-- as many as there are is enough
enough : (now m n : ℕ) (buffers : List (Buffer Extent)) → length buffers ≤ m → length buffers ≤ n → expire m now buffers ≡ expire n now buffers
enough now zero zero buffers h k = refl
enough now zero (suc n) [] h k = refl
enough now zero (suc n) (first ∷ others) h k = absurd (omega arith)
enough now (suc m) zero [] h k = refl
enough now (suc m) zero (first ∷ others) h k = absurd (omega arith)
enough now (suc m) (suc n) buffers h k =
    same_ends (due now buffers) (expire m now) (expire n now) buffers (λ ended e.
    let fewer = fewer_without_due now buffers ended e in
    enough now m n (without ended.key buffers) (omega arith) (omega arith))

pub none_ends : (now : ℕ) (buffers : List (Buffer Extent)) → due now buffers ≡ None → expire_all now buffers ≡ rests buffers
none_ends now [] none = refl
none_ends now (first ∷ others) none = ap (λ (found : Option (Buffer Extent)). ends_due found (expire (length others) now) (first ∷ others)) none

pub one_ends : (now : ℕ) (buffers : List (Buffer Extent)) (ended : Buffer Extent) → due now buffers ≡ Some ended
    → expire_all now buffers ≡ and_then (ends ended buffers) (expire_all now)
one_ends now [] ended is = absurd (cc)
one_ends now (first ∷ others) ended is =
    ap (λ (found : Option (Buffer Extent)). ends_due found (expire (length others) now) (first ∷ others)) is
    ∙ same_ends (Some ended) (expire (length others) now) (expire_all now) (first ∷ others) (λ other e.
    let less = fewer_without_due now (first ∷ others) other (is ∙ e) in
    enough now (length others) (length (without other.key (first ∷ others))) (without other.key (first ∷ others)) (omega arith) (omega arith))
