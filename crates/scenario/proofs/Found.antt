-- What a look-up at a place finds.
use Rattle.std.proofs.Common.{◌≡◌, ℕ, ◌<◌, ◌≤◌, List, length, get_or, slice_get, Option, None, Some, IfSome, MatchOption, HoldsAt, Bor, refl, sym, ◌∙◌, ap, subst}
use Rattle.std.proofs.lemmas.Option.{MatchOption-at_none, MatchOption-at_some, slice_get_past, slice_get_read}

pub found_is : {X A : Type 0} (f : Option X → A) (found : Option (Bor X)) (x : Bor X) (xs ys : List X) (i at : ℕ) → found ≡ Some x
    → IfSome found (λ y. y.now ≡ get_or xs i y.now)
    → MatchOption found (length xs ≤ i) (λ y. (i < length xs) × HoldsAt (λ z. y.now ≡ z) xs i)
    → xs ≡ ys → i ≡ at → f (Some x.now) ≡ f (slice_get ys at)
found_is f found x xs ys i at is item there same place =
    let within = (MatchOption-at_some (length xs ≤ i) (λ y. (i < length xs) × HoldsAt (λ z. y.now ≡ z) xs i) x is there).0 in
    let read = slice_get_read xs (length xs) i x.now refl within (subst (λ o. IfSome o (λ y. y.now ≡ get_or xs i y.now)) is item) in
    ap f (sym read ∙ (ap (λ l. slice_get l i) same ∙ ap (slice_get ys) place))

pub none_is : {X A : Type 0} (f : Option X → A) (found : Option (Bor X)) (xs ys : List X) (i at : ℕ) → found ≡ None
    → MatchOption found (length xs ≤ i) (λ y. (i < length xs) × HoldsAt (λ z. y.now ≡ z) xs i)
    → xs ≡ ys → i ≡ at → f None ≡ f (slice_get ys at)
none_is f found xs ys i at is there same place =
    let past = MatchOption-at_none (length xs ≤ i) (λ y. (i < length xs) × HoldsAt (λ z. y.now ≡ z) xs i) is there in
    ap f (sym (slice_get_past xs i past) ∙ (ap (λ l. slice_get l i) same ∙ ap (slice_get ys) place))
