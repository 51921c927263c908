-- What stays in front of a list to which more is appended.
use Rattle.std.proofs.Common.{◌≡◌, refl, ap, List, [], ◌∷◌, ◌++◌, length, take}
use Rattle.clnp_machine.specs.ClnpPlan.declared.output.Output.{Output}
use Rattle.clnp_systems.specs.Does.{StaysInFront}

pub front_none : (list : List Output) → StaysInFront list list
front_none [] = refl
front_none (first ∷ others) = ap (λ (list : List Output). first ∷ list) (front_none others)

pub front_more : (before mid after : List Output) → StaysInFront before mid → StaysInFront mid after → StaysInFront before after
front_more [] mid after first second = refl
front_more (x ∷ before) [] after first second = absurd (cc)
front_more (x ∷ before) (y ∷ mid) [] first second = absurd (cc)
front_more (x ∷ before) (y ∷ mid) (z ∷ after) first second =
    let here : take (length before) mid ≡ before = cc in
    let there : take (length mid) after ≡ mid = cc in
    let rest : take (length before) after ≡ before = front_more before mid after here there in
    cc

pub front_append : (list others : List Output) → StaysInFront list (list ++ others)
front_append [] others = refl
front_append (first ∷ list) others = ap (λ (rest : List Output). first ∷ rest) (front_append list others)

pub front_one : (before mid after : List Output) (output : Output) → mid ≡ before → after ≡ mid ++ output ∷ [] → StaysInFront before after
front_one before mid after output same appended = rw (appended, same) (front_append before (output ∷ []))

pub front_same : (before after : List Output) → after ≡ before → StaysInFront before after
front_same before after same = rw same (front_none before)
