-- How long an end system hello gets.
use Rattle.std.proofs.Common.{ℕ, zero, suc, ◌*◌, ◌<◌, ◌≤◌, List, [], ◌∷◌, length, get_or, arith, length-append}
use Rattle.clnp_machine.specs.ClnpOptions.Grammar.{joined}
use Rattle.clnp_machine.specs.ClnpOptions.Parameter.{spelled}
use Rattle.clnp_machine.specs.EsisPdus.Making.{esh_length}

joined_few : (list : List (List ℕ)) → ((k : ℕ) (d : List ℕ) → k < length list → length (get_or list k d) ≤ 20) → length (joined list) ≤ 21 * length list
unfolding joined
joined_few [] few = omega arith
joined_few (a ∷ others) few =
    let first : length a ≤ 20 = few zero [] (omega arith) in
    let more : length (joined others) ≤ 21 * length others = joined_few others (λ k d within. few (suc k) d (omega arith)) in
    omega (arith, first, more, length-append (length a ∷ a) (joined others))

-- eight addresses fit
pub few_fit : (list : List (List ℕ)) (i : ℕ) → ((k : ℕ) (d : List ℕ) → k < i → length (get_or list k d) ≤ 20) → length list ≤ i → length list ≤ 8
    → esh_length list ≤ 254
unfolding spelled
few_fit list i few all eight =
    let most : length (joined list) ≤ 21 * length list = joined_few list (λ k d within. few k d (omega arith)) in
    omega (arith, most, length-append (length list ∷ joined list) (spelled []))
