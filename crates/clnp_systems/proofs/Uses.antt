-- The last uses of identifiers.
use Rattle.std.proofs.Common.{◌≡◌, ℕ, zero, suc, ◌≢◌, List, [], ◌∷◌, ◌++◌, Some, None, slice_get, refl, ap, ◌∙◌, arith, sym}
use Rattle.std.proofs.lemmas.Bool.Decides.{eqb_tells}
use Rattle.std.specs.Option.{option_or}
use Rattle.clnp_machine.proofs.ClnpBase.Choices.{option_or-assoc, option_or-nothing}
use Rattle.clnp_machine.specs.Identifiers.{Use, last_use}
pub use Rattle.clnp_machine.proofs.Resting.{busy_rested, moment_for, moment_there, past_quiet}

pub last_use-push : (identifier : ℕ) (uses : List Use) (given : Use)
    → last_use identifier (uses ++ given ∷ []) ≡ option_or (moment_for identifier given) (last_use identifier uses)
last_use-push identifier [] given = sym (option_or-nothing (moment_for identifier given))
last_use-push identifier (first ∷ later) given =
    ap (λ found. option_or found (moment_for identifier first)) (last_use-push identifier later given)
    ∙ option_or-assoc (moment_for identifier given) (last_use identifier later) (moment_for identifier first)

pub moment_elsewhere : (identifier : ℕ) (given : Use) → given.identifier ≢ identifier → moment_for identifier given ≡ None
moment_elsewhere identifier given other = grind (arith, eqb_tells given.identifier identifier)

pub last_use_there : (identifier : ℕ) (uses : List Use) (given : Use) → given.identifier ≡ identifier
    → last_use identifier (uses ++ given ∷ []) ≡ Some given.moment
last_use_there identifier uses given same =
    last_use-push identifier uses given ∙ ap (λ found. option_or found (last_use identifier uses)) (moment_there identifier given same)

pub last_use_elsewhere : (identifier : ℕ) (uses : List Use) (given : Use) → given.identifier ≢ identifier
    → last_use identifier (uses ++ given ∷ []) ≡ last_use identifier uses
last_use_elsewhere identifier uses given other =
    last_use-push identifier uses given ∙ ap (λ found. option_or found (last_use identifier uses)) (moment_elsewhere identifier given other)

-- an identifier that was used has a last use
pub has_last_use : (uses : List Use) (i : ℕ) (given : Use) → slice_get uses i ≡ Some given
    → (moment : ℕ) × (last_use given.identifier uses ≡ Some moment)
has_last_use [] i given there = absurd (cc)
has_last_use (first ∷ later) zero given there =
    let same : first ≡ given = cc in
    let found : moment_for given.identifier first ≡ Some first.moment = moment_there given.identifier first (ap (λ (g : Use). g.identifier) same) in
    elim (last_use given.identifier later) as (λ o. (moment : ℕ) × (option_or o (moment_for given.identifier first) ≡ Some moment))
    [ None ↦ (first.moment, found) | Some moment ↦ (moment, refl) ]
has_last_use (first ∷ later) (suc i) given there =
    let (moment, found) = has_last_use later i given there in
    (moment, ap (λ o. option_or o (moment_for given.identifier first)) found)
