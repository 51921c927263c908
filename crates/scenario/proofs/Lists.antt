-- Names and addresses of what is declared, and an element that changes.
use Rattle.std.proofs.Common.{◌≡◌, ℕ, zero, suc, ◌+◌, ◌<◌, ◌≤◌, ◌==◌, ◌&&◌, List, [], ◌∷◌, ◌++◌, map, length, take, get_or, set, nat_eq, Result, Ok, Err, MatchResult, OnOk, refl, sym, ◌∙◌, ap, arith}
use Rattle.std.proofs.lemmas.List.{map-append, take_more}
use Rattle.std.proofs.lemmas.List.Folds.{list_any-append}
use Rattle.std.specs.List.{list_any, flat_map}
use Rattle.std.specs.Cmp.Lexicographic.{pointwise}
use Rattle.clnp_plan.proofs.ClnpBase.Maps.{list_any-map-filter}
use Rattle.scenario.specs.declared.fault.LineFault.{LineFault}
use Rattle.scenario.specs.declared.fault.LineFault.TheVariants.{NoMemory}
use Rattle.scenario.specs.Declarations.{snpas_on, DeclaredSystem, NumberedPort, configuration_of}
use Rattle.clnp_plan.specs.ScenarioPlan.Standing.{changed_at, is_among}

pub configuration_names : (systems : List DeclaredSystem) → map (λ host. host.name) (map configuration_of systems) ≡ map (λ system. system.name) systems
configuration_names [] = refl
configuration_names (system ∷ systems) = ap (λ names. system.name ∷ names) (configuration_names systems)

pub any_snpa : (subnet : ℕ) (snpa : List ℕ) (systems : List DeclaredSystem)
    → is_among snpa (flat_map (snpas_on subnet) systems)
    ≡ list_any (λ (system : DeclaredSystem). list_any (λ (numbered : NumberedPort). (numbered.port.subnet == subnet) && pointwise nat_eq numbered.port.snpa snpa) system.ports) systems
any_snpa subnet snpa [] = refl
any_snpa subnet snpa (system ∷ systems) =
    rw (
      list_any-append (λ (other : List ℕ). pointwise nat_eq other snpa) (snpas_on subnet system) (flat_map (snpas_on subnet) systems),
      any_snpa subnet snpa systems,
      list_any-map-filter (λ (other : List ℕ). pointwise nat_eq other snpa) (λ (numbered : NumberedPort). numbered.port.snpa) (λ (numbered : NumberedPort). numbered.port.subnet == subnet) system.ports,
    ) refl

pub changed_is_set : {X : Type 0} (change : X → X) (place : ℕ) (xs : List X) (d : X) → place < length xs
    → changed_at change place xs ≡ set xs place (change (get_or xs place d))
changed_is_set change place [] d h = absurd (omega arith)
changed_is_set change zero (x ∷ xs) d h = refl
changed_is_set change (suc place) (x ∷ xs) d h = ap (λ ys. x ∷ ys) (changed_is_set change place xs d (omega (arith, h)))

pub changed_on_ok : {X : Type 0} (r : Result (Unit {0}) LineFault) (change : X → X) (place : ℕ) (xs : List X) (x new : X)
    → place < length xs
    → MatchResult r (λ _. new ≡ change (get_or xs place x)) (λ fault. fault ≡ NoMemory)
    → MatchResult r (λ _. set xs place new ≡ changed_at change place xs) (λ fault. fault ≡ NoMemory)
changed_on_ok (Ok done) change place xs x new lt h =
    ap (λ y. set xs place y) h ∙ sym (changed_is_set change place xs x lt)
changed_on_ok (Err fault) change place xs x new lt h = h

pub changed_beyond : {X : Type 0} (change : X → X) (place : ℕ) (xs : List X) → length xs ≤ place → changed_at change place xs ≡ xs
changed_beyond change place [] h = refl
changed_beyond change zero (x ∷ xs) h = absurd (omega (arith, h))
changed_beyond change (suc place) (x ∷ xs) h = ap (λ ys. x ∷ ys) (changed_beyond change place xs (omega (arith, h)))

pub changed_if_ok : {X E : Type 0} (r : Result (Unit {0}) E) (change : X → X) (place : ℕ) (xs : List X) (x new : X)
    → place < length xs → OnOk r (new ≡ change (get_or xs place x)) → OnOk r (set xs place new ≡ changed_at change place xs)
changed_if_ok (Ok done) change place xs x new lt h =
    ap (λ y. set xs place y) h ∙ sym (changed_is_set change place xs x lt)
changed_if_ok (Err e) change place xs x new lt h = tt

-- a loop that appends f x for each element x
pub mapped_more : {X Y : Type 0} (f : X → Y) (xs : List X) (ys : List Y) (i : ℕ) (d : X) (y : Y) → i < length xs
    → ys ≡ map f (take i xs) → y ≡ f (get_or xs i d) → ys ++ y ∷ [] ≡ map f (take (i + 1) xs)
mapped_more f xs ys i d y within so_far is =
    rw (so_far, is, take_more xs i d within) (sym (map-append f (take i xs) (get_or xs i d ∷ [])))
