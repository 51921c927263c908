-- Hosts that stand for the systems at their places.
use Rattle.std.proofs.Common.{◌≡◌, ◌<◌, ◌≤◌, ℕ, zero, suc, List, [], ◌∷◌, ◌++◌, length, get_or, Option, None, Some, refl, sym, subst}
use Rattle.std.specs.Prelude.{slice_get, slice_set, IfSome}
use Rattle.std.specs.Option.{MatchOption}
use Rattle.std.proofs.lemmas.Option.{MatchOption-at_none, MatchOption-at_some, slice_get_read}
use Rattle.std.proofs.lemmas.Slice.Zip.{AllZip-long, all_zipped_more}
use Rattle.std.specs.List.{HoldsAt}
use Rattle.clnp_machine.specs.System.{SystemState}
use Rattle.clnp_systems.specs.declared.system.System.{System}
use Rattle.clnp_systems.specs.Stands as clnp_systems
use Rattle.clnp_program.specs.ClnpWorld.Stands.{StandEach}

pub each_length : (nodes : List System) (systems : List SystemState) → StandEach nodes systems → length nodes ≡ length systems
each_length nodes systems h = sym (AllZip-long clnp_systems.Stands nodes systems h)

pub each_at : (nodes : List System) (systems : List SystemState) (i : ℕ) (node : System) (system : SystemState) → StandEach nodes systems
    → slice_get nodes i ≡ Some node → slice_get systems i ≡ Some system → clnp_systems.Stands node system
each_at [] [] i node system h e k = absurd (cc)
each_at [] (s ∷ ss) i node system h e k = absurd h
each_at (x ∷ xs) [] i node system h e k = absurd h
each_at (x ∷ xs) (s ∷ ss) zero node system h e k =
    let one : x ≡ node = cc in
    let other : s ≡ system = cc in
    subst (λ (a : System). clnp_systems.Stands a system) one (subst (λ (b : SystemState). clnp_systems.Stands x b) other h.0)
each_at (x ∷ xs) (s ∷ ss) (suc i) node system h e k = each_at xs ss i node system h.1 e k

pub each_set : (nodes : List System) (systems : List SystemState) (i : ℕ) (node : System) (system : SystemState) → StandEach nodes systems
    → clnp_systems.Stands node system → StandEach (slice_set nodes i node) (slice_set systems i system)
each_set [] [] i node system h k = tt
each_set [] (s ∷ ss) i node system h k = absurd h
each_set (x ∷ xs) [] i node system h k = absurd h
each_set (x ∷ xs) (s ∷ ss) zero node system h k = (k, h.1)
each_set (x ∷ xs) (s ∷ ss) (suc i) node system h k = (h.0, each_set xs ss i node system h.1 k)

pub each_push : (nodes : List System) (systems : List SystemState) (node : System) (system : SystemState) → StandEach nodes systems
    → clnp_systems.Stands node system → StandEach (nodes ++ node ∷ []) (systems ++ system ∷ [])
each_push nodes systems node system h k = all_zipped_more clnp_systems.Stands nodes systems node system h k

-- the element that a look-up at a place finds, or that there is none
pub found_at : {B : Type 0} (now : B → System) (found : Option B) (x : B) (nodes others : List System) (at : ℕ) → found ≡ Some x
    → IfSome found (λ x. now x ≡ get_or nodes at (now x))
    → MatchOption found (length nodes ≤ at) (λ x. (at < length nodes) × HoldsAt (λ y. now x ≡ y) nodes at)
    → nodes ≡ others → slice_get others at ≡ Some (now x)
found_at {B = B} now found x nodes others at is e m same =
    subst (λ (ns : List System). slice_get ns at ≡ Some (now x)) same
    (slice_get_read nodes _ at (now x) refl (MatchOption-at_some (length nodes ≤ at) (λ x. (at < length nodes) × HoldsAt (λ y. now x ≡ y) nodes at) x is m).0
    (subst (λ (o : Option B). IfSome o (λ x. now x ≡ get_or nodes at (now x))) is e))

pub none_at : {B : Type 0} (now : B → System) (found : Option B) (nodes others : List System) (at : ℕ) → found ≡ (let none : Option B = None in none)
    → MatchOption found (length nodes ≤ at) (λ x. (at < length nodes) × HoldsAt (λ y. now x ≡ y) nodes at)
    → nodes ≡ others → length others ≤ at
none_at now found nodes others at is m same =
    subst (λ (ns : List System). length ns ≤ at) same
    (MatchOption-at_none (length nodes ≤ at) (λ x. (at < length nodes) × HoldsAt (λ y. now x ≡ y) nodes at) is m)
