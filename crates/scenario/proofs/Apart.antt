-- Addresses of which no two are the same.
use Rattle.std.proofs.Common.{◌≡◌, ◌≢◌, AllPairs, ℕ, zero, suc, false, nat_eq, List, [], ◌∷◌, ◌++◌, map, refl, sym, ◌∙◌, ap, arith, append_assoc}
use Rattle.std.specs.List.{AllByRecursion, flat_map}
use Rattle.std.specs.Cmp.Lexicographic.{pointwise, nat_list_eq_equiv}
use Rattle.std.proofs.lemmas.Bool.{true≢false, or_parts}
use Rattle.std.proofs.lemmas.List.Elements.{All-from_recursion}
use Rattle.std.proofs.lemmas.List.Kept.{AllPairs-cons}
use Rattle.std.proofs.lemmas.Option.{slice_get_within, get_or_from_slice_get}
use Rattle.clnp_plan.proofs.ClnpBase.Lists.{AllByRecursion-put, AllByRecursion-front, AllByRecursion-from_places}
use Rattle.scenario.specs.Declarations.{DeclaredSystem, with_address, with_port, NumberedPort, configuration_of}
use Rattle.clnp_plan.specs.ScenarioPlan.Standing.{changed_at, is_among}

-- all addresses of some systems
abbrev pub addresses_of : List DeclaredSystem → List (List ℕ)
addresses_of systems = flat_map (λ system. system.addresses) systems

-- an address, or what else there is of some kind, is none of some
abbrev pub IsNew : {X : Type 0} → X → List X → Type 0
IsNew x others = AllByRecursion (λ other. (x ≢ other) × (other ≢ x)) others

-- each is none of those behind it
abbrev pub AreApart : {X : Type 0} → List X → Type 0
AreApart [] = Unit {0}
AreApart (x ∷ others) = IsNew x others × AreApart others

weaker : {X : Type 0} (x : X) (others : List X) → IsNew x others → AllByRecursion (λ other. x ≢ other) others
weaker x [] h = tt
weaker x (other ∷ others) h = (h.0.0, weaker x others h.1)

pub distinct_of : {X : Type 0} (xs : List X) → AreApart xs → AllPairs (λ a b. a ≢ b) xs
distinct_of [] h = λ i j d before within. absurd (omega (arith, within))
distinct_of (x ∷ others) h =
    AllPairs-cons (λ a b. a ≢ b) x others (All-from_recursion (λ other. x ≢ other) others (weaker x others h.0)) (distinct_of others h.1)

new_to : {X : Type 0} (x : X) (others : List X) → AllByRecursion (λ other. x ≢ other) others → IsNew x others
new_to x [] h = tt
new_to x (other ∷ others) h = ((h.0, λ e. h.0 (sym e)), new_to x others h.1)

pub apart_of : {X : Type 0} (xs : List X) → AllPairs (λ a b. a ≢ b) xs → AreApart xs
apart_of [] h = tt
apart_of (x ∷ others) h = (
  new_to x others (AllByRecursion-from_places (λ other. x ≢ other) others (λ i other at e.
      h zero (suc i) x (omega arith) (omega (arith, slice_get_within others i other at)) (e ∙ sym (get_or_from_slice_get others i other x at)))),
  apart_of others (λ i j d before within. h (suc i) (suc j) d (omega (arith, before)) (omega (arith, within))),
)

pub all_behind : {X : Type 0} (P : X → Type 0) (xs ys : List X) → AllByRecursion P (xs ++ ys) → AllByRecursion P ys
all_behind P [] ys h = h
all_behind P (x ∷ xs) ys h = all_behind P xs ys h.1

-- what stands before one of them is other
pub before_is_other : {X : Type 0} (front : List X) (x : X) (behind : List X) → AreApart (front ++ x ∷ behind) → AllByRecursion (λ other. other ≢ x) front
before_is_other [] x behind h = tt
before_is_other (first ∷ front) x behind h =
    let others = all_behind (λ other. (first ≢ other) × (other ≢ first)) front (x ∷ behind) h.0 in
    (others.0.0, before_is_other front x behind h.1)

differ : (address other : List ℕ) → pointwise nat_eq other address ≡ false → (address ≢ other) × (other ≢ address)
differ address other h = (
  λ e. absurd (true≢false (sym (nat_list_eq_equiv.refl address) ∙ (ap (λ x. pointwise nat_eq x address) e ∙ h))),
  λ e. absurd (true≢false (sym (nat_list_eq_equiv.refl address) ∙ (ap (λ x. pointwise nat_eq x address) (sym e) ∙ h))),
)

pub new_of : (address : List ℕ) (others : List (List ℕ)) → is_among address others ≡ false → IsNew address others
new_of address [] h = tt
new_of address (other ∷ others) h =
    let p = or_parts (pointwise nat_eq other address) (is_among address others) h in
    (differ address other p.0, new_of address others p.1)

-- an address that is none of a list, anywhere in the list

pub put : {X : Type 0} (xs : List X) (y : X) (ys : List X) → IsNew y (xs ++ ys) → AreApart (xs ++ ys) → AreApart (xs ++ y ∷ ys)
put [] y ys new h = (new, h)
put (x ∷ xs) y ys new h =
    (AllByRecursion-put (λ other. (x ≢ other) × (other ≢ x)) xs y ys (new.0.1, new.0.0) h.0, put xs y ys new.1 h.1)

add : (front : List (List ℕ)) (address : List ℕ) (place : ℕ) (systems : List DeclaredSystem)
    → IsNew address (front ++ addresses_of systems) → AreApart (front ++ addresses_of systems)
    → AreApart (front ++ addresses_of (changed_at (with_address address) place systems))
add front address place [] new h = h
add front address zero (system ∷ systems) new h =
    let e : front ++ ((system.addresses ++ address ∷ []) ++ addresses_of systems) ≡ (front ++ system.addresses) ++ (address ∷ addresses_of systems) = simp append_assoc in
    let old : (front ++ system.addresses) ++ addresses_of systems ≡ front ++ (system.addresses ++ addresses_of systems) = simp append_assoc in
    rw e (put (front ++ system.addresses) address (addresses_of systems) (rw old new) (rw old h))
add front address (suc place) (system ∷ systems) new h =
    let old : (front ++ system.addresses) ++ addresses_of systems ≡ front ++ (system.addresses ++ addresses_of systems) = simp append_assoc in
    let e : (front ++ system.addresses) ++ addresses_of (changed_at (with_address address) place systems)
    ≡ front ++ (system.addresses ++ addresses_of (changed_at (with_address address) place systems)) = simp append_assoc in
    rw e at (add (front ++ system.addresses) address place systems (rw old new) (rw old h))

-- a system gets an address that no system has
pub add_address : (address : List ℕ) (place : ℕ) (systems : List DeclaredSystem)
    → is_among address (addresses_of systems) ≡ false → AreApart (addresses_of systems)
    → AreApart (addresses_of (changed_at (with_address address) place systems))
add_address address place systems new h = add [] address place systems (new_of address (addresses_of systems) new) h

-- what leaves the addresses

pub port_leaves : (numbered : NumberedPort) (place : ℕ) (systems : List DeclaredSystem)
    → addresses_of (changed_at (with_port numbered) place systems) ≡ addresses_of systems
port_leaves numbered place [] = refl
port_leaves numbered zero (system ∷ systems) = refl
port_leaves numbered (suc place) (system ∷ systems) = ap (λ others. system.addresses ++ others) (port_leaves numbered place systems)

pub system_leaves : (systems : List DeclaredSystem) (system : DeclaredSystem) → system.addresses ≡ []
    → addresses_of (systems ++ system ∷ []) ≡ addresses_of systems
system_leaves [] system none = rw none refl
system_leaves (first ∷ systems) system none = ap (λ others. first.addresses ++ others) (system_leaves systems system none)

pub configuration_addresses : (systems : List DeclaredSystem) → flat_map (λ host. host.addresses) (map configuration_of systems) ≡ addresses_of systems
configuration_addresses [] = refl
configuration_addresses (system ∷ systems) = ap (λ others. system.addresses ++ others) (configuration_addresses systems)

-- each system's own addresses, and those of the others

pub front_apart : (xs ys : List (List ℕ)) → AreApart (xs ++ ys) → AreApart xs
front_apart [] ys h = tt
front_apart (x ∷ xs) ys h = (AllByRecursion-front (λ other. (x ≢ other) × (other ≢ x)) xs ys h.0, front_apart xs ys h.1)

pub back_apart : (xs ys : List (List ℕ)) → AreApart (xs ++ ys) → AreApart ys
back_apart [] ys h = h
back_apart (x ∷ xs) ys h = back_apart xs ys h.1
