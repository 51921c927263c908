-- The next of the systems that a copy is for, from a place on.
use Rattle.std.proofs.Common.{◌≡◌, ℕ, zero, suc, ◌+◌, List, [], ◌∷◌, ◌++◌, take, drop, drop-cons, map, cond, true, false, Some, refl, sym, ap, ◌∙◌, add-zero, zero-add, append-nil, arith}
use Rattle.std.specs.Prelude.{slice_get}
use Rattle.std.proofs.lemmas.List.{append_assoc, append_cancel_right, drop-map}
use Rattle.std.proofs.lemmas.Option.{get_or_from_slice_get, slice_get_within}
use Rattle.clnp_machine.specs.System.{SystemState}
use Rattle.clnp_machine.specs.ClnpNetwork.LabelledNetwork as network
use Rattle.clnp_program.proofs.ClnpWorld.ModelSteps.{Seat, same_addressee, seat_of}

-- the places from a place on begin with this place, where the copy is for the system there
pub addressees_from-drop : (copy : network.Copy) (systems : List SystemState) (place : ℕ) (system : SystemState) → slice_get systems place ≡ Some system
    → network.addressees_from place copy (drop place systems)
    ≡ cond (network.is_addressee copy system) (place ∷ network.addressees_from (place + 1) copy (drop (place + 1) systems))
    (network.addressees_from (place + 1) copy (drop (place + 1) systems))
addressees_from-drop copy systems place system e =
    let next : suc place ≡ place + 1 = omega arith in
    let cut : drop place systems ≡ system ∷ drop (place + 1) systems
    = drop-cons systems place system (slice_get_within systems place system e)
    ∙ ap (λ (s : SystemState). s ∷ drop (suc place) systems) (get_or_from_slice_get systems place system system e)
    ∙ ap (λ (n : ℕ). system ∷ drop n systems) next in
    ap (λ (ss : List SystemState). network.addressees_from place copy ss) cut

-- the places of some systems are those of the first ones and those of the others
addressees_from-cut : (k n : ℕ) (copy : network.Copy) (systems : List SystemState)
    → network.addressees_from k copy systems
    ≡ network.addressees_from k copy (take n systems) ++ network.addressees_from (k + n) copy (drop n systems)
addressees_from-cut k zero copy systems = ap (λ (m : ℕ). network.addressees_from m copy systems) (sym (add-zero k))
addressees_from-cut k (suc n) copy [] = refl
addressees_from-cut k (suc n) copy (system ∷ systems) =
    let e : (k + 1) + n ≡ k + suc n = omega arith in
    let h : network.addressees_from (k + 1) copy systems
    ≡ network.addressees_from (k + 1) copy (take n systems) ++ network.addressees_from (k + suc n) copy (drop n systems)
    = rw e at (addressees_from-cut (k + 1) n copy systems) in
    elim (network.is_addressee copy system) as (λ b. cond b (k ∷ network.addressees_from (k + 1) copy systems) (network.addressees_from (k + 1) copy systems)
    ≡ cond b (k ∷ network.addressees_from (k + 1) copy (take n systems)) (network.addressees_from (k + 1) copy (take n systems))
    ++ network.addressees_from (k + suc n) copy (drop n systems))
    [ true ↦ ap (λ (ps : List ℕ). k ∷ ps) h | false ↦ h ]

places_cut : (n : ℕ) (copy : network.Copy) (systems : List SystemState)
    → network.addressees_from 0 copy systems
    ≡ network.addressees_from 0 copy (take n systems) ++ network.addressees_from n copy (drop n systems)
places_cut n copy systems =
    addressees_from-cut 0 n copy systems
    ∙ ap (λ (m : ℕ). network.addressees_from 0 copy (take n systems) ++ network.addressees_from m copy (drop n systems)) (zero-add n)

-- a copy is for the same ones while none of them is configured or attached otherwise
addressees_from-seats : (k : ℕ) (copy : network.Copy) (xs ys : List SystemState) → map seat_of xs ≡ map seat_of ys
    → network.addressees_from k copy xs ≡ network.addressees_from k copy ys
addressees_from-seats k copy [] [] e = refl
addressees_from-seats k copy [] (y ∷ ys) e = absurd (cc)
addressees_from-seats k copy (x ∷ xs) [] e = absurd (cc)
addressees_from-seats k copy (x ∷ xs) (y ∷ ys) e =
    let head : seat_of x ≡ seat_of y = cc in
    let tail : map seat_of xs ≡ map seat_of ys = cc in
    let others = network.addressees_from (k + 1) copy xs in
    ap (λ b. cond b (k ∷ others) others) (same_addressee copy x y head)
    ∙ ap (λ (ps : List ℕ). cond (network.is_addressee copy y) (k ∷ ps) ps) (addressees_from-seats (k + 1) copy xs ys tail)

pub same_from : (n : ℕ) (copy : network.Copy) (xs ys : List SystemState) → map seat_of xs ≡ map seat_of ys
    → network.addressees_from n copy (drop n xs) ≡ network.addressees_from n copy (drop n ys)
same_from n copy xs ys e =
    addressees_from-seats n copy (drop n xs) (drop n ys)
    (sym (drop-map seat_of n xs) ∙ ap (λ (seats : List Seat). drop n seats) e ∙ drop-map seat_of n ys)

-- the next one is the one more of those below the place behind it
pub places_more : (from place : ℕ) (copy : network.Copy) (systems : List SystemState)
    → network.addressees_from from copy (drop from systems) ≡ place ∷ network.addressees_from (place + 1) copy (drop (place + 1) systems)
    → network.addressees_from 0 copy (take (place + 1) systems) ≡ network.addressees_from 0 copy (take from systems) ++ place ∷ []
places_more from place copy systems next =
    let front = network.addressees_from 0 copy (take from systems) in
    let rest = network.addressees_from (place + 1) copy (drop (place + 1) systems) in
    append_cancel_right (network.addressees_from 0 copy (take (place + 1) systems)) (front ++ place ∷ []) rest
    (sym (places_cut (place + 1) copy systems) ∙ places_cut from copy systems ∙ ap (λ (ps : List ℕ). front ++ ps) next
    ∙ sym (append_assoc front (place ∷ []) rest))

-- where there is none from a place on, those below it are all
pub places_all : (from : ℕ) (copy : network.Copy) (systems : List SystemState) → network.addressees_from from copy (drop from systems) ≡ []
    → network.addressees_from 0 copy (take from systems) ≡ network.addressees_from 0 copy systems
places_all from copy systems none =
    let front = network.addressees_from 0 copy (take from systems) in
    sym (places_cut from copy systems ∙ ap (λ (ps : List ℕ). front ++ ps) none ∙ append-nil front)
