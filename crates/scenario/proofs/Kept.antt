-- What a list keeps where one of its elements changes or one more comes, and names that aren't taken.
use Rattle.std.proofs.Common.{◌≡◌, ◌≢◌, ℕ, zero, suc, ◌+◌, ◌<◌, ◌≤◌, ◌==◌, ◌||◌, Bool, true, false, if◌then◌else◌, nat_lt, List, [], ◌∷◌, ◌++◌, map, filter, take, drop, length, slice_get, None, Some, is_some, refl, sym, ap, ◌∙◌, subst, arith, append_assoc}
use Rattle.std.specs.List.{AllByRecursion, flat_map, list_any, position_or_len, insert}
use Rattle.std.specs.Option.{option_map}
use Rattle.std.specs.Str.{bytes_eq}
use Rattle.std.proofs.lemmas.Bool.{true≢false, or_parts}
use Rattle.std.proofs.lemmas.List.{map-append, append-nil, take-append-drop}
use Rattle.std.proofs.lemmas.List.Elements.{filter-append}
use Rattle.std.proofs.lemmas.Slice.Eq.{bytes_eq-Decides}
use Rattle.clnp_plan.proofs.ClnpBase.Choices.{not_below, below_not, not_equal}
use Rattle.clnp_plan.proofs.ClnpBase.Lists.{AllByRecursion-implies, AllByRecursion-mapped, AllByRecursion-put}
use Rattle.clnp_plan.proofs.ClnpBase.Maps.{filter-map, map-map}
use Rattle.clnp_plan.specs.Configuration.{SystemConfiguration}
use Rattle.clnp_plan.specs.declared.config.PortConfig.{PortConfig}
use Rattle.clnp_plan.specs.ScenarioPlan.Plan.{Subnetwork, AreOnDifferent, IsOn, snpas_of}
use Rattle.scenario.specs.Words.{is_taken}
use Rattle.scenario.specs.Declarations.{DeclaredSystem, NumberedPort, mtu_at, snpas_on, count_below, with_port, configuration_of}
use Rattle.clnp_plan.specs.ScenarioPlan.Standing.{changed_at}
use Rattle.scenario.proofs.Apart.{IsNew, AreApart, distinct_of, put}

pub map_leaves : {X A : Type 0} (f : X → A) (change : X → X) → ((x : X) → f (change x) ≡ f x) → (place : ℕ) (xs : List X)
    → map f (changed_at change place xs) ≡ map f xs
map_leaves f change same place [] = refl
map_leaves f change same zero (x ∷ xs) = ap (λ y. y ∷ map f xs) (same x)
map_leaves f change same (suc place) (x ∷ xs) = ap (λ ys. f x ∷ ys) (map_leaves f change same place xs)

pub all_leaves : {X A : Type 0} (f : X → List A) (change : X → X) → ((x : X) → f (change x) ≡ f x) → (place : ℕ) (xs : List X)
    → flat_map f (changed_at change place xs) ≡ flat_map f xs
all_leaves f change same place [] = refl
all_leaves f change same zero (x ∷ xs) = ap (λ ys. ys ++ flat_map f xs) (same x)
all_leaves f change same (suc place) (x ∷ xs) = ap (λ ys. f x ++ ys) (all_leaves f change same place xs)

pub length_leaves : {X : Type 0} (change : X → X) (place : ℕ) (xs : List X) → length (changed_at change place xs) ≡ length xs
length_leaves change place [] = refl
length_leaves change zero (x ∷ xs) = refl
length_leaves change (suc place) (x ∷ xs) = ap suc (length_leaves change place xs)

pub empty_leaves : {X A : Type 0} (f : X → List A) (xs : List X) (x : X) → f x ≡ [] → flat_map f (xs ++ x ∷ []) ≡ flat_map f xs
empty_leaves f [] x none = rw none refl
empty_leaves f (first ∷ xs) x none = ap (λ ys. f first ++ ys) (empty_leaves f xs x none)

-- a list that gets one more address, somewhere in it
pub record Gets (address : List ℕ) (old new : List (List ℕ)) : Type 0 where
  pub before : List (List ℕ)
  pub behind : List (List ℕ)
  pub had : old ≡ before ++ behind
  pub has : new ≡ before ++ address ∷ behind

-- one element gets one more address
pub one_gets : {X : Type 0} (f : X → List (List ℕ)) (change : X → X) (address : List ℕ) → ((x : X) → Gets address (f x) (f (change x)))
    → (front : List (List ℕ)) (place : ℕ) (xs : List X) → IsNew address (front ++ flat_map f xs) → AreApart (front ++ flat_map f xs)
    → AreApart (front ++ flat_map f (changed_at change place xs))
one_gets f change address gets front place [] new h = h
one_gets f change address gets front zero (x ∷ xs) new h =
    let g : Gets address (f x) (f (change x)) = gets x in
    let e : front ++ (f (change x) ++ flat_map f xs) ≡ (front ++ g.before) ++ (address ∷ (g.behind ++ flat_map f xs)) = rw g.has (simp append_assoc) in
    let old : (front ++ g.before) ++ (g.behind ++ flat_map f xs) ≡ front ++ (f x ++ flat_map f xs) = rw g.had (simp append_assoc) in
    rw e (put (front ++ g.before) address (g.behind ++ flat_map f xs) (rw old new) (rw old h))
one_gets f change address gets front (suc place) (x ∷ xs) new h =
    let old : (front ++ f x) ++ flat_map f xs ≡ front ++ (f x ++ flat_map f xs) = simp append_assoc in
    let e : (front ++ f x) ++ flat_map f (changed_at change place xs) ≡ front ++ (f x ++ flat_map f (changed_at change place xs)) = simp append_assoc in
    rw e at (one_gets f change address gets (front ++ f x) place xs (rw old new) (rw old h))

-- names

none_step : {X : Type 0} (p : X → Bool) (x : X) (xs : List X) (b : Bool) → p x ≡ b
    → nat_lt (position_or_len p (x ∷ xs)) (length (x ∷ xs)) ≡ false
    → (nat_lt (position_or_len p xs) (length xs) ≡ false → list_any p xs ≡ false) → list_any p (x ∷ xs) ≡ false
none_step p x xs true e h rest =
    let past : length (x ∷ xs) ≤ position_or_len p (x ∷ xs) = not_below (position_or_len p (x ∷ xs)) (length (x ∷ xs)) h in
    let far : suc (length xs) ≤ 0 = rw e at past in
    absurd (omega (arith, far))
none_step p x xs false e h rest =
    let past : length (x ∷ xs) ≤ position_or_len p (x ∷ xs) = not_below (position_or_len p (x ∷ xs)) (length (x ∷ xs)) h in
    let far : suc (length xs) ≤ 1 + position_or_len p xs = rw e at past in
    rw e (rest (below_not (position_or_len p xs) (length xs) (omega (arith, far))))

none_before : {X : Type 0} (p : X → Bool) (xs : List X) → nat_lt (position_or_len p xs) (length xs) ≡ false → list_any p xs ≡ false
none_before p [] h = refl
none_before p (x ∷ xs) h = none_step p x xs (p x) refl h (none_before p xs)

none_at : {X : Type 0} (n : X) (b : Bool) → is_some (if b then Some n else None) ≡ false → b ≡ false
none_at n true h = absurd (true≢false h)
none_at n false h = refl

other_names : (names : List (List ℕ)) (name : List ℕ) → list_any (λ other. bytes_eq other name) names ≡ false → IsNew name names
other_names [] name h = tt
other_names (other ∷ others) name h =
    let p = or_parts (bytes_eq other name) (list_any (λ x. bytes_eq x name) others) h in
    let differ : other ≢ name = λ e. true≢false (sym ((bytes_eq-Decides other name).1 e) ∙ p.0) in
    ((λ e. differ (sym e), differ), other_names others name p.1)

-- one more name, which isn't taken
pub one_more_name : (names : List (List ℕ)) (name : List ℕ) → is_taken names name ≡ false → AreApart names → AreApart (names ++ name ∷ [])
one_more_name names name free h =
    let same : names ++ [] ≡ names = append-nil names in
    let new : IsNew name names = other_names names name
    (none_before (λ other. bytes_eq other name) names
    (none_at (position_or_len (λ other. bytes_eq other name) names) (nat_lt (position_or_len (λ other. bytes_eq other name) names) (length names)) free)) in
    put names name [] (rw same new) (rw same h)

-- ports on subnetworks

abbrev pub AreOn : List Subnetwork → List NumberedPort → Type 0
AreOn subnets ports = AllByRecursion (λ (numbered : NumberedPort). IsOn subnets numbered.port) ports

none_there : {X : Type 0} (x : X) → None ≡ Some x → ⊥
none_there x e = true≢false (sym (ap is_some e))

mtu_stays : (subnets : List Subnetwork) (subnet : Subnetwork) (k mtu : ℕ)
    → option_map (λ (s : Subnetwork). s.mtu) (slice_get subnets k) ≡ Some mtu
    → option_map (λ (s : Subnetwork). s.mtu) (slice_get (subnets ++ subnet ∷ []) k) ≡ Some mtu
mtu_stays [] subnet zero mtu h = absurd (none_there mtu h)
mtu_stays [] subnet (suc k) mtu h = absurd (none_there mtu h)
mtu_stays (s ∷ subnets) subnet zero mtu h = h
mtu_stays (s ∷ subnets) subnet (suc k) mtu h = mtu_stays subnets subnet k mtu h

-- one more subnetwork leaves where the ports are
pub all_stay : (subnets : List Subnetwork) (subnet : Subnetwork) (systems : List DeclaredSystem)
    → AllByRecursion (λ (system : DeclaredSystem). AreOn subnets system.ports) systems
    → AllByRecursion (λ (system : DeclaredSystem). AreOn (subnets ++ subnet ∷ []) system.ports) systems
all_stay subnets subnet =
    AllByRecursion-implies (λ (system : DeclaredSystem). AreOn subnets system.ports) (λ (system : DeclaredSystem). AreOn (subnets ++ subnet ∷ []) system.ports)
    (λ system. AllByRecursion-implies (λ (numbered : NumberedPort). IsOn subnets numbered.port) (λ (numbered : NumberedPort). IsOn (subnets ++ subnet ∷ []) numbered.port)
    (λ numbered. mtu_stays subnets subnet numbered.port.subnet numbered.port.mtu) system.ports)

pub mtu_is : (subnets : List Subnetwork) (k : ℕ) → k < length subnets
    → option_map (λ (s : Subnetwork). s.mtu) (slice_get subnets k) ≡ Some (mtu_at (slice_get subnets k))
mtu_is [] k within = absurd (omega (arith, within))
mtu_is (subnet ∷ subnets) zero within = refl
mtu_is (subnet ∷ subnets) (suc k) within = mtu_is subnets k (omega (arith, within))

-- the subnetworks of some ports
abbrev pub subnets_of : List NumberedPort → List ℕ
subnets_of ports = map (λ (numbered : NumberedPort). numbered.port.subnet) ports

new_subnet : (number subnet : ℕ) (ports : List NumberedPort)
    → list_any (λ (other : NumberedPort). (other.number == number) || (other.port.subnet == subnet)) ports ≡ false → IsNew subnet (subnets_of ports)
new_subnet number subnet [] h = tt
new_subnet number subnet (port ∷ ports) h =
    let first = or_parts ((port.number == number) || (port.port.subnet == subnet))
    (list_any (λ (other : NumberedPort). (other.number == number) || (other.port.subnet == subnet)) ports) h in
    let differ : port.port.subnet ≢ subnet = not_equal port.port.subnet subnet (or_parts (port.number == number) (port.port.subnet == subnet) first.0).1 in
    ((λ e. differ (sym e), differ), new_subnet number subnet ports first.1)

-- one more port, on a subnetwork where none is
pub on_one_more : (numbered : NumberedPort) (k : ℕ) (ports : List NumberedPort)
    → list_any (λ (other : NumberedPort). (other.number == numbered.number) || (other.port.subnet == numbered.port.subnet)) ports ≡ false
    → AreApart (subnets_of ports) → AreApart (subnets_of (insert ports k numbered))
on_one_more numbered k ports none h =
    let subnet : NumberedPort → ℕ = λ (n : NumberedPort). n.port.subnet in
    let parts : map subnet ports ≡ map subnet (take k ports) ++ map subnet (drop k ports)
    = ap (map subnet) (sym (take-append-drop k ports)) ∙ map-append subnet (take k ports) (drop k ports) in
    rw (map-append subnet (take k ports) (numbered ∷ drop k ports))
    (put (map subnet (take k ports)) numbered.port.subnet (map subnet (drop k ports))
    (subst (IsNew numbered.port.subnet) parts (new_subnet numbered.number numbered.port.subnet ports none)) (subst AreApart parts h))

-- the addresses of ports on a subnetwork

abbrev snpas_in : ℕ → List NumberedPort → List (List ℕ)
snpas_in q ports = map (λ (n : NumberedPort). n.port.snpa) (filter (λ (n : NumberedPort). n.port.subnet == q) ports)

on_both : (q : ℕ) (before behind : List NumberedPort) → snpas_in q (before ++ behind) ≡ snpas_in q before ++ snpas_in q behind
on_both q before behind =
    rw (filter-append (λ (n : NumberedPort). n.port.subnet == q) before behind)
    (map-append (λ (n : NumberedPort). n.port.snpa) (filter (λ (n : NumberedPort). n.port.subnet == q) before) (filter (λ (n : NumberedPort). n.port.subnet == q) behind))

on_it : (numbered : NumberedPort) (q : ℕ) (ports : List NumberedPort) (b : Bool) → (numbered.port.subnet == q) ≡ b
    → snpas_in q (numbered ∷ ports) ≡ (if b then numbered.port.snpa ∷ snpas_in q ports else snpas_in q ports)
on_it numbered q ports true e = rw e refl
on_it numbered q ports false e = rw e refl

apart_at : (q k : ℕ) (ports : List NumberedPort) → snpas_in q ports ≡ snpas_in q (take k ports) ++ snpas_in q (drop k ports)
apart_at q k ports = ap (snpas_in q) (sym (take-append-drop k ports)) ∙ on_both q (take k ports) (drop k ports)

pub port_gets : (numbered : NumberedPort) (q : ℕ) (system : DeclaredSystem) → (numbered.port.subnet == q) ≡ true
    → Gets numbered.port.snpa (snpas_on q system) (snpas_on q (with_port numbered system))
port_gets numbered q system e =
    let k : ℕ = count_below numbered.number system.ports in
    record {
      before = snpas_in q (take k system.ports);
      behind = snpas_in q (drop k system.ports);
      had = apart_at q k system.ports;
      has = on_both q (take k system.ports) (numbered ∷ drop k system.ports)
          ∙ ap (λ others. snpas_in q (take k system.ports) ++ others) (on_it numbered q (drop k system.ports) true e);
    }

pub port_elsewhere : (numbered : NumberedPort) (q : ℕ) (system : DeclaredSystem) → (numbered.port.subnet == q) ≡ false
    → snpas_on q (with_port numbered system) ≡ snpas_on q system
port_elsewhere numbered q system e =
    let k : ℕ = count_below numbered.number system.ports in
    on_both q (take k system.ports) (numbered ∷ drop k system.ports)
    ∙ (ap (λ others. snpas_in q (take k system.ports) ++ others) (on_it numbered q (drop k system.ports) false e)
    ∙ sym (apart_at q k system.ports))

-- what holds of ports, and of one more among them
pub all_among : (P : NumberedPort → Type 0) (numbered : NumberedPort) (k : ℕ) (ports : List NumberedPort)
    → P numbered → AllByRecursion P ports → AllByRecursion P (insert ports k numbered)
all_among P numbered k ports own h =
    AllByRecursion-put P (take k ports) numbered (drop k ports) own (subst (AllByRecursion P) (sym (take-append-drop k ports)) h)

-- the same of configurations

pub configurations_different : (ports : List NumberedPort) → AreApart (subnets_of ports) → AreOnDifferent (map (λ (n : NumberedPort). n.port) ports)
configurations_different ports h =
    rw (map-map (λ (n : NumberedPort). n.port) (λ (port : PortConfig). port.subnet) ports) (distinct_of (subnets_of ports) h)

configuration_ports : (q : ℕ) (ports : List NumberedPort)
    → map (λ (port : PortConfig). port.snpa) (filter (λ (port : PortConfig). port.subnet == q) (map (λ (n : NumberedPort). n.port) ports))
    ≡ map (λ (n : NumberedPort). n.port.snpa) (filter (λ (n : NumberedPort). n.port.subnet == q) ports)
configuration_ports q ports =
    ap (map (λ (port : PortConfig). port.snpa)) (filter-map (λ (n : NumberedPort). n.port) (λ (port : PortConfig). port.subnet == q) ports)
    ∙ map-map (λ (n : NumberedPort). n.port) (λ (port : PortConfig). port.snpa) (filter (λ (n : NumberedPort). n.port.subnet == q) ports)

pub configuration_snpas : (q : ℕ) (systems : List DeclaredSystem) → flat_map (snpas_of q) (map configuration_of systems) ≡ flat_map (snpas_on q) systems
configuration_snpas q [] = refl
configuration_snpas q (system ∷ systems) = rw (configuration_ports q system.ports, configuration_snpas q systems) refl

pub configurations_on : (subnets : List Subnetwork) (systems : List DeclaredSystem)
    → AllByRecursion (λ (system : DeclaredSystem). AreOn subnets system.ports) systems
    → AllByRecursion (λ (system : SystemConfiguration). AllByRecursion (IsOn subnets) system.ports) (map configuration_of systems)
configurations_on subnets systems =
    AllByRecursion-mapped (λ (system : DeclaredSystem). AreOn subnets system.ports) (λ (system : SystemConfiguration). AllByRecursion (IsOn subnets) system.ports) configuration_of systems
    (λ system. AllByRecursion-mapped (λ (numbered : NumberedPort). IsOn subnets numbered.port) (IsOn subnets) (λ (numbered : NumberedPort). numbered.port) system.ports (λ numbered h. h))
