-- What the lines of a written scenario have declared so far.
use Rattle.std.proofs.Common.{◌≡◌, ◌≢◌, inl, inr, ℕ, zero, suc, ◌+◌, ◌<◌, ◌≤◌, ◌==◌, ◌||◌, nat_lt, if◌then◌else◌, Bool, true, false, List, [], ◌∷◌, ◌++◌, map, length, get_or, slice_get, AllPairs, Option, None, Some, is_some, refl, sym, ap, ◌∙◌, subst, arith, append_assoc}
use Rattle.std.specs.List.{AllByRecursion, flat_map, list_any, list_all, insert, position, range_with_len}
use Rattle.std.specs.Str.{bytes_eq}
use Rattle.std.proofs.lemmas.Bool.{cases_eq, eq-eqb, ne_eqb, lt-ltb, or_right}
use Rattle.std.proofs.lemmas.List.{append-nil, map-append, take_all, drop_all}
use Rattle.std.proofs.lemmas.List.Elements.{All-from_recursion}
use Rattle.std.proofs.lemmas.List.Folds.{list_any_none}
use Rattle.std.proofs.lemmas.List.Sums.{sum_by-cons}
use Rattle.std.proofs.lemmas.List.Concat.{flat_map-append}
use Rattle.std.proofs.lemmas.List.Quantifiers.{position-Some}
use Rattle.clnp_plan.proofs.ClnpBase.Lists.{AllByRecursion-get_or, AllByRecursion-implies}
use Rattle.clnp_plan.proofs.ClnpBase.SameOctets.{other_from, same_from}
use Rattle.clnp_plan.specs.Configuration.{SystemConfiguration}
use Rattle.clnp_plan.specs.declared.config.PortConfig.{PortConfig}
use Rattle.clnp_plan.specs.ScenarioPlan.Plan.{Plan}
use Rattle.scenario.specs.Words.{is_taken}
use Rattle.scenario.specs.Declarations.{Declarations, DeclaredSystem, NumberedPort, count_below, has_number, have_no_gap, configuration_of}
use Rattle.clnp_plan.specs.ScenarioPlan.Standing.{is_among, changed_at}
use Rattle.scenario.proofs.Apart.{AreApart, apart_of, before_is_other}

-- ports by their numbers, the first of which is given
abbrev pub numbered_from : ℕ → List PortConfig → List NumberedPort
numbered_from number [] = []
numbered_from number (port ∷ ports) = record { number = number; port = port } ∷ numbered_from (number + 1) ports

-- a system as its lines declare it
abbrev pub declared_system : SystemConfiguration → DeclaredSystem
declared_system system =
    record {
      name = system.name;
      role = system.role;
      settings = system.settings;
      addresses = system.addresses;
      ports = numbered_from 0 system.ports;
      routes = system.routes;
    }

-- a system behind its own line alone
abbrev pub bare : SystemConfiguration → SystemConfiguration
bare system = record system { addresses = []; ports = []; routes = [] }

-- what is declared behind the lines of the limits and the subnetworks, where the systems are as they are so far
abbrev pub declared_with : Plan → List SystemConfiguration → Declarations
declared_with plan systems = record { version = plan.version; limits = Some plan.limits; subnets = plan.subnets; systems = map declared_system systems }

-- what is declared behind all lines
abbrev pub declared_of : Plan → Declarations
declared_of plan = declared_with plan plan.systems

-- ---- one element between others

module _ {X Y : Type 0} (f : X → Y) where
  pub changed_between : (change : Y → Y) (done later : List X) (x y : X) → change (f x) ≡ f y
      → changed_at change (length done) (map f (done ++ x ∷ later)) ≡ map f (done ++ y ∷ later)
  changed_between change [] later x y e = ap (λ (z : Y). z ∷ map f later) e
  changed_between change (first ∷ done) later x y e = ap (λ (ys : List Y). f first ∷ ys) (changed_between change done later x y e)

  pub found_between : (done later : List X) (x : X) → slice_get (map f (done ++ x ∷ later)) (length done) ≡ Some (f x)
  found_between [] later x = refl
  found_between (first ∷ done) later x = found_between done later x

pub all_between : {X : Type 0} (P : X → Type 0) (done later : List X) (x : X) → AllByRecursion P (done ++ x ∷ later) → P x
all_between P [] later x h = h.0
all_between P (first ∷ done) later x h = all_between P done later x h.1

-- what all systems have together, where those behind one have nothing yet
module _ {X Y A : Type 0} (f : X → Y) (g : Y → List A) (h : X → List A) (bared : X → X)
    (same : (x : X) → g (f x) ≡ h x) (nothing : (x : X) → h (bared x) ≡ []) where
  none_behind : (later : List X) → flat_map g (map f (map bared later)) ≡ []
  none_behind [] = refl
  none_behind (x ∷ later) = rw (same (bared x), nothing x) (none_behind later)

  pub together : (done later : List X) (x : X) → flat_map g (map f (done ++ x ∷ map bared later)) ≡ flat_map h done ++ h x
  together [] later x = rw (same x, none_behind later) (append-nil (h x))
  together (first ∷ done) later x =
      rw (same first, together done later x) (sym (append_assoc (h first) (flat_map h done) (h x)))

-- what one has is none of what those before it have, and of what it has so far
pub has_other : {X A : Type 0} (h : X → List A) (all done later : List X) (x : X) (front behind : List A) (a : A) → all ≡ done ++ x ∷ later
    → h x ≡ front ++ a ∷ behind → AllPairs (λ a b. a ≢ b) (flat_map h all) → AllByRecursion (λ other. other ≢ a) (flat_map h done ++ front)
has_other h all done later x front behind a is has distinct =
    let parts : flat_map h all ≡ (flat_map h done ++ front) ++ a ∷ (behind ++ flat_map h later) =
    ap (flat_map h) is ∙ flat_map-append h done (x ∷ later) ∙ rw has (simp append_assoc) in
    before_is_other (flat_map h done ++ front) a (behind ++ flat_map h later) (subst AreApart parts (apart_of (flat_map h all) distinct))

-- so is what is made of one alone
pub is_other : {X A : Type 0} (f : X → A) (all front behind : List X) (x : X) → all ≡ front ++ x ∷ behind
    → AllPairs (λ a b. a ≢ b) (map f all) → AllByRecursion (λ other. other ≢ f x) (map f front)
is_other f all front behind x is distinct =
    before_is_other (map f front) (f x) (map f behind) (subst AreApart (ap (map f) is ∙ map-append f front (x ∷ behind)) (apart_of (map f all) distinct))

-- ---- names and addresses

-- none of some passes a test
pub none_pass : {X : Type 0} (p : X → Bool) (xs : List X) → AllByRecursion (λ x. p x ≡ false) xs → list_any p xs ≡ false
none_pass p xs h = list_any_none p xs (All-from_recursion (λ x. p x ≡ false) xs h)

pub not_among : (address : List ℕ) (others : List (List ℕ)) → AllByRecursion (λ other. other ≢ address) others → is_among address others ≡ false
not_among address others h =
    none_pass (λ other. bytes_eq other address) others
    (AllByRecursion-implies (λ other. other ≢ address) (λ other. bytes_eq other address ≡ false) (λ other differ. other_from other address differ) others h)

none_taken : (names : List (List ℕ)) (name : List ℕ) (o : Option ℕ) → position (λ other. bytes_eq other name) names ≡ o
    → AllByRecursion (λ other. other ≢ name) names → is_some o ≡ false
none_taken names name None e h = refl
none_taken names name (Some i) e h =
    let found = position-Some (λ other. bytes_eq other name) names i [] e in
    absurd (AllByRecursion-get_or (λ other. other ≢ name) names i [] found.0 h (same_from (get_or names i []) name found.1))

pub not_taken : (names : List (List ℕ)) (name : List ℕ) → AllByRecursion (λ other. other ≢ name) names → is_taken names name ≡ false
not_taken names name h = none_taken names name (position (λ other. bytes_eq other name) names) refl h

-- ---- ports

pub ports_of_numbered : (number : ℕ) (ports : List PortConfig) → map (λ (numbered : NumberedPort). numbered.port) (numbered_from number ports) ≡ ports
ports_of_numbered number [] = refl
ports_of_numbered number (port ∷ ports) = ap (λ (others : List PortConfig). port ∷ others) (ports_of_numbered (number + 1) ports)

pub length-numbered_from : (number : ℕ) (ports : List PortConfig) → length (numbered_from number ports) ≡ length ports
length-numbered_from number [] = refl
length-numbered_from number (port ∷ ports) = ap suc (length-numbered_from (number + 1) ports)

numbered_behind : (first number : ℕ) (ports : List PortConfig) (port : PortConfig) → first + length ports ≡ number
    → numbered_from first (ports ++ port ∷ []) ≡ numbered_from first ports ++ record { number = number; port = port } ∷ []
numbered_behind first number [] port e = let same : first ≡ number = omega (arith, e) in rw same refl
numbered_behind first number (other ∷ ports) port e =
    ap (λ (others : List NumberedPort). record { number = first; port = other } ∷ others) (numbered_behind (first + 1) number ports port (omega (arith, e)))

all_counted : (first number : ℕ) (ports : List PortConfig) → first + length ports ≤ number → count_below number (numbered_from first ports) ≡ length ports
all_counted first number [] e = refl
all_counted first number (port ∷ ports) e =
    sum_by-cons (λ (n : NumberedPort). if nat_lt n.number number then 1 else 0) (record { number = first; port = port }) (numbered_from (first + 1) ports)
    ∙ rw (lt-ltb first number (omega (arith, e)), all_counted (first + 1) number ports (omega (arith, e))) (omega arith)

inserted_last : {X : Type 0} (xs : List X) (x : X) (n : ℕ) → n ≡ length xs → insert xs n x ≡ xs ++ x ∷ []
inserted_last xs x n e = rw (take_all n xs (omega (arith, e)), drop_all n xs (omega (arith, e))) refl

-- the next port stands last
pub next_port : (number : ℕ) (ports : List PortConfig) (port : PortConfig) → length ports ≡ number
    → insert (numbered_from 0 ports) (count_below number (numbered_from 0 ports)) (record { number = number; port = port }) ≡ numbered_from 0 (ports ++ port ∷ [])
next_port number ports port e =
    inserted_last (numbered_from 0 ports) (record { number = number; port = port }) (count_below number (numbered_from 0 ports))
    (all_counted 0 number ports (omega (arith, e)) ∙ sym (length-numbered_from 0 ports))
    ∙ sym (numbered_behind 0 number ports port (omega (arith, e)))

-- no port so far has the next number, and none is on a subnetwork that is none of theirs
pub no_such_port : (first number subnet : ℕ) (ports : List PortConfig) → first + length ports ≤ number
    → AllByRecursion (λ other. other ≢ subnet) (map (λ (port : PortConfig). port.subnet) ports)
    → list_any (λ (numbered : NumberedPort). (numbered.number == number) || (numbered.port.subnet == subnet)) (numbered_from first ports) ≡ false
no_such_port first number subnet [] e h = refl
no_such_port first number subnet (port ∷ ports) e h =
    rw (ne_eqb first number (λ same. omega (arith, e, same)), ne_eqb port.subnet subnet h.0) (no_such_port (first + 1) number subnet ports (omega (arith, e)) h.1)

-- each number below how many ports there are is one of a port
pub number_is_there : (first number : ℕ) (ports : List PortConfig) → first ≤ number → number < first + length ports → has_number (numbered_from first ports) number ≡ true
number_is_there first number [] least most = absurd (omega (arith, least, most))
number_is_there first number (port ∷ ports) least most =
    elim (cases_eq first number) [
      | inl same ↦ rw (eq-eqb first number same) refl
      | inr other ↦ or_right (first == number) (has_number (numbered_from (first + 1) ports) number) (number_is_there (first + 1) number ports (omega (arith, least, other)) (omega (arith, most)))
    ]

all_there : (ports : List NumberedPort) (first many : ℕ) → ((k : ℕ) → first ≤ k → k < first + many → has_number ports k ≡ true)
    → list_all (has_number ports) (range_with_len first many) ≡ true
all_there ports first zero h = refl
all_there ports first (suc many) h =
    rw (h first (omega arith) (omega arith)) (all_there ports (first + 1) many (λ k least most. h k (omega (arith, least)) (omega (arith, most))))

pub no_gap : (ports : List PortConfig) → have_no_gap (numbered_from 0 ports) ≡ true
no_gap ports =
    all_there (numbered_from 0 ports) 0 (length (numbered_from 0 ports))
    (λ k least most. number_is_there 0 k ports least (omega (arith, most, length-numbered_from 0 ports)))

-- ---- systems

pub configuration_again : (system : SystemConfiguration) → configuration_of (declared_system system) ≡ system
configuration_again system = rw (ports_of_numbered 0 system.ports) refl

pub configurations_again : (systems : List SystemConfiguration) → map configuration_of (map declared_system systems) ≡ systems
configurations_again [] = refl
configurations_again (system ∷ systems) = rw (configuration_again system, configurations_again systems) refl
