-- How far clocks go by events, and whether one of them stands too far above others.
use Rattle.std.proofs.Common.{◌≡◌, ℕ, zero, suc, ◌+◌, ◌^◌, ◌<◌, ◌≤◌, ◌&&◌, ◌||◌, nat_le, nat_lt, Bool, true, false, List, [], ◌∷◌, map, length, take, drop, get_or, slice_get, Some, refl, sym, arith}
use Rattle.std.specs.List.{AllByRecursion, list_any}
use Rattle.std.proofs.lemmas.Bool.{and_parts, le-ltb, leb-true}
use Rattle.clnp_plan.specs.Configuration.{SystemConfiguration}
use Rattle.clnp_plan.proofs.ClnpBase.Lists.{AllByRecursion-implies}
use Rattle.scenario.specs.Events.{are_few}
use Rattle.clnp_plan.specs.ScenarioPlan.Plan.{ticks_of}
use Rattle.clnp_plan.specs.ScenarioPlan.Standing.{changed_at, clocks_after, first_clocks, is_ahead}
use Rattle.scenario.specs.declared.counts.Counts.{Counts}
use Rattle.clnp_plan.specs.declared.scenario_plan.event.Event.{Event}
use Rattle.clnp_plan.specs.declared.scenario_plan.event.Event.TheVariants as event
use Rattle.clnp_plan.specs.declared.scenario_plan.event.Event.TheVariants.{Send, Deliver, Settle, Lose, Tick, Restart, Echo, Congest, Inject}

-- no clock is past so many ticks
abbrev pub AreSlow : (ticks : ℕ) → List ℕ → Type 0
AreSlow ticks clocks = AllByRecursion (λ clock. clock ≤ ticks) clocks

pub first_slow : (systems : List SystemConfiguration) → AreSlow 0 (first_clocks systems)
first_slow [] = tt
first_slow (system ∷ systems) = (omega arith, first_slow systems)

still_slow : (ticks more : ℕ) (clocks : List ℕ) → AreSlow ticks clocks → AreSlow (ticks + more) clocks
still_slow ticks more [] h = tt
still_slow ticks more (clock ∷ clocks) h = (omega (arith, h.0), still_slow ticks more clocks h.1)

all_slower : (ticks count : ℕ) (clocks : List ℕ) → AreSlow ticks clocks → AreSlow (ticks + count) (map (λ clock. clock + count) clocks)
all_slower ticks count [] h = tt
all_slower ticks count (clock ∷ clocks) h = (omega (arith, h.0), all_slower ticks count clocks h.1)

one_slower : (ticks count place : ℕ) (clocks : List ℕ) → AreSlow ticks clocks → AreSlow (ticks + count) (changed_at (λ clock. clock + count) place clocks)
one_slower ticks count place [] h = tt
one_slower ticks count zero (clock ∷ clocks) h = (omega (arith, h.0), still_slow ticks count clocks h.1)
one_slower ticks count (suc place) (clock ∷ clocks) h = (omega (arith, h.0), one_slower ticks count place clocks h.1)

pub slower : (ticks : ℕ) (event : Event) (clocks : List ℕ) → AreSlow ticks clocks → AreSlow (ticks + ticks_of event) (clocks_after event clocks)
slower ticks (Tick count) clocks h = all_slower ticks count clocks h
slower ticks (event.TickSystem system count) clocks h = one_slower ticks count system clocks h
slower ticks (Send system from to body ask) clocks h = still_slow ticks 0 clocks h
slower ticks (Deliver copy system) clocks h = still_slow ticks 0 clocks h
slower ticks (Settle count) clocks h = still_slow ticks 0 clocks h
slower ticks (Lose count) clocks h = still_slow ticks 0 clocks h
slower ticks (Restart system) clocks h = still_slow ticks 0 clocks h
slower ticks (Echo system from to body) clocks h = still_slow ticks 0 clocks h
slower ticks (Congest system on) clocks h = still_slow ticks 0 clocks h
slower ticks (Inject subnet from to octets) clocks h = still_slow ticks 0 clocks h
slower ticks (event.Mtu subnet mtu) clocks h = still_slow ticks 0 clocks h
slower ticks (event.Route system route) clocks h = still_slow ticks 0 clocks h
slower ticks (event.Unroute system prefix) clocks h = still_slow ticks 0 clocks h
slower ticks (event.Port system number subnet snpa) clocks h = still_slow ticks 0 clocks h

pub ticks_few : (counts : Counts) → are_few counts ≡ true → counts.ticks ≤ 1000000
ticks_few counts h =
    let p = and_parts (nat_le counts.events 100000) (nat_le counts.passed 10000000 && nat_le counts.ticks 1000000) h in
    let q = and_parts (nat_le counts.passed 10000000) (nat_le counts.ticks 1000000) p.1 in
    leb-true counts.ticks 1000000 q.1

-- so a clock has room for some ticks more
pub room : (ticks count : ℕ) (clocks : List ℕ) → AreSlow ticks clocks → ticks + count ≤ 1000000 → AllByRecursion (λ clock. clock + count < 2 ^ 32) clocks
room ticks count clocks h few =
    AllByRecursion-implies (λ clock. clock ≤ ticks) (λ clock. clock + count < 2 ^ 32) (λ clock slow. omega (arith, slow, few)) clocks h

-- ---- one above others

or_assoc : (a b c : Bool) → (a || (b || c)) ≡ ((a || b) || c)
or_assoc true b c = refl
or_assoc false b c = refl

any_changed : (p : ℕ → Bool) (change : ℕ → ℕ) (place : ℕ) (xs : List ℕ) (d : ℕ) → place < length xs → p (change (get_or xs place d)) ≡ false
    → list_any p (changed_at change place xs) ≡ (list_any p (take place xs) || list_any p (drop (suc place) xs))
any_changed p change place [] d within below = absurd (omega arith)
any_changed p change zero (x ∷ xs) d within below = rw below refl
any_changed p change (suc place) (x ∷ xs) d within below =
    rw (any_changed p change place xs d (omega (arith, within)) below) (or_assoc (p x) (list_any p (take place xs)) (list_any p (drop (suc place) xs)))

changed_there : (change : ℕ → ℕ) (place : ℕ) (xs : List ℕ) (d : ℕ) → place < length xs
    → slice_get (changed_at change place xs) place ≡ Some (change (get_or xs place d))
changed_there change place [] d within = absurd (omega arith)
changed_there change zero (x ∷ xs) d within = refl
changed_there change (suc place) (x ∷ xs) d within = changed_there change place xs d (omega (arith, within))

nothing_there : (change : ℕ → ℕ) (place : ℕ) (xs clocks : List ℕ) (skew : ℕ) → length xs ≤ place → is_ahead skew (slice_get (changed_at change place xs) place) clocks ≡ false
nothing_there change place [] clocks skew beyond = refl
nothing_there change zero (x ∷ xs) clocks skew beyond = absurd (omega (arith, beyond))
nothing_there change (suc place) (x ∷ xs) clocks skew beyond = nothing_there change place xs clocks skew (omega (arith, beyond))

-- where none is there, none is ahead
pub none_ahead : (count place skew : ℕ) (clocks : List ℕ) → length clocks ≤ place
    → is_ahead skew (slice_get (changed_at (λ clock. clock + count) place clocks) place) (changed_at (λ clock. clock + count) place clocks) ≡ false
none_ahead count place skew clocks beyond =
    nothing_there (λ clock. clock + count) place clocks (changed_at (λ clock. clock + count) place clocks) skew beyond

-- a clock is compared with those before it and behind it
pub ahead_of_others : (count place skew : ℕ) (clocks : List ℕ) → place < length clocks → (clock : ℕ) → clock ≡ get_or clocks place 0 + count
    → (front back : List ℕ) → front ≡ take place clocks → back ≡ drop (place + 1) clocks
    → (list_any (λ other. nat_lt (other + skew) clock) front || list_any (λ other. nat_lt (other + skew) clock) back)
    ≡ is_ahead skew (slice_get (changed_at (λ clock. clock + count) place clocks) place) (changed_at (λ clock. clock + count) place clocks)
ahead_of_others count place skew clocks within clock clock_is front back front_is back_is =
    let next : place + 1 ≡ suc place = omega arith in
    let own : ℕ = get_or clocks place 0 + count in
    let parts = any_changed (λ other. nat_lt (other + skew) own) (λ clock. clock + count) place clocks 0 within (le-ltb (own + skew) own (omega arith)) in
    rw (front_is, back_is, clock_is, next, changed_there (λ clock. clock + count) place clocks 0 within) (sym parts)
