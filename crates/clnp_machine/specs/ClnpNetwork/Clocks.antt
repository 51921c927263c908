-- The clocks of the systems of a network, and how moves take them on.
use Rattle.std.specs.Prelude.{◌≡◌, ℕ, ◌+◌, ◌≤◌, List, [], ◌∷◌, map, max, slice_get, Option, None, Some}
use Rattle.std.specs.List.{AllByRecursion}
use Rattle.clnp_plan.specs.ScenarioPlan.Standing.{AreTogether, changed_at}
use Rattle.clnp_plan.specs.declared.scenario_plan.event.Move.{Move}
use Rattle.clnp_plan.specs.declared.scenario_plan.event.Move.TheVariants.{One, SettleOne, LoseOne, TickOne, TickSystem}
use Rattle.clnp_machine.specs.System.{SystemState}
use Rattle.clnp_plan.specs.ScenarioPlan.Plan.{Plan}
use Rattle.clnp_machine.specs.ClnpNetwork.LabelledNetwork.{LabelledNetwork, first_world}

-- each system's clock, which is its moment
abbrev pub clocks_of : LabelledNetwork → List ℕ
clocks_of w = map (λ (system : SystemState). system.moment) w.systems

-- a move takes all clocks on by one tick, or that of one system, or none
abbrev pub clocks_after : List ℕ → Move → List ℕ
clocks_after clocks (One place) = clocks
clocks_after clocks SettleOne = clocks
clocks_after clocks LoseOne = clocks
clocks_after clocks TickOne = map (λ clock. clock + 1) clocks
clocks_after clocks (TickSystem place) = changed_at (λ clock. clock + 1) place clocks

-- the network's clock, where a system's goes on alone: as before, or that of the system where this passes it
abbrev pub clock_with : (clock : ℕ) → Option ℕ → ℕ
clock_with clock None = clock
clock_with clock (Some own) = max clock (own + 1)

-- the network's clock after a move, beside the clocks of the systems before it
abbrev pub clock_after : (clock : ℕ) → List ℕ → Move → ℕ
clock_after clock clocks (One place) = clock
clock_after clock clocks SettleOne = clock
clock_after clock clocks LoseOne = clock
clock_after clock clocks TickOne = clock + 1
clock_after clock clocks (TickSystem place) = clock_with clock (slice_get clocks place)

-- after each of some moves no two clocks stand more than so many ticks apart
abbrev pub StayTogether : (skew : ℕ) → List ℕ → List Move → Type 0
StayTogether skew clocks [] = Unit {0}
StayTogether skew clocks (move ∷ moves) = AreTogether skew (clocks_after clocks move) × StayTogether skew (clocks_after clocks move) moves

-- so it is of the clocks of a scenario's systems, which begin at 0
abbrev pub StaysTogether : Plan → List Move → Type 0
StaysTogether plan moves = StayTogether plan.limits.skew (clocks_of (first_world plan)) moves

-- no move takes on the clock of one system alone
abbrev pub TicksForAll : Move → Type 0
TicksForAll (TickSystem place) = ⊥
TicksForAll _ = Unit {0}

-- so it is of all of some moves
abbrev pub TickTogether : List Move → Type 0
TickTogether moves = AllByRecursion TicksForAll moves

-- each system is at the moment of the network's clock
abbrev pub AreCurrent : LabelledNetwork → Type 0
AreCurrent w = AllByRecursion (λ (system : SystemState). system.moment ≡ w.clock) w.systems

-- none is ahead of it
abbrev pub NoneIsAhead : LabelledNetwork → Type 0
NoneIsAhead w = AllByRecursion (λ (system : SystemState). system.moment ≤ w.clock) w.systems
