-- What is safe about the runs of a scenario, and about whatever moves of it, each part by its name.
use Rattle.std.specs.Prelude.{◌≡◌, List, [], ◌++◌}
use Rattle.std.specs.List.{AllByRecursion, flat_map}
use Rattle.clnp_machine.specs.ScenarioPlan.Plan.{Plan, IsClosed}
use Rattle.clnp_machine.specs.ClnpPlan.declared.scenario_plan.event.Move.{Move}
use Rattle.clnp_machine.specs.ClnpNetwork.LabelledNetwork.{LabelledNetwork, after, first_world}
use Rattle.clnp_machine.specs.ClnpNetwork.Clocks.{AreCurrent, NoneIsAhead, StaysTogether, TickTogether, clocks_after, clocks_of}
use Rattle.clnp_machine.specs.ClnpNetwork.Run.{Entry, ending, entries_of, entry_text, journal, last_world, moves_made, moves_of_plan, run, stopped_at, world_after}
use Rattle.clnp_machine.specs.ClnpNetwork.Safe.{CarriesRanges, EachIsFounded, FramesAreUnbroken, HoldsUnitsApart, HopsCountCopies, IdentifiersRest, IsHonest, IsWithinBudgets, IsWithinLifetimes, KeepsHeaders, KeepsWhatCame, NoInterference, NoneIsAlien, RedirectsChangeOneNextHop, TellsNoRule}
use Rattle.clnp_safety.specs.Attached.{IsAttachedThroughout}
use Rattle.clnp_safety.specs.Growth.{TellsItsCopy}
use Rattle.clnp_safety.specs.Invariant.{NetworkIsSound}
use Rattle.clnp_safety.specs.Outside.{CarriesRangesOrOutside, EachHasItsMaker, PdusAreUnbroken}

-- Without frames from outside. What is said of whatever moves is so while no two clocks stand further apart than the scenario lets them,
-- which holds of its own moves.
pub record ClosedRunsAreSafe (plan : Plan) : Type 0 where
  -- the run hands up only what it sent before
  pub safe : IsHonest plan (run plan)
  -- no segment meets another unit's in a buffer
  pub apart : AllByRecursion (λ (entry : Entry). NoInterference entry.lines) (run plan)
  -- no line says that a frame broke a rule of its protocol, or was of none
  pub unrefused : AllByRecursion (λ (entry : Entry). AllByRecursion TellsNoRule entry.lines) (run plan)
  pub known : AllByRecursion (λ (entry : Entry). NoneIsAlien entry.lines) (run plan)
  -- what lines say of reports and echo replies is founded on what the system made
  pub founded : (moves : List Move) → StaysTogether plan moves → EachIsFounded plan (first_world plan) [] moves
  -- each copy carries a range of a unit that was made, or an ES-IS PDU, and its frame breaks no rule
  pub carried : (moves : List Move) → CarriesRanges (world_after plan (first_world plan) moves)
  pub unbroken : (moves : List Move) → FramesAreUnbroken (world_after plan (first_world plan) moves)
  -- each buffer holds segments of one unit, which stand in copies
  pub held_apart : (moves : List Move) → StaysTogether plan moves
      → HoldsUnitsApart (world_after plan (first_world plan) moves)
  -- and the whole network is sound beside the entries that led to it
  pub sound : (moves : List Move) → StaysTogether plan moves
      → NetworkIsSound plan (entries_of plan (first_world plan) moves) (world_after plan (first_world plan) moves)

-- What is safe about the runs of a scenario, whatever comes from outside, and besides where nothing does.
pub record RunsAreSafe (plan : Plan) : Type 0 where
  pub closed : IsClosed plan → ClosedRunsAreSafe plan
  -- the journal is the text of the run
  pub journal_is : journal plan ≡ flat_map entry_text (run plan) ++ ending (stopped_at plan) (last_world plan)
  -- no two clocks stand further apart than they may, in all moves of the scenario and in those that are made
  pub together : StaysTogether plan (moves_of_plan plan)
  pub made_together : StaysTogether plan (moves_made plan)
  -- whatever the moves, each takes the clocks on as its kind says, and none comes to stand ahead of the network's clock; where no clock
  -- goes on alone all systems are at that
  pub clocks : (w : LabelledNetwork) (move : Move)
      → clocks_of (after plan w move).world ≡ clocks_after (clocks_of w) move
  pub none_ahead : (moves : List Move) → NoneIsAhead (world_after plan (first_world plan) moves)
  pub current : (moves : List Move) → TickTogether moves → AreCurrent (world_after plan (first_world plan) moves)
  -- what a copy carries was made outside, or is such a range or ES-IS PDU; what carries a PDU breaks no rule
  pub traced : (moves : List Move) → CarriesRangesOrOutside (world_after plan (first_world plan) moves)
  pub obeyed : (moves : List Move) → PdusAreUnbroken (world_after plan (first_world plan) moves)
  -- what was made outside was brought by an event
  pub made : (moves : List Move) → EachHasItsMaker plan (world_after plan (first_world plan) moves)
  -- what a system keeps came in a copy, and no more octets than it may hold
  pub kept : (moves : List Move) → KeepsWhatCame (world_after plan (first_world plan) moves)
  pub bounded : (moves : List Move) → IsWithinBudgets (world_after plan (first_world plan) moves)
  -- identifiers rest
  pub rest : (moves : List Move) → IdentifiersRest plan.limits.reuse (world_after plan (first_world plan) moves)
  -- hops and lifetime are within the unit's lifetime, hops count copies, and headers keep their length
  pub lifetimes : (moves : List Move) → IsWithinLifetimes (world_after plan (first_world plan) moves)
  pub hops : (moves : List Move) → HopsCountCopies (world_after plan (first_world plan) moves)
  pub headers : (moves : List Move) → KeepsHeaders (world_after plan (first_world plan) moves)
  -- each transmission that a line tells of is the copy with its number
  pub told : (w : LabelledNetwork) (move : Move)
      → AllByRecursion (TellsItsCopy (after plan w move).world.copies) (after plan w move).lines
  -- subnetworks take frames that are long enough, and ports and routes are as they should be, whatever was changed
  pub attached : (moves : List Move) → IsAttachedThroughout plan (world_after plan (first_world plan) moves)
  -- a redirect changes its destination's next hop alone
  pub redirects : (w : LabelledNetwork) → RedirectsChangeOneNextHop plan.limits w
