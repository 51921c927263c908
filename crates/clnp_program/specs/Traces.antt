-- What the traces of scenarios tell, besides what their journals tell.
use Rattle.std.specs.Prelude.{◌≡◌, ℕ, ◌++◌, Some, slice_get}
use Rattle.std.specs.List.{flat_map}
use Rattle.clnp_machine.specs.System.{SystemState}
use Rattle.clnp_machine.specs.ScenarioPlan.Plan.{Plan}
use Rattle.clnp_machine.specs.ClnpNetwork.LabelledNetwork.{Copy, LabelledNetwork, Numbered}
use Rattle.clnp_machine.specs.ClnpNetwork.Run.{ending, entry_trace, entry_without, journal, last_world, run, stopped_at, trace}
use Rattle.clnp_program.specs.ClnpWorld.Becoming.{GivesAsTold, TellsOnce}

pub record TracesTell (plan : Plan) : Type 0 where
  -- the trace is the text of the run: each line of each entry, and the last line, where the run wasn't stopped
  pub trace_is : trace plan ≡ flat_map entry_trace (run plan) ++ ending (stopped_at plan) (last_world plan)
  -- without the lines that tell what becomes of copies it is the journal
  pub journal_is : flat_map entry_without (run plan) ++ ending (stopped_at plan) (last_world plan) ≡ journal plan
  -- Whatever the world: what becomes of the copy at the cursor is told exactly once, to each of its addressees, or that it is for
  -- nobody, or lost; and the cursor passes it.
  pub told_once : (w : LabelledNetwork) (copy : Copy) → slice_get w.copies w.cursor ≡ Some copy → TellsOnce plan.limits w copy
  -- what the giving of a copy to a system writes is what is told of the copy, and behind that what came of it
  pub told_first : (given : Numbered) (w : LabelledNetwork) (place : ℕ) (system : SystemState)
      → slice_get w.systems place ≡ Some system → GivesAsTold plan.limits given w place system
