use Rattle.std.proofs.Common.{◌≡◌, ℕ, List}
use Rattle.system_tables.specs.Reassembly.NoWhole.{HasNoWhole}
use Rattle.system_tables.specs.FairReassembly.Tables.{At, ChangesTable, FairState, place_of}
use Rattle.clnp_program.specs.FairCommands.Frames.{Tells}
use Rattle.clnp_program.proofs.FairCommands.Expired.{expires, open_at}
use Rattle.clnp_program.proofs.fair_commands.frame.push_expired.Given as goal

-- What comes of the buffers that are left comes of all of them, behind what was told so far.
abbrev pub invariant-loop-ended : goal.invariant-loop-ended
invariant-loop-ended l = record {
  goes_on : (after : FairState) (text : List ℕ)
      → ChangesTable (place_of l.initial.tables.sources l.from) l.tables after (Tells (expires l.moment) l.moment l.out.items text)
      → ChangesTable (place_of l.initial.tables.sources l.from) l.initial.tables after (Tells (expires l.moment) l.moment l.initial.out.items text);
  none_whole : At l.tables (place_of l.initial.tables.sources l.from) HasNoWhole;
  sources : l.tables.sources ≡ l.initial.tables.sources;
}

abbrev pub decreases-loop-ended : goal.decreases-loop-ended
decreases-loop-ended l = open_at (place_of l.tables.sources l.from) l.tables
