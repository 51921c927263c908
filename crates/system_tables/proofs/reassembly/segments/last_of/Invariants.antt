use Rattle.std.proofs.Common.{◌≡◌, [], drop}
use Rattle.system_tables.specs.Reassembly.Entries.{present}
use Rattle.system_tables.specs.Reassembly.State.{segments_of}
use Rattle.system_tables.proofs.reassembly.segments.last_of.Given as goal

-- no later segment has the key
abbrev pub invariant-loop-index : goal.invariant-loop-index
invariant-loop-index l = segments_of l.key (present (drop l.index l.entries)) ≡ []
