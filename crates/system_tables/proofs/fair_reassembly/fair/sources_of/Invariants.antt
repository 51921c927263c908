use Rattle.std.proofs.Common.{◌≡◌, take}
use Rattle.system_tables.specs.FairReassembly.Tables.{sources_of}
use Rattle.system_tables.proofs.fair_reassembly.fair.sources_of.Given as goal

abbrev pub invariant-loop-share : goal.invariant-loop-share
invariant-loop-share l = l.sources.items ≡ sources_of (take l.share-index l.shares)
