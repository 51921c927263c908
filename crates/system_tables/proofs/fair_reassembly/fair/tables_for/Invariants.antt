use Rattle.std.proofs.Common.{take}
use Rattle.system_tables.specs.FairReassembly.Tables.{AreOpened, limits_of}
use Rattle.system_tables.proofs.fair_reassembly.fair.tables_for.Given as goal

abbrev pub invariant-loop-share : goal.invariant-loop-share
invariant-loop-share l = AreOpened (limits_of l.fn.others (take l.share-index l.shares)) l.tables.items
