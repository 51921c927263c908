use Rattle.std.proofs.Common.{◌≡◌, ◌≤◌, ◌+◌, ◌*◌, map, sum, take}
use Rattle.system_tables.specs.declared.reassembly.table.TableLimits.{TableLimits}
use Rattle.system_tables.specs.FairReassembly.Tables.{limits_of}
use Rattle.clnp_program.proofs.fair_commands.declaration.sums_of.Given as goal

abbrev pub invariant-loop-share : goal.invariant-loop-share
invariant-loop-share l = record {
  segments : l.segments ≡ sum (map (λ (limits : TableLimits). limits.segments) (limits_of l.fn.others (take l.share-index l.shares)));
  budget : l.budget ≡ sum (map (λ (limits : TableLimits). limits.budget) (limits_of l.fn.others (take l.share-index l.shares)));
  few_segments : l.segments ≤ 65535 * (l.share-index + 1);
  few_octets : l.budget ≤ 4294967295 * (l.share-index + 1);
}
