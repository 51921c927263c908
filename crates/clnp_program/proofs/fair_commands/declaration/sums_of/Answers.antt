use Rattle.std.proofs.Common.{arith}
use Rattle.system_tables.specs.declared.reassembly.table.TableLimits.{TableLimits}
use Rattle.clnp_program.proofs.FairCommands.Sums.{sum_more}
use Rattle.clnp_program.proofs.fair_commands.declaration.sums_of.Goals as goal

pub loop-share-preserved : goal.loop-share-preserved
loop-share-preserved c =
    let so_far = c.loop-share.invariant in
    let share = c.share-item.result in
    record {
      segments = omega (
        arith,
        so_far.segments,
        c.from-segments-in-loop-share.ensures,
        sum_more (λ (limits : TableLimits). limits.segments) c.args.others c.args.shares.now c.loop-share.share-index share c.loop-share-test.true c.share-item.is,
      );
      budget = omega (
        arith,
        so_far.budget,
        c.from-budget-in-loop-share.ensures,
        sum_more (λ (limits : TableLimits). limits.budget) c.args.others c.args.shares.now c.loop-share.share-index share c.loop-share-test.true c.share-item.is,
      );
      few_segments = omega (arith, so_far.few_segments, c.from-segments-in-loop-share.ensures);
      few_octets = omega (arith, so_far.few_octets, c.from-budget-in-loop-share.ensures);
    }
