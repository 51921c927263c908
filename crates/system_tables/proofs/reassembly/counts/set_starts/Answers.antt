use Rattle.std.proofs.Common.{◌≡◌, arith, length}
use Rattle.system_tables.proofs.ReassemblyFacts.Counting.{all_set, set_more, sum_more}
use Rattle.system_tables.proofs.ReassemblyFacts.Groups.{sum_before}
use Rattle.system_tables.proofs.reassembly.counts.set_starts.Goals as goal

pub loop-at-init : goal.loop-at-init
loop-at-init c = record { start = c.requires.start; set = c.requires.before }

pub overflow_add-start : goal.overflow_add-start
overflow_add-start c =
    omega (arith, sum_before c.args.counts.now c.loop-at.at c.loop-at-test.true, c.requires.few, c.loop-at.invariant.start)

pub loop-at-preserved : goal.loop-at-preserved
loop-at-preserved c =
    let i = c.loop-at.invariant in
    let number : length c.loop-at.starts ≡ length c.args.counts.now = omega (arith, c.loop-at.auto.starts, c.requires.number) in
    record {
      start = omega (arith, i.start, sum_more c.args.counts.now c.loop-at.at c.loop-at-test.true);
      set = set_more c.args.counts.now c.loop-at.starts c.loop-at.at c.loop-at.start c.loop-at-test.true number i.start i.set;
    }

pub returns : goal.returns
returns c =
    all_set c.args.counts.now c.loop-at.starts c.loop-at.at (omega (arith, c.loop-at-test.false)) (omega (arith, c.loop-at.auto.starts, c.requires.number)) c.loop-at.invariant.set
