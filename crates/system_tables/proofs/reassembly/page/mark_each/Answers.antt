-- One run more is marked.
use Rattle.std.proofs.Common.{◌<◌, length, arith}
use Rattle.std.proofs.lemmas.List.Edits.{map_over_more}
use Rattle.std.proofs.lemmas.List.{get_or_default}
use Rattle.system_tables.specs.Reassembly.Runs.{marked}
use Rattle.system_tables.proofs.reassembly.page.mark_each.Goals as goal

pub loop-run-preserved : goal.loop-run-preserved
loop-run-preserved c =
    let within : c.loop-run.run-index < length c.args.runs.now = c.loop-run-test.true in
    rw c.marked.ensures (map_over_more (marked c.args.from c.args.to c.args.by) c.args.runs.now c.loop-run.runs c.loop-run.run-index _ within c.loop-run.invariant
    (get_or_default c.loop-run.runs c.loop-run.run-index _ _ (omega (arith, c.loop-run.auto.runs))))
