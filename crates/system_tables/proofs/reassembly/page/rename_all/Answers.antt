-- One run more has the other index.
use Rattle.std.proofs.Common.{◌<◌, length, arith}
use Rattle.std.proofs.lemmas.List.Edits.{map_over_more}
use Rattle.std.proofs.lemmas.List.{get_or_default}
use Rattle.system_tables.specs.Reassembly.Runs.{renamed}
use Rattle.system_tables.proofs.reassembly.page.rename_all.Goals as goal

pub loop-run-preserved : goal.loop-run-preserved
loop-run-preserved c =
    let within : c.loop-run.run-index < length c.args.runs.now = c.loop-run-test.true in
    rw c.name_of.ensures (map_over_more (renamed c.args.names.now) c.args.runs.now c.loop-run.runs c.loop-run.run-index _ within c.loop-run.invariant
    (get_or_default c.loop-run.runs c.loop-run.run-index _ _ (omega (arith, c.loop-run.auto.runs))))
