-- One entry more is lowered.
use Rattle.std.proofs.Common.{◌<◌, ◌∙◌, length, arith, sym}
use Rattle.std.proofs.lemmas.List.Edits.{map_over_more}
use Rattle.std.proofs.lemmas.Option.{get_or_from_slice_get}
use Rattle.system_tables.specs.EsisTables.Numbers.{lowered}
use Rattle.system_tables.proofs.EsisTables.Walking.{as_many}
use Rattle.system_tables.proofs.esis_tables.table.lower.Goals as goal

pub at-requires : goal.at-requires
at-requires c =
    omega (
      arith,
      c.loop-at-test.true,
      c.len.ensures,
      as_many (lowered c.args.above c.args.by) c.args.slots.now.entries c.loop-at.slots.entries c.loop-at.at c.loop-at.invariant.0,
    )

pub loop-at-preserved : goal.loop-at-preserved
loop-at-preserved c =
    let l = c.loop-at in
    let within : l.at < length c.args.slots.now.entries = omega (arith, c.loop-at-test.true, c.len.ensures) in (
      c.set.ensures.entries
          ∙ rw c.lowered-entry.ensures (map_over_more (lowered c.args.above c.args.by) c.args.slots.now.entries l.slots.entries l.at c.at.result.now within l.invariant.0
          (sym (get_or_from_slice_get l.slots.entries l.at c.at.result.now c.at.result.now c.at.ensures))),
      c.set.ensures.limit ∙ l.invariant.1,
    )
