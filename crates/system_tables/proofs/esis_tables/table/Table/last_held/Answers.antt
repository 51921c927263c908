use Rattle.std.proofs.Common.{◌≡◌, ◌∙◌, ◌+◌, ◌&&◌, false, Option, ap, arith, drop, sym}
use Rattle.std.proofs.lemmas.Bool.{and_from, and_left, and_right, le-ltb, lt-ltb}
use Rattle.system_tables.specs.declared.esis_tables.table.Entry.{Entry}
use Rattle.system_tables.specs.EsisTables.State.{is_kept, is_later_than, latest_kept}
use Rattle.system_tables.proofs.EsisTables.Walking.{latest_before, latest_here}
use Rattle.system_tables.proofs.esis_tables.table.Table.last_held.Goals.{then-now-entry+then-is_later, else-now-entry, else-now-entry-via-then-now-entry+else-is_later, else-now-entry-via-else-now-entry}
use Rattle.system_tables.proofs.esis_tables.table.Table.last_held.Goals as goal

pub at-entry-requires : goal.at-entry-requires
at-entry-requires c = omega (arith, c.loop-at-test.true, c.len.ensures)

pub loop-at-preserved : goal.loop-at-preserved
loop-at-preserved c =
    let l = c.loop-at in
    let entries = c.args.self.now.entries in
    let entry = c.at-entry.result.now in
    let behind : Option Entry → Option Entry = λ found. latest_kept c.args.now found (drop (l.at + 1) entries) in
    elim c.if-now-entry.branch [
      | then-now-entry+then-is_later w ↦
          ap behind w.latest-is ∙ latest_here entries l.at entry c.at-entry.ensures c.args.now l.latest
          (and_from _ _ (lt-ltb c.args.now entry.until w.if-now-entry.true) (sym w.if-is_later.ensures)) ∙ l.invariant
      | else-now-entry w ↦
          let off : (is_kept c.args.now entry && is_later_than entry l.latest) ≡ false
          = elim w.else-now-entry.branch [
            | else-now-entry-via-then-now-entry+else-is_later v ↦ and_right _ _ (sym v.if-is_later.ensures)
            | else-now-entry-via-else-now-entry v ↦ and_left _ _ (le-ltb c.args.now entry.until v.if-now-entry.false)
          ] in
          ap behind w.latest-is ∙ latest_before entries l.at entry c.at-entry.ensures c.args.now l.latest off ∙ l.invariant
    ]
