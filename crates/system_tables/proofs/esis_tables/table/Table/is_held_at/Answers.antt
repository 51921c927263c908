use Rattle.std.proofs.Common.{◌≡◌, false, ◌∙◌, arith, sym}
use Rattle.std.proofs.lemmas.Bool.{and_from, and_left, and_right, le-ltb, lt-ltb}
use Rattle.system_tables.specs.EsisTables.State.{is_kept_at}
use Rattle.system_tables.proofs.EsisTables.Walking.{is_here, not_here}
use Rattle.system_tables.proofs.esis_tables.table.Table.is_held_at.Goals.{else-now-entry-via-then-now-entry+else-eq, else-now-entry-via-else-now-entry}
use Rattle.system_tables.proofs.esis_tables.table.Table.is_held_at.Goals as goal

pub at-entry-requires : goal.at-entry-requires
at-entry-requires c = omega (arith, c.loop-at-test.true, c.len.ensures)

pub returns-then-eq : goal.returns-then-eq
returns-then-eq c =
    sym (is_here c.args.self.now.entries c.loop-at.at c.at-entry.result.now c.at-entry.ensures c.args.now c.args.snpa.now
    (and_from _ _ (lt-ltb c.args.now c.at-entry.result.now.until c.if-now-entry.true) (sym c.if-eq.ensures))) ∙ c.loop-at.invariant

pub loop-at-preserved : goal.loop-at-preserved
loop-at-preserved c =
    let entry = c.at-entry.result.now in
    let off : is_kept_at c.args.now c.args.snpa.now entry ≡ false
    = elim c.else-now-entry.branch [
      | else-now-entry-via-then-now-entry+else-eq w ↦ and_right _ _ (sym w.if-eq.ensures)
      | else-now-entry-via-else-now-entry w ↦ and_left _ _ (le-ltb c.args.now entry.until w.if-now-entry.false)
    ] in
    not_here c.args.self.now.entries c.loop-at.at entry c.at-entry.ensures c.args.now c.args.snpa.now off ∙ c.loop-at.invariant
