use Rattle.std.proofs.Common.{◌≡◌, ◌∙◌, ◌+◌, ◌&&◌, ℕ, false, Option, ap, arith, drop, sym}
use Rattle.std.proofs.lemmas.Bool.{and_from, and_left, and_right, le-ltb, lt-ltb}
use Rattle.system_tables.specs.EsisTables.Numbers.{is_above, is_less_than, least_above}
use Rattle.system_tables.proofs.EsisTables.Walking.{least_before, least_here}
use Rattle.system_tables.proofs.esis_tables.table.least_above.Goals.{then-number-entry+then-is_less, else-number-entry, else-number-entry-via-then-number-entry+else-is_less, else-number-entry-via-else-number-entry}
use Rattle.system_tables.proofs.esis_tables.table.least_above.Goals as goal

pub at-entry-requires : goal.at-entry-requires
at-entry-requires c = omega (arith, c.loop-at-test.true, c.len.ensures)

pub loop-at-preserved : goal.loop-at-preserved
loop-at-preserved c =
    let l = c.loop-at in
    let entries = c.args.slots.now.entries in
    let entry = c.at-entry.result.now in
    let behind : Option ℕ → Option ℕ = λ found. least_above c.args.number found (drop (l.at + 1) entries) in
    elim c.if-number-entry.branch [
      | then-number-entry+then-is_less w ↦
          ap behind w.least-is ∙ least_here entries l.at entry c.at-entry.ensures c.args.number l.least
          (and_from _ _ (lt-ltb c.args.number entry.number w.if-number-entry.true) (sym w.if-is_less.ensures)) ∙ l.invariant
      | else-number-entry w ↦
          let off : (is_above c.args.number entry && is_less_than entry.number l.least) ≡ false
          = elim w.else-number-entry.branch [
            | else-number-entry-via-then-number-entry+else-is_less v ↦ and_right _ _ (sym v.if-is_less.ensures)
            | else-number-entry-via-else-number-entry v ↦ and_left _ _ (le-ltb c.args.number entry.number v.if-number-entry.false)
          ] in
          ap behind w.least-is ∙ least_before entries l.at entry c.at-entry.ensures c.args.number l.least off ∙ l.invariant
    ]
