-- One gap more is closed.
use Rattle.std.proofs.Common.{◌∙◌, ◌+◌, ◌-◌, ◌≤◌, ℕ, arith, refl, subst}
use Rattle.system_tables.specs.EsisTables.Numbers.{count_above}
use Rattle.system_tables.proofs.EsisTables.Gaps.{all_numbered, counted_all, same_entries, same_later}
use Rattle.system_tables.proofs.esis_tables.table.number_anew.Goals as goal

pub loop-number-init : goal.loop-number-init
loop-number-init c = (same_entries c.args.slots.now.entries, omega (arith, counted_all c.args.slots.now.entries), refl)

pub loop-number-preserved : goal.loop-number-preserved
loop-number-preserved c =
    let old = c.loop-number.slots.entries in
    let new = c.close_gap.new.slots.entries in
    let fewer = subst (λ (n : ℕ). count_above (n + 1) new ≤ count_above n old - 1) c.from.ensures c.close_gap.ensures.fewer in (
      same_later c.args.slots.now.entries old new c.loop-number.invariant.0 c.close_gap.ensures.same,
      omega (arith, c.loop-number.invariant.1, fewer),
      c.close_gap.ensures.limit ∙ c.loop-number.invariant.2,
    )

pub returns-clause-above : goal.returns-clause-above
returns-clause-above c =
    all_numbered c.loop-number.number c.loop-number.slots.entries _ (omega (arith, c.len-count.ensures, c.loop-number.invariant.1)) (omega arith)
