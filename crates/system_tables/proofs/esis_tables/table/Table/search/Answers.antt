use Rattle.std.proofs.Common.{◌≡◌, ◌∙◌, ℕ, arith, length, subst, sym}
use Rattle.system_tables.proofs.EsisTables.Places.{IsBetween, above_middle, below_middle, between_all, found_middle, gap_between}
use Rattle.system_tables.proofs.esis_tables.table.Table.search.Goals as goal

pub key_at-requires : goal.key_at-requires
key_at-requires c = omega (arith, c.loop-low.invariant.0, c.loop-low.invariant.1, c.loop-low-test.true)

pub loop-low-init : goal.loop-low-init
loop-low-init c =
    let entries = c.args.self.now.entries in
    let all : c.from-high.result ≡ length entries = omega (arith, c.from-high.ensures, c.len.ensures) in
    (omega arith, omega (arith, all), λ rising. subst (λ (n : ℕ). IsBetween entries c.args.key.now 0 n) (sym all) (between_all entries c.args.key.now))

pub loop-low-preserved-in-Less : goal.loop-low-preserved-in-Less
loop-low-preserved-in-Less c =
    let l = c.loop-low in (
      omega (arith, c.loop-low-test.true),
      l.invariant.1,
      above_middle c.args.self.now.entries c.args.key.now l.low l.high _ c.key_at.result.now c.key_at.ensures (sym c.cmp.ensures ∙ c.in-Less.is) l.invariant.2,
    )

pub loop-low-preserved : goal.loop-low-preserved
loop-low-preserved c =
    let l = c.loop-low in (
      omega (arith, c.loop-low-test.true),
      omega (arith, l.invariant.1, c.loop-low-test.true),
      below_middle c.args.self.now.entries c.args.key.now l.low l.high _ c.key_at.result.now c.key_at.ensures (sym c.cmp.ensures ∙ c.in-Greater.is) l.invariant.2,
    )

pub returns-in-Equal-clause-found : goal.returns-in-Equal-clause-found
returns-in-Equal-clause-found c =
    let l = c.loop-low in
    found_middle c.args.self.now.entries c.args.key.now l.low l.high _ c.key_at.result.now c.key_at.ensures (sym c.cmp.ensures ∙ c.in-Equal.is)

pub returns-clause-absent : goal.returns-clause-absent
returns-clause-absent c rising =
    let l = c.loop-low in
    gap_between c.args.self.now.entries c.args.key.now l.low l.high l.invariant.0 c.loop-low-test.false l.invariant.1 l.invariant.2 rising
