use Rattle.std.proofs.Common.{◌<◌, ◌∙◌, ap, arith, get_or, length, sum, sym, take}
use Rattle.std.proofs.lemmas.List.{length-set, take-set}
use Rattle.system_tables.proofs.ReassemblyFacts.Counting.{length-starts, starts_at, starts_like}
use Rattle.system_tables.proofs.reassembly.counts.Counts.set.Goals as goal

pub index-start-requires : goal.index-start-requires
index-start-requires c =
    let t = c.self.inside in
    omega (arith, c.requires.unit, ap length c.self.invariant, length-starts 0 t.counts.items, ap (λ v. length v.items) c.self.view_is)

pub set_starts-requires-clause-number : goal.set_starts-requires-clause-number
set_starts-requires-clause-number c =
    let t = c.self.inside in
    omega (
      arith,
      ap length c.deref_mut.ensures.value,
      ap length c.deref.ensures.value,
      length-set t.counts.items c.args.unit c.args.count,
      ap length c.self.invariant,
      length-starts 0 t.counts.items,
    )

pub set_starts-requires-clause-start : goal.set_starts-requires-clause-start
set_starts-requires-clause-start c =
    let t = c.self.inside in
    let within : c.args.unit < length t.counts.items = omega (arith, c.requires.unit, ap (λ v. length v.items) c.self.view_is) in
    omega (
      arith,
      c.index-start.ensures ∙ ap (λ l. get_or l c.args.unit c.index-start.result.now) c.self.invariant ∙ starts_at 0 t.counts.items c.args.unit c.index-start.result.now within,
      ap (λ l. sum (take c.args.unit l)) c.deref.ensures.value,
      ap sum (take-set t.counts.items c.args.unit c.args.count),
    )

pub set_starts-requires-clause-before : goal.set_starts-requires-clause-before
set_starts-requires-clause-before c =
    let t = c.self.inside in
    ap (take c.args.unit) c.deref_mut.ensures.value ∙ ap (take c.args.unit) c.self.invariant
    ∙ starts_like t.counts.items c.deref.result.now c.args.unit
    (sym (ap (take c.args.unit) c.deref.ensures.value ∙ take-set t.counts.items c.args.unit c.args.count))
