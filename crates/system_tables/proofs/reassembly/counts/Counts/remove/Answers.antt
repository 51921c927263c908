use Rattle.std.proofs.Common.{◌<◌, ◌∙◌, ap, arith, get_or, length, refl, sum, sym, take}
use Rattle.std.specs.Prelude.{slice_get}
use Rattle.std.proofs.lemmas.List.{length-take}
use Rattle.std.proofs.lemmas.List.Edits.{length-remove}
use Rattle.std.proofs.lemmas.Option.{slice_get_read}
use Rattle.system_tables.proofs.ReassemblyFacts.Counting.{length-starts, starts_at, starts_like, take-remove, take_fewer}
use Rattle.system_tables.proofs.reassembly.counts.Counts.remove.Goals as goal

pub index-start-requires : goal.index-start-requires
index-start-requires c =
    let t = c.self.inside in
    omega (arith, c.requires.unit, ap length c.self.invariant, length-starts 0 t.counts.items, ap (λ v. length v.items) c.self.view_is)

pub set_starts-requires-clause-number : goal.set_starts-requires-clause-number
set_starts-requires-clause-number c =
    let t = c.self.inside in
    let within : c.args.unit < length t.counts.items = omega (arith, c.requires.unit, ap (λ v. length v.items) c.self.view_is) in
    omega (
      arith,
      ap length c.deref_mut.ensures.value,
      ap length c.truncate.ensures.items,
      length-take c.len.result t.starts.items,
      ap length c.self.invariant,
      length-starts 0 t.counts.items,
      ap length c.deref.ensures.value,
      ap length c.remove-count.ensures.items,
      length-remove t.counts.items c.args.unit within,
      c.len.ensures,
    )

pub set_starts-requires-clause-start : goal.set_starts-requires-clause-start
set_starts-requires-clause-start c =
    let t = c.self.inside in
    let within : c.args.unit < length t.counts.items = omega (arith, c.requires.unit, ap (λ v. length v.items) c.self.view_is) in
    omega (
      arith,
      c.index-start.ensures ∙ ap (λ l. get_or l c.args.unit c.index-start.result.now) c.self.invariant ∙ starts_at 0 t.counts.items c.args.unit c.index-start.result.now within,
      ap (λ l. sum (take c.args.unit l)) (c.deref.ensures.value ∙ c.remove-count.ensures.items),
      ap sum (take-remove t.counts.items c.args.unit),
    )

pub set_starts-requires-clause-before : goal.set_starts-requires-clause-before
set_starts-requires-clause-before c =
    let t = c.self.inside in
    let within : c.args.unit < length t.counts.items = omega (arith, c.requires.unit, ap (λ v. length v.items) c.self.view_is) in
    ap (take c.args.unit) (c.deref_mut.ensures.value ∙ c.truncate.ensures.items)
    ∙ take_fewer t.starts.items c.args.unit c.len.result
    (omega (arith, c.len.ensures, ap length c.remove-count.ensures.items, length-remove t.counts.items c.args.unit within, within))
    ∙ ap (take c.args.unit) c.self.invariant
    ∙ starts_like t.counts.items c.deref.result.now c.args.unit
    (sym (ap (take c.args.unit) (c.deref.ensures.value ∙ c.remove-count.ensures.items) ∙ take-remove t.counts.items c.args.unit))

pub returns-clause-count : goal.returns-clause-count
returns-clause-count c =
    let t = c.self.inside in
    let within : c.args.unit < length t.counts.items = omega (arith, c.requires.unit, ap (λ v. length v.items) c.self.view_is) in
    ap (λ v. slice_get v.items c.args.unit) (sym c.self.view_is)
    ∙ slice_get_read t.counts.items (length t.counts.items) c.args.unit c.remove-count.result refl within c.remove-count.ensures.value
