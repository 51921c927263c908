use Rattle.std.proofs.Common.{◌≡◌, ◌+◌, ℕ, ◌∷◌, ◌++◌, [], ◌∙◌, ap, arith, length, sum, sym}
use Rattle.system_tables.specs.Reassembly.Counts.{starts_from}
use Rattle.system_tables.proofs.ReassemblyFacts.Counting.{length-starts, starts-push}
use Rattle.system_tables.proofs.reassembly.counts.Counts.push.Goals as goal

pub unreachable-requires-in_default-push : goal.unreachable-requires-in_default-push
unreachable-requires-in_default-push c =
    let t = c.self.inside in
    omega (
      arith,
      c.requires.room,
      ap (λ v. v.room) c.self.view_is,
      ap (λ v. length v.items) c.self.view_is,
      ap length c.self.invariant,
      length-starts 0 t.counts.items,
      c.in_default-push.ensures.full,
    )

pub invariant_of-self : goal.invariant_of-self
invariant_of-self c =
    let t = c.self.inside in
    let start : c.args.start ≡ 0 + sum t.counts.items = omega (arith, c.requires.start, ap (λ v. sum v.items) c.self.view_is) in
    c.in-Ok-push.ensures.items ∙ ap (λ l. l ++ c.args.start ∷ []) c.self.invariant
    ∙ ap (λ (n : ℕ). starts_from 0 t.counts.items ++ n ∷ []) start ∙ sym (starts-push 0 t.counts.items c.args.count)
    ∙ ap (starts_from 0) (sym c.in-Ok.ensures.items)
