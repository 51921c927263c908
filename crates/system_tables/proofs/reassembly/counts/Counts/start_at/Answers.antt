use Rattle.std.proofs.Common.{◌<◌, ◌∙◌, ap, arith, get_or, length, sum, take}
use Rattle.system_tables.proofs.ReassemblyFacts.Counting.{length-starts, starts_at}
use Rattle.system_tables.proofs.reassembly.counts.Counts.start_at.Goals as goal

pub index-requires : goal.index-requires
index-requires c =
    let t = c.self.inside in
    omega (arith, c.requires, ap length c.self.invariant, length-starts 0 t.counts.items, ap (λ v. length v.items) c.self.view_is)

pub returns : goal.returns
returns c =
    let t = c.self.inside in
    let within : c.args.unit < length t.counts.items = omega (arith, c.requires, ap (λ v. length v.items) c.self.view_is) in
    omega (
      arith,
      c.index.ensures ∙ ap (λ l. get_or l c.args.unit c.index.result.now) c.self.invariant ∙ starts_at 0 t.counts.items c.args.unit c.index.result.now within,
      ap (λ v. sum (take c.args.unit v.items)) c.self.view_is,
    )
