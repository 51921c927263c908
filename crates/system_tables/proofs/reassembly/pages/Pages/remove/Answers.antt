-- The number is free then.
use Rattle.std.proofs.Common.{[], ◌∙◌, ap, arith, get_or}
use Rattle.std.specs.List.{remove}
use Rattle.system_tables.specs.Reassembly.Pages.{numbered}
use Rattle.system_tables.proofs.ReassemblyFacts.Groups.{map-remove}
use Rattle.system_tables.proofs.ReassemblyFacts.Numbered.{length-numbered, removed_kept}
use Rattle.system_tables.proofs.ReassemblyFacts.Paged.{set_part}
use Rattle.system_tables.proofs.reassembly.pages.Pages.remove.Goals as goal

pub invariant_of-self : goal.invariant_of-self
invariant_of-self c =
    let t = c.self.inside in
    let i = c.self.invariant in
    let number = c.remove-number.result in
    let long = length-numbered t.made.items t.order.items _ (ap (λ v. v.items) c.self.view_is) in
    let there = set_part t.order.items c.args.at number (omega (arith, long, c.requires)) c.remove-number.ensures.value in (
      removed_kept t.order.items t.free.items t.made.items t.most i.0 c.args.at number there c.remove-number.new.self.items c.push.new.self.items
          c.remove-number.ensures.items c.in-Ok.ensures.items,
      (omega (arith, i.1.0, c.remove-number.ensures.capacity), (omega (arith, i.1.1.0, c.in-Ok.ensures.capacity), i.1.1.1)),
    )

pub returns-clause-items : goal.returns-clause-items
returns-clause-items c =
    let t = c.self.inside in
    ap (numbered t.made.items) c.remove-number.ensures.items
    ∙ map-remove (λ n. get_or t.made.items n []) t.order.items c.args.at
    ∙ ap (λ v. remove v.items c.args.at) c.self.view_is
