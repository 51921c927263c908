-- A part of the numbers are those of a part of the pages.
use Rattle.std.proofs.Common.{◌≡◌, ◌+◌, ◌-◌, ◌∙◌, ap, arith, drop, take}
use Rattle.system_tables.specs.Reassembly.Pages.{numbered}
use Rattle.system_tables.proofs.ReassemblyFacts.Numbered.{part_numbered}
use Rattle.system_tables.proofs.reassembly.pages.Pages.part.Goals as goal

pub returns : goal.returns
returns c =
    let start = c.args.start in
    let count = c.args.count in
    let size : start + count - start ≡ count = omega arith in
    ap (λ n. numbered c.deref-2.result.now (take n (drop start c.deref.result.now))) size
    ∙ part_numbered c.deref-2.result.now c.deref.result.now start count
    ∙ ap (λ m. take count (drop start (numbered m c.deref.result.now))) c.deref-2.ensures.value
    ∙ ap (λ o. take count (drop start (numbered c.self.inside.made.items o))) c.deref.ensures.value
    ∙ ap (λ v. take count (drop start v.items)) c.self.view_is
