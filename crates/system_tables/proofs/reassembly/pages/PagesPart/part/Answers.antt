-- A part of the numbers are those of a part of the pages.
use Rattle.std.proofs.Common.{◌-◌, ◌∙◌, ap, drop, take}
use Rattle.system_tables.proofs.ReassemblyFacts.Numbered.{part_numbered}
use Rattle.system_tables.proofs.reassembly.pages.PagesPart.part.Goals as goal

pub returns : goal.returns
returns c =
    let first = c.args.first in
    let count = c.args.last - first in
    part_numbered c.self.inside.made.now c.self.inside.numbers.now first count ∙ ap (λ l. take count (drop first l)) c.self.view_is
