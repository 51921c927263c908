-- The first of the numbers are those of the first pages.
use Rattle.std.proofs.Common.{[], ◌∙◌, ap, get_or, sym, take}
use Rattle.std.proofs.lemmas.List.{take-map}
use Rattle.system_tables.proofs.reassembly.pages.PagesPart.front.Goals as goal

pub returns : goal.returns
returns c =
    sym (take-map (λ n. get_or c.self.inside.made.now n []) c.args.count c.self.inside.numbers.now) ∙ ap (take c.args.count) c.self.view_is
