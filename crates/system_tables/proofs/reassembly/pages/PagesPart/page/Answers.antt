-- The page whose number stands there.
use Rattle.std.proofs.Common.{◌∙◌, ap, arith, sym}
use Rattle.std.specs.Prelude.{slice_get}
use Rattle.system_tables.proofs.ReassemblyFacts.Numbered.{length-numbered, page_numbered}
use Rattle.system_tables.proofs.reassembly.pages.PagesPart.page.Goals as goal

pub returns : goal.returns
returns c =
    let made = c.self.inside.made.now in
    let numbers = c.self.inside.numbers.now in
    ap (λ l. slice_get l c.args.at) (sym c.self.view_is)
    ∙ page_numbered made numbers c.args.at _ (omega (arith, length-numbered made numbers _ c.self.view_is, c.requires)) c.self.invariant
