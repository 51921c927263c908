-- The first page that ends behind the place, or none.
use Rattle.std.proofs.Common.{◌∙◌, ap, arith, refl, sym}
use Rattle.std.specs.List.{list_any}
use Rattle.std.proofs.lemmas.List.{take_all}
use Rattle.pdus.proofs.ClnpBase.Found.{position_none}
use Rattle.system_tables.specs.Reassembly.Pages.{ends_behind}
use Rattle.system_tables.proofs.ReassemblyFacts.Paged.{found_there, none_next}
use Rattle.system_tables.proofs.reassembly.runs.first_behind.Goals as goal

pub loop-at-init : goal.loop-at-init
loop-at-init c = refl

pub returns-then-ends_behind : goal.returns-then-ends_behind
returns-then-ends_behind c =
    found_there (ends_behind c.args.place) c.args.pages.now c.loop-at.at c.page.result.now c.page.ensures (sym c.if-ends_behind.ensures) c.loop-at.invariant

pub loop-at-preserved : goal.loop-at-preserved
loop-at-preserved c =
    none_next (ends_behind c.args.place) c.args.pages.now c.loop-at.at c.page.result.now c.page.ensures (sym c.if-ends_behind.ensures) c.loop-at.invariant

pub returns : goal.returns
returns c =
    sym (position_none (ends_behind c.args.place) 0 c.args.pages.now
    (ap (list_any (ends_behind c.args.place)) (sym (take_all c.loop-at.at c.args.pages.now (omega (arith, c.loop-at-test.false, c.len-at-end.ensures))))
    ∙ c.loop-at.invariant))
