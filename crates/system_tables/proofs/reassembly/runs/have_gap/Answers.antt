-- One page more.
use Rattle.std.proofs.Common.{◌∙◌, ap, arith, refl, sym}
use Rattle.std.specs.List.{list_any}
use Rattle.std.proofs.lemmas.List.{take_all}
use Rattle.std.proofs.lemmas.Option.{get_or_from_slice_get}
use Rattle.system_tables.specs.Reassembly.Pages.{on_pages}
use Rattle.system_tables.specs.Reassembly.Runs.{is_gap}
use Rattle.system_tables.proofs.ReassemblyFacts.Paged.{any_on_page, none_more, page_order}
use Rattle.system_tables.proofs.reassembly.runs.have_gap.Goals as goal

pub loop-at-init : goal.loop-at-init
loop-at-init c = refl

pub has_gap-requires : goal.has_gap-requires
has_gap-requires c = page_order c.args.pages.now c.loop-at.at c.page.result.now c.requires c.page.ensures

pub returns-then-has_gap : goal.returns-then-has_gap
returns-then-has_gap c =
    any_on_page (is_gap c.args.from c.args.to) c.args.pages.now c.loop-at.at c.page.result.now c.page.ensures (sym c.if-has_gap.ensures)

pub loop-at-preserved : goal.loop-at-preserved
loop-at-preserved c =
    let pages = c.args.pages.now in
    let page = c.page.result.now in
    none_more (is_gap c.args.from c.args.to) pages c.loop-at.at page (omega (arith, c.loop-at-test.true, c.len-at-end.ensures))
    (sym (get_or_from_slice_get pages c.loop-at.at page page c.page.ensures)) c.loop-at.invariant (sym c.if-has_gap.ensures)

pub returns : goal.returns
returns c =
    sym (ap (λ l. list_any (is_gap c.args.from c.args.to) (on_pages l))
    (sym (take_all c.loop-at.at c.args.pages.now (omega (arith, c.loop-at-test.false, c.len-at-end.ensures)))) ∙ c.loop-at.invariant)
