-- The first run of the page, or of the next one.
use Rattle.std.proofs.Common.{◌++◌, ◌-◌, ◌∙◌, ap, arith, drop, length, refl, sym}
use Rattle.std.proofs.lemmas.List.{length-drop, length-take}
use Rattle.system_tables.specs.Reassembly.Pages.{on_pages}
use Rattle.system_tables.proofs.ReassemblyFacts.Paged.{first_parted, next_page}
use Rattle.system_tables.proofs.reassembly.runs.Group.next.Goals as goal

pub loop-run-init : goal.loop-run-init
loop-run-init c = refl

pub returns-in-Some : goal.returns-in-Some
returns-in-Some c =
    sym c.self.view_is ∙ sym c.loop-run.invariant
    ∙ ap (λ l. l ++ on_pages c.loop-run.self-inside.others) c.in-Some.ensures.cases.0

pub loop-run-smaller : goal.loop-run-smaller
loop-run-smaller c =
    let others = c.loop-run.self-inside.others in
    let count = c.len-count.result in
    omega (
      arith,
      ap length c.part-self-inside.ensures,
      length-take (count - 1) (drop 1 others),
      length-drop 1 others,
      c.if-count-eq0.false,
      c.len-count.ensures,
    )

pub loop-run-preserved : goal.loop-run-preserved
loop-run-preserved c =
    let others = c.loop-run.self-inside.others in
    ap (λ l. l ++ on_pages c.part-self-inside.result) c.runs-self-inside.ensures
    ∙ next_page c.loop-run.self-inside.first.now c.page.result.now others c.part-self-inside.result c.in_default.ensures.cases
    (first_parted others c.part-self-inside.result c.page.result.now c.len-count.result c.page.ensures c.len-count.ensures c.part-self-inside.ensures)
    ∙ c.loop-run.invariant
