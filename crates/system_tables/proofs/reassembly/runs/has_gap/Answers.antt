-- No run on a page before or behind those between the places is such a hole.
use Rattle.std.proofs.Common.{◌≤◌, ◌∙◌, ap, arith, length, subst, sym, take}
use Rattle.std.proofs.lemmas.List.{length-take}
use Rattle.std.specs.List.{AllByRecursion, list_any}
use Rattle.system_tables.specs.declared.reassembly.runs.Run.{Run}
use Rattle.system_tables.specs.Reassembly.Pages.{on_pages}
use Rattle.system_tables.specs.Reassembly.Runs.{AreInOrder, is_gap}
use Rattle.system_tables.proofs.ReassemblyFacts.Passing.{between_order, front_pages, gap_on}
use Rattle.system_tables.proofs.reassembly.runs.has_gap.Goals as goal

pub ended_by-first-requires : goal.ended_by-first-requires
ended_by-first-requires c =
    subst (λ p. AreInOrder (on_pages p)) (sym c.front.ensures) (front_pages c.args.pages.now c.begun_before-last.result c.requires)

pub part-requires : goal.part-requires
part-requires c =
    (omega (arith, c.ended_by-first.ensures.within, ap length c.front.ensures, length-take c.begun_before-last.result c.args.pages.now), c.begun_before-last.ensures.within)

pub have_gap-requires-2 : goal.have_gap-requires-2
have_gap-requires-2 c =
    let first = c.ended_by-first.result in
    let last = c.begun_before-last.result in
    let pages = c.args.pages.now in
    let within : first ≤ length (take last pages) = omega (arith, c.ended_by-first.ensures.within, ap length c.front.ensures) in
    let ended = subst (λ p. AllByRecursion (λ (run : Run). run.to ≤ c.args.from) (on_pages (take first p))) c.front.ensures c.ended_by-first.ensures.ended in
    subst (λ p. AreInOrder (on_pages p)) (sym c.part.ensures)
    (between_order c.args.from c.args.to first last pages c.requires c.begun_before-last.ensures.within within ended c.begun_before-last.ensures.others)

pub returns : goal.returns
returns c =
    let first = c.ended_by-first.result in
    let last = c.begun_before-last.result in
    let pages = c.args.pages.now in
    let within : first ≤ length (take last pages) = omega (arith, c.ended_by-first.ensures.within, ap length c.front.ensures) in
    let ended = subst (λ p. AllByRecursion (λ (run : Run). run.to ≤ c.args.from) (on_pages (take first p))) c.front.ensures c.ended_by-first.ensures.ended in
    c.have_gap-2.ensures ∙ ap (λ p. list_any (is_gap c.args.from c.args.to) (on_pages p)) c.part.ensures
    ∙ gap_on c.args.from c.args.to first last pages c.requires c.begun_before-last.ensures.within within ended c.begun_before-last.ensures.others
