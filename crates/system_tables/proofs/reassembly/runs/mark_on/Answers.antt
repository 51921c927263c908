-- No run on a page before or behind those between the places becomes a piece.
use Rattle.std.proofs.Common.{◌≡◌, ◌++◌, ◌+◌, ◌-◌, ◌≤◌, ◌∙◌, ap, arith, drop, length, map, subst, sym, take}
use Rattle.std.specs.List.{AllByRecursion}
use Rattle.std.proofs.lemmas.List.{length-take}
use Rattle.pdus.proofs.ClnpBase.Lists.{part_of_part}
use Rattle.system_tables.specs.declared.reassembly.runs.Run.{Run}
use Rattle.system_tables.specs.Reassembly.Pages.{on_pages}
use Rattle.system_tables.specs.Reassembly.Runs.{AreInOrder, marked}
use Rattle.system_tables.proofs.ReassemblyFacts.Paged.{inner_part}
use Rattle.system_tables.proofs.ReassemblyFacts.Passing.{between_order, front_pages, marks_on}
use Rattle.system_tables.proofs.reassembly.runs.mark_on.Goals as goal

pub ended_by-first-requires : goal.ended_by-first-requires
ended_by-first-requires c =
    subst (λ p. AreInOrder (on_pages p)) (sym c.front.ensures)
    (front_pages c.part-unit.result c.begun_before-last.result (subst (λ p. AreInOrder (on_pages p)) (sym c.part-unit.ensures) c.requires.order))

pub mark_pages-requires-2-clause-within : goal.mark_pages-requires-2-clause-within
mark_pages-requires-2-clause-within c =
    let start = c.args.start in
    let count = c.args.count in
    let first = c.ended_by-first.result in
    let last = c.begun_before-last.result in
    let items = c.args.pages.now.items in
    let unit = take count (drop start items) in
    let front_is : c.front.result ≡ take last unit = c.front.ensures ∙ ap (take last) c.part-unit.ensures in
    let most : last ≤ length unit = omega (arith, c.begun_before-last.ensures.within, ap length c.part-unit.ensures) in
    let within : first ≤ length (take last unit) = omega (arith, c.ended_by-first.ensures.within, ap length front_is) in
    let ended = subst (λ p. AllByRecursion (λ (run : Run). run.to ≤ c.args.from) (on_pages (take first p))) front_is c.ended_by-first.ensures.ended in
    let begun = subst (λ p. AllByRecursion (λ (run : Run). c.args.to ≤ run.from) (on_pages (drop last p))) c.part-unit.ensures c.begun_before-last.ensures.others in
    let inside : first + (last - first) ≤ count = omega (arith, within, most, length-take last unit, length-take count (drop start items)) in
    omega (arith, inside, c.requires.within)

pub mark_pages-requires-2-clause-order : goal.mark_pages-requires-2-clause-order
mark_pages-requires-2-clause-order c =
    let start = c.args.start in
    let count = c.args.count in
    let first = c.ended_by-first.result in
    let last = c.begun_before-last.result in
    let items = c.args.pages.now.items in
    let unit = take count (drop start items) in
    let front_is : c.front.result ≡ take last unit = c.front.ensures ∙ ap (take last) c.part-unit.ensures in
    let most : last ≤ length unit = omega (arith, c.begun_before-last.ensures.within, ap length c.part-unit.ensures) in
    let within : first ≤ length (take last unit) = omega (arith, c.ended_by-first.ensures.within, ap length front_is) in
    let ended = subst (λ p. AllByRecursion (λ (run : Run). run.to ≤ c.args.from) (on_pages (take first p))) front_is c.ended_by-first.ensures.ended in
    let begun = subst (λ p. AllByRecursion (λ (run : Run). c.args.to ≤ run.from) (on_pages (drop last p))) c.part-unit.ensures c.begun_before-last.ensures.others in
    let inside : first + (last - first) ≤ count = omega (arith, within, most, length-take last unit, length-take count (drop start items)) in
    subst (λ p. AreInOrder (on_pages p)) (part_of_part items start count first (last - first) inside)
    (between_order c.args.from c.args.to first last unit c.requires.order most within ended begun)

pub returns-clause-items : goal.returns-clause-items
returns-clause-items c =
    let start = c.args.start in
    let count = c.args.count in
    let first = c.ended_by-first.result in
    let last = c.begun_before-last.result in
    let items = c.args.pages.now.items in
    let unit = take count (drop start items) in
    let front_is : c.front.result ≡ take last unit = c.front.ensures ∙ ap (take last) c.part-unit.ensures in
    let most : last ≤ length unit = omega (arith, c.begun_before-last.ensures.within, ap length c.part-unit.ensures) in
    let within : first ≤ length (take last unit) = omega (arith, c.ended_by-first.ensures.within, ap length front_is) in
    let ended = subst (λ p. AllByRecursion (λ (run : Run). run.to ≤ c.args.from) (on_pages (take first p))) front_is c.ended_by-first.ensures.ended in
    let begun = subst (λ p. AllByRecursion (λ (run : Run). c.args.to ≤ run.from) (on_pages (drop last p))) c.part-unit.ensures c.begun_before-last.ensures.others in
    let inside : first + (last - first) ≤ count = omega (arith, within, most, length-take last unit, length-take count (drop start items)) in
    let f = map (marked c.args.from c.args.to c.args.by) in
    let n = last - first in
    c.mark_pages-2.ensures.items
    ∙ ap (λ l. take (start + first) items ++ (map f l ++ drop n (drop (start + first) items))) (sym (part_of_part items start count first n inside))
    ∙ inner_part items (map f (take n (drop first unit))) start count first n inside c.requires.within
    ∙ ap (λ l. take start items ++ (l ++ drop count (drop start items)))
    (marks_on c.args.from c.args.to first last unit c.requires.order most within ended begun c.args.by)
