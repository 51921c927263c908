-- One page more is marked.
use Rattle.std.proofs.Common.{[], ◌≡◌, ◌++◌, ◌∙◌, ◌-◌, ◌<◌, ap, arith, drop, get_or, length, map, refl, take}
use Rattle.system_tables.specs.Reassembly.Runs.{marked}
use Rattle.system_tables.proofs.ReassemblyFacts.Paged.{as_long, front_there, mapped_more, none_mapped, not_mapped, page_order}
use Rattle.system_tables.proofs.reassembly.runs.mark_pages.Goals as goal

pub loop-at-init : goal.loop-at-init
loop-at-init c = record { items = none_mapped (map (marked c.args.from c.args.to c.args.by)) c.args.pages.now.items c.args.start; most = refl }

pub mark-requires-clause-within : goal.mark-requires-clause-within
mark-requires-clause-within c =
    let f = map (marked c.args.from c.args.to c.args.by) in
    let items = c.args.pages.now.items in
    let within : c.loop-at.at < length items = omega (arith, c.loop-at-test.true, c.requires.within) in
    omega (arith, within, as_long f [] items c.loop-at.pages.items c.args.start c.loop-at.at c.loop-at.auto.at within c.loop-at.invariant.items)

pub mark-requires-clause-order : goal.mark-requires-clause-order
mark-requires-clause-order c =
    let f = map (marked c.args.from c.args.to c.args.by) in
    let items = c.args.pages.now.items in
    let page = get_or c.loop-at.pages.items c.loop-at.at [] in
    let place = c.loop-at.at - c.args.start in
    let within : c.loop-at.at < length items = omega (arith, c.loop-at-test.true, c.requires.within) in
    let there = not_mapped f [] items c.loop-at.pages.items c.args.start c.loop-at.at c.loop-at.auto.at within c.loop-at.invariant.items in
    page_order (take c.args.count (drop c.args.start items)) place page c.requires.order
    (front_there (drop c.args.start items) place c.args.count page there (omega (arith, c.loop-at-test.true, c.loop-at.auto.at)))

pub loop-at-preserved : goal.loop-at-preserved
loop-at-preserved c =
    let f = map (marked c.args.from c.args.to c.args.by) in
    let items = c.args.pages.now.items in
    let within : c.loop-at.at < length items = omega (arith, c.loop-at-test.true, c.requires.within) in
    record {
      items = c.mark.ensures.items ∙ mapped_more f [] items c.loop-at.pages.items c.args.start c.loop-at.at c.loop-at.auto.at within c.loop-at.invariant.items;
      most = c.mark.ensures.most ∙ c.loop-at.invariant.most;
    }

pub returns-clause-items : goal.returns-clause-items
returns-clause-items c =
    let start = c.args.start in
    let items = c.args.pages.now.items in
    let all : c.loop-at.at - start ≡ c.args.count = omega (arith, c.loop-at-test.false, c.loop-at.auto.at, c.loop-at.auto.at-end) in
    c.loop-at.invariant.items
    ∙ ap (λ n. take start items ++ (map (map (marked c.args.from c.args.to c.args.by)) (take n (drop start items)) ++ drop n (drop start items))) all
