-- The page on which the hole is, if it is there.
use Rattle.std.proofs.Common.{◌≡◌, ◌+◌, [], Some, ap, arith, drop, get_or, sym, take, ◌∙◌, refl}
use Rattle.std.specs.List.{position_from}
use Rattle.std.proofs.lemmas.List.{get_or_default}
use Rattle.pdus.proofs.ClnpBase.Choices.{none_since}
use Rattle.system_tables.specs.Reassembly.Pages.{ends_behind}
use Rattle.system_tables.proofs.ReassemblyFacts.Paged.{at_below, cut_halved, cut_nowhere, cut_whole, page_ordered}
use Rattle.system_tables.proofs.reassembly.runs.cut_pages.Goals as goal

pub returns-in_default-clause-cut : goal.returns-in_default-clause-cut
returns-in_default-clause-cut c =
    cut_nowhere c.args.place c.args.start c.args.count c.args.pages.now.items c.requires.within c.requires.order
    (ap (position_from (ends_behind c.args.place) 0) (sym c.part.ensures) ∙ sym c.page_of.ensures ∙ none_since c.page_of.result c.in_default.not-Some)

pub overflow_add-start : goal.overflow_add-start
overflow_add-start c =
    let pages = c.args.pages.now.items in
    let found : position_from (ends_behind c.args.place) 0 (take c.args.count (drop c.args.start pages)) ≡ Some c.in-Some.at
    = ap (position_from (ends_behind c.args.place) 0) (sym c.part.ensures) ∙ sym c.page_of.ensures ∙ c.in-Some.is in
    omega (arith, at_below c.args.place c.args.start c.args.count c.in-Some.at pages [] c.requires.within c.requires.order found, c.requires.within, c.requires.few)

pub cut-requires-clause-within : goal.cut-requires-clause-within
cut-requires-clause-within c =
    let pages = c.args.pages.now.items in
    let found : position_from (ends_behind c.args.place) 0 (take c.args.count (drop c.args.start pages)) ≡ Some c.in-Some.at
    = ap (position_from (ends_behind c.args.place) 0) (sym c.part.ensures) ∙ sym c.page_of.ensures ∙ c.in-Some.is in
    omega (arith, at_below c.args.place c.args.start c.args.count c.in-Some.at pages [] c.requires.within c.requires.order found, c.requires.within)

pub cut-requires-clause-order : goal.cut-requires-clause-order
cut-requires-clause-order c =
    let pages = c.args.pages.now.items in
    let found : position_from (ends_behind c.args.place) 0 (take c.args.count (drop c.args.start pages)) ≡ Some c.in-Some.at
    = ap (position_from (ends_behind c.args.place) 0) (sym c.part.ensures) ∙ sym c.page_of.ensures ∙ c.in-Some.is in
    let below = at_below c.args.place c.args.start c.args.count c.in-Some.at pages [] c.requires.within c.requires.order found in
    let page = get_or pages (c.args.start + c.in-Some.at) [] in
    let read = get_or_default pages (c.args.start + c.in-Some.at) [] page (omega (arith, below, c.requires.within)) in
    page_ordered c.args.place c.args.start c.args.count c.in-Some.at pages page c.requires.within c.requires.order found read

pub returns-then-cut-clause-cut : goal.returns-then-cut-clause-cut
returns-then-cut-clause-cut c =
    let pages = c.args.pages.now.items in
    let found : position_from (ends_behind c.args.place) 0 (take c.args.count (drop c.args.start pages)) ≡ Some c.in-Some.at
    = ap (position_from (ends_behind c.args.place) 0) (sym c.part.ensures) ∙ sym c.page_of.ensures ∙ c.in-Some.is in
    let below = at_below c.args.place c.args.start c.args.count c.in-Some.at pages [] c.requires.within c.requires.order found in
    let page = get_or pages (c.args.start + c.in-Some.at) [] in
    let read = get_or_default pages (c.args.start + c.in-Some.at) [] page (omega (arith, below, c.requires.within)) in
    cut_halved c.args.place c.args.start c.args.count c.in-Some.at pages page c.requires.within c.requires.order found read c.cut.new.self.items (c.if-cut.ensures.halved refl)

pub returns-else-cut-clause-cut : goal.returns-else-cut-clause-cut
returns-else-cut-clause-cut c =
    let pages = c.args.pages.now.items in
    let found : position_from (ends_behind c.args.place) 0 (take c.args.count (drop c.args.start pages)) ≡ Some c.in-Some.at
    = ap (position_from (ends_behind c.args.place) 0) (sym c.part.ensures) ∙ sym c.page_of.ensures ∙ c.in-Some.is in
    let below = at_below c.args.place c.args.start c.args.count c.in-Some.at pages [] c.requires.within c.requires.order found in
    let page = get_or pages (c.args.start + c.in-Some.at) [] in
    let read = get_or_default pages (c.args.start + c.in-Some.at) [] page (omega (arith, below, c.requires.within)) in
    cut_whole c.args.place c.args.start c.args.count c.in-Some.at pages page c.requires.within c.requires.order found read c.cut.new.self.items (c.if-cut.ensures.whole refl)
