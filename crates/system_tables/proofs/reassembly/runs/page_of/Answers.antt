-- The pages that are passed over have no such run.
use Rattle.std.proofs.Common.{◌≡◌, ℕ, ◌+◌, ◌-◌, List, Option, ap, sym, ◌∙◌, arith, drop, length, take}
use Rattle.std.specs.Prelude.{option_map}
use Rattle.std.specs.List.{position_from}
use Rattle.std.proofs.lemmas.List.{length-drop, take_all}
use Rattle.pdus.proofs.ClnpBase.Found.{is_first}
use Rattle.system_tables.specs.declared.reassembly.runs.Run.{Run}
use Rattle.system_tables.specs.Reassembly.Pages.{ends_behind}
use Rattle.system_tables.proofs.ReassemblyFacts.Passing.{page_behind}
use Rattle.system_tables.proofs.reassembly.runs.page_of.Goals as goal

-- what is found among the others is found behind those that are passed over
others : (place first : ℕ) (pages part : List (List Run)) (found : Option ℕ) → part ≡ take (length pages - first) (drop first pages)
    → found ≡ position_from (ends_behind place) 0 part → position_from (ends_behind place) 0 (drop first pages) ≡ found
others place first pages part found is e =
    ap (position_from (ends_behind place) 0) (sym (is ∙ take_all (length pages - first) (drop first pages) (omega (arith, length-drop first pages)))) ∙ sym e

pub overflow_add-result : goal.overflow_add-result
overflow_add-result c =
    let first = c.ended_by-first.result in
    let pages = c.args.pages.now in
    let found = others c.args.place first pages c.part.result c.first_behind-2.result (c.part.ensures ∙ ap (λ n. take (n - first) (drop first pages)) c.len-2.ensures) c.first_behind-2.ensures ∙ c.in-Some.is in
    omega (arith, (is_first (ends_behind c.args.place) c.in-Some.at (drop first pages) found).within, length-drop first pages, c.ended_by-first.ensures.within)

pub returns-in-Some : goal.returns-in-Some
returns-in-Some c =
    let first = c.ended_by-first.result in
    let pages = c.args.pages.now in
    let found = others c.args.place first pages c.part.result c.first_behind-2.result (c.part.ensures ∙ ap (λ n. take (n - first) (drop first pages)) c.len-2.ensures) c.first_behind-2.ensures ∙ c.in-Some.is in
    sym (page_behind c.args.place first pages c.ended_by-first.ensures.ended ∙ ap (option_map (λ i. first + i)) found)

pub returns-in-None : goal.returns-in-None
returns-in-None c =
    let first = c.ended_by-first.result in
    let pages = c.args.pages.now in
    let found = others c.args.place first pages c.part.result c.first_behind-2.result (c.part.ensures ∙ ap (λ n. take (n - first) (drop first pages)) c.len-2.ensures) c.first_behind-2.ensures ∙ c.in-None.is in
    sym (page_behind c.args.place first pages c.ended_by-first.ensures.ended ∙ ap (option_map (λ i. first + i)) found)
