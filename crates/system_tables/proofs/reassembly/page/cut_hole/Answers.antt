-- The hole at the place where the search ends is cut.
use Rattle.std.proofs.Common.{◌≡◌, ◌+◌, ◌∙◌, None, Some, ap, arith, get_or, length, sym}
use Rattle.std.specs.Prelude.{slice_set}
use Rattle.std.proofs.lemmas.List.{get_or_default, length-set}
use Rattle.arrayvec.proofs.ArrayVecLemmas.{items-with_items}
use Rattle.std.specs.List.{insert, position_from}
use Rattle.pdus.proofs.ClnpBase.Choices.{none_since}
use Rattle.pdus.proofs.ClnpBase.Found.{is_first}
use Rattle.system_tables.specs.Reassembly.Runs.{is_across}
use Rattle.system_tables.proofs.ReassemblyFacts.Groups.{cut_found, cut_missing}
use Rattle.system_tables.proofs.reassembly.page.cut_hole.Goals as goal

pub returns-in_default : goal.returns-in_default
returns-in_default c =
    sym (cut_missing c.args.place c.args.runs.now.items
    (ap (λ l. position_from (is_across c.args.place) 0 l) (sym c.as_slice.ensures.value) ∙ sym c.hole_across.ensures
    ∙ none_since c.hole_across.result c.in_default.not-Some))

pub offset_bounds-as_slice-at : goal.offset_bounds-as_slice-at
offset_bounds-as_slice-at c =
    let found : position_from (is_across c.args.place) 0 c.args.runs.now.items ≡ Some c.in-Some.at
    = ap (λ l. position_from (is_across c.args.place) 0 l) (sym c.as_slice.ensures.value) ∙ sym c.hole_across.ensures ∙ c.in-Some.is in
    let within = (is_first (is_across c.args.place) c.in-Some.at c.args.runs.now.items found).within in
    omega (arith, within, c.requires.room)

pub bounds-as_slice-at : goal.bounds-as_slice-at
bounds-as_slice-at c =
    let found : position_from (is_across c.args.place) 0 c.args.runs.now.items ≡ Some c.in-Some.at
    = ap (λ l. position_from (is_across c.args.place) 0 l) (sym c.as_slice.ensures.value) ∙ sym c.hole_across.ensures ∙ c.in-Some.is in
    let within = (is_first (is_across c.args.place) c.in-Some.at c.args.runs.now.items found).within in
    omega (arith, within, ap length c.as_slice-2.ensures.value)

pub offset_bounds-as_mut_slice-at : goal.offset_bounds-as_mut_slice-at
offset_bounds-as_mut_slice-at c =
    let found : position_from (is_across c.args.place) 0 c.args.runs.now.items ≡ Some c.in-Some.at
    = ap (λ l. position_from (is_across c.args.place) 0 l) (sym c.as_slice.ensures.value) ∙ sym c.hole_across.ensures ∙ c.in-Some.is in
    let within = (is_first (is_across c.args.place) c.in-Some.at c.args.runs.now.items found).within in
    omega (arith, within, c.requires.room)

pub bounds-as_mut_slice-at : goal.bounds-as_mut_slice-at
bounds-as_mut_slice-at c =
    let found : position_from (is_across c.args.place) 0 c.args.runs.now.items ≡ Some c.in-Some.at
    = ap (λ l. position_from (is_across c.args.place) 0 l) (sym c.as_slice.ensures.value) ∙ sym c.hole_across.ensures ∙ c.in-Some.is in
    let within = (is_first (is_across c.args.place) c.in-Some.at c.args.runs.now.items found).within in
    omega (arith, within, ap length c.as_mut_slice.ensures.value)

pub overflow_add-at : goal.overflow_add-at
overflow_add-at c =
    let found : position_from (is_across c.args.place) 0 c.args.runs.now.items ≡ Some c.in-Some.at
    = ap (λ l. position_from (is_across c.args.place) 0 l) (sym c.as_slice.ensures.value) ∙ sym c.hole_across.ensures ∙ c.in-Some.is in
    let within = (is_first (is_across c.args.place) c.in-Some.at c.args.runs.now.items found).within in
    omega (arith, within, c.requires.room)

pub insert-requires : goal.insert-requires
insert-requires c =
    let found : position_from (is_across c.args.place) 0 c.args.runs.now.items ≡ Some c.in-Some.at
    = ap (λ l. position_from (is_across c.args.place) 0 l) (sym c.as_slice.ensures.value) ∙ sym c.hole_across.ensures ∙ c.in-Some.is in
    let within = (is_first (is_across c.args.place) c.in-Some.at c.args.runs.now.items found).within in
    let run = get_or c.as_slice-2.result.now c.in-Some.at (record { from = 0; to = 0; by = None }) in
    let ended = record run { to = c.args.place } in
    let written = items-with_items c.args.runs.now (slice_set c.as_mut_slice.result.now c.in-Some.at ended)
    (omega (arith, length-set c.as_mut_slice.result.now c.in-Some.at ended, ap length c.as_mut_slice.ensures.value)) in
    let long = ap length written in
    let set = length-set c.as_mut_slice.result.now c.in-Some.at ended in
    let same = ap length c.as_mut_slice.ensures.value in
    (omega arith, (omega (arith, long, set, same, within), omega (arith, long, set, same, c.requires.room)))

pub returns : goal.returns
returns c =
    let found : position_from (is_across c.args.place) 0 c.args.runs.now.items ≡ Some c.in-Some.at
    = ap (λ l. position_from (is_across c.args.place) 0 l) (sym c.as_slice.ensures.value) ∙ sym c.hole_across.ensures ∙ c.in-Some.is in
    let within = (is_first (is_across c.args.place) c.in-Some.at c.args.runs.now.items found).within in
    let run = get_or c.as_slice-2.result.now c.in-Some.at (record { from = 0; to = 0; by = None }) in
    let ended = record run { to = c.args.place } in
    let written = items-with_items c.args.runs.now (slice_set c.as_mut_slice.result.now c.in-Some.at ended)
    (omega (arith, length-set c.as_mut_slice.result.now c.in-Some.at ended, ap length c.as_mut_slice.ensures.value)) in
    let read : run ≡ get_or c.args.runs.now.items c.in-Some.at run
    = get_or_default c.as_slice-2.result.now c.in-Some.at (record { from = 0; to = 0; by = None }) run (omega (arith, within, ap length c.as_slice-2.ensures.value))
    ∙ ap (λ l. get_or l c.in-Some.at run) c.as_slice-2.ensures.value in
    c.insert.ensures.items
    ∙ ap (λ l. insert l (c.in-Some.at + 1) (record run { from = c.args.place }))
    (written ∙ ap (λ l. slice_set l c.in-Some.at ended) c.as_mut_slice.ensures.value)
    ∙ cut_found c.args.place c.in-Some.at c.args.runs.now.items run found read
