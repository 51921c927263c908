-- The group of the unit is cut twice, and then marked.
use Rattle.std.proofs.Common.{length, map, ap, sym, subst, ◌∙◌, arith}
use Rattle.std.specs.Prelude.{slice_get, slice_set}
use Rattle.std.proofs.lemmas.List.{length-set}
use Rattle.pdus.proofs.ClnpBase.Lists.{slice_get-set, slice_get_some}
use Rattle.system_tables.specs.Reassembly.Runs.{AreInOrder, cut, marked, total_runs}
use Rattle.system_tables.proofs.ReassemblyFacts.Filling.{length-cut}
use Rattle.std.proofs.lemmas.Option.{same_Some}
use Rattle.system_tables.proofs.ReassemblyFacts.Searching.{cut_order}
use Rattle.system_tables.proofs.ReassemblyFacts.Groups.{set-set, total-set}
use Rattle.system_tables.proofs.reassembly.runs.Runs.fill_pages.Goals as goal

pub cut-requires-2-clause-slot : goal.cut-requires-2-clause-slot
cut-requires-2-clause-slot c =
    let there = slice_get_some c.args.self.now.groups c.args.slot c.requires.slot in
    let first = cut c.args.from there.0 in
    omega (arith, ap length (c.cut.ensures.groups there.0 there.1), length-set c.args.self.now.groups c.args.slot first, c.requires.slot)

pub cut-requires-2-clause-room : goal.cut-requires-2-clause-room
cut-requires-2-clause-room c =
    let there = slice_get_some c.args.self.now.groups c.args.slot c.requires.slot in
    let first = cut c.args.from there.0 in
    omega (
      arith,
      ap total_runs (c.cut.ensures.groups there.0 there.1),
      total-set c.args.self.now.groups c.args.slot there.0 first there.1,
      length-cut c.args.from there.0,
      c.requires.room,
      c.cut.ensures.room,
    )

pub cut-requires-2-clause-order : goal.cut-requires-2-clause-order
cut-requires-2-clause-order c runs told =
    let there = slice_get_some c.args.self.now.groups c.args.slot c.requires.slot in
    let first = cut c.args.from there.0 in
    let once = ap (λ l. slice_get l c.args.slot) (c.cut.ensures.groups there.0 there.1) ∙ slice_get-set c.args.self.now.groups c.args.slot first c.requires.slot in
    subst AreInOrder (same_Some first runs (sym once ∙ told)) (cut_order c.args.from there.0 (c.requires.order there.0 there.1))

pub mark-requires-clause-order : goal.mark-requires-clause-order
mark-requires-clause-order c runs told =
    let groups = c.args.self.now.groups in
    let slot = c.args.slot in
    let there = slice_get_some groups slot c.requires.slot in
    let first = cut c.args.from there.0 in
    let once = c.cut.ensures.groups there.0 there.1 in
    let second = cut c.args.to first in
    let twice = c.cut-2.ensures.groups first (ap (λ l. slice_get l slot) once ∙ slice_get-set groups slot first c.requires.slot)
    ∙ ap (λ l. slice_set l slot second) once ∙ set-set groups slot first second in
    let is = ap (λ l. slice_get l slot) twice ∙ slice_get-set groups slot second c.requires.slot in
    subst AreInOrder (same_Some second runs (sym is ∙ told)) (cut_order c.args.to first (cut_order c.args.from there.0 (c.requires.order there.0 there.1)))

pub mark-requires-clause-slot : goal.mark-requires-clause-slot
mark-requires-clause-slot c =
    let there = slice_get_some c.args.self.now.groups c.args.slot c.requires.slot in
    let first = cut c.args.from there.0 in
    let once = c.cut.ensures.groups there.0 there.1 in
    let second = cut c.args.to first in
    let twice = c.cut-2.ensures.groups first (ap (λ l. slice_get l c.args.slot) once ∙ slice_get-set c.args.self.now.groups c.args.slot first c.requires.slot) in
    omega (arith, ap length once, length-set c.args.self.now.groups c.args.slot first, ap length twice, length-set c.cut.new.self.groups c.args.slot second, c.requires.slot)

pub returns-clause-groups : goal.returns-clause-groups
returns-clause-groups c runs told =
    let groups = c.args.self.now.groups in
    let slot = c.args.slot in
    let first = cut c.args.from runs in
    let once = c.cut.ensures.groups runs told in
    let second = cut c.args.to first in
    let twice = c.cut-2.ensures.groups first (ap (λ l. slice_get l slot) once ∙ slice_get-set groups slot first c.requires.slot)
    ∙ ap (λ l. slice_set l slot second) once ∙ set-set groups slot first second in
    let third = map (marked c.args.from c.args.to c.args.by) second in
    c.mark.ensures.groups second (ap (λ l. slice_get l slot) twice ∙ slice_get-set groups slot second c.requires.slot)
    ∙ ap (λ l. slice_set l slot third) twice ∙ set-set groups slot second third
