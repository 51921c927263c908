-- Each cut makes one run more at most.
use Rattle.std.proofs.Common.{◌<◌, ◌∙◌, ap, arith, length, subst, sym}
use Rattle.std.proofs.lemmas.List.{length-map}
use Rattle.arrayvec.proofs.ArrayVecLemmas.{items-with_items}
use Rattle.system_tables.specs.Reassembly.Runs.{AreInOrder, marked}
use Rattle.system_tables.proofs.ReassemblyFacts.Filling.{length-cut}
use Rattle.system_tables.proofs.ReassemblyFacts.Searching.{cut_order}
use Rattle.system_tables.proofs.reassembly.page.Page.fill.Goals as goal

pub cut_hole-requires-2-clause-room : goal.cut_hole-requires-2-clause-room
cut_hole-requires-2-clause-room c =
    let runs = c.self.inside.runs.items in
    omega (arith, ap length c.cut_hole.ensures, length-cut c.args.from runs, ap length c.self.view_is, c.requires.room)

pub cut_hole-requires-2-clause-order : goal.cut_hole-requires-2-clause-order
cut_hole-requires-2-clause-order c =
    let runs = c.self.inside.runs.items in
    subst AreInOrder (sym c.cut_hole.ensures) (cut_order c.args.from runs (subst AreInOrder (sym c.self.view_is) c.requires.order))

pub mark_holes-requires : goal.mark_holes-requires
mark_holes-requires c =
    let runs = c.self.inside.runs.items in
    let first = subst AreInOrder (sym c.cut_hole.ensures) (cut_order c.args.from runs (subst AreInOrder (sym c.self.view_is) c.requires.order)) in
    subst AreInOrder (sym (c.as_mut_slice.ensures.value ∙ c.cut_hole-2.ensures)) (cut_order c.args.to c.cut_hole.new.runs.items first)

pub invariant_of-self : goal.invariant_of-self
invariant_of-self c =
    let runs = c.self.inside.runs.items in
    let same = ap length c.as_mut_slice.ensures.value in
    let marks = ap length c.mark_holes.ensures in
    let long = length-map c.as_mut_slice.result.now (marked c.args.from c.args.to c.args.by) in
    let written = items-with_items c.cut_hole-2.new.runs c.mark_holes.new.runs (omega (arith, same, marks, long)) in
    subst (λ l. length l < 64) (sym written)
    (omega (
      arith,
      same,
      marks,
      long,
      ap length c.cut_hole-2.ensures,
      length-cut c.args.to c.cut_hole.new.runs.items,
      ap length c.cut_hole.ensures,
      length-cut c.args.from runs,
      ap length c.self.view_is,
      c.requires.room,
    ))
