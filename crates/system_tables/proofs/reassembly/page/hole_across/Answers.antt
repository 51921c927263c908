-- What is at the place where the search ends.
use Rattle.std.proofs.Common.{◌∙◌, length, not, ap, sym}
use Rattle.std.proofs.lemmas.Bool.{ltb-true}
use Rattle.system_tables.proofs.ReassemblyFacts.Searching.{hole_begins, hole_found, hole_missing, no_hole}
use Rattle.system_tables.proofs.reassembly.page.hole_across.Goals as goal
use Rattle.system_tables.proofs.reassembly.page.hole_across.Goals.{else-is_none-via-then-is_none+else-run-place, else-is_none-via-else-is_none}

pub returns-in_err-run : goal.returns-in_err-run
returns-in_err-run c =
    c.from_residual.ensures ∙ hole_missing c.args.place c.args.runs.now c.ended_by-at.result c.requires c.ended_by-at.ensures.ended c.ended_by-at.ensures.others
    (sym c.in_err-run.ensures.lookup.0)

pub returns-then-run-place : goal.returns-then-run-place
returns-then-run-place c =
    let at = c.ended_by-at.result in
    let within = ltb-true at (length c.args.runs.now) (sym c.in_ok-run.ensures.lookup.0) in
    hole_found c.args.place c.args.runs.now at c.requires c.ended_by-at.ensures.ended c.ended_by-at.ensures.others c.in_ok-run.run'.now within
    c.in_ok-run.ensures.lookup.1 c.if-is_none.ensures c.if-run-place.true

pub returns-else-is_none : goal.returns-else-is_none
returns-else-is_none c =
    let at = c.ended_by-at.result in
    let within = ltb-true at (length c.args.runs.now) (sym c.in_ok-run.ensures.lookup.0) in
    elim c.else-is_none.branch [
      | else-is_none-via-then-is_none+else-run-place w ↦
          hole_begins c.args.place c.args.runs.now at c.requires c.ended_by-at.ensures.ended c.ended_by-at.ensures.others c.in_ok-run.run'.now within
          c.in_ok-run.ensures.lookup.1 w.if-run-place.false
      | else-is_none-via-else-is_none w ↦
          no_hole c.args.place c.args.runs.now at c.requires c.ended_by-at.ensures.ended c.ended_by-at.ensures.others c.in_ok-run.run'.now within
          c.in_ok-run.ensures.lookup.1 (c.is_none.ensures ∙ ap not w.if-is_none.false)
    ]
