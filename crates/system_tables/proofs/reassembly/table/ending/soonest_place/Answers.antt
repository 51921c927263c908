-- The opening found so far, after the next one.
use Rattle.std.proofs.Common.{◌+◌, ℕ, subst, sym, arith, Option}
use Rattle.std.proofs.lemmas.Option.{get_or_from_slice_get, slice_get_within}
use Rattle.system_tables.proofs.ReassemblyFacts.Due.{IsFound, found_next, found_none, found_some, found_stays}
use Rattle.system_tables.proofs.reassembly.table.ending.soonest_place.Goals as goal
use Rattle.system_tables.proofs.reassembly.table.ending.soonest_place.Goals.{then-is_sooner, else-is_sooner}

pub loop-place-preserved : goal.loop-place-preserved
loop-place-preserved c =
    let openings = c.args.openings.now.list in
    let place = c.loop-place.place in
    let next = c.at.result.now in
    let within = slice_get_within openings place next c.at.ensures.opening in
    let read = sym (get_or_from_slice_get openings place next next c.at.ensures.opening) in
    let found = c.loop-place.found in
    let Holds : Option ℕ → Type 0 = λ o. IsFound openings (place + 1) o in
    elim c.if-is_sooner.branch [
      | then-is_sooner w ↦ subst Holds (sym w.found-is)
          (found_next openings place next within read found w.if-is_sooner.ensures c.loop-place.invariant)
      | else-is_sooner w ↦ subst Holds (sym w.found-is)
          (found_stays openings place next within read found w.if-is_sooner.ensures c.loop-place.invariant)
    ]

pub returns-clause-none : goal.returns-clause-none
returns-clause-none c = found_none c.args.openings.now.list c.loop-place.place c.loop-place.found (omega arith) c.loop-place.invariant

pub returns-clause-soonest : goal.returns-clause-soonest
returns-clause-soonest c = found_some c.args.openings.now.list c.loop-place.place c.loop-place.found (omega arith) c.loop-place.invariant
