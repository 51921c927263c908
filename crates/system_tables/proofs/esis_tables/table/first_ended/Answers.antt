-- Those before the place where it begins were walked over.
use Rattle.std.proofs.Common.{ℕ, ◌∙◌, ◌<◌, ap, arith, drop, inl, inr, refl, sym, subst}
use Rattle.std.proofs.lemmas.Bool.{cases_lt}
use Rattle.std.specs.List.{position_from}
use Rattle.system_tables.specs.declared.esis_tables.table.Walk.{Walk}
use Rattle.system_tables.specs.EsisTables.State.{AreWalked}
use Rattle.system_tables.proofs.EsisTables.Flushing.{has_ended}
use Rattle.system_tables.proofs.EsisTables.Walking.{ended_behind, ended_here, held_here, soonest_more}
use Rattle.system_tables.proofs.esis_tables.table.first_ended.Goals as goal

pub loop-at-init : goal.loop-at-init
loop-at-init c =
    let entries = c.args.slots.now.entries in
    let walk = c.args.walk.now in
    let before = c.still_walked-before.result in
    elim (cases_lt c.args.now walk.soonest) [
      | inl less ↦
          let same = sym (c.still_walked-before.ensures.same less) in
          let walked = subst (λ (w : Walk). AreWalked w.entries w.soonest entries) same c.requires in
          record {
            first = ap (λ (n : ℕ). position_from (has_ended c.args.now) n (drop before.entries entries)) (omega arith)
                ∙ ended_behind c.args.now before.soonest 0 before.entries entries (subst (λ (w : Walk). c.args.now < w.soonest) same less) walked;
            walked = walked;
          }
      | inr more ↦
          let none = c.still_walked-before.ensures.none more in
          rw none (record { first = refl; walked = tt })
    ]

pub returns-then-entry-now-clause-first : goal.returns-then-entry-now-clause-first
returns-then-entry-now-clause-first c =
    sym (ended_here c.args.slots.now.entries c.loop-at.at c.at-entry.result.now c.at-entry.ensures c.args.now c.if-entry-now.true) ∙ c.loop-at.invariant.first

pub loop-at-preserved : goal.loop-at-preserved
loop-at-preserved c =
    let entries = c.args.slots.now.entries in
    record {
      first = held_here entries c.loop-at.at c.at-entry.result.now c.at-entry.ensures c.args.now c.if-entry-now.false ∙ c.loop-at.invariant.first;
      walked = soonest_more entries c.loop-at.at c.at-entry.result.now c.at-entry.ensures c.loop-at.soonest c.min-soonest.result c.min-soonest.ensures c.loop-at.invariant.walked;
    }
