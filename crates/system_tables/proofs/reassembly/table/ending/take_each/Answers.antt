-- One run more.
use Rattle.std.proofs.Common.{◌∙◌, ℕ, List, length, sym, ap, subst, arith, refl}
use Rattle.std.specs.List.{AllByRecursion}
use Rattle.system_tables.specs.declared.reassembly.runs.Run.{Run}
use Rattle.system_tables.specs.Reassembly.Entries.{IsWithin}
use Rattle.system_tables.specs.Reassembly.Index.{emptied_by}
use Rattle.system_tables.proofs.ReassemblyFacts.Entries.{length-emptied}
use Rattle.system_tables.proofs.reassembly.table.ending.take_each.Goals as goal

pub loop-run-init : goal.loop-run-init
loop-run-init c = record { entries = refl; number = refl; room = refl; within = c.requires }

pub take-requires : goal.take-requires
take-requires c =
    let k = c.loop-run.invariant in
    subst (λ (n : ℕ). IsWithin n c.in-Some.run'.by) (sym k.number)
    (subst (AllByRecursion (λ run. IsWithin (length c.args.segments.now.entries) run.by)) c.in-Some.ensures k.within).0

pub loop-run-smaller-in-Some : goal.loop-run-smaller-in-Some
loop-run-smaller-in-Some c =
    omega (arith, ap length c.in-Some.ensures)

pub loop-run-preserved-in-Some : goal.loop-run-preserved-in-Some
loop-run-preserved-in-Some c =
    let k = c.loop-run.invariant in
    let by = c.in-Some.run'.by in
    record {
      entries = ap (emptied_by c.next.new.self) c.take.ensures.entries
          ∙ ap (λ (r : List Run). emptied_by r c.loop-run.segments.entries) (sym c.in-Some.ensures) ∙ k.entries;
      number = ap length c.take.ensures.entries ∙ length-emptied by c.loop-run.segments.entries ∙ k.number;
      room = c.take.ensures.room ∙ k.room;
      within = (subst (AllByRecursion (λ run. IsWithin (length c.args.segments.now.entries) run.by)) c.in-Some.ensures k.within).1;
    }

pub loop-run-smaller : goal.loop-run-smaller
loop-run-smaller c =
    omega (arith, ap length c.in-Some.ensures)

pub loop-run-preserved : goal.loop-run-preserved
loop-run-preserved c =
    let k = c.loop-run.invariant in
    let by = c.in-Some.run'.by in
    record {
      entries = ap (emptied_by c.next.new.self) c.take.ensures.entries
          ∙ ap (λ (r : List Run). emptied_by r c.loop-run.segments.entries) (sym c.in-Some.ensures) ∙ k.entries;
      number = ap length c.take.ensures.entries ∙ length-emptied by c.loop-run.segments.entries ∙ k.number;
      room = c.take.ensures.room ∙ k.room;
      within = (subst (AllByRecursion (λ run. IsWithin (length c.args.segments.now.entries) run.by)) c.in-Some.ensures k.within).1;
    }

pub returns-clause-entries : goal.returns-clause-entries
returns-clause-entries c =
    ap (λ (r : List Run). emptied_by r c.loop-run.segments.entries) (sym c.in_default.ensures.0) ∙ c.loop-run.invariant.entries

pub returns-clause-room : goal.returns-clause-room
returns-clause-room c = c.loop-run.invariant.room
