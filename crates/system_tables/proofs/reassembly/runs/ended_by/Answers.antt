-- One of the pages tells of those before it.
use Rattle.std.proofs.Common.{◌≡◌, ℕ, suc, ◌+◌, ◌-◌, ◌≤◌, List, Some, arith, subst, take}
use Rattle.std.specs.Prelude.{slice_get}
use Rattle.std.specs.List.{AllByRecursion}
use Rattle.system_tables.specs.declared.reassembly.runs.Run.{Run}
use Rattle.system_tables.specs.Reassembly.Pages.{on_pages}
use Rattle.system_tables.specs.Reassembly.Runs.{AreInOrder, AreJoined}
use Rattle.system_tables.proofs.ReassemblyFacts.Passing.{pages_ended}
use Rattle.system_tables.proofs.reassembly.runs.ended_by.Goals as goal

up_to : (place at count : ℕ) (pages : List (List Run)) (page : List Run) → AreInOrder (on_pages pages) → slice_get pages at ≡ Some page → at + 1 ≡ count
    → ((a b : ℕ) → AreJoined a b page → b ≤ place) → AllByRecursion (λ (run : Run). run.to ≤ place) (on_pages (take count pages))
up_to place at count pages page order there same ends =
    let next : suc at ≡ count = omega (arith, same) in
    subst (λ n. AllByRecursion (λ (run : Run). run.to ≤ place) (on_pages (take n pages))) next (pages_ended place at pages page order there ends)

pub returns-then-ends_by-clause-ended : goal.returns-then-ends_by-clause-ended
returns-then-ends_by-clause-ended c =
    up_to c.args.place (c.len-then-len-gt1.result - 2) (c.len-then-ends_by.result - 1) c.args.pages.now c.page.result.now c.requires c.page.ensures
    (omega (arith, c.if-len-gt1.true, c.len.ensures, c.len-then-len-gt1.ensures, c.len-then-ends_by.ensures)) (λ a b joined. c.ends_by.ensures a b c.if-ends_by.true joined)

pub returns-then-ends_by-2-clause-ended : goal.returns-then-ends_by-2-clause-ended
returns-then-ends_by-2-clause-ended c =
    let count = c.ended_by-count.result in
    up_to c.args.place (count - 1) count c.args.pages.now c.page-then-count-gt0.result.now c.requires c.page-then-count-gt0.ensures
    (omega (arith, c.if-count-gt0.true)) (λ a b joined. c.ends_by-then-count-gt0.ensures a b c.if-ends_by-2.true joined)
