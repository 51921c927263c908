-- The ends never fall.
use Rattle.std.proofs.Common.{◌≤◌, ◌<◌, leb, leb-true, rules}
use Rattle.std.proofs.lemmas.Bool.{leb-false}
use Rattle.std.proofs.lemmas.List.Sorted.{IsPartitionPoint-from_clause, IsPartitionedBy-leb}
use Rattle.system_tables.specs.declared.reassembly.runs.Run.{Run}
use Rattle.system_tables.proofs.ReassemblyFacts.Searching.{all_drop, all_take, ends_order}
use Rattle.system_tables.proofs.reassembly.page.ended_by.Goals as goal

pub returns-clause-ended : goal.returns-clause-ended
returns-clause-ended c =
    let parted = IsPartitionedBy-leb (λ (run : Run). run.to) _ c.args.place (ends_order c.args.runs.now c.requires) in
    let point = IsPartitionPoint-from_clause (λ (run : Run). leb run.to c.args.place) _ _ c.partition_point.ensures.partitioned parted (λ a r q k. search rules) in
    all_take (λ (run : Run). run.to ≤ c.args.place) c.args.runs.now c.partition_point.result c.partition_point.ensures.bound (λ k d low high. leb-true _ _ (point.0 k d low high))

pub returns-clause-others : goal.returns-clause-others
returns-clause-others c =
    let parted = IsPartitionedBy-leb (λ (run : Run). run.to) _ c.args.place (ends_order c.args.runs.now c.requires) in
    let point = IsPartitionPoint-from_clause (λ (run : Run). leb run.to c.args.place) _ _ c.partition_point.ensures.partitioned parted (λ a r q k. search rules) in
    all_drop (λ (run : Run). c.args.place < run.to) c.args.runs.now c.partition_point.result (λ k d low high. leb-false _ _ (point.1 k d low high))
