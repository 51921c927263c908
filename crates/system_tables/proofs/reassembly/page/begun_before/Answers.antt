-- The beginnings never fall.
use Rattle.std.proofs.Common.{◌≤◌, ◌<◌, ltb, rules}
use Rattle.std.proofs.lemmas.Bool.{ltb-false, ltb-true}
use Rattle.std.proofs.lemmas.List.Sorted.{IsPartitionPoint-from_clause, IsPartitionedBy-ltb}
use Rattle.system_tables.specs.declared.reassembly.runs.Run.{Run}
use Rattle.system_tables.proofs.ReassemblyFacts.Searching.{all_drop, all_take, begins_order}
use Rattle.system_tables.proofs.reassembly.page.begun_before.Goals as goal

pub returns-clause-begun : goal.returns-clause-begun
returns-clause-begun c =
    let parted = IsPartitionedBy-ltb (λ (run : Run). run.from) _ c.args.place (begins_order c.args.runs.now c.requires) in
    let point = IsPartitionPoint-from_clause (λ (run : Run). ltb run.from c.args.place) _ _ c.partition_point.ensures.partitioned parted (λ a r q k. search rules) in
    all_take (λ (run : Run). run.from < c.args.place) c.args.runs.now c.partition_point.result c.partition_point.ensures.bound (λ k d low high. ltb-true _ _ (point.0 k d low high))

pub returns-clause-others : goal.returns-clause-others
returns-clause-others c =
    let parted = IsPartitionedBy-ltb (λ (run : Run). run.from) _ c.args.place (begins_order c.args.runs.now c.requires) in
    let point = IsPartitionPoint-from_clause (λ (run : Run). ltb run.from c.args.place) _ _ c.partition_point.ensures.partitioned parted (λ a r q k. search rules) in
    all_drop (λ (run : Run). c.args.place ≤ run.from) c.args.runs.now c.partition_point.result (λ k d low high. ltb-false _ _ (point.1 k d low high))
