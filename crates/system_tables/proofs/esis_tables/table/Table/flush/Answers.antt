use Rattle.std.proofs.Common.{◌≤◌, subst}
use Rattle.std.specs.List.{AllByRecursion}
use Rattle.system_tables.specs.declared.esis_tables.table.Entry.{Entry}
use Rattle.system_tables.specs.EsisTables.State.{TableState}
use Rattle.system_tables.proofs.EsisTables.Flushing.{none_ended_before}
use Rattle.system_tables.proofs.esis_tables.table.Table.flush.Goals as goal

pub returns-then-now-self-clause-flushed : goal.returns-then-now-self-clause-flushed
returns-then-now-self-clause-flushed c kept keeps =
    none_ended_before c.args.now c.self.inside.soonest c.args.self.now kept keeps c.if-now-self.true
    (subst (λ (t : TableState). AllByRecursion (λ (entry : Entry). c.self.inside.soonest ≤ entry.until) t.entries) c.self.view_is c.self.invariant.0.end)
