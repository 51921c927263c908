use Rattle.system_tables.proofs.EsisTables.LookingUp.{held_there, ended_there, held_nowhere}
use Rattle.system_tables.proofs.EsisTables.Hearing.{at_within}
use Rattle.system_tables.proofs.esis_tables.table.Table.held.Goals as goal

pub returns-in_default : goal.returns-in_default
returns-in_default c rising =
    held_nowhere c.args.now c.args.self.now.entries c.args.key.now c.in_default.field-0 (c.in_default.ensures.absent rising)

pub at-entry-requires : goal.at-entry-requires
at-entry-requires c = at_within c.args.self.now.entries c.args.key.now c.in-Ok.at c.in-Ok.ensures.found

pub returns-then-now-entry : goal.returns-then-now-entry
returns-then-now-entry c rising =
    held_there c.args.now c.args.self.now.entries c.args.key.now c.in-Ok.at c.at-entry.result.now c.in-Ok.ensures.found
    c.at-entry.ensures c.if-now-entry.true rising

pub returns-else-now-entry : goal.returns-else-now-entry
returns-else-now-entry c rising =
    ended_there c.args.now c.args.self.now.entries c.args.key.now c.in-Ok.at c.at-entry.result.now c.in-Ok.ensures.found
    c.at-entry.ensures c.if-now-entry.false rising
