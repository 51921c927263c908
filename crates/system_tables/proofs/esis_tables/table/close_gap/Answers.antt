-- The least number above has nothing before it.
use Rattle.std.proofs.Common.{arith}
use Rattle.system_tables.proofs.EsisTables.Gaps.{found_fewer, found_same, least_higher, missing_fewer}
use Rattle.system_tables.proofs.esis_tables.table.close_gap.Goals as goal

pub overflow_sub-least : goal.overflow_sub-least
overflow_sub-least c =
    let entries = c.args.slots.now.entries in
    omega (arith, least_higher c.args.number entries entries c.in-Some.least c.in-Some.ensures)

pub overflow_sub-least-in-Some : goal.overflow_sub-least-in-Some
overflow_sub-least-in-Some c =
    let entries = c.args.slots.now.entries in
    omega (arith, least_higher c.args.number entries entries c.in-Some.least c.in-Some.ensures)

pub returns-in-Some-clause-same : goal.returns-in-Some-clause-same
returns-in-Some-clause-same c =
    found_same c.args.number c.args.slots.now.entries c.lower.new.slots.entries c.in-Some.least c.in-Some.ensures c.lower.ensures.entries

pub returns-in-Some-clause-fewer : goal.returns-in-Some-clause-fewer
returns-in-Some-clause-fewer c =
    found_fewer c.args.number c.args.slots.now.entries c.lower.new.slots.entries c.in-Some.least c.in-Some.ensures c.lower.ensures.entries

pub returns-in_default-clause-fewer : goal.returns-in_default-clause-fewer
returns-in_default-clause-fewer c = missing_fewer c.args.number c.args.slots.now.entries c.in_default.ensures
