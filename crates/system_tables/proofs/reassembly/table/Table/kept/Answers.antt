use Rattle.std.proofs.Common.{sym, subst, ap, arith}
use Rattle.system_tables.specs.Reassembly.Entries.{present}
use Rattle.system_tables.specs.Reassembly.State.{TableState, Stands}
use Rattle.system_tables.proofs.ReassemblyFacts.Counted.{number_there}
use Rattle.system_tables.proofs.reassembly.table.Table.kept.Goals as goal

pub overflow_cast-result : goal.overflow_cast-result
overflow_cast-result c = omega (arith, c.len.ensures, c.self.invariant.0.few_segments, c.self.invariant.0.segments_fit)

pub returns-clause-kept : goal.returns-clause-kept
returns-clause-kept c buffers stands =
    let t = c.self.inside in
    let number = number_there (record { limits = t.limits; openings = t.openings.list; slots = t.openings.slots; segments = present t.segments.entries }) buffers
    (subst (λ (t : TableState). Stands t buffers) (sym c.self.view_is) stands) c.self.invariant.0.owned in
    omega (arith, number, c.len.ensures)

pub returns-clause-within : goal.returns-clause-within
returns-clause-within c =
    omega (arith, c.len.ensures, c.self.invariant.0.few_segments, ap (λ (t : TableState). t.limits.segments) c.self.view_is)
