use Rattle.std.proofs.Common.{◌∙◌, ap, arith, sym, subst}
use Rattle.system_tables.specs.Reassembly.Entries.{present}
use Rattle.system_tables.specs.Reassembly.State.{TableState, Stands}
use Rattle.system_tables.proofs.ReassemblyFacts.Counted.{held_there}
use Rattle.system_tables.proofs.reassembly.table.Table.held.Goals as goal

pub returns-clause-held : goal.returns-clause-held
returns-clause-held c buffers stands =
    let t = c.self.inside in
    c.held.ensures
    ∙ sym (held_there (record { limits = t.limits; openings = t.openings.list; slots = t.openings.slots; segments = present t.segments.entries }) buffers
    (subst (λ (t : TableState). Stands t buffers) (sym c.self.view_is) stands) c.self.invariant.0.owned)

pub returns-clause-within : goal.returns-clause-within
returns-clause-within c =
    omega (arith, c.held.ensures, c.self.invariant.0.budget, ap (λ (t : TableState). t.limits.budget) c.self.view_is)
