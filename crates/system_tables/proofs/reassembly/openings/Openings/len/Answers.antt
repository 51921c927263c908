use Rattle.std.proofs.Common.{ap, arith, length}
use Rattle.slab.specs.Slab.{get}
use Rattle.system_tables.proofs.ReassemblyFacts.InSlots.{length-list}
use Rattle.system_tables.proofs.reassembly.openings.Openings.len.Goals as goal

pub returns-clause-openings : goal.returns-clause-openings
returns-clause-openings c =
    let t = c.self.inside in
    omega (arith, length-list (get t.buffers) t.order.items c.self.invariant.0.taken, ap (λ v. length v.list) c.self.view_is)

pub returns-clause-slots : goal.returns-clause-slots
returns-clause-slots c = omega (arith, ap (λ v. length v.slots) c.self.view_is)
