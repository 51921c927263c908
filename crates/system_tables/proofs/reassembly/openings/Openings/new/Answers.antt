use Rattle.std.proofs.Common.{◌*◌, ◌+◌, [], arith, refl, subst, sym}
use Rattle.system_tables.specs.Reassembly.Marks.{AreCounted}
use Rattle.system_tables.proofs.ReassemblyFacts.Marking.{counted_none}
use Rattle.system_tables.proofs.reassembly.openings.Openings.new.Goals as goal

pub invariant_of-result : goal.invariant_of-result
invariant_of-result c = (
  record {
    taken = rw c.in-Ok-with_capacity.ensures.items tt;
    apart = rw c.in-Ok-with_capacity.ensures.items tt;
    number = rw (c.in-Ok.ensures.empty, c.in-Ok-with_capacity.ensures.items) refl;
  },
  rw c.in-Ok-with_capacity.ensures.items (subst (AreCounted []) (sym c.in_ok-marks.ensures) (counted_none (8 * c.args.room + 1) (omega arith))),
  rw c.in-Ok-with_capacity.ensures.items tt,
)
