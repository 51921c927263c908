-- The slot stays taken.
use Rattle.std.proofs.Common.{◌∙◌, ap, arith}
use Rattle.std.specs.Prelude.{slice_set}
use Rattle.std.proofs.lemmas.List.{length-set}
use Rattle.system_tables.proofs.EsisTables.Slots.{as_many, set_entries, set_taken, slot_read, within_at}
use Rattle.system_tables.proofs.esis_tables.table.slots.Slots.set.Goals as goal

pub index-taken-requires : goal.index-taken-requires
index-taken-requires c = omega (arith, c.requires, as_many c.self.invariant.0 c.self.view_is)

pub index_mut-requires : goal.index_mut-requires
index_mut-requires c =
    let at = slot_read c.self.invariant.0 c.self.view_is c.requires c.index-taken.ensures c.from-slot.ensures in
    omega (arith, within_at c.self.invariant.0 c.args.place at)

pub invariant_of-self : goal.invariant_of-self
invariant_of-self c =
    let entries = c.self.inside.entries.items in
    let slot = c.from-slot.result in (
      rw c.of.ensures (set_taken c.self.invariant.0 slot c.args.entry),
      omega (arith, length-set entries slot c.of.result, c.self.invariant.1),
      c.self.invariant.2,
      c.self.invariant.3,
      c.self.invariant.4,
      c.self.invariant.5,
    )

pub returns-clause-entries : goal.returns-clause-entries
returns-clause-entries c =
    let at = slot_read c.self.invariant.0 c.self.view_is c.requires c.index-taken.ensures c.from-slot.ensures in
    rw c.of.ensures (set_entries c.self.invariant.0 c.args.place at c.args.entry
    ∙ ap (λ v. slice_set v.entries c.args.place c.args.entry) c.self.view_is)
