-- The slot that stood at the place is free then.
use Rattle.std.proofs.Common.{◌∙◌, Some, ap, arith, refl, sym}
use Rattle.std.specs.Prelude.{slice_get, slice_index_or}
use Rattle.std.specs.List.{remove}
use Rattle.system_tables.proofs.EsisTables.Slots.{as_many, entry_read, out_entries, out_taken, slot_read, within_at}
use Rattle.system_tables.proofs.esis_tables.table.slots.Slots.take_out.Goals as goal

pub remove-slot-requires : goal.remove-slot-requires
remove-slot-requires c = omega (arith, c.requires, as_many c.self.invariant.0 c.self.view_is)

pub index-requires : goal.index-requires
index-requires c =
    let at = slot_read c.self.invariant.0 c.self.view_is c.requires c.remove-slot.ensures.value refl in
    omega (arith, within_at c.self.invariant.0 c.args.place at, c.from.ensures)

pub invariant_of-self : goal.invariant_of-self
invariant_of-self c =
    let at = slot_read c.self.invariant.0 c.self.view_is c.requires c.remove-slot.ensures.value refl in (
      rw (c.remove-slot.ensures.items, c.in-Ok.ensures.items) (out_taken c.self.invariant.0 c.args.place at),
      c.self.invariant.1,
      c.self.invariant.2,
      c.self.invariant.3,
      omega (arith, c.remove-slot.ensures.capacity, c.self.invariant.4),
      omega (arith, c.in-Ok.ensures.capacity, c.self.invariant.5),
    )

pub returns-clause-entry : goal.returns-clause-entry
returns-clause-entry c =
    let at = slot_read c.self.invariant.0 c.self.view_is c.requires c.remove-slot.ensures.value refl in
    ap (λ v. slice_get v.entries c.args.place) (sym c.self.view_is)
    ∙ entry_read c.self.invariant.0 c.args.place at c.index.result.now
    (c.index.ensures ∙ ap (λ n. slice_index_or c.self.inside.entries.items n c.index.result.now) c.from.ensures)
    ∙ ap Some (sym c.behind-self.view_is)

pub returns-clause-entries : goal.returns-clause-entries
returns-clause-entries c =
    let at = slot_read c.self.invariant.0 c.self.view_is c.requires c.remove-slot.ensures.value refl in
    let entries = out_entries c.self.invariant.0 c.args.place at in
    rw c.remove-slot.ensures.items (entries ∙ ap (λ v. remove v.entries c.args.place) c.self.view_is)
