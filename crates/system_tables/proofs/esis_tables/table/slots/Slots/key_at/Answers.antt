-- By the slot that stands at the place.
use Rattle.std.proofs.Common.{◌∙◌, Some, ap, arith, sym}
use Rattle.std.specs.Option.{option_map}
use Rattle.std.specs.Prelude.{slice_get}
use Rattle.system_tables.specs.EsisTables.State.{key_in}
use Rattle.system_tables.proofs.EsisTables.Slots.{as_many, key_read, slot_read, within_at}
use Rattle.system_tables.proofs.esis_tables.table.slots.Slots.key_at.Goals as goal

pub index-requires : goal.index-requires
index-requires c = omega (arith, c.requires, as_many c.self.invariant.0 c.self.view_is)

pub index-requires-2 : goal.index-requires-2
index-requires-2 c =
    let at = slot_read c.self.invariant.0 c.self.view_is c.requires c.index.ensures c.from-slot.ensures in
    omega (arith, within_at c.self.invariant.0 c.args.place at)

pub returns : goal.returns
returns c =
    let at = slot_read c.self.invariant.0 c.self.view_is c.requires c.index.ensures c.from-slot.ensures in
    ap (λ v. option_map key_in (slice_get v.entries c.args.place)) (sym c.self.view_is)
    ∙ key_read c.self.invariant.0 c.args.place at c.index-2.result.now c.index-2.ensures
    ∙ ap (λ entry. Some entry.key) (sym c.behind-self.view_is)
