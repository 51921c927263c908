-- By the slot that stands at the place.
use Rattle.std.proofs.Common.{◌∙◌, Some, ◌<◌, ap, arith, length, sym}
use Rattle.std.specs.Option.{option_map}
use Rattle.std.specs.Prelude.{slice_get}
use Rattle.system_tables.specs.EsisTables.State.{key_in}
use Rattle.system_tables.proofs.EsisTables.Slots.{as_many, key_read, slot_read, within_at}
use Rattle.system_tables.proofs.esis_tables.table.slots.Slots.key_in_slot.Goals as goal

within : (c : goal.After-from) → c.args.place < length c.args.self.now.entries
within c = omega (arith, c.if-place-len.false, c.len.ensures, as_many c.self.invariant.0 c.self.view_is, c.self.inside.order.ok.0)

pub index-requires : goal.index-requires
index-requires c =
    let at = slot_read c.self.invariant.0 c.self.view_is (within c) c.index-taken.ensures (c.from.ensures ∙ sym c.if-taken-slot.false) in
    omega (arith, within_at c.self.invariant.0 c.args.place at)

pub returns : goal.returns
returns c =
    let there : c.args.place < length c.args.self.now.entries =
    omega (arith, c.if-place-len.false, c.len.ensures, as_many c.self.invariant.0 c.self.view_is, c.self.inside.order.ok.0) in
    let at = slot_read c.self.invariant.0 c.self.view_is there c.index-taken.ensures (c.from.ensures ∙ sym c.if-taken-slot.false) in (
      there,
      ap (λ v. option_map key_in (slice_get v.entries c.args.place)) (sym c.self.view_is)
          ∙ key_read c.self.invariant.0 c.args.place at c.index.result.now c.index.ensures
          ∙ ap (λ entry. Some entry.key) (sym c.behind-self.view_is),
    )
