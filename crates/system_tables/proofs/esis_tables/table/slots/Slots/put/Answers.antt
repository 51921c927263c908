-- The entry comes into a slot that was free.
use Rattle.std.proofs.Common.{◌<◌, ◌≤◌, ◌∙◌, ℕ, List, Some, ap, arith, length}
use Rattle.std.specs.List.{insert}
use Rattle.system_tables.proofs.EsisTables.Slots.{as_many, free_within, put_entries, put_taken}
use Rattle.system_tables.proofs.esis_tables.table.slots.Slots.put.Goals as goal

pub fill-slot-requires-clause-free : goal.fill-slot-requires-clause-free
fill-slot-requires-clause-free c = free_within c.self.invariant.0

pub fill-slot-requires-clause-room : goal.fill-slot-requires-clause-room
fill-slot-requires-clause-room c none =
    let room : length c.self.inside.entries.items < c.self.inside.limit
    = omega (
      arith,
      c.requires.room,
      as_many c.self.invariant.0 c.self.view_is,
      ap (λ v. v.limit) c.self.view_is,
      ap (λ (l : List ℕ). length l) none,
      c.self.invariant.0.number,
    ) in
    (omega (arith, room, c.self.invariant.2), omega (arith, room, c.self.invariant.3))

pub insert-requires : goal.insert-requires
insert-requires c = omega (arith, c.requires.place, as_many c.self.invariant.0 c.self.view_is)

pub unreachable-requires : goal.unreachable-requires
unreachable-requires c =
    omega (
      arith,
      c.requires.room,
      as_many c.self.invariant.0 c.self.view_is,
      ap (λ v. v.limit) c.self.view_is,
      c.self.invariant.4,
      c.in_default.ensures.full,
    )

pub invariant_of-self : goal.invariant_of-self
invariant_of-self c =
    let t = c.self.inside in
    let filled = c.fill-slot.ensures in
    let many = as_many c.self.invariant.0 c.self.view_is in
    let place : c.args.place ≤ length t.order.items = omega (arith, c.requires.place, many) in (
      rw c.in-Ok.ensures.items (put_taken c.self.invariant.0 (filled.taken t.order.items c.self.invariant.0) place),
      omega (
        arith,
        filled.number,
        c.self.invariant.0.number,
        c.self.invariant.1,
        c.requires.room,
        many,
        ap (λ v. v.limit) c.self.view_is,
      ),
      c.self.invariant.2,
      omega (arith, filled.room, c.self.invariant.3),
      omega (arith, c.in-Ok.ensures.capacity, c.self.invariant.4),
      omega (arith, filled.room, c.self.invariant.5),
    )

pub returns-clause-entries : goal.returns-clause-entries
returns-clause-entries c =
    let t = c.self.inside in
    let filled = c.fill-slot.ensures in
    let many = as_many c.self.invariant.0 c.self.view_is in
    let place : c.args.place ≤ length t.order.items = omega (arith, c.requires.place, many) in
    rw c.in-Ok.ensures.items (
    put_entries c.self.invariant.0 (filled.taken t.order.items c.self.invariant.0) place c.args.entry filled.others
    (filled.there ∙ ap Some c.of.ensures)
    ∙ ap (λ v. insert v.entries c.args.place c.args.entry) c.self.view_is
    )
