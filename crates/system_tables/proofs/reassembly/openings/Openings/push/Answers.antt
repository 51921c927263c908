-- The slot was free.
use Rattle.std.proofs.Common.{◌++◌, ◌∷◌, [], ◌≤◌, ◌∙◌, ap, arith, length, is_some, refl, subst, sym}
use Rattle.std.specs.List.{AllByRecursion}
use Rattle.std.proofs.lemmas.List.{length_push}
use Rattle.slab.specs.Slab.{get}
use Rattle.pdus.proofs.ClnpBase.Lists.{AllByRecursion-implies, AllByRecursion-push}
use Rattle.system_tables.specs.Reassembly.Marks.{AreCounted, mark_of}
use Rattle.system_tables.specs.Reassembly.Openings.{openings_in}
use Rattle.system_tables.proofs.ReassemblyFacts.Marking.{counted-push, counted_few}
use Rattle.system_tables.proofs.ReassemblyFacts.InSlots.{AreApart-push, all_differ, length-list, list-push, taken-push}
use Rattle.system_tables.proofs.reassembly.openings.Openings.push.Goals as goal

pub insert_reserved-slot-requires : goal.insert_reserved-slot-requires
insert_reserved-slot-requires c =
    let t = c.self.inside in
    omega (
      arith,
      c.requires,
      length-list (get t.buffers) t.order.items c.self.invariant.0.taken,
      ap (λ v. length v.list) c.self.view_is,
      ap (λ v. v.room) c.self.view_is,
      c.self.invariant.0.number,
    )

pub unreachable-requires : goal.unreachable-requires
unreachable-requires c =
    let t = c.self.inside in
    omega (
      arith,
      c.requires,
      length-list (get t.buffers) t.order.items c.self.invariant.0.taken,
      ap (λ v. length v.list) c.self.view_is,
      ap (λ v. v.room) c.self.view_is,
      c.in_default.ensures.full,
    )

pub add-requires : goal.add-requires
add-requires c =
    let t = c.self.inside in
    omega (
      arith,
      c.requires.few,
      counted_few t.marks (openings_in t.buffers t.order.items) c.self.invariant.1 c.args.opening.key (mark_of (length t.marks) c.args.opening.key) refl,
      ap (λ v. length v.list) c.self.view_is,
    )

pub invariant_of-self : goal.invariant_of-self
invariant_of-self c =
    let t = c.self.inside in
    let insert = c.insert_reserved-slot in
    let items = c.in-Ok.ensures.items in
    let before = openings_in t.buffers t.order.items in
    let pushed = list-push (get t.buffers) (get insert.new.self) insert.result insert.ensures.updates.others insert.ensures.was_vacant
    t.order.items c.args.opening c.self.invariant.0.taken insert.ensures.updates.changed in
    let mark = mark_of (length t.marks) c.args.opening.key in
    let quiet : c.min-self-inside.result ≤ t.quiet_until = omega (arith, c.min-self-inside.ensures) in (
      record {
        taken = rw items (taken-push (get t.buffers) (get insert.new.self) insert.result insert.ensures.updates.others insert.ensures.was_vacant
            t.order.items c.self.invariant.0.taken (ap is_some insert.ensures.updates.changed));
        apart = rw items (AreApart-push t.order.items insert.result c.self.invariant.0.apart
            (all_differ (get t.buffers) (get insert.new.self) insert.result insert.ensures.updates.others insert.ensures.was_vacant t.order.items c.self.invariant.0.taken));
        number = rw items (omega (arith, insert.ensures.len, c.self.invariant.0.number, length_push t.order.items insert.result));
      },
      rw items (subst (λ l. AreCounted l c.add.new.self) (sym pushed)
          (subst (AreCounted (before ++ c.args.opening ∷ [])) (sym c.add.ensures.counts) (counted-push t.marks before c.self.invariant.1 c.args.opening mark refl))),
      rw items (subst (AllByRecursion (λ opening. c.min-self-inside.result ≤ opening.deadline)) (sym pushed)
          (AllByRecursion-push (λ opening. c.min-self-inside.result ≤ opening.deadline) before c.args.opening
          (AllByRecursion-implies (λ opening. t.quiet_until ≤ opening.deadline) (λ opening. c.min-self-inside.result ≤ opening.deadline) (λ opening h. omega (arith, h, quiet)) before c.self.invariant.2)
          (omega (arith, c.min-self-inside.ensures)))),
    )

pub returns-clause-list : goal.returns-clause-list
returns-clause-list c =
    let t = c.self.inside in
    let insert = c.insert_reserved-slot in
    rw c.in-Ok.ensures.items (list-push (get t.buffers) (get insert.new.self) insert.result insert.ensures.updates.others insert.ensures.was_vacant
    t.order.items c.args.opening c.self.invariant.0.taken insert.ensures.updates.changed
    ∙ ap (λ v. v.list ++ c.args.opening ∷ []) c.self.view_is)

pub returns-clause-slots : goal.returns-clause-slots
returns-clause-slots c = rw c.in-Ok.ensures.items (ap (λ v. v.slots ++ c.insert_reserved-slot.result ∷ []) c.self.view_is)

pub returns-clause-room : goal.returns-clause-room
returns-clause-room c =
    omega (arith, ap (λ v. v.room) c.self.view_is, c.insert_reserved-slot.ensures.capacity, c.in-Ok.ensures.capacity)
