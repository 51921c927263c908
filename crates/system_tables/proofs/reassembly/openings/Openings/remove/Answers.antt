-- The slot that stands at the place is free then.
use Rattle.std.proofs.Common.{◌<◌, ◌≤◌, ◌∙◌, ap, arith, length, refl, subst, sym}
use Rattle.std.specs.Prelude.{slice_get}
use Rattle.std.specs.List.{AllByRecursion, remove}
use Rattle.std.proofs.lemmas.List.Edits.{length-remove}
use Rattle.std.proofs.lemmas.Option.{slice_get_read}
use Rattle.slab.specs.Slab.{ContainsKey, get}
use Rattle.pdus.proofs.ClnpBase.Lists.{AllByRecursion-slice_get}
use Rattle.system_tables.specs.Reassembly.Marks.{AreCounted, mark_of}
use Rattle.system_tables.specs.Reassembly.Openings.{openings_in}
use Rattle.system_tables.proofs.ReassemblyFacts.Marking.{counted-remove, counted_some}
use Rattle.system_tables.proofs.ReassemblyFacts.InSlots.{AllByRecursion-remove, AreApart-remove, length-list, list-remove, list_at, taken-remove}
use Rattle.system_tables.proofs.reassembly.openings.Openings.remove.Goals as goal

pub remove-slot-requires : goal.remove-slot-requires
remove-slot-requires c =
    let t = c.self.inside in
    omega (arith, c.requires, length-list (get t.buffers) t.order.items c.self.invariant.0.taken, ap (λ v. length v.list) c.self.view_is)

pub remove-opening-requires : goal.remove-opening-requires
remove-opening-requires c =
    let t = c.self.inside in
    let within : c.args.place < length t.order.items
    = omega (arith, c.requires, length-list (get t.buffers) t.order.items c.self.invariant.0.taken, ap (λ v. length v.list) c.self.view_is) in
    let slot = c.remove-slot.result in
    let at = slice_get_read t.order.items (length t.order.items) c.args.place slot refl within c.remove-slot.ensures.value in
    AllByRecursion-slice_get (ContainsKey t.buffers) t.order.items c.args.place slot at c.self.invariant.0.taken

pub subtract-requires : goal.subtract-requires
subtract-requires c =
    let t = c.self.inside in
    let within : c.args.place < length t.order.items
    = omega (arith, c.requires, length-list (get t.buffers) t.order.items c.self.invariant.0.taken, ap (λ v. length v.list) c.self.view_is) in
    let slot = c.remove-slot.result in
    let at = slice_get_read t.order.items (length t.order.items) c.args.place slot refl within c.remove-slot.ensures.value in
    let opening = c.remove-opening.result in
    let stands = list_at (get t.buffers) t.order.items c.args.place slot c.self.invariant.0.taken at ∙ c.remove-opening.ensures.value in
    counted_some t.marks (openings_in t.buffers t.order.items) c.self.invariant.1 c.args.place opening (mark_of (length t.marks) opening.key) stands refl

pub invariant_of-self : goal.invariant_of-self
invariant_of-self c =
    let t = c.self.inside in
    let within : c.args.place < length t.order.items
    = omega (arith, c.requires, length-list (get t.buffers) t.order.items c.self.invariant.0.taken, ap (λ v. length v.list) c.self.view_is) in
    let slot = c.remove-slot.result in
    let at = slice_get_read t.order.items (length t.order.items) c.args.place slot refl within c.remove-slot.ensures.value in
    let items = c.remove-slot.ensures.items in
    let shorter = length-remove t.order.items c.args.place within in
    let before = openings_in t.buffers t.order.items in
    let opening = c.remove-opening.result in
    let stands = list_at (get t.buffers) t.order.items c.args.place slot c.self.invariant.0.taken at ∙ c.remove-opening.ensures.value in
    let removed = list-remove (get t.buffers) (get c.remove-opening.new.self) slot c.remove-opening.ensures.updates.others t.order.items c.args.place
    c.self.invariant.0.apart c.self.invariant.0.taken at in
    let inside : c.args.place < length before = omega (arith, within, length-list (get t.buffers) t.order.items c.self.invariant.0.taken) in (
      record {
        taken = rw items (taken-remove (get t.buffers) (get c.remove-opening.new.self) slot c.remove-opening.ensures.updates.others t.order.items c.args.place
            c.self.invariant.0.apart c.self.invariant.0.taken at);
        apart = rw items (AreApart-remove t.order.items c.args.place within c.self.invariant.0.apart);
        number = rw items (omega (arith, c.remove-opening.ensures.len, c.self.invariant.0.number, shorter));
      },
      rw items (subst (λ l. AreCounted l c.subtract.new.self) (sym removed)
          (subst (AreCounted (remove before c.args.place)) (sym c.subtract.ensures.counts)
          (counted-remove t.marks before c.self.invariant.1 c.args.place opening (mark_of (length t.marks) opening.key) stands refl))),
      rw items (subst (AllByRecursion (λ opening. t.quiet_until ≤ opening.deadline)) (sym removed)
          (AllByRecursion-remove (λ opening. t.quiet_until ≤ opening.deadline) before c.args.place inside c.self.invariant.2)),
    )

pub returns-clause-opening : goal.returns-clause-opening
returns-clause-opening c =
    let t = c.self.inside in
    let within : c.args.place < length t.order.items
    = omega (arith, c.requires, length-list (get t.buffers) t.order.items c.self.invariant.0.taken, ap (λ v. length v.list) c.self.view_is) in
    let slot = c.remove-slot.result in
    let at = slice_get_read t.order.items (length t.order.items) c.args.place slot refl within c.remove-slot.ensures.value in
    ap (λ v. slice_get v.list c.args.place) (sym c.self.view_is)
    ∙ list_at (get t.buffers) t.order.items c.args.place slot c.self.invariant.0.taken at ∙ c.remove-opening.ensures.value

pub returns-clause-others : goal.returns-clause-others
returns-clause-others c =
    let t = c.self.inside in
    let within : c.args.place < length t.order.items
    = omega (arith, c.requires, length-list (get t.buffers) t.order.items c.self.invariant.0.taken, ap (λ v. length v.list) c.self.view_is) in
    let slot = c.remove-slot.result in
    let at = slice_get_read t.order.items (length t.order.items) c.args.place slot refl within c.remove-slot.ensures.value in
    let items = c.remove-slot.ensures.items in
    record {
      list = rw items (list-remove (get t.buffers) (get c.remove-opening.new.self) slot c.remove-opening.ensures.updates.others t.order.items c.args.place
          c.self.invariant.0.apart c.self.invariant.0.taken at ∙ ap (λ v. remove v.list c.args.place) c.self.view_is);
      slots = items ∙ ap (λ v. remove v.slots c.args.place) c.self.view_is;
    }

pub returns-clause-room : goal.returns-clause-room
returns-clause-room c =
    omega (arith, ap (λ v. v.room) c.self.view_is, c.remove-opening.ensures.capacity, c.remove-slot.ensures.capacity)
