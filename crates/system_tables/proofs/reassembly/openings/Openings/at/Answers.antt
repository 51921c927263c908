-- By the slot that stands at the place.
use Rattle.std.proofs.Common.{◌≡◌, ◌<◌, ◌∙◌, ap, arith, length, refl, sym, subst, is_some}
use Rattle.std.specs.Prelude.{slice_get}
use Rattle.std.proofs.lemmas.Bool.{false≢true}
use Rattle.std.proofs.lemmas.Option.{slice_get_read}
use Rattle.slab.specs.Slab.{ContainsKey, get}
use Rattle.pdus.proofs.ClnpBase.Lists.{AllByRecursion-slice_get}
use Rattle.system_tables.proofs.ReassemblyFacts.InSlots.{length-list, list_at}
use Rattle.system_tables.proofs.reassembly.openings.Openings.at.Goals as goal

pub index-slot-requires : goal.index-slot-requires
index-slot-requires c =
    let t = c.self.inside in
    omega (arith, c.requires, length-list (get t.buffers) t.order.items c.self.invariant.0.taken, ap (λ v. length v.list) c.self.view_is)

pub unreachable-requires : goal.unreachable-requires
unreachable-requires c =
    let t = c.self.inside in
    let within : c.args.place < length t.order.items
    = omega (arith, c.requires, length-list (get t.buffers) t.order.items c.self.invariant.0.taken, ap (λ v. length v.list) c.self.view_is) in
    let slot = c.index-slot.result.now in
    let at = slice_get_read t.order.items (length t.order.items) c.args.place slot refl within c.index-slot.ensures in
    let taken = AllByRecursion-slice_get (ContainsKey t.buffers) t.order.items c.args.place slot at c.self.invariant.0.taken in
    false≢true (ap is_some c.in_default.ensures ∙ taken)

pub returns-clause-opening : goal.returns-clause-opening
returns-clause-opening c =
    let t = c.self.inside in
    let within : c.args.place < length t.order.items
    = omega (arith, c.requires, length-list (get t.buffers) t.order.items c.self.invariant.0.taken, ap (λ v. length v.list) c.self.view_is) in
    let slot = c.index-slot.result.now in
    let at = slice_get_read t.order.items (length t.order.items) c.args.place slot refl within c.index-slot.ensures in
    ap (λ v. slice_get v.list c.args.place) (sym c.self.view_is)
    ∙ list_at (get t.buffers) t.order.items c.args.place slot c.self.invariant.0.taken at ∙ sym c.in-Some.ensures

pub returns-clause-slots : goal.returns-clause-slots
returns-clause-slots c =
    let t = c.self.inside in
    subst (λ v. length v.slots ≡ length v.list) c.self.view_is (sym (length-list (get t.buffers) t.order.items c.self.invariant.0.taken))
