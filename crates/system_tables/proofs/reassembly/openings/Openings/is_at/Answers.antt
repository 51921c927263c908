-- By the slot that stands at the place.
use Rattle.std.proofs.Common.{◌<◌, ◌≤◌, ◌∙◌, ap, length, refl, sym}
use Rattle.std.specs.Prelude.{slice_get}
use Rattle.std.proofs.lemmas.Bool.{ltb-false, ltb-true}
use Rattle.std.proofs.lemmas.Option.{slice_get_past, slice_get_read}
use Rattle.slab.specs.Slab.{get}
use Rattle.system_tables.specs.Reassembly.Openings.{is_of}
use Rattle.system_tables.proofs.ReassemblyFacts.InSlots.{list_at, nothing_at}
use Rattle.system_tables.proofs.reassembly.openings.Openings.is_at.Goals as goal

pub returns-in-Some : goal.returns-in-Some
returns-in-Some c =
    let t = c.self.inside in
    let items = c.deref.result.now in
    let slot = c.in-Some.slot.now in
    let within : c.args.place < length items = ltb-true c.args.place (length items) (sym c.in-Some.ensures.lookup.0) in
    let at = ap (λ l. slice_get l c.args.place) (sym c.deref.ensures.value)
    ∙ slice_get_read items (length items) c.args.place slot refl within c.in-Some.ensures.lookup.1 in
    c.is_of.ensures ∙ sym (ap (is_of c.args.key.now) (ap (λ v. slice_get v.list c.args.place) (sym c.self.view_is)
    ∙ list_at (get t.buffers) t.order.items c.args.place slot c.self.invariant.0.taken at))

pub returns-in-None : goal.returns-in-None
returns-in-None c =
    let t = c.self.inside in
    let items = c.deref.result.now in
    let past : length items ≤ c.args.place = ltb-false c.args.place (length items) (sym c.in-None.ensures.lookup.0) in
    let at = ap (λ l. slice_get l c.args.place) (sym c.deref.ensures.value) ∙ slice_get_past items c.args.place past in
    sym (ap (is_of c.args.key.now) (ap (λ v. slice_get v.list c.args.place) (sym c.self.view_is)
    ∙ nothing_at (get t.buffers) t.order.items c.args.place c.self.invariant.0.taken at))
