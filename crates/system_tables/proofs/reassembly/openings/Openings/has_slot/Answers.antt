-- No slot stands twice.
use Rattle.std.proofs.Common.{◌<◌, ◌∙◌, ℕ, Some, ap, length, refl, sym}
use Rattle.std.specs.Prelude.{slice_get}
use Rattle.std.proofs.lemmas.Bool.{ltb-true}
use Rattle.std.proofs.lemmas.Option.{slice_get_read}
use Rattle.pdus.proofs.ClnpBase.Choices.{is_equal}
use Rattle.system_tables.proofs.ReassemblyFacts.InSlots.{same_place}
use Rattle.system_tables.proofs.reassembly.openings.Openings.has_slot.Goals as goal

pub returns-in-Some : goal.returns-in-Some
returns-in-Some c = λ is at there.
    let t = c.self.inside in
    let items = c.deref.result.now in
    let other = c.in-Some.other.now in
    let within : c.args.place < length items = ltb-true c.args.place (length items) (sym c.in-Some.ensures.lookup.0) in
    let here = ap (λ l. slice_get l c.args.place) (sym c.deref.ensures.value)
    ∙ slice_get_read items (length items) c.args.place other refl within c.in-Some.ensures.lookup.1
    ∙ ap (λ (n : ℕ). Some n) (is_equal other c.args.slot is) in
    same_place t.order.items c.args.slot c.args.place at c.self.invariant.0.apart here (ap (λ v. slice_get v.slots at) c.self.view_is ∙ there)
