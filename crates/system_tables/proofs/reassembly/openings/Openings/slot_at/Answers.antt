use Rattle.std.proofs.Common.{◌<◌, ◌∙◌, ap, arith, length, refl, sym}
use Rattle.std.specs.Prelude.{slice_get}
use Rattle.std.proofs.lemmas.Option.{slice_get_read}
use Rattle.slab.specs.Slab.{get}
use Rattle.system_tables.proofs.ReassemblyFacts.InSlots.{length-list}
use Rattle.system_tables.proofs.reassembly.openings.Openings.slot_at.Goals as goal

pub index-requires : goal.index-requires
index-requires c =
    let t = c.self.inside in
    omega (arith, c.requires, length-list (get t.buffers) t.order.items c.self.invariant.0.taken, ap (λ v. length v.list) c.self.view_is)

pub returns : goal.returns
returns c =
    let t = c.self.inside in
    let within : c.args.place < length t.order.items
    = omega (arith, c.requires, length-list (get t.buffers) t.order.items c.self.invariant.0.taken, ap (λ v. length v.list) c.self.view_is) in
    ap (λ v. slice_get v.slots c.args.place) (sym c.self.view_is)
    ∙ slice_get_read t.order.items (length t.order.items) c.args.place c.index.result.now refl within c.index.ensures
