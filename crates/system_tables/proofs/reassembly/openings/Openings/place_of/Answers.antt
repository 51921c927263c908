-- A key whose mark none has has no opening; one that stands where it is looked for first stands there alone.
use Rattle.std.proofs.Common.{◌∙◌, ap, arith, refl, sym}
use Rattle.std.specs.Prelude.{slice_get}
use Rattle.slab.specs.Slab.{get}
use Rattle.std.specs.List.{position_from}
use Rattle.system_tables.specs.Reassembly.Openings.{is_of, openings_in}
use Rattle.system_tables.specs.Reassembly.State.{place_of}
use Rattle.system_tables.proofs.ReassemblyFacts.InSlots.{place-list}
use Rattle.system_tables.proofs.ReassemblyFacts.Marking.{found_at, unmarked_place}
use Rattle.system_tables.proofs.reassembly.openings.Openings.place_of.Goals as goal

pub returns-then-count_of-eq0 : goal.returns-then-count_of-eq0
returns-then-count_of-eq0 c =
    let t = c.self.inside in
    unmarked_place c.args.key.now (openings_in t.buffers t.order.items) t.marks c.self.invariant.1 c.count_of.ensures.within
    (omega (arith, c.count_of.ensures.count, c.if-count_of-eq0.true))
    ∙ ap (λ v. place_of c.args.key.now v.list) c.self.view_is

pub returns-then-is_at : goal.returns-then-is_at
returns-then-is_at c =
    found_at c.args.key.now c.args.self.now.list c.place_of-place.result (slice_get c.args.self.now.list c.place_of-place.result) c.requires refl
    (sym c.is_at.ensures ∙ c.if-is_at.true)

pub returns : goal.returns
returns c =
    let t = c.self.inside in
    let key = c.args.key.now in
    c.place_of.ensures ∙ ap (λ l. position_from (λ slot. is_of key (get t.buffers slot)) 0 l) c.deref.ensures.value
    ∙ place-list (get t.buffers) key 0 t.order.items c.self.invariant.0.taken
    ∙ ap (λ v. place_of key v.list) c.self.view_is
