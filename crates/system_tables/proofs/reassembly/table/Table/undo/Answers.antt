-- The last segment of the slot's key is taken out, and the slot's opening where no other has the key.
use Rattle.std.proofs.Common.{◌≡◌, ◌<◌, ◌∙◌, ap, arith, inl, inr, length, refl, subst, sym, Option, Some}
use Rattle.std.specs.Prelude.{◌^◌, List, slice_get}
use Rattle.std.specs.List.{AllByRecursion, remove}
use Rattle.std.proofs.lemmas.Option.{slice_get_within}
use Rattle.system_tables.specs.declared.reassembly.segment.Segment.{Segment}
use Rattle.system_tables.specs.Reassembly.Index.{IsIndexOf, MayBeIndexed}
use Rattle.system_tables.proofs.ReassemblyFacts.Entries.{length-emptied}
use Rattle.system_tables.proofs.ReassemblyFacts.Indexing.{indexable, undone_give}
use Rattle.system_tables.specs.Reassembly.Ending.{without_last}
use Rattle.system_tables.specs.Reassembly.Entries.{present}
use Rattle.system_tables.specs.Reassembly.Offered.{MayCome, total_size}
use Rattle.system_tables.specs.Reassembly.State.{SlotsStay, TableState, segments_of}
use Rattle.system_tables.proofs.ReassemblyFacts.AsBefore.{as_before}
use Rattle.system_tables.proofs.ReassemblyFacts.Closing.{empty_or_not, undo_sound, undo_stands}
use Rattle.system_tables.proofs.ReassemblyFacts.NoWhole.{undone_none_whole}
use Rattle.system_tables.proofs.ReassemblyFacts.Standing.{key_at}
use Rattle.system_tables.proofs.ReassemblyFacts.Staying.{left_slots, same_slots}
use Rattle.system_tables.proofs.reassembly.table.Table.undo.Goals as goal

pub at-requires : goal.at-requires
at-requires c =
    let is = c.place_at-place.ensures c.requires.buffer.key c.requires.named in
    slice_get_within c.self.inside.openings.list c.place_at-place.result is.opening
    (ap (λ v. slice_get v.openings c.place_at-place.result) c.self.view_is ∙ is.stands_at)

pub reindex-requires-clause-kept : goal.reindex-requires-clause-kept
reindex-requires-clause-kept c =
    let t = c.self.inside in
    let same = ap (λ l. segments_of c.at.result.now.key (present l)) c.entries.ensures in
    let sound = undo_sound t.limits t.openings.list t.openings.slots (present t.segments.entries) (total_size (present t.segments.entries)) c.place_at-place.result c.at.result.now c.args.self.now c.self.view_is c.self.invariant.0 c.at.ensures.opening c.close_empty.new.openings.slots
    (present c.take_last.new.self.entries) c.take_last.ensures.present c.close_empty.new.openings.list
    (λ none. (c.close_empty.ensures.closed (same ∙ none)).list) (λ more. ap (λ o. o.list) (c.close_empty.ensures.open (λ none. more (sym same ∙ none))))
    (total_size (present c.take_last.new.self.entries)) refl in
    let taken = c.take_last.ensures.entries in
    let fit : length c.take_last.new.self.entries < 2 ^ 16 = omega (
      arith,
      ap length taken.1,
      length-emptied taken.0 t.segments.entries,
      c.self.invariant.3.within,
      c.self.invariant.3.entries_fit,
    ) in
    let each = undone_give t.segments.entries c.take_last.new.self.entries t.openings.list c.close_empty.new.openings.list t.runs.groups taken.0 c.place_at-place.result
    c.self.invariant.3.index_is taken.1
    (elim (empty_or_not (segments_of c.at.result.now.key (present c.take_last.new.self.entries))) [
      | inl none ↦ inl (c.close_empty.ensures.closed (same ∙ none)).list
      | inr more ↦ inr (ap (λ o. o.list) (c.close_empty.ensures.open (λ none. more (sym same ∙ none))))
    ]) in
    subst (λ (l : List (Option Segment)). MayBeIndexed c.close_empty.new.openings.list l) (sym c.entries-2.ensures)
    (indexable t.limits c.close_empty.new.openings.list c.take_last.new.self.entries (total_size (present c.take_last.new.self.entries)) sound fit each)

pub reindex-requires-clause-slots : goal.reindex-requires-clause-slots
reindex-requires-clause-slots c =
    let t = c.self.inside in
    let same = ap (λ l. segments_of c.at.result.now.key (present l)) c.entries.ensures in
    let sound = undo_sound t.limits t.openings.list t.openings.slots (present t.segments.entries) (total_size (present t.segments.entries)) c.place_at-place.result c.at.result.now c.args.self.now c.self.view_is c.self.invariant.0 c.at.ensures.opening c.close_empty.new.openings.slots
    (present c.take_last.new.self.entries) c.take_last.ensures.present c.close_empty.new.openings.list
    (λ none. (c.close_empty.ensures.closed (same ∙ none)).list) (λ more. ap (λ o. o.list) (c.close_empty.ensures.open (λ none. more (sym same ∙ none))))
    (total_size (present c.take_last.new.self.entries)) refl in
    omega (arith, sound.few_openings, c.self.invariant.3.slots)

pub reindex-requires-clause-room : goal.reindex-requires-clause-room
reindex-requires-clause-room c =
    let t = c.self.inside in
    let same = ap (λ l. segments_of c.at.result.now.key (present l)) c.entries.ensures in
    let sound = undo_sound t.limits t.openings.list t.openings.slots (present t.segments.entries) (total_size (present t.segments.entries)) c.place_at-place.result c.at.result.now c.args.self.now c.self.view_is c.self.invariant.0 c.at.ensures.opening c.close_empty.new.openings.slots
    (present c.take_last.new.self.entries) c.take_last.ensures.present c.close_empty.new.openings.list
    (λ none. (c.close_empty.ensures.closed (same ∙ none)).list) (λ more. ap (λ o. o.list) (c.close_empty.ensures.open (λ none. more (sym same ∙ none))))
    (total_size (present c.take_last.new.self.entries)) refl in
    omega (arith, sound.few_openings, sound.few_segments, c.self.invariant.3.room, ap (λ l. length (present l)) c.entries-2.ensures)

pub invariant_of-self : goal.invariant_of-self
invariant_of-self c =
    let t = c.self.inside in
    let same = ap (λ l. segments_of c.at.result.now.key (present l)) c.entries.ensures in
    let sound = undo_sound t.limits t.openings.list t.openings.slots (present t.segments.entries) (total_size (present t.segments.entries)) c.place_at-place.result c.at.result.now c.args.self.now c.self.view_is c.self.invariant.0 c.at.ensures.opening c.close_empty.new.openings.slots
    (present c.take_last.new.self.entries) c.take_last.ensures.present c.close_empty.new.openings.list
    (λ none. (c.close_empty.ensures.closed (same ∙ none)).list) (λ more. ap (λ o. o.list) (c.close_empty.ensures.open (λ none. more (sym same ∙ none))))
    (total_size (present c.take_last.new.self.entries)) refl in (
      sound,
      omega (arith, c.self.invariant.1, c.close_empty.ensures.room),
      omega (arith, c.self.invariant.2, c.take_last.ensures.room),
      record {
        index_is = subst (λ (l : List (Option Segment)). IsIndexOf l c.close_empty.new.openings.list c.reindex.new.runs.groups) c.entries-2.ensures c.reindex.ensures.index;
        slots = omega (arith, c.self.invariant.3.slots, c.reindex.ensures.slots);
        room = omega (arith, c.self.invariant.3.room, c.reindex.ensures.room);
        within = omega (
          arith,
          ap length c.take_last.ensures.entries.1,
          length-emptied c.take_last.ensures.entries.0 t.segments.entries,
          c.self.invariant.3.within,
          c.take_last.ensures.room,
        );
        entries_fit = omega (arith, c.self.invariant.3.entries_fit, c.take_last.ensures.room);
        names = omega (arith, c.self.invariant.3.names, c.take_last.ensures.room);
      },
    )

pub returns-clause-stands : goal.returns-clause-stands
returns-clause-stands c buffers key stands named =
    let t = c.self.inside in
    let same = ap (λ l. segments_of c.at.result.now.key (present l)) c.entries.ensures in
    undo_stands t.limits t.openings.list t.openings.slots (present t.segments.entries) (total_size (present t.segments.entries)) c.place_at-place.result c.at.result.now c.args.self.now c.self.view_is c.self.invariant.0 c.at.ensures.opening c.close_empty.new.openings.slots
    (present c.take_last.new.self.entries) c.take_last.ensures.present c.close_empty.new.openings.list
    (λ none. (c.close_empty.ensures.closed (same ∙ none)).list) (λ more. ap (λ o. o.list) (c.close_empty.ensures.open (λ none. more (sym same ∙ none))))
    buffers key stands (c.place_at-place.ensures key named)

pub returns-clause-none_whole : goal.returns-clause-none_whole
returns-clause-none_whole c = undone_none_whole c.args.self.now _ c.args.slot.0 (returns-clause-stands c)

pub returns-clause-as_before : goal.returns-clause-as_before
returns-clause-as_before c before now segment kept named =
    let t = c.self.inside in
    let place = c.place_at-place.result in
    let closed = c.at.result.now in
    let same = ap (λ l. segments_of closed.key (present l)) c.entries.ensures in
    let new : TableState = record {
      limits = t.limits;
      openings = c.close_empty.new.openings.list;
      slots = c.close_empty.new.openings.slots;
      segments = (present c.take_last.new.self.entries);
    } in
    let at : slice_get c.args.self.now.openings place ≡ Some closed = ap (λ v. slice_get v.openings place) (sym c.self.view_is) ∙ c.at.ensures.opening in
    let key_is = key_at c.args.self.now place closed segment.key at (c.place_at-place.ensures segment.key named) in
    let own = key_at c.args.self.now place closed c.requires.buffer.key at (c.place_at-place.ensures c.requires.buffer.key c.requires.named) in
    as_before before c.args.self.now new now place c.args.slot.0 segment closed kept at key_is
    (subst (λ v. length v.slots ≡ length v.openings) c.self.view_is c.at.ensures.slots)
    (subst (λ v. AllByRecursion MayCome v.segments) c.self.view_is c.self.invariant.0.came)
    c.requires (sym own ∙ key_is) (ap (λ v. v.limits) c.self.view_is)
    (c.take_last.ensures.present ∙ ap (λ v. without_last closed.key v.segments) c.self.view_is)
    (λ none. (
      (c.close_empty.ensures.closed (same ∙ none)).list ∙ ap (λ v. remove v.openings place) c.self.view_is,
      (c.close_empty.ensures.closed (same ∙ none)).slots ∙ ap (λ v. remove v.slots place) c.self.view_is,
    ))
    (λ more. (
      ap (λ o. o.list) (c.close_empty.ensures.open (λ none. more (sym same ∙ none))) ∙ ap (λ v. v.openings) c.self.view_is,
      ap (λ o. o.slots) (c.close_empty.ensures.open (λ none. more (sym same ∙ none))) ∙ ap (λ v. v.slots) c.self.view_is,
    ))

pub returns-clause-slots : goal.returns-clause-slots
returns-clause-slots c =
    let t = c.self.inside in
    let closed = c.at.result.now in
    let same = ap (λ l. segments_of closed.key (present l)) c.entries.ensures in
    let here : TableState = record { limits = t.limits; openings = t.openings.list; slots = t.openings.slots; segments = present t.segments.entries } in
    let new : TableState = record here {
      openings = c.close_empty.new.openings.list;
      slots = c.close_empty.new.openings.slots;
      segments = (present c.take_last.new.self.entries);
    } in
    subst (λ (v : TableState). SlotsStay v new) c.self.view_is
    (elim (empty_or_not (segments_of closed.key (present c.take_last.new.self.entries))) [
      | inl none ↦ left_slots here new c.place_at-place.result closed c.at.ensures.opening c.self.invariant.0.distinct
          (c.close_empty.ensures.closed (same ∙ none)).list (c.close_empty.ensures.closed (same ∙ none)).slots
      | inr more ↦ same_slots here new (ap (λ o. o.list) (c.close_empty.ensures.open (λ none. more (sym same ∙ none))))
          (ap (λ o. o.slots) (c.close_empty.ensures.open (λ none. more (sym same ∙ none))))
    ])
