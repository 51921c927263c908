-- The segments that fill the runs of the opening at the place are those of its key.
use Rattle.std.proofs.Common.{◌≡◌, ◌∙◌, ◌<◌, Option, sym, ap, subst, arith, length, refl}
use Rattle.std.specs.Prelude.{List}
use Rattle.std.specs.List.{remove}
use Rattle.std.proofs.lemmas.List.{length-map}
use Rattle.pdus.proofs.ClnpBase.Lists.{AllByRecursion-slice_get, slice_get_some}
use Rattle.system_tables.specs.declared.reassembly.runs.Run.{Run}
use Rattle.system_tables.specs.declared.reassembly.segment.Segment.{Segment}
use Rattle.system_tables.specs.declared.reassembly.openings.Opening.{Opening}
use Rattle.system_tables.specs.Reassembly.Entries.{emptied_of, present, without_key}
use Rattle.system_tables.specs.Reassembly.Index.{IsIndexOf}
use Rattle.system_tables.specs.Reassembly.Offered.{total_size}
use Rattle.system_tables.specs.Reassembly.State.{SlotsStay, TableState}
use Rattle.system_tables.proofs.ReassemblyFacts.Closing.{left_first, left_sound, left_stands}
use Rattle.system_tables.proofs.ReassemblyFacts.Emptying.{by_within, emptied_runs, first_is}
use Rattle.system_tables.proofs.ReassemblyFacts.Entries.{present-emptied}
use Rattle.system_tables.proofs.ReassemblyFacts.Indexing.{left_index}
use Rattle.system_tables.proofs.ReassemblyFacts.Staying.{left_slots}
use Rattle.system_tables.proofs.reassembly.table.Table.take_out.Goals as goal

pub group-requires : goal.group-requires
group-requires c =
    let within = subst (λ v. c.args.place < length v.openings) (sym c.self.view_is) c.requires in
    omega (arith, within, c.self.invariant.3.index_is.number)

pub take_all-first-requires : goal.take_all-first-requires
take_all-first-requires c =
    let t = c.self.inside in
    let within = subst (λ v. c.args.place < length v.openings) (sym c.self.view_is) c.requires in
    let opening = slice_get_some t.openings.list c.args.place within in
    by_within t.segments.entries opening.0 c.group.result
    (c.self.invariant.3.index_is.each c.args.place opening.0 c.group.result opening.1 c.group.ensures)

pub remove-requires : goal.remove-requires
remove-requires c =
    let within = subst (λ v. c.args.place < length v.openings) (sym c.self.view_is) c.requires in
    omega (arith, within, c.self.invariant.3.index_is.number)

pub remove-requires-2 : goal.remove-requires-2
remove-requires-2 c = subst (λ v. c.args.place < length v.openings) (sym c.self.view_is) c.requires

pub invariant_of-self : goal.invariant_of-self
invariant_of-self c =
    let t = c.self.inside in
    let opening = c.remove-2.result in
    let at = c.remove-2.ensures.opening in
    let are = c.self.invariant.3.index_is.each c.args.place opening c.group.result at c.group.ensures in
    let emptied : c.take_all-first.new.segments.entries ≡ emptied_of opening.key t.segments.entries
    = c.take_all-first.ensures.entries ∙ emptied_runs t.segments.entries opening c.group.result are in
    let others = ap present emptied ∙ present-emptied opening.key t.segments.entries in
    let index = left_index t.segments.entries t.openings.list t.runs.groups c.args.place opening c.self.invariant.3.index_is c.self.invariant.0.distinct at in
    let long = ap length emptied ∙ length-map t.segments.entries (without_key opening.key) in (
      left_sound t.limits t.openings.list t.openings.slots (present t.segments.entries) (total_size (present t.segments.entries)) c.args.place opening c.args.self.now c.self.view_is c.self.invariant.0 at c.remove-2.new.self.slots
          c.remove-2.new.self.list (present c.take_all-first.new.segments.entries) c.remove-2.ensures.others.list others (total_size (present c.take_all-first.new.segments.entries)) refl,
      omega (arith, c.self.invariant.1, c.remove-2.ensures.room),
      omega (arith, c.self.invariant.2, c.take_all-first.ensures.room),
      record {
        index_is = subst (λ (l : List (Option Segment)). IsIndexOf l c.remove-2.new.self.list c.remove.new.self.groups) (sym emptied)
            (subst (λ (l : List Opening). IsIndexOf (emptied_of opening.key t.segments.entries) l c.remove.new.self.groups) (sym c.remove-2.ensures.others.list)
            (subst (λ (l : List (List Run)). IsIndexOf (emptied_of opening.key t.segments.entries) (remove t.openings.list c.args.place) l) (sym c.remove.ensures.groups) index));
        slots = omega (arith, c.self.invariant.3.slots, c.remove.ensures.slots);
        room = omega (arith, c.self.invariant.3.room, c.remove.ensures.room);
        within = omega (arith, long, c.self.invariant.3.within, c.take_all-first.ensures.room);
        entries_fit = omega (arith, c.self.invariant.3.entries_fit, c.take_all-first.ensures.room);
        names = omega (arith, c.self.invariant.3.names, c.take_all-first.ensures.room);
      },
    )

pub returns-clause-stands : goal.returns-clause-stands
returns-clause-stands c =
    let t = c.self.inside in
    let opening = c.remove-2.result in
    let at = c.remove-2.ensures.opening in
    let are = c.self.invariant.3.index_is.each c.args.place opening c.group.result at c.group.ensures in
    let others = ap present (c.take_all-first.ensures.entries ∙ emptied_runs t.segments.entries opening c.group.result are)
    ∙ present-emptied opening.key t.segments.entries in
    left_stands t.limits t.openings.list t.openings.slots (present t.segments.entries) (total_size (present t.segments.entries)) c.args.place opening c.args.self.now c.self.view_is c.self.invariant.0 at c.remove-2.new.self.slots
    c.remove-2.new.self.list (present c.take_all-first.new.segments.entries) c.remove-2.ensures.others.list others

pub returns-clause-first : goal.returns-clause-first
returns-clause-first c = λ buffers taken stands names is_there.
    let t = c.self.inside in
    let opening = c.remove-2.result in
    let at = c.remove-2.ensures.opening in
    let are = c.self.invariant.3.index_is.each c.args.place opening c.group.result at c.group.ensures in
    let shaped = AllByRecursion-slice_get (λ (o : Opening). o.shape.head_len < o.shape.total) t.openings.list c.args.place opening at c.self.invariant.0.shaped in
    c.take_all-first.ensures.first
    ∙ first_is t.segments.entries opening c.group.result are (omega (arith, shaped))
    ∙ left_first t.limits t.openings.list t.openings.slots (present t.segments.entries) (total_size (present t.segments.entries)) c.args.place opening c.args.self.now c.self.view_is c.self.invariant.0 at c.remove-2.new.self.slots
    buffers taken stands names is_there

pub returns-clause-slots : goal.returns-clause-slots
returns-clause-slots c =
    let t = c.self.inside in
    let here : TableState = record { limits = t.limits; openings = t.openings.list; slots = t.openings.slots; segments = present t.segments.entries } in
    let new : TableState = record here { openings = c.remove-2.new.self.list; slots = c.remove-2.new.self.slots; segments = present c.take_all-first.new.segments.entries } in
    subst (λ (v : TableState). SlotsStay v new) c.self.view_is
    (left_slots here new c.args.place c.remove-2.result c.remove-2.ensures.opening c.self.invariant.0.distinct
    c.remove-2.ensures.others.list c.remove-2.ensures.others.slots)
