-- The runs of the segment's opening are filled.
use Rattle.std.proofs.Common.{◌≡◌, ◌+◌, ◌≤◌, ◌++◌, ◌∷◌, [], ℕ, Option, Some, refl, sym, subst, ◌∙◌, arith}
use Rattle.std.specs.Prelude.{IfSome, slice_get}
use Rattle.system_tables.specs.declared.reassembly.segment.Segment.{Segment}
use Rattle.system_tables.specs.Reassembly.Index.{IsIndexOf}
use Rattle.system_tables.specs.Reassembly.Offered.{openings_of}
use Rattle.system_tables.specs.Reassembly.Runs.{total_runs}
use Rattle.system_tables.proofs.ReassemblyFacts.Indexing.{empty_index, index_kept}
use Rattle.system_tables.proofs.ReassemblyFacts.Refusing.{slot_within}
use Rattle.system_tables.proofs.ReassemblyFacts.Slots.{slot_missing, slot_there}
use Rattle.pdus.proofs.ClnpBase.Choices.{none_since}
use Rattle.system_tables.proofs.reassembly.table.ending.fill_entry.Goals as goal

pub unreachable-requires : goal.unreachable-requires
unreachable-requires c =
    let segment = c.in-Some.segment in
    let one = subst (λ (e : Option Segment). IfSome e (λ s. openings_of s.key c.args.openings.now.list ≡ 1)) c.in-Some.is c.requires.owned in
    let none = slot_missing segment.key 0 c.args.openings.now.list (sym c.place_of.ensures ∙ none_since c.place_of.result c.in_default-place_of.not-Some) in
    omega (arith, none, one)

pub fill-requires-clause-slot : goal.fill-requires-clause-slot
fill-requires-clause-slot c =
    let within = slot_within c.in-Some.segment.key c.args.openings.now.list c.place_of.result (sym c.place_of.ensures) in
    let within_at = rw c.in-Some-place_of.is at within in
    omega (arith, within_at, c.requires.number)

pub fill-requires-clause-order : goal.fill-requires-clause-order
fill-requires-clause-order c runs told = c.requires.order c.in-Some-place_of.place runs told

pub fill-requires-clause-room : goal.fill-requires-clause-room
fill-requires-clause-room c =
    let room = subst (λ (e : Option Segment). IfSome e (λ s. total_runs c.args.runs.now.groups + 2 ≤ c.args.runs.now.room)) c.in-Some.is c.requires.room in
    omega (arith, room)

pub returns-in_default-clause-index : goal.returns-in_default-clause-index
returns-in_default-clause-index c before number next index =
    let none = none_since c.args.entry.now c.in_default.not-Some in
    subst (λ (e : Option Segment). IsIndexOf (before ++ e ∷ []) c.args.openings.now.list c.args.runs.now.groups) (sym none)
    (empty_index before c.args.openings.now.list c.args.runs.now.groups index)

pub returns-clause-index : goal.returns-clause-index
returns-clause-index c before number next index =
    let openings = c.args.openings.now.list in
    let segment = c.in-Some.segment in
    let there = slot_there segment.key 0 c.in-Some-place_of.place openings (sym c.place_of.ensures ∙ c.in-Some-place_of.is) in
    let slot_is : there.at ≡ c.in-Some-place_of.place = omega (arith, there.counted) in
    let at : slice_get openings c.in-Some-place_of.place ≡ Some there.opening = subst (λ (n : ℕ). slice_get openings n ≡ Some there.opening) slot_is there.stands_at in
    let kept = index_kept before openings c.args.runs.now.groups c.fill.new.self.groups segment c.in-Some-place_of.place there.opening segment.offset c.end.result c.args.by
    index next.distinct next.shaped at there.key_is refl c.end.ensures.end (sym number)
    (next.gives segment c.in-Some-place_of.place there.opening c.in-Some.is at there.key_is) c.fill.ensures.groups in
    subst (λ (e : Option Segment). IsIndexOf (before ++ e ∷ []) openings c.fill.new.self.groups) (sym c.in-Some.is) kept
