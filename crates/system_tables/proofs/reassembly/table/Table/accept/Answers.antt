use Rattle.std.proofs.Common.{◌∙◌, ap, refl, subst, sym}
use Rattle.std.proofs.lemmas.Bool.{false≢true}
use Rattle.system_tables.specs.Reassembly.Arrival.{arrival_of}
use Rattle.system_tables.specs.Reassembly.Buffer.{answer_of, buffers_of, with_kept}
use Rattle.system_tables.specs.Reassembly.State.{Stands, was_kept}
use Rattle.system_tables.proofs.ReassemblyFacts.NoWhole.{kept_answered, kept_stands, slot_completed, slot_whole, still_none_whole}
use Rattle.system_tables.proofs.ReassemblyFacts.Staying.{kept_slots, same_slots}
use Rattle.system_tables.proofs.reassembly.table.Table.accept.Goals as goal

pub returns-in-None-clause-whole : goal.returns-in-None-clause-whole
returns-in-None-clause-whole c = λ slot e.
    slot_whole c.args.self.now c.keep.new.self c.args.now c.args.segment c.keep.result c.requires.none_whole
    (kept_answered c.args.self.now c.keep.new.self c.args.now c.args.segment c.refusal.result c.keep.result c.refusal.ensures.refused c.in-None.is c.keep.ensures.answered)
    (kept_stands c.args.self.now c.keep.new.self c.args.now c.args.segment c.refusal.result c.keep.result c.refusal.ensures.refused c.in-None.is c.keep.ensures.stands)
    slot e (c.keep.ensures.slot slot e)

pub returns-in-None-clause-completed : goal.returns-in-None-clause-completed
returns-in-None-clause-completed c = λ slot e.
    slot_completed c.args.self.now c.keep.new.self c.args.now c.args.segment c.keep.result c.requires.none_whole
    (kept_answered c.args.self.now c.keep.new.self c.args.now c.args.segment c.refusal.result c.keep.result c.refusal.ensures.refused c.in-None.is c.keep.ensures.answered)
    (kept_stands c.args.self.now c.keep.new.self c.args.now c.args.segment c.refusal.result c.keep.result c.refusal.ensures.refused c.in-None.is c.keep.ensures.stands)
    slot e (c.keep.ensures.slot slot e)

pub returns-in-None-clause-none_whole : goal.returns-in-None-clause-none_whole
returns-in-None-clause-none_whole c =
    still_none_whole c.args.self.now c.keep.new.self c.args.now c.args.segment c.keep.result c.requires.none_whole
    (kept_answered c.args.self.now c.keep.new.self c.args.now c.args.segment c.refusal.result c.keep.result c.refusal.ensures.refused c.in-None.is c.keep.ensures.answered)
    (kept_stands c.args.self.now c.keep.new.self c.args.now c.args.segment c.refusal.result c.keep.result c.refusal.ensures.refused c.in-None.is c.keep.ensures.stands)

pub returns-in-Some-clause-slots : goal.returns-in-Some-clause-slots
returns-in-Some-clause-slots c = same_slots c.args.self.now c.args.self.now refl refl

pub returns-in-None-clause-slots : goal.returns-in-None-clause-slots
returns-in-None-clause-slots c = kept_slots c.args.now c.args.segment c.args.self.now c.keep.new.self c.keep.ensures.kept

pub refusal-requires-clause-offered : goal.refusal-requires-clause-offered
refusal-requires-clause-offered c = c.requires.offered

pub refusal-requires-clause-place : goal.refusal-requires-clause-place
refusal-requires-clause-place c = c.place_of-place.ensures

pub keep-requires-clause-moment : goal.keep-requires-clause-moment
keep-requires-clause-moment c = c.requires.moment

pub keep-requires-clause-offered : goal.keep-requires-clause-offered
keep-requires-clause-offered c = c.requires.offered

pub keep-requires-clause-place : goal.keep-requires-clause-place
keep-requires-clause-place c = c.place_of-place.ensures

pub keep-requires-clause-room : goal.keep-requires-clause-room
keep-requires-clause-room c = c.in-None.ensures.room

pub keep-requires-clause-uncovered : goal.keep-requires-clause-uncovered
keep-requires-clause-uncovered c = c.in-None.ensures.uncovered

pub returns-in-None-clause-answered : goal.returns-in-None-clause-answered
returns-in-None-clause-answered c =
    kept_answered c.args.self.now c.keep.new.self c.args.now c.args.segment c.refusal.result c.keep.result c.refusal.ensures.refused c.in-None.is c.keep.ensures.answered

pub returns-in-None-clause-stands : goal.returns-in-None-clause-stands
returns-in-None-clause-stands c =
    kept_stands c.args.self.now c.keep.new.self c.args.now c.args.segment c.refusal.result c.keep.result c.refusal.ensures.refused c.in-None.is c.keep.ensures.stands

pub returns-in-None-clause-slot : goal.returns-in-None-clause-slot
returns-in-None-clause-slot c = c.keep.ensures.slot

pub returns-in-None-clause-same : goal.returns-in-None-clause-same
returns-in-None-clause-same c e = absurd (false≢true (sym e ∙ c.keep.ensures.was_kept))

pub returns-in-None-clause-kept : goal.returns-in-None-clause-kept
returns-in-None-clause-kept c e = c.keep.ensures.kept

pub returns-in-None-clause-limits : goal.returns-in-None-clause-limits
returns-in-None-clause-limits c = c.keep.ensures.limits

pub returns-in-Some-clause-answered : goal.returns-in-Some-clause-answered
returns-in-Some-clause-answered c buffers stands =
    ap (λ r. answer_of r c.args.segment.key (with_kept c.args.self.now.limits c.args.now (arrival_of c.args.segment) buffers)) (c.in-Some.ensures.refused buffers stands)

pub returns-in-Some-clause-stands : goal.returns-in-Some-clause-stands
returns-in-Some-clause-stands c buffers stands =
    subst (λ r. Stands c.args.self.now (buffers_of r buffers (with_kept c.args.self.now.limits c.args.now (arrival_of c.args.segment) buffers))) (c.in-Some.ensures.refused buffers stands) stands

pub returns-in-Some-clause-slot : goal.returns-in-Some-clause-slot
returns-in-Some-clause-slot c slot e = absurd (false≢true (sym c.in-Some.ensures.not_kept ∙ ap was_kept e))

pub returns-in-Some-clause-whole : goal.returns-in-Some-clause-whole
returns-in-Some-clause-whole c slot e = absurd (false≢true (sym c.in-Some.ensures.not_kept ∙ ap was_kept e))

pub returns-in-Some-clause-completed : goal.returns-in-Some-clause-completed
returns-in-Some-clause-completed c slot e = absurd (false≢true (sym c.in-Some.ensures.not_kept ∙ ap was_kept e))

pub returns-in-Some-clause-none_whole : goal.returns-in-Some-clause-none_whole
returns-in-Some-clause-none_whole c not = c.requires.none_whole

pub returns-in-Some-clause-same : goal.returns-in-Some-clause-same
returns-in-Some-clause-same c e = refl

pub returns-in-Some-clause-kept : goal.returns-in-Some-clause-kept
returns-in-Some-clause-kept c e = absurd (false≢true (sym c.in-Some.ensures.not_kept ∙ e))

pub returns-in-Some-clause-limits : goal.returns-in-Some-clause-limits
returns-in-Some-clause-limits c = refl
