-- The place that is found is that of the due buffer.
use Rattle.std.proofs.Common.{◌≡◌, ◌∙◌, ◌<◌, sym, ap, subst, length, refl, List, Some}
use Rattle.std.specs.Prelude.{slice_get}
use Rattle.std.specs.Option.{option_map}
use Rattle.pdus.specs.ClnpViews.Extent.{Extent}
use Rattle.system_tables.specs.Reassembly.Buffer.{Buffer, buffer_of, due, first_carried, without, without_due}
use Rattle.system_tables.specs.declared.reassembly.segment.Key.{Key}
use Rattle.system_tables.specs.Reassembly.Entries.{present}
use Rattle.system_tables.specs.Reassembly.NoWhole.{HasNoWhole}
use Rattle.system_tables.specs.Reassembly.Offered.{total_size}
use Rattle.system_tables.specs.Reassembly.Openings.{OpeningsState}
use Rattle.system_tables.specs.Reassembly.State.{IsAt, SlotsStay, Stands, TableState}
use Rattle.system_tables.proofs.ReassemblyFacts.Expiring.{due_gives, due_leaves, due_within, expired_of, nothing_due}
use Rattle.system_tables.proofs.ReassemblyFacts.NoWhole.{expired_none_whole, expired_ready}
use Rattle.system_tables.proofs.ReassemblyFacts.Staying.{same_slots}
use Rattle.system_tables.proofs.reassembly.table.Table.expire.Goals as goal

pub returns-in_err-place-clause-ended : goal.returns-in_err-place-clause-ended
returns-in_err-place-clause-ended c = λ buffers stands.
    let none = nothing_due c.args.now c.self.inside.openings.list c.args.self.now (ap (λ v. v.openings) c.self.view_is) c.in_err-place.ensures.none buffers stands in
    c.from_residual.ensures ∙ sym (ap (option_map expired_of) none)

pub returns-in_err-place-clause-stands : goal.returns-in_err-place-clause-stands
returns-in_err-place-clause-stands c = λ buffers stands.
    let t = c.self.inside in
    let of : OpeningsState → TableState = λ o. record { limits = t.limits; openings = o.list; slots = o.slots; segments = present t.segments.entries } in
    let is : of c.due_place.new.openings ≡ c.args.self.now = ap of c.due_place.ensures.same ∙ c.self.view_is in
    let none = nothing_due c.args.now t.openings.list c.args.self.now (ap (λ v. v.openings) c.self.view_is) c.in_err-place.ensures.none buffers stands in
    subst (λ v. Stands v (without_due (due c.args.now buffers) buffers)) (sym is) (subst (λ o. Stands c.args.self.now (without_due o buffers)) (sym none) stands)

pub at-requires : goal.at-requires
at-requires c =
    let t = c.self.inside in
    subst (λ (o : OpeningsState). c.in_ok-place.place < length o.list) (sym c.due_place.ensures.same)
    (due_within t.limits t.openings.list t.openings.slots (present t.segments.entries) (total_size (present t.segments.entries)) c.args.now c.in_ok-place.place c.args.self.now c.self.view_is c.self.invariant.0 c.in_ok-place.ensures.due)

pub take_out-first-requires : goal.take_out-first-requires
take_out-first-requires c =
    let t = c.self.inside in
    subst (λ (o : OpeningsState). c.in_ok-place.place < length o.list) (sym c.due_place.ensures.same)
    (due_within t.limits t.openings.list t.openings.slots (present t.segments.entries) (total_size (present t.segments.entries)) c.args.now c.in_ok-place.place c.args.self.now c.self.view_is c.self.invariant.0 c.in_ok-place.ensures.due)

pub returns-clause-ended : goal.returns-clause-ended
returns-clause-ended c = λ buffers stands.
    let t = c.self.inside in
    let of : OpeningsState → TableState = λ o. record { limits = t.limits; openings = o.list; slots = o.slots; segments = present t.segments.entries } in
    let is : of c.due_place.new.openings ≡ c.args.self.now = ap of c.due_place.ensures.same ∙ c.self.view_is in
    let at : slice_get t.openings.list c.in_ok-place.place ≡ Some c.at.result.now =
    ap (λ (o : OpeningsState). slice_get o.list c.in_ok-place.place) (sym c.due_place.ensures.same) ∙ c.at.ensures.opening in
    let first = subst (λ v. (bs : List (Buffer Extent)) (taken : Buffer Extent) → Stands v bs → IsAt v c.in_ok-place.place taken.key → buffer_of taken.key bs ≡ Some taken
    → c.take_out-first.result ≡ first_carried taken) is c.take_out-first.ensures.first in
    due_gives t.limits t.openings.list t.openings.slots (present t.segments.entries) (total_size (present t.segments.entries)) c.args.now c.in_ok-place.place c.args.self.now c.self.view_is c.self.invariant.0 c.in_ok-place.ensures.due buffers stands
    c.at.result.now at c.take_out-first.result first _ refl

pub returns-clause-stands : goal.returns-clause-stands
returns-clause-stands c = λ buffers stands.
    let t = c.self.inside in
    let of : OpeningsState → TableState = λ o. record { limits = t.limits; openings = o.list; slots = o.slots; segments = present t.segments.entries } in
    let is : of c.due_place.new.openings ≡ c.args.self.now = ap of c.due_place.ensures.same ∙ c.self.view_is in
    let taken = subst (λ v. (bs : List (Buffer Extent)) (key : Key) → Stands v bs → IsAt v c.in_ok-place.place key → Stands c.take_out-first.new.self (without key bs)) is c.take_out-first.ensures.stands in
    due_leaves t.limits t.openings.list t.openings.slots (present t.segments.entries) (total_size (present t.segments.entries)) c.args.now c.in_ok-place.place c.args.self.now c.self.view_is c.self.invariant.0 c.in_ok-place.ensures.due buffers stands
    c.take_out-first.new.self taken

pub returns-in_err-place-clause-ready : goal.returns-in_err-place-clause-ready
returns-in_err-place-clause-ready c =
    expired_ready c.args.self.now _ c.args.now (returns-in_err-place-clause-stands c) c.from_residual.result (returns-in_err-place-clause-ended c)

pub returns-clause-none_whole : goal.returns-clause-none_whole
returns-clause-none_whole c = expired_none_whole c.args.self.now c.take_out-first.new.self c.args.now (returns-clause-stands c)

pub returns-in_err-place-clause-none_whole : goal.returns-in_err-place-clause-none_whole
returns-in_err-place-clause-none_whole c = λ none.
    let t = c.self.inside in
    let of : OpeningsState → TableState = λ o. record { limits = t.limits; openings = o.list; slots = o.slots; segments = present t.segments.entries } in
    let is : of c.due_place.new.openings ≡ c.args.self.now = ap of c.due_place.ensures.same ∙ c.self.view_is in
    subst HasNoWhole (sym is) none

pub returns-in_err-place-clause-slots : goal.returns-in_err-place-clause-slots
returns-in_err-place-clause-slots c =
    let t = c.self.inside in
    let of : OpeningsState → TableState = λ o. record { limits = t.limits; openings = o.list; slots = o.slots; segments = present t.segments.entries } in
    let is : of c.due_place.new.openings ≡ c.args.self.now = ap of c.due_place.ensures.same ∙ c.self.view_is in
    subst (SlotsStay c.args.self.now) (sym is) (same_slots c.args.self.now c.args.self.now refl refl)

pub returns-clause-slots : goal.returns-clause-slots
returns-clause-slots c =
    let t = c.self.inside in
    let of : OpeningsState → TableState = λ o. record { limits = t.limits; openings = o.list; slots = o.slots; segments = present t.segments.entries } in
    let is : of c.due_place.new.openings ≡ c.args.self.now = ap of c.due_place.ensures.same ∙ c.self.view_is in
    subst (λ v. SlotsStay v c.take_out-first.new.self) is c.take_out-first.ensures.slots
