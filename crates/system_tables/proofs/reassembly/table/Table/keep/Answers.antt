-- Room is made, and the segment stands at the end then; its runs are filled.
use Rattle.std.proofs.Common.{◌≡◌, ◌+◌, ◌<◌, ◌≤◌, ℕ, List, [], ◌∷◌, ◌++◌, Bool, true, false, Option, Some, not, cond, zero-add, length, map, sym, ap, subst, refl, ◌∙◌, arith}
use Rattle.std.specs.Prelude.{slice_get}
use Rattle.std.specs.List.{AllByRecursion}
use Rattle.std.proofs.lemmas.Bool.{false≢true}
use Rattle.std.proofs.lemmas.List.{length_push}
use Rattle.std.proofs.lemmas.Option.{slice_get_within}
use Rattle.pdus.proofs.ClnpBase.Lists.{AllByRecursion-slice_get}
use Rattle.system_tables.specs.declared.reassembly.openings.Opening.{Opening}
use Rattle.system_tables.specs.declared.reassembly.segment.Segment.{Segment}
use Rattle.system_tables.specs.declared.reassembly.table.Accept.{Accept}
use Rattle.system_tables.specs.declared.reassembly.table.Accept.TheVariants as accept
use Rattle.system_tables.specs.Reassembly.Arrival.{arrival_of, are_covered, data_len}
use Rattle.system_tables.specs.Reassembly.Buffer.{Held, Whole, with_kept}
use Rattle.system_tables.specs.Reassembly.Entries.{present}
use Rattle.system_tables.specs.Reassembly.Index.{IsIndexOf}
use Rattle.system_tables.specs.Reassembly.Kept.{with_segment}
use Rattle.system_tables.specs.Reassembly.Offered.{openings_of, total_size}
use Rattle.system_tables.specs.Reassembly.Pages.{on_pages}
use Rattle.system_tables.specs.Reassembly.Sound.{IsSound}
use Rattle.system_tables.specs.Reassembly.State.{IsAt, Stands, TableState, said, segments_of, was_kept}
use Rattle.system_tables.proofs.ReassemblyFacts.Entries.{present-append}
use Rattle.system_tables.proofs.ReassemblyFacts.Indexing.{gap_tells_cover, index_kept, new_place, total_few}
use Rattle.system_tables.proofs.ReassemblyFacts.Keeping.{answer_with, none_or_one, stands_with}
use Rattle.system_tables.proofs.ReassemblyFacts.Opened.{sound_more, total_size-more}
use Rattle.system_tables.proofs.reassembly.table.Table.keep.Goals as goal
use Rattle.system_tables.proofs.reassembly.table.Table.keep.Goals.{then-has_hole, else-has_hole}

pub make_room-requires-clause-few : goal.make_room-requires-clause-few
make_room-requires-clause-few c =
    let t = c.self.inside in
    let limits : t.limits ≡ c.args.self.now.limits = ap (λ (t : TableState). t.limits) (c.self.view_is ∙ c.place_for-place.ensures.opened.1) in
    let segments : present t.segments.entries ≡ c.args.self.now.segments = ap (λ (t : TableState). t.segments) (c.self.view_is ∙ c.place_for-place.ensures.opened.1) in
    let few : length (present t.segments.entries) < t.limits.segments = rw (segments, limits) c.requires.room.few_segments in
    omega (arith, few, c.self.invariant.2)

pub fill-requires-clause-slot : goal.fill-requires-clause-slot
fill-requires-clause-slot c =
    let t = c.self.inside in
    let named = subst (λ (t : TableState). IsAt t c.place_for-place.result c.args.segment.key) (sym c.self.view_is) c.place_for-place.ensures.is_at in
    let index = c.make_room.ensures.index t.openings.list c.self.invariant.0.shaped c.self.invariant.3.index_is in
    omega (arith, slice_get_within t.openings.list c.place_for-place.result named.opening named.stands_at, index.number)

pub fill-requires-clause-room : goal.fill-requires-clause-room
fill-requires-clause-room c =
    let t = c.self.inside in
    let limits : t.limits ≡ c.args.self.now.limits = ap (λ (t : TableState). t.limits) (c.self.view_is ∙ c.place_for-place.ensures.opened.1) in
    let segments : present t.segments.entries ≡ c.args.self.now.segments = ap (λ (t : TableState). t.segments) (c.self.view_is ∙ c.place_for-place.ensures.opened.1) in
    let few : length (present t.segments.entries) < t.limits.segments = rw (segments, limits) c.requires.room.few_segments in
    let made = c.make_room.ensures in
    let index = made.index t.openings.list c.self.invariant.0.shaped c.self.invariant.3.index_is in
    let owned = subst (AllByRecursion (λ (s : Segment). openings_of s.key t.openings.list ≡ 1)) (sym made.present) c.self.invariant.0.owned in
    omega (
      arith,
      few,
      ap length made.present,
      total_few c.make_room.new.segments.entries t.openings.list c.make_room.new.runs.groups index owned,
      c.self.invariant.0.few_openings,
      c.self.invariant.3.room,
      made.runs,
    )

pub fill-requires-clause-order : goal.fill-requires-clause-order
fill-requires-clause-order c runs told =
    let t = c.self.inside in
    let named = subst (λ (t : TableState). IsAt t c.place_for-place.result c.args.segment.key) (sym c.self.view_is) c.place_for-place.ensures.is_at in
    let index = c.make_room.ensures.index t.openings.list c.self.invariant.0.shaped c.self.invariant.3.index_is in
    (0, data_len named.opening.shape, (index.each c.place_for-place.result named.opening runs named.stands_at told).joined)

pub push-requires-clause-size : goal.push-requires-clause-size
push-requires-clause-size c =
    let t = c.self.inside in
    let limits : t.limits ≡ c.args.self.now.limits = ap (λ (t : TableState). t.limits) (c.self.view_is ∙ c.place_for-place.ensures.opened.1) in
    let segments : present t.segments.entries ≡ c.args.self.now.segments = ap (λ (t : TableState). t.segments) (c.self.view_is ∙ c.place_for-place.ensures.opened.1) in
    let budget : total_size (present t.segments.entries) + length c.args.segment.pdu.frame ≤ t.limits.budget = rw (segments, limits) c.requires.room.within_budget in
    omega (arith, budget, ap total_size c.make_room.ensures.present, c.self.invariant.0.budget_fits)

pub pages_of-requires : goal.pages_of-requires
pages_of-requires c =
    let t = c.self.inside in
    let segments : present t.segments.entries ≡ c.args.self.now.segments = ap (λ (t : TableState). t.segments) (c.self.view_is ∙ c.place_for-place.ensures.opened.1) in
    let named = subst (λ (t : TableState). IsAt t c.place_for-place.result c.args.segment.key) (sym c.self.view_is) c.place_for-place.ensures.is_at in
    let at = ap (λ (v : TableState). slice_get v.openings c.place_for-place.result) (sym c.self.view_is) ∙ named.stands_at in
    let shape : named.opening.shape ≡ c.args.segment.shape = c.place_for-place.ensures.shaped named.opening at in
    let made = c.make_room.ensures in
    let entries = c.make_room.new.segments.entries in
    let before = made.index t.openings.list c.self.invariant.0.shaped c.self.invariant.3.index_is in
    let new = new_place entries c.args.segment named.opening named.key_is (omega (arith, ap data_len shape, c.requires.offered.within))
    (ap (λ (l : List Segment). are_covered (map arrival_of (segments_of c.args.segment.key l)) c.args.segment.offset (arrival_of c.args.segment).len) (made.present ∙ segments)
    ∙ c.requires.uncovered) in
    let number : length c.entries.result.now ≡ length entries = ap length c.entries.ensures in
    let index = index_kept entries t.openings.list c.make_room.new.runs.groups c.fill.new.self.groups c.args.segment c.place_for-place.result named.opening
    c.args.segment.offset c.end-to.result (length c.entries.result.now) before c.self.invariant.0.distinct c.self.invariant.0.shaped named.stands_at named.key_is
    refl c.end-to.ensures.end number new c.fill.ensures.groups in
    omega (arith, slice_get_within t.openings.list c.place_for-place.result named.opening named.stands_at, index.number)

pub has_hole-requires-clause-order : goal.has_hole-requires-clause-order
has_hole-requires-clause-order c =
    let t = c.self.inside in
    let segments : present t.segments.entries ≡ c.args.self.now.segments = ap (λ (t : TableState). t.segments) (c.self.view_is ∙ c.place_for-place.ensures.opened.1) in
    let named = subst (λ (t : TableState). IsAt t c.place_for-place.result c.args.segment.key) (sym c.self.view_is) c.place_for-place.ensures.is_at in
    let at = ap (λ (v : TableState). slice_get v.openings c.place_for-place.result) (sym c.self.view_is) ∙ named.stands_at in
    let shape : named.opening.shape ≡ c.args.segment.shape = c.place_for-place.ensures.shaped named.opening at in
    let made = c.make_room.ensures in
    let entries = c.make_room.new.segments.entries in
    let before = made.index t.openings.list c.self.invariant.0.shaped c.self.invariant.3.index_is in
    let new = new_place entries c.args.segment named.opening named.key_is (omega (arith, ap data_len shape, c.requires.offered.within))
    (ap (λ (l : List Segment). are_covered (map arrival_of (segments_of c.args.segment.key l)) c.args.segment.offset (arrival_of c.args.segment).len) (made.present ∙ segments)
    ∙ c.requires.uncovered) in
    let number : length c.entries.result.now ≡ length entries = ap length c.entries.ensures in
    let index = index_kept entries t.openings.list c.make_room.new.runs.groups c.fill.new.self.groups c.args.segment c.place_for-place.result named.opening
    c.args.segment.offset c.end-to.result (length c.entries.result.now) before c.self.invariant.0.distinct c.self.invariant.0.shaped named.stands_at named.key_is
    refl c.end-to.ensures.end number new c.fill.ensures.groups in
    (0, data_len named.opening.shape, (index.each c.place_for-place.result named.opening (on_pages c.pages_of.result) named.stands_at c.pages_of.ensures).joined)

pub has_hole-requires-clause-within : goal.has_hole-requires-clause-within
has_hole-requires-clause-within c = (
  omega (arith, c.end-to.ensures.end, c.end-to.ensures.within, c.data_len.ensures),
  omega (arith, c.end-to.ensures.within, c.data_len.ensures),
)

pub invariant_of-self : goal.invariant_of-self
invariant_of-self c =
    let t = c.self.inside in
    let segments : present t.segments.entries ≡ c.args.self.now.segments = ap (λ (t : TableState). t.segments) (c.self.view_is ∙ c.place_for-place.ensures.opened.1) in
    let named = subst (λ (t : TableState). IsAt t c.place_for-place.result c.args.segment.key) (sym c.self.view_is) c.place_for-place.ensures.is_at in
    let at = ap (λ (v : TableState). slice_get v.openings c.place_for-place.result) (sym c.self.view_is) ∙ named.stands_at in
    let shape : named.opening.shape ≡ c.args.segment.shape = c.place_for-place.ensures.shaped named.opening at in
    let made = c.make_room.ensures in
    let entries = c.make_room.new.segments.entries in
    let before = made.index t.openings.list c.self.invariant.0.shaped c.self.invariant.3.index_is in
    let new = new_place entries c.args.segment named.opening named.key_is (omega (arith, ap data_len shape, c.requires.offered.within))
    (ap (λ (l : List Segment). are_covered (map arrival_of (segments_of c.args.segment.key l)) c.args.segment.offset (arrival_of c.args.segment).len) (made.present ∙ segments)
    ∙ c.requires.uncovered) in
    let number : length c.entries.result.now ≡ length entries = ap length c.entries.ensures in
    let index = index_kept entries t.openings.list c.make_room.new.runs.groups c.fill.new.self.groups c.args.segment c.place_for-place.result named.opening
    c.args.segment.offset c.end-to.result (length c.entries.result.now) before c.self.invariant.0.distinct c.self.invariant.0.shaped named.stands_at named.key_is
    refl c.end-to.ensures.end number new c.fill.ensures.groups in
    let one = subst (λ key. openings_of key t.openings.list ≡ 1) named.key_is
    (AllByRecursion-slice_get (λ (opening : Opening). openings_of opening.key t.openings.list ≡ 1) t.openings.list c.place_for-place.result named.opening
    named.stands_at c.self.invariant.0.distinct) in
    let limits : t.limits ≡ c.args.self.now.limits = ap (λ (t : TableState). t.limits) (c.self.view_is ∙ c.place_for-place.ensures.opened.1) in
    let budget : total_size (present t.segments.entries) + length c.args.segment.pdu.frame ≤ t.limits.budget = rw (segments, limits) c.requires.room.within_budget in
    let few : length (present t.segments.entries) < t.limits.segments = rw (segments, limits) c.requires.room.few_segments in
    let pushed : present c.push.new.self.entries ≡ present t.segments.entries ++ c.args.segment ∷ []
    = ap present c.push.ensures.entries ∙ present-append entries (Some c.args.segment ∷ []) ∙ ap (λ (l : List Segment). l ++ c.args.segment ∷ []) made.present in
    let more = sound_more t.limits t.openings.list (present t.segments.entries) (total_size (present t.segments.entries)) c.args.segment
    c.self.invariant.0 one c.requires.offered budget few in
    let sound = subst (λ n. IsSound t.limits t.openings.list (present t.segments.entries ++ c.args.segment ∷ []) n)
    (sym (total_size-more (present t.segments.entries) c.args.segment)) more in
    let long = ap length c.push.ensures.entries ∙ length_push entries (Some c.args.segment) in (
      subst (λ (l : List Segment). IsSound t.limits t.openings.list l (total_size l)) (sym pushed) sound,
      c.self.invariant.1,
      omega (arith, c.self.invariant.2, made.room, c.push.ensures.room),
      record {
        index_is = subst (λ (l : List (Option Segment)). IsIndexOf l t.openings.list c.fill.new.self.groups) (sym c.push.ensures.entries) index;
        slots = omega (arith, c.self.invariant.3.slots, made.slots, c.fill.ensures.slots);
        room = omega (arith, c.self.invariant.3.room, made.runs, c.fill.ensures.room);
        within = omega (arith, long, made.more, c.push.ensures.room);
        entries_fit = omega (arith, c.self.invariant.3.entries_fit, made.room, c.push.ensures.room);
        names = omega (arith, c.self.invariant.3.names, made.room, c.push.ensures.room, made.capacity);
      },
    )

pub returns-clause-answered : goal.returns-clause-answered
returns-clause-answered c buffers stands =
    let after = stands_with c.args.now c.place_for-place.ensures.opened.0 c.args.segment c.args.self.now buffers stands c.place_for-place.ensures.owned
    (none_or_one c.args.segment.key c.args.self.now.openings _ c.place_for-place.ensures.distinct refl) in
    let answer = answer_with c.args.now c.place_for-place.ensures.opened.0 c.args.segment c.args.self.now buffers stands after c.requires.room in
    let t = c.self.inside in
    let segments : present t.segments.entries ≡ c.args.self.now.segments = ap (λ (t : TableState). t.segments) (c.self.view_is ∙ c.place_for-place.ensures.opened.1) in
    let named = subst (λ (t : TableState). IsAt t c.place_for-place.result c.args.segment.key) (sym c.self.view_is) c.place_for-place.ensures.is_at in
    let at = ap (λ (v : TableState). slice_get v.openings c.place_for-place.result) (sym c.self.view_is) ∙ named.stands_at in
    let shape : named.opening.shape ≡ c.args.segment.shape = c.place_for-place.ensures.shaped named.opening at in
    let made = c.make_room.ensures in
    let entries = c.make_room.new.segments.entries in
    let before = made.index t.openings.list c.self.invariant.0.shaped c.self.invariant.3.index_is in
    let new = new_place entries c.args.segment named.opening named.key_is (omega (arith, ap data_len shape, c.requires.offered.within))
    (ap (λ (l : List Segment). are_covered (map arrival_of (segments_of c.args.segment.key l)) c.args.segment.offset (arrival_of c.args.segment).len) (made.present ∙ segments)
    ∙ c.requires.uncovered) in
    let number : length c.entries.result.now ≡ length entries = ap length c.entries.ensures in
    let index = index_kept entries t.openings.list c.make_room.new.runs.groups c.fill.new.self.groups c.args.segment c.place_for-place.result named.opening
    c.args.segment.offset c.end-to.result (length c.entries.result.now) before c.self.invariant.0.distinct c.self.invariant.0.shaped named.stands_at named.key_is
    refl c.end-to.ensures.end number new c.fill.ensures.groups in
    let are = index.each c.place_for-place.result named.opening (on_pages c.pages_of.result) named.stands_at c.pages_of.ensures in
    let told_is = gap_tells_cover (entries ++ Some c.args.segment ∷ []) named.opening (on_pages c.pages_of.result) 0 c.data_len.result c.data_len.result are
    (zero-add c.data_len.result) (omega (arith, ap data_len shape, c.data_len.ensures)) in
    let there : present (entries ++ Some c.args.segment ∷ []) ≡ c.args.self.now.segments ++ c.args.segment ∷ []
    = present-append entries (Some c.args.segment ∷ []) ∙ ap (λ (l : List Segment). l ++ c.args.segment ∷ []) (made.present ∙ segments) in
    let whole : not c.has_hole.result ≡ are_covered (map arrival_of (segments_of c.args.segment.key (c.args.self.now.segments ++ c.args.segment ∷ []))) 0 (data_len c.args.segment.shape)
    = ap not c.has_hole.ensures ∙ told_is
    ∙ (λ i. are_covered (map arrival_of (segments_of (named.key_is i) (there i))) 0 (c.data_len.ensures i)) in
    let told : said c.if-has_hole.result ≡ cond (not c.has_hole.result) Whole Held =
    elim c.if-has_hole.branch [ then-has_hole w ↦ rw (w.result-is, w.if-has_hole.true) refl | else-has_hole w ↦ rw (w.result-is, w.if-has_hole.false) refl ] in
    told ∙ (ap (λ (b : Bool). cond b Whole Held) whole ∙ sym answer)

pub returns-clause-stands : goal.returns-clause-stands
returns-clause-stands c buffers stands =
    let after = stands_with c.args.now c.place_for-place.ensures.opened.0 c.args.segment c.args.self.now buffers stands c.place_for-place.ensures.owned
    (none_or_one c.args.segment.key c.args.self.now.openings _ c.place_for-place.ensures.distinct refl) in
    let t = c.self.inside in
    let slot = c.place_for-place.ensures.opened.0 in
    let e = c.self.view_is ∙ c.place_for-place.ensures.opened.1 in
    let pushed : present c.push.new.self.entries ≡ present t.segments.entries ++ c.args.segment ∷ []
    = ap present c.push.ensures.entries ∙ present-append c.make_room.new.segments.entries (Some c.args.segment ∷ [])
    ∙ ap (λ (l : List Segment). l ++ c.args.segment ∷ []) c.make_room.ensures.present in
    let view : (record { limits = t.limits; openings = t.openings.list; slots = t.openings.slots; segments = present c.push.new.self.entries })
    ≡ with_segment c.args.now c.args.segment slot c.args.self.now
    = ap (λ (l : List Segment). record { limits = t.limits; openings = t.openings.list; slots = t.openings.slots; segments = l }) pushed
    ∙ ap (λ (t : TableState). record t { segments = t.segments ++ c.args.segment ∷ [] }) e in
    subst (λ (t : TableState). Stands t (with_kept c.args.self.now.limits c.args.now (arrival_of c.args.segment) buffers)) (sym view) after

pub returns-clause-kept : goal.returns-clause-kept
returns-clause-kept c =
    let t = c.self.inside in
    let slot = c.place_for-place.ensures.opened.0 in
    let e = c.self.view_is ∙ c.place_for-place.ensures.opened.1 in
    let pushed : present c.push.new.self.entries ≡ present t.segments.entries ++ c.args.segment ∷ []
    = ap present c.push.ensures.entries ∙ present-append c.make_room.new.segments.entries (Some c.args.segment ∷ [])
    ∙ ap (λ (l : List Segment). l ++ c.args.segment ∷ []) c.make_room.ensures.present in
    let view : (record { limits = t.limits; openings = t.openings.list; slots = t.openings.slots; segments = present c.push.new.self.entries })
    ≡ with_segment c.args.now c.args.segment slot c.args.self.now
    = ap (λ (l : List Segment). record { limits = t.limits; openings = t.openings.list; slots = t.openings.slots; segments = l }) pushed
    ∙ ap (λ (t : TableState). record t { segments = t.segments ++ c.args.segment ∷ [] }) e in
    record { may = c.requires.room; owned = c.place_for-place.ensures.owned; slot = slot; is = view }

pub place_for-place-requires-clause-moment : goal.place_for-place-requires-clause-moment
place_for-place-requires-clause-moment c = c.requires.moment

pub place_for-place-requires-clause-offered : goal.place_for-place-requires-clause-offered
place_for-place-requires-clause-offered c = c.requires.offered

pub place_for-place-requires-clause-place : goal.place_for-place-requires-clause-place
place_for-place-requires-clause-place c = c.requires.place

pub place_for-place-requires-clause-room : goal.place_for-place-requires-clause-room
place_for-place-requires-clause-room c = c.requires.room.few_openings

pub place_for-place-requires-clause-same_unit : goal.place_for-place-requires-clause-same_unit
place_for-place-requires-clause-same_unit c = c.requires.room.same_unit

pub end-to-requires : goal.end-to-requires
end-to-requires c = c.requires.offered

pub make_room-requires-clause-within : goal.make_room-requires-clause-within
make_room-requires-clause-within c = c.self.invariant.3.within

pub make_room-requires-clause-fits : goal.make_room-requires-clause-fits
make_room-requires-clause-fits c = c.self.invariant.3.entries_fit

pub make_room-requires-clause-named : goal.make_room-requires-clause-named
make_room-requires-clause-named c = c.self.invariant.3.names

pub overflow_cast-index : goal.overflow_cast-index
overflow_cast-index c = omega (arith, ap length c.entries.ensures, c.make_room.ensures.more, c.make_room.ensures.room, c.self.invariant.3.entries_fit)

pub push-requires-clause-room : goal.push-requires-clause-room
push-requires-clause-room c = c.make_room.ensures.more

pub push-requires-clause-few : goal.push-requires-clause-few
push-requires-clause-few c = omega (arith, c.make_room.ensures.more, c.make_room.ensures.room, c.self.invariant.3.entries_fit)

pub slot_at-slot-requires : goal.slot_at-slot-requires
slot_at-slot-requires c =
    let named = subst (λ (t : TableState). IsAt t c.place_for-place.result c.args.segment.key) (sym c.self.view_is) c.place_for-place.ensures.is_at in
    slice_get_within c.self.inside.openings.list c.place_for-place.result named.opening named.stands_at

pub data_len-requires : goal.data_len-requires
data_len-requires c = c.requires.offered.holds_header

pub returns-clause-was_kept : goal.returns-clause-was_kept
returns-clause-was_kept c =
    elim c.if-has_hole.branch [ then-has_hole w ↦ ap was_kept w.result-is | else-has_hole w ↦ ap was_kept w.result-is ]

pub returns-clause-limits : goal.returns-clause-limits
returns-clause-limits c = ap (λ (t : TableState). t.limits) (c.self.view_is ∙ c.place_for-place.ensures.opened.1)

abbrev slot_told : Accept → ℕ
slot_told (accept.Whole slot) = slot.0
slot_told _ = 0

abbrev is_held : Accept → Bool
is_held accept.Held = true
is_held _ = false

pub returns-clause-slot : goal.returns-clause-slot
returns-clause-slot c slot told =
    let named = subst (λ (t : TableState). IsAt t c.place_for-place.result c.args.segment.key) (sym c.self.view_is) c.place_for-place.ensures.is_at in
    let same : c.slot_at-slot.result ≡ slot.0 = elim c.if-has_hole.branch [
      | then-has_hole w ↦ absurd (false≢true (sym (ap is_held (sym w.result-is ∙ told))))
      | else-has_hole w ↦ ap slot_told (sym w.result-is ∙ told)
    ] in
    record {
      place = c.place_for-place.result;
      has_slot = c.slot_at-slot.ensures ∙ ap (λ n. Some n) same;
      is_at = record { opening = named.opening; stands_at = named.stands_at; key_is = named.key_is };
    }
