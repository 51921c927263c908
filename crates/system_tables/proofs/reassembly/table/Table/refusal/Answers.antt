use Rattle.std.proofs.Common.{◌≡◌, ◌+◌, ℕ, true, false, Some, length, refl, sym, ap, subst, ◌∙◌, arith}
use Rattle.std.specs.List.{AllByRecursion}
use Rattle.std.proofs.lemmas.Bool.{le-leb, le-ltb, lt-leb, lt-ltb}
use Rattle.system_tables.specs.declared.reassembly.segment.Shape.{Shape}
use Rattle.system_tables.specs.Reassembly.Arrival.{arrival_of}
use Rattle.system_tables.specs.Reassembly.Buffer.{Crowded, Interference, Many, NoSlot, held, kept}
use Rattle.system_tables.specs.Reassembly.Offered.{openings_of, total_size}
use Rattle.system_tables.specs.Reassembly.State.{TableState}
use Rattle.system_tables.proofs.ReassemblyFacts.Counted.{held_there, number_there}
use Rattle.system_tables.proofs.ReassemblyFacts.Refusing.{by_budget, by_repeat, by_segments, by_shape, by_slots, clashes_there, covered_there, full_there, room_there, same_unit_there, slot_within}
use Rattle.system_tables.proofs.reassembly.table.Table.refusal.Goals as goal
use Rattle.pdus.proofs.ClnpBase.Choices.{none_since}

pub other_shape-requires : goal.other_shape-requires
other_shape-requires c = slot_within c.args.segment.now.key c.args.self.now.openings c.args.place (sym c.requires.place)

pub is_there-requires-clause-place : goal.is_there-requires-clause-place
is_there-requires-clause-place c = sym c.requires.place

pub is_there-requires-clause-shape : goal.is_there-requires-clause-shape
is_there-requires-clause-shape c place opening e at =
    same_unit_there c.args.self.now.openings c.args.segment.now.key c.args.segment.now.shape c.args.place c.other_shape.result
    (sym c.requires.place) c.other_shape.ensures (none_since c.other_shape.result c.in_default.not-Some) place opening
    (sym c.requires.place ∙ e) at

pub returns-in-Some-clause-refused : goal.returns-in-Some-clause-refused
returns-in-Some-clause-refused c buffers stands =
    let clash = clashes_there c.args.self.now c.args.segment.now.key c.args.segment.now.shape buffers c.args.place c.other_shape.result
    stands (sym c.requires.place) c.other_shape.ensures in
    sym (by_shape c.args.self.now.limits (arrival_of c.args.segment.now) buffers (clash.some c.in-Some.kept c.in-Some.is)
    ∙ ap (λ (shape : Shape). Some (Interference shape c.args.segment.now.shape)) (clash.shape_is c.in-Some.kept c.in-Some.is))

pub returns-then-is_there-clause-refused : goal.returns-then-is_there-clause-refused
returns-then-is_there-clause-refused c buffers stands =
    let clash = clashes_there c.args.self.now c.args.segment.now.key c.args.segment.now.shape buffers c.args.place c.other_shape.result
    stands (sym c.requires.place) c.other_shape.ensures in
    let owned = subst (λ (t : TableState). AllByRecursion (λ other. openings_of other.key t.openings ≡ 1) t.segments) c.self.view_is c.self.invariant.0.owned in
    let covered = covered_there c.args.self.now c.args.segment.now buffers c.args.self.now.segments c.is_there.result stands owned refl c.is_there.ensures in
    sym (by_repeat c.args.self.now.limits (arrival_of c.args.segment.now) buffers
    (clash.none (none_since c.other_shape.result c.in_default.not-Some)) (covered ∙ c.if-is_there.true))

pub returns-then-lacks_slot-clause-refused : goal.returns-then-lacks_slot-clause-refused
returns-then-lacks_slot-clause-refused c buffers stands =
    let clash = clashes_there c.args.self.now c.args.segment.now.key c.args.segment.now.shape buffers c.args.place c.other_shape.result
    stands (sym c.requires.place) c.other_shape.ensures in
    let owned = subst (λ (t : TableState). AllByRecursion (λ other. openings_of other.key t.openings ≡ 1) t.segments) c.self.view_is c.self.invariant.0.owned in
    let covered = covered_there c.args.self.now c.args.segment.now buffers c.args.self.now.segments c.is_there.result stands owned refl c.is_there.ensures in
    let full = full_there c.args.self.now c.args.segment.now.key buffers c.args.place c.lacks_slot.result stands (sym c.requires.place) c.lacks_slot.ensures in
    ap (λ (n : ℕ). Some (NoSlot n)) (c.live-live.ensures.live buffers stands)
    ∙ sym (by_slots c.args.self.now.limits (arrival_of c.args.segment.now) buffers
    (clash.none (none_since c.other_shape.result c.in_default.not-Some)) (covered ∙ c.if-is_there.false) (full ∙ c.if-lacks_slot.true))

pub returns-then-size-self-clause-refused : goal.returns-then-size-self-clause-refused
returns-then-size-self-clause-refused c buffers stands =
    let clash = clashes_there c.args.self.now c.args.segment.now.key c.args.segment.now.shape buffers c.args.place c.other_shape.result
    stands (sym c.requires.place) c.other_shape.ensures in
    let owned = subst (λ (t : TableState). AllByRecursion (λ other. openings_of other.key t.openings ≡ 1) t.segments) c.self.view_is c.self.invariant.0.owned in
    let covered = covered_there c.args.self.now c.args.segment.now buffers c.args.self.now.segments c.is_there.result stands owned refl c.is_there.ensures in
    let full = full_there c.args.self.now c.args.segment.now.key buffers c.args.place c.lacks_slot.result stands (sym c.requires.place) c.lacks_slot.ensures in
    let holds : c.held-held.result ≡ held buffers = c.held-held.ensures ∙ (ap (λ (t : TableState). total_size t.segments) c.self.view_is
    ∙ sym (held_there c.args.self.now buffers stands owned)) in
    let budget : c.self.inside.limits.budget ≡ c.args.self.now.limits.budget = ap (λ (t : TableState). t.limits.budget) c.self.view_is in
    let most = c.self.invariant.0.budget in
    let size = c.frame_len-size.ensures.len in
    let over = c.if-size-self.true in
    (λ i. Some (Crowded (holds i) (size i)))
    ∙ sym (by_budget c.args.self.now.limits (arrival_of c.args.segment.now) buffers
    (clash.none (none_since c.other_shape.result c.in_default.not-Some)) (covered ∙ c.if-is_there.false) (full ∙ c.if-lacks_slot.false)
    (lt-ltb c.args.self.now.limits.budget (held buffers + length c.args.segment.now.pdu.frame) (omega arith)))

pub returns-then-len-from-clause-refused : goal.returns-then-len-from-clause-refused
returns-then-len-from-clause-refused c buffers stands =
    let clash = clashes_there c.args.self.now c.args.segment.now.key c.args.segment.now.shape buffers c.args.place c.other_shape.result
    stands (sym c.requires.place) c.other_shape.ensures in
    let owned = subst (λ (t : TableState). AllByRecursion (λ other. openings_of other.key t.openings ≡ 1) t.segments) c.self.view_is c.self.invariant.0.owned in
    let covered = covered_there c.args.self.now c.args.segment.now buffers c.args.self.now.segments c.is_there.result stands owned refl c.is_there.ensures in
    let full = full_there c.args.self.now c.args.segment.now.key buffers c.args.place c.lacks_slot.result stands (sym c.requires.place) c.lacks_slot.ensures in
    let holds : c.held-held.result ≡ held buffers = c.held-held.ensures ∙ (ap (λ (t : TableState). total_size t.segments) c.self.view_is
    ∙ sym (held_there c.args.self.now buffers stands owned)) in
    let budget : c.self.inside.limits.budget ≡ c.args.self.now.limits.budget = ap (λ (t : TableState). t.limits.budget) c.self.view_is in
    let most = c.self.invariant.0.budget in
    let size = c.frame_len-size.ensures.len in
    let number : c.len.result ≡ kept buffers = c.len.ensures ∙ ap (λ (t : TableState). length t.segments) c.self.view_is
    ∙ sym (number_there c.args.self.now buffers stands owned) in
    let limit : c.self.inside.limits.segments ≡ c.args.self.now.limits.segments = ap (λ (t : TableState). t.limits.segments) c.self.view_is in
    let within = c.if-size-self.false in
    let passed = c.if-len-from.true in let from = c.from.ensures in
    ap (λ (n : ℕ). Some (Many n)) (c.kept-kept.ensures.kept buffers stands)
    ∙ sym (by_segments c.args.self.now.limits (arrival_of c.args.segment.now) buffers
    (clash.none (none_since c.other_shape.result c.in_default.not-Some)) (covered ∙ c.if-is_there.false) (full ∙ c.if-lacks_slot.false)
    (le-ltb c.args.self.now.limits.budget (held buffers + length c.args.segment.now.pdu.frame) (omega arith))
    true (le-leb c.args.self.now.limits.segments (kept buffers) (omega arith)))

pub returns-clause-refused : goal.returns-clause-refused
returns-clause-refused c buffers stands =
    let clash = clashes_there c.args.self.now c.args.segment.now.key c.args.segment.now.shape buffers c.args.place c.other_shape.result
    stands (sym c.requires.place) c.other_shape.ensures in
    let owned = subst (λ (t : TableState). AllByRecursion (λ other. openings_of other.key t.openings ≡ 1) t.segments) c.self.view_is c.self.invariant.0.owned in
    let covered = covered_there c.args.self.now c.args.segment.now buffers c.args.self.now.segments c.is_there.result stands owned refl c.is_there.ensures in
    let full = full_there c.args.self.now c.args.segment.now.key buffers c.args.place c.lacks_slot.result stands (sym c.requires.place) c.lacks_slot.ensures in
    let holds : c.held-held.result ≡ held buffers = c.held-held.ensures ∙ (ap (λ (t : TableState). total_size t.segments) c.self.view_is
    ∙ sym (held_there c.args.self.now buffers stands owned)) in
    let budget : c.self.inside.limits.budget ≡ c.args.self.now.limits.budget = ap (λ (t : TableState). t.limits.budget) c.self.view_is in
    let most = c.self.invariant.0.budget in
    let size = c.frame_len-size.ensures.len in
    let number : c.len.result ≡ kept buffers = c.len.ensures ∙ ap (λ (t : TableState). length t.segments) c.self.view_is
    ∙ sym (number_there c.args.self.now buffers stands owned) in
    let limit : c.self.inside.limits.segments ≡ c.args.self.now.limits.segments = ap (λ (t : TableState). t.limits.segments) c.self.view_is in
    let within = c.if-size-self.false in
    let room = c.if-len-from.false in let from = c.from.ensures in
    sym (by_segments c.args.self.now.limits (arrival_of c.args.segment.now) buffers
    (clash.none (none_since c.other_shape.result c.in_default.not-Some)) (covered ∙ c.if-is_there.false) (full ∙ c.if-lacks_slot.false)
    (le-ltb c.args.self.now.limits.budget (held buffers + length c.args.segment.now.pdu.frame) (omega arith))
    false (lt-leb c.args.self.now.limits.segments (kept buffers) (omega arith)))

pub returns-clause-room : goal.returns-clause-room
returns-clause-room c =
    let holds : c.held-held.result ≡ total_size c.args.self.now.segments
    = c.held-held.ensures ∙ ap (λ (t : TableState). total_size t.segments) c.self.view_is in
    let budget : c.self.inside.limits.budget ≡ c.args.self.now.limits.budget = ap (λ (t : TableState). t.limits.budget) c.self.view_is in
    let limit : c.self.inside.limits.segments ≡ c.args.self.now.limits.segments = ap (λ (t : TableState). t.limits.segments) c.self.view_is in
    let number : c.len.result ≡ length c.args.self.now.segments = c.len.ensures ∙ ap (λ (t : TableState). length t.segments) c.self.view_is in
    let most = c.self.invariant.0.budget in
    let size = c.frame_len-size.ensures.len in
    let within = c.if-size-self.false in
    let room = c.if-len-from.false in
    let from = c.from.ensures in
    record {
      within_budget = omega arith;
      few_segments = omega arith;
      few_openings = room_there c.args.self.now.openings c.args.segment.now.key c.args.self.now.limits.slots c.args.place
          (sym c.requires.place) (sym c.lacks_slot.ensures ∙ c.if-lacks_slot.false);
      same_unit = same_unit_there c.args.self.now.openings c.args.segment.now.key c.args.segment.now.shape c.args.place c.other_shape.result
          (sym c.requires.place) c.other_shape.ensures (none_since c.other_shape.result c.in_default.not-Some);
    }

pub returns-clause-uncovered : goal.returns-clause-uncovered
returns-clause-uncovered c = sym c.is_there.ensures ∙ c.if-is_there.false
