-- The entry at the index has the segment that is given out.
use Rattle.std.proofs.Common.{◌≡◌, ◌<◌, ◌∙◌, Option, None, Some, ap, refl, sym, length, arith}
use Rattle.std.specs.Prelude.{slice_get, slice_set}
use Rattle.std.proofs.lemmas.Option.{slice_get_read}
use Rattle.system_tables.specs.declared.reassembly.segment.Segment.{Segment}
use Rattle.system_tables.specs.Reassembly.Entries.{inside, present}
use Rattle.system_tables.specs.Reassembly.Offered.{total_size}
use Rattle.system_tables.proofs.ReassemblyFacts.Entries.{taken_number, taken_size}
use Rattle.system_tables.proofs.reassembly.segments.Segments.take_at.Goals as goal

pub overflow_sub-self : goal.overflow_sub-self
overflow_sub-self c =
    let t = c.self.inside in
    let within : c.args.index < length t.entries.items = omega (arith, c.requires, ap (λ v. length v.entries) c.self.view_is) in
    let at : slice_get t.entries.items c.args.index ≡ Some (Some c.in_ok-segment.segment)
    = slice_get_read t.entries.items (length t.entries.items) c.args.index c.index_mut.result.now refl within c.index_mut.ensures.value
    ∙ ap (λ (o : Option Segment). Some o) (sym c.in_ok-segment.ensures.value) in
    omega (arith, c.self.invariant.0, taken_number t.entries.items c.args.index c.in_ok-segment.segment at)

pub overflow_cast-self : goal.overflow_cast-self
overflow_cast-self c =
    let t = c.self.inside in
    let within : c.args.index < length t.entries.items = omega (arith, c.requires, ap (λ v. length v.entries) c.self.view_is) in
    let at : slice_get t.entries.items c.args.index ≡ Some (Some c.in_ok-segment.segment)
    = slice_get_read t.entries.items (length t.entries.items) c.args.index c.index_mut.result.now refl within c.index_mut.ensures.value
    ∙ ap (λ (o : Option Segment). Some o) (sym c.in_ok-segment.ensures.value) in
    omega (arith, c.self.invariant.1, c.self.ranges, taken_size t.entries.items c.args.index c.in_ok-segment.segment at, c.frame_len.ensures.len)

pub overflow_sub-self-2 : goal.overflow_sub-self-2
overflow_sub-self-2 c =
    let t = c.self.inside in
    let within : c.args.index < length t.entries.items = omega (arith, c.requires, ap (λ v. length v.entries) c.self.view_is) in
    let at : slice_get t.entries.items c.args.index ≡ Some (Some c.in_ok-segment.segment)
    = slice_get_read t.entries.items (length t.entries.items) c.args.index c.index_mut.result.now refl within c.index_mut.ensures.value
    ∙ ap (λ (o : Option Segment). Some o) (sym c.in_ok-segment.ensures.value) in
    omega (arith, c.self.invariant.1, taken_size t.entries.items c.args.index c.in_ok-segment.segment at, c.frame_len.ensures.len)

pub invariant_of-self-2 : goal.invariant_of-self-2
invariant_of-self-2 c =
    let t = c.self.inside in
    let within : c.args.index < length t.entries.items = omega (arith, c.requires, ap (λ v. length v.entries) c.self.view_is) in
    let at : slice_get t.entries.items c.args.index ≡ Some (Some c.in_ok-segment.segment)
    = slice_get_read t.entries.items (length t.entries.items) c.args.index c.index_mut.result.now refl within c.index_mut.ensures.value
    ∙ ap (λ (o : Option Segment). Some o) (sym c.in_ok-segment.ensures.value) in
    let after : slice_set t.entries.items c.args.index c.take.new.self ≡ slice_set t.entries.items c.args.index None
    = ap (slice_set t.entries.items c.args.index) c.take.ensures.after in (
      omega (arith, c.self.invariant.0, taken_number t.entries.items c.args.index c.in_ok-segment.segment at, ap (λ l. length (present l)) after),
      omega (
        arith,
        c.self.invariant.1,
        taken_size t.entries.items c.args.index c.in_ok-segment.segment at,
        ap (λ l. total_size (present l)) after,
        c.frame_len.ensures.len,
      ),
      c.self.invariant.2,
    )

pub returns-clause-taken : goal.returns-clause-taken
returns-clause-taken c =
    let t = c.self.inside in
    let within : c.args.index < length t.entries.items = omega (arith, c.requires, ap (λ v. length v.entries) c.self.view_is) in
    let at : slice_get t.entries.items c.args.index ≡ Some (Some c.in_ok-segment.segment)
    = slice_get_read t.entries.items (length t.entries.items) c.args.index c.index_mut.result.now refl within c.index_mut.ensures.value
    ∙ ap (λ (o : Option Segment). Some o) (sym c.in_ok-segment.ensures.value) in
    sym (ap (λ v. inside (slice_get v.entries c.args.index)) (sym c.self.view_is) ∙ ap inside at)
