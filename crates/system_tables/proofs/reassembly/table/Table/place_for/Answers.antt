use Rattle.std.proofs.Common.{◌≡◌, ◌<◌, ℕ, List, [], ◌∷◌, ◌++◌, length, Some, slice_get, sym, ap, subst, refl, ◌∙◌, arith}
use Rattle.system_tables.specs.declared.reassembly.openings.Opening.{Opening}
use Rattle.system_tables.specs.Reassembly.Kept.{openings_with, slots_with, with_opening}
use Rattle.system_tables.specs.Reassembly.Entries.{present}
use Rattle.system_tables.specs.Reassembly.Offered.{openings_of, total_size}
use Rattle.system_tables.specs.Reassembly.State.{TableState}
use Rattle.std.specs.List.{AllByRecursion}
use Rattle.std.proofs.lemmas.Option.{same_Some}
use Rattle.system_tables.specs.declared.reassembly.runs.Run.{Run}
use Rattle.system_tables.specs.Reassembly.Arrival.{data_len}
use Rattle.system_tables.specs.Reassembly.Index.{IsIndexOf}
use Rattle.system_tables.specs.Reassembly.Runs.{unfilled}
use Rattle.system_tables.proofs.ReassemblyFacts.Indexing.{opened_index, total_few}
use Rattle.system_tables.proofs.ReassemblyFacts.Slots.{no_segments, slot_there, slot_missing}
use Rattle.system_tables.proofs.ReassemblyFacts.Opened.{openings_with-none, openings_with-some, slice_get_push, slots_with-none, slots_with-some, sound_opened}
use Rattle.system_tables.proofs.reassembly.table.Table.place_for.Goals as goal
use Rattle.pdus.proofs.ClnpBase.Choices.{none_since}

pub returns-in-Some-clause-opened : goal.returns-in-Some-clause-opened
returns-in-Some-clause-opened c =
    let there = slot_there c.args.segment.now.key 0 c.in-Some.place c.args.self.now.openings (sym c.requires.place ∙ c.in-Some.is) in
    let openings = openings_with-some c.args.self.now.limits c.args.now c.args.segment.now c.args.self.now.openings there.some in
    let slots = slots_with-some c.args.segment.now 0 c.args.self.now there.some in
    (0, λ i. record c.args.self.now { openings = sym openings i; slots = sym slots i })

pub returns-in-Some-clause-is_at : goal.returns-in-Some-clause-is_at
returns-in-Some-clause-is_at c =
    let there = slot_there c.args.segment.now.key 0 c.in-Some.place c.args.self.now.openings (sym c.requires.place ∙ c.in-Some.is) in
    let at : there.at ≡ c.in-Some.place = (let e = there.counted in omega arith) in
    record {
      opening = there.opening;
      stands_at = subst (λ (n : ℕ). slice_get c.args.self.now.openings n ≡ Some there.opening) at there.stands_at;
      key_is = there.key_is;
    }

pub push-requires-clause-few : goal.push-requires-clause-few
push-requires-clause-few c =
    let missing = slot_missing c.args.segment.now.key 0 c.args.self.now.openings
    (sym c.requires.place ∙ none_since c.args.place c.in_default.not-Some) in
    let room = subst (λ (t : TableState). length t.openings < t.limits.slots) (sym c.self.view_is) (c.requires.room missing) in
    omega (arith, room, c.self.invariant.0.slots_fit)

pub push-requires-clause-room : goal.push-requires-clause-room
push-requires-clause-room c =
    let missing = slot_missing c.args.segment.now.key 0 c.args.self.now.openings
    (sym c.requires.place ∙ none_since c.args.place c.in_default.not-Some) in
    let room = subst (λ (t : TableState). length t.openings < t.limits.slots) (sym c.self.view_is) (c.requires.room missing) in
    omega (arith, room, c.self.invariant.1)

pub open-requires-clause-slots : goal.open-requires-clause-slots
open-requires-clause-slots c =
    let missing = slot_missing c.args.segment.now.key 0 c.args.self.now.openings
    (sym c.requires.place ∙ none_since c.args.place c.in_default.not-Some) in
    let room = subst (λ (t : TableState). length t.openings < t.limits.slots) (sym c.self.view_is) (c.requires.room missing) in
    omega (arith, room, c.self.invariant.3.index_is.number, c.self.invariant.3.slots)

pub open-requires-clause-room : goal.open-requires-clause-room
open-requires-clause-room c =
    let t = c.self.inside in
    let missing = slot_missing c.args.segment.now.key 0 c.args.self.now.openings
    (sym c.requires.place ∙ none_since c.args.place c.in_default.not-Some) in
    let room = subst (λ (t : TableState). length t.openings < t.limits.slots) (sym c.self.view_is) (c.requires.room missing) in
    omega (
      arith,
      room,
      total_few t.segments.entries t.openings.list t.runs.groups c.self.invariant.3.index_is c.self.invariant.0.owned,
      c.self.invariant.0.few_segments,
      c.self.invariant.3.room,
    )

pub invariant_of-self : goal.invariant_of-self
invariant_of-self c =
    let missing = slot_missing c.args.segment.now.key 0 c.args.self.now.openings
    (sym c.requires.place ∙ none_since c.args.place c.in_default.not-Some) in
    let room = subst (λ (t : TableState). length t.openings < t.limits.slots) (sym c.self.view_is) (c.requires.room missing) in
    let none = subst (λ (t : TableState). openings_of c.args.segment.now.key t.openings ≡ 0) (sym c.self.view_is) missing in
    let more = c.push.ensures.room in
    let t = c.self.inside in
    let opening : Opening = record { key = c.args.segment.now.key; shape = c.args.segment.now.shape; deadline = c.deadline_of.result } in
    let empty = no_segments c.args.segment.now.key t.openings.list (present t.segments.entries) none c.self.invariant.0.owned in
    let some : 0 < data_len c.args.segment.now.shape = omega (arith, c.requires.offered.is_part) in
    let groups = c.open.ensures.groups ∙ ap (λ n. t.runs.groups ++ unfilled n ∷ []) c.data_len.ensures in (
      rw c.push.ensures.list (sound_opened t.limits t.openings.list (present t.segments.entries) (total_size (present t.segments.entries)) _
          c.self.invariant.0 none room (let p = c.requires.offered.is_part in omega arith)),
      omega arith,
      c.self.invariant.2,
      record {
        index_is = subst (λ (l : List (List Run)). IsIndexOf t.segments.entries c.push.new.self.list l) (sym groups)
            (subst (λ (l : List Opening). IsIndexOf t.segments.entries l (t.runs.groups ++ unfilled (data_len c.args.segment.now.shape) ∷ [])) (sym c.push.ensures.list)
            (opened_index t.segments.entries t.openings.list t.runs.groups opening c.self.invariant.3.index_is empty some));
        slots = omega (arith, c.self.invariant.3.slots, c.open.ensures.slots);
        room = omega (arith, c.self.invariant.3.room, c.open.ensures.room);
        within = c.self.invariant.3.within;
        entries_fit = c.self.invariant.3.entries_fit;
        names = c.self.invariant.3.names;
      },
    )

pub returns-clause-opened : goal.returns-clause-opened
returns-clause-opened c =
    let missing = slot_missing c.args.segment.now.key 0 c.args.self.now.openings
    (sym c.requires.place ∙ none_since c.args.place c.in_default.not-Some) in
    let none = subst (λ (t : TableState). openings_of c.args.segment.now.key t.openings ≡ 0) (sym c.self.view_is) missing in
    let pushed : c.push.new.self.list ≡ openings_with c.self.inside.limits c.args.now c.args.segment.now c.self.inside.openings.list
    = c.push.ensures.list
    ∙ (ap (λ (deadline : ℕ). c.self.inside.openings.list
    ++ record { key = c.args.segment.now.key; shape = c.args.segment.now.shape; deadline = deadline } ∷ []) c.deadline_of.ensures
    ∙ sym (openings_with-none c.self.inside.limits c.args.now c.args.segment.now c.self.inside.openings.list none)) in
    let here : TableState = record {
      limits = c.self.inside.limits;
      openings = c.self.inside.openings.list;
      slots = c.self.inside.openings.slots;
      segments = present c.self.inside.segments.entries;
    } in
    let slots : c.push.new.self.slots ≡ slots_with c.args.segment.now c.push.result here
    = c.push.ensures.slots ∙ sym (slots_with-none c.args.segment.now c.push.result here none) in
    let P : TableState → Type 0 = λ t. record here { openings = c.push.new.self.list; slots = c.push.new.self.slots }
    ≡ with_opening c.args.now c.args.segment.now c.push.result t in
    (c.push.result, subst P c.self.view_is (λ i. record here { openings = pushed i; slots = slots i }))

pub returns-clause-is_at : goal.returns-clause-is_at
returns-clause-is_at c =
    let opening : Opening = record { key = c.args.segment.now.key; shape = c.args.segment.now.shape; deadline = c.deadline_of.result } in
    let at = slice_get_push c.self.inside.openings.list opening in
    let len : c.len-end.result ≡ length c.self.inside.openings.list = omega arith in
    record {
      opening = opening;
      stands_at = rw (len, c.push.ensures.list) at;
      key_is = refl;
    }

pub returns-clause-distinct : goal.returns-clause-distinct
returns-clause-distinct c =
    subst (λ (t : TableState). AllByRecursion (λ opening. openings_of opening.key t.openings ≡ 1) t.openings) c.self.view_is c.self.invariant.0.distinct

pub returns-clause-owned : goal.returns-clause-owned
returns-clause-owned c =
    subst (λ (t : TableState). AllByRecursion (λ other. openings_of other.key t.openings ≡ 1) t.segments) c.self.view_is c.self.invariant.0.owned

pub returns-in-Some-clause-shaped : goal.returns-in-Some-clause-shaped
returns-in-Some-clause-shaped c opening at = c.requires.same_unit c.in-Some.place opening (sym c.requires.place ∙ c.in-Some.is) at

pub returns-clause-shaped : goal.returns-clause-shaped
returns-clause-shaped c opening at =
    let made : Opening = record { key = c.args.segment.now.key; shape = c.args.segment.now.shape; deadline = c.deadline_of.result } in
    let there = slice_get_push c.self.inside.openings.list made in
    let len : c.len-end.result ≡ length c.self.inside.openings.list = omega arith in
    let here : slice_get c.push.new.self.list c.len-end.result ≡ Some made = rw (len, c.push.ensures.list) there in
    ap (λ (o : Opening). o.shape) (same_Some opening made (sym at ∙ here))

pub returns-in-Some-clause-distinct : goal.returns-in-Some-clause-distinct
returns-in-Some-clause-distinct c =
    subst (λ (t : TableState). AllByRecursion (λ opening. openings_of opening.key t.openings ≡ 1) t.openings) c.self.view_is c.self.invariant.0.distinct

pub returns-in-Some-clause-owned : goal.returns-in-Some-clause-owned
returns-in-Some-clause-owned c =
    subst (λ (t : TableState). AllByRecursion (λ other. openings_of other.key t.openings ≡ 1) t.segments) c.self.view_is c.self.invariant.0.owned
