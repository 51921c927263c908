-- A place is covered exactly where a run fills it.
use Rattle.std.proofs.Common.{◌≡◌, ℕ, List, not, length, map, Some, ap, sym, subst, ◌∙◌, arith}
use Rattle.std.specs.Prelude.{slice_get}
use Rattle.std.specs.List.{AllByRecursion}
use Rattle.std.proofs.lemmas.Option.{slice_get_within}
use Rattle.system_tables.specs.declared.reassembly.segment.Key.{Key}
use Rattle.system_tables.specs.declared.reassembly.segment.Segment.{Segment}
use Rattle.system_tables.specs.Reassembly.Arrival.{are_covered, arrival_of, data_len}
use Rattle.system_tables.specs.Reassembly.Entries.{present}
use Rattle.system_tables.specs.Reassembly.Offered.{openings_of}
use Rattle.system_tables.specs.Reassembly.Pages.{on_pages}
use Rattle.system_tables.specs.Reassembly.State.{TableState}
use Rattle.system_tables.proofs.ReassemblyFacts.Indexing.{empty_cover, gap_tells_cover}
use Rattle.system_tables.proofs.ReassemblyFacts.Run.{arrivals_of}
use Rattle.system_tables.proofs.ReassemblyFacts.Slots.{no_segments, slot_missing, slot_there}
use Rattle.system_tables.proofs.reassembly.table.Table.is_there.Goals as goal

pub pages_of-requires : goal.pages_of-requires
pages_of-requires c =
    let t = c.self.inside in
    let there = slot_there c.args.segment.now.key 0 c.in-Some.place c.args.self.now.openings (c.requires.place ∙ c.in-Some.is) in
    omega (
      arith,
      there.counted,
      slice_get_within c.args.self.now.openings there.at there.opening there.stands_at,
      ap (λ (v : TableState). length v.openings) c.self.view_is,
      c.self.invariant.3.index_is.number,
    )

pub has_gap-requires : goal.has_gap-requires
has_gap-requires c =
    let t = c.self.inside in
    let there = slot_there c.args.segment.now.key 0 c.in-Some.place c.args.self.now.openings (c.requires.place ∙ c.in-Some.is) in
    let slot_is : there.at ≡ c.in-Some.place = omega (arith, there.counted) in
    let at : slice_get c.args.self.now.openings c.in-Some.place ≡ Some there.opening
    = subst (λ (n : ℕ). slice_get c.args.self.now.openings n ≡ Some there.opening) slot_is there.stands_at in
    let at_here = ap (λ (v : TableState). slice_get v.openings c.in-Some.place) c.self.view_is ∙ at in
    let are = c.self.invariant.3.index_is.each c.in-Some.place there.opening (on_pages c.pages_of.result) at_here c.pages_of.ensures in
    (0, data_len there.opening.shape, are.joined)

pub returns-in-Some : goal.returns-in-Some
returns-in-Some c =
    let t = c.self.inside in
    let segment = c.args.segment.now in
    let there = slot_there segment.key 0 c.in-Some.place c.args.self.now.openings (c.requires.place ∙ c.in-Some.is) in
    let slot_is : there.at ≡ c.in-Some.place = omega (arith, there.counted) in
    let at : slice_get c.args.self.now.openings c.in-Some.place ≡ Some there.opening
    = subst (λ (n : ℕ). slice_get c.args.self.now.openings n ≡ Some there.opening) slot_is there.stands_at in
    let at_here = ap (λ (v : TableState). slice_get v.openings c.in-Some.place) c.self.view_is ∙ at in
    let shape = c.requires.shape c.in-Some.place there.opening c.in-Some.is at in
    let are = c.self.invariant.3.index_is.each c.in-Some.place there.opening (on_pages c.pages_of.result) at_here c.pages_of.ensures in
    let high = ap data_len shape in
    let told = gap_tells_cover t.segments.entries there.opening (on_pages c.pages_of.result) segment.offset (arrival_of segment).len c.end-to.result are
    (sym c.end-to.ensures.end) (omega (arith, high, c.end-to.ensures.within)) in
    ap not c.has_gap.ensures ∙ told
    ∙ ap (λ (k : Key). are_covered (arrivals_of k (present t.segments.entries)) segment.offset (arrival_of segment).len) there.key_is
    ∙ ap (λ (v : TableState). are_covered (arrivals_of segment.key v.segments) segment.offset (arrival_of segment).len) c.self.view_is

pub returns-in-None : goal.returns-in-None
returns-in-None c =
    let segment = c.args.segment.now in
    let missing = slot_missing segment.key 0 c.args.self.now.openings (c.requires.place ∙ c.in-None.is) in
    let owned = subst (λ (t : TableState). AllByRecursion (λ other. openings_of other.key t.openings ≡ 1) t.segments) c.self.view_is c.self.invariant.0.owned in
    let none = no_segments segment.key c.args.self.now.openings c.args.self.now.segments missing owned in
    empty_cover segment.offset (arrival_of segment).len c.end-to.result (sym c.end-to.ensures.end)
    ∙ ap (λ (l : List Segment). are_covered (map arrival_of l) segment.offset (arrival_of segment).len) (sym none)
