-- Where no segment is kept all entries go; else the empty ones are closed up, and the runs tell the new indices.
use Rattle.std.proofs.Common.{◌∙◌, Option, Some, ℕ, length, map, ap, sym, subst, arith, rules}
use Rattle.std.specs.Prelude.{◌≡◌, List}
use Rattle.std.proofs.lemmas.Bool.{leb-false}
use Rattle.std.proofs.lemmas.List.{length-map, nil_from_length}
use Rattle.system_tables.specs.declared.reassembly.runs.Run.{Run}
use Rattle.system_tables.specs.declared.reassembly.segment.Segment.{Segment}
use Rattle.system_tables.specs.Reassembly.Entries.{full, present}
use Rattle.system_tables.specs.Reassembly.Index.{IsIndexOf}
use Rattle.system_tables.specs.Reassembly.Runs.{renamed}
use Rattle.system_tables.proofs.ReassemblyFacts.Entries.{present-full}
use Rattle.system_tables.proofs.ReassemblyFacts.Indexing.{closed_index, idle_index}
use Rattle.system_tables.proofs.reassembly.table.room.make_room.Goals as goal

pub returns-then-len-eq0-clause-index : goal.returns-then-len-eq0-clause-index
returns-then-len-eq0-clause-index c openings shaped index =
    let entries = c.args.segments.now.entries in
    let groups = c.args.runs.now.groups in
    let none : length (present entries) ≡ 0 = search rules in
    subst (λ (l : List (Option Segment)). IsIndexOf l openings groups) (sym c.clear.ensures.entries)
    (idle_index entries openings groups (nil_from_length (present entries) none) index)

pub returns-then-is_full-clause-present : goal.returns-then-is_full-clause-present
returns-then-is_full-clause-present c =
    ap present c.close_up.ensures.entries ∙ present-full (present c.args.segments.now.entries)

pub returns-then-is_full-clause-more : goal.returns-then-is_full-clause-more
returns-then-is_full-clause-more c =
    let segments = present c.args.segments.now.entries in
    omega (
      arith,
      ap length c.close_up.ensures.entries,
      length-map segments (λ (s : Segment). Some s),
      c.requires.few,
      c.close_up.ensures.room,
    )

pub returns-then-is_full-clause-index : goal.returns-then-is_full-clause-index
returns-then-is_full-clause-index c openings shaped index =
    let entries = c.args.segments.now.entries in
    let groups = c.args.runs.now.groups in
    let named = c.rename.ensures.groups
    ∙ ap (λ (l : List ℕ). map (map (renamed l)) groups) (c.deref.ensures.value ∙ c.close_up.ensures.names) in
    subst (λ (l : List (Option Segment)). IsIndexOf l openings c.rename.new.self.groups) (sym c.close_up.ensures.entries)
    (subst (λ (l : List (List Run)). IsIndexOf (full (present entries)) openings l) (sym named) (closed_index entries openings groups shaped index))

pub returns-else-is_full-clause-more : goal.returns-else-is_full-clause-more
returns-else-is_full-clause-more c = leb-false _ _ (sym c.is_full.ensures ∙ c.if-is_full.false)
