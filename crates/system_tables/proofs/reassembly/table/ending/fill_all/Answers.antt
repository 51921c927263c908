-- One entry more.
use Rattle.std.proofs.Common.{◌≡◌, ◌+◌, ◌≤◌, ◌++◌, ◌∷◌, [], Option, Some, length, take, ap, sym, subst, ◌∙◌, arith}
use Rattle.std.specs.Prelude.{List, slice_get}
use Rattle.std.proofs.lemmas.List.{length-take, take_more}
use Rattle.std.proofs.lemmas.Option.{slice_get-get_or}
use Rattle.pdus.proofs.ClnpBase.Lists.{AllByRecursion-slice_get}
use Rattle.system_tables.specs.declared.reassembly.segment.Segment.{Segment}
use Rattle.system_tables.specs.Reassembly.Index.{EachGives, IsIndexOf, IsNext}
use Rattle.system_tables.specs.Reassembly.Offered.{MayCome, openings_of}
use Rattle.system_tables.specs.Reassembly.Runs.{total_runs}
use Rattle.system_tables.proofs.ReassemblyFacts.Entries.{all_taken, fewer_if, if_there}
use Rattle.system_tables.proofs.ReassemblyFacts.Indexing.{index_order, next_new, total_few}
use Rattle.system_tables.proofs.reassembly.table.ending.fill_all.Goals as goal

pub fill_entry-requires-clause-owned : goal.fill_entry-requires-clause-owned
fill_entry-requires-clause-owned c =
    let entries = c.args.entries.now in
    if_there (λ (s : Segment). openings_of s.key c.args.openings.now.list ≡ 1) entries c.loop-index.index c.index-entries-index.result
    (slice_get-get_or entries c.loop-index.index c.index-entries-index.result c.loop-index-test.true ∙ ap Some (sym c.index-entries-index.is)) c.requires.kept.owned

pub fill_entry-requires-clause-came : goal.fill_entry-requires-clause-came
fill_entry-requires-clause-came c =
    let entries = c.args.entries.now in
    if_there MayCome entries c.loop-index.index c.index-entries-index.result
    (slice_get-get_or entries c.loop-index.index c.index-entries-index.result c.loop-index-test.true ∙ ap Some (sym c.index-entries-index.is)) c.requires.kept.came

pub fill_entry-requires-clause-order : goal.fill_entry-requires-clause-order
fill_entry-requires-clause-order c slot group told =
    index_order (take c.loop-index.index c.args.entries.now) c.args.openings.now.list c.loop-index.runs.groups c.loop-index.invariant.0 slot group told

pub fill_entry-requires-clause-room : goal.fill_entry-requires-clause-room
fill_entry-requires-clause-room c =
    let entries = c.args.entries.now in
    let i = c.loop-index.index in
    let owned = all_taken (λ (s : Segment). openings_of s.key c.args.openings.now.list ≡ 1) entries i c.requires.kept.owned in
    let few = total_few (take i entries) c.args.openings.now.list c.loop-index.runs.groups c.loop-index.invariant.0 owned in
    fewer_if entries i c.index-entries-index.result
    (slice_get-get_or entries i c.index-entries-index.result c.loop-index-test.true ∙ ap Some (sym c.index-entries-index.is))
    (total_runs c.loop-index.runs.groups + 2 ≤ c.loop-index.runs.room)
    (λ fewer. omega (arith, few, fewer, c.requires.room, c.loop-index.invariant.2))

pub loop-index-preserved : goal.loop-index-preserved
loop-index-preserved c =
    let entries = c.args.entries.now in
    let openings = c.args.openings.now.list in
    let i = c.loop-index.index in
    let entry = c.index-entries-index.result in
    let at : slice_get entries i ≡ Some entry = slice_get-get_or entries i entry c.loop-index-test.true ∙ ap Some (sym c.index-entries-index.is) in
    let long : length (take i entries) ≡ i = omega (arith, length-take i entries, c.loop-index-test.true) in
    let next : IsNext (take i entries) entry openings = record {
      distinct = c.requires.kept.distinct;
      shaped = c.requires.kept.shaped;
      gives = λ segment slot opening is there key_is.
          next_new entries i segment opening (at ∙ ap Some is)
          (AllByRecursion-slice_get (EachGives entries) openings slot opening there c.requires.kept.each) key_is;
    } in
    let filled = c.fill_entry.ensures.index (take i entries) (omega (arith, long)) next c.loop-index.invariant.0 in
    let more : take (i + 1) entries ≡ take i entries ++ entry ∷ [] = take_more entries i entry c.loop-index-test.true
    ∙ ap (λ (e : Option Segment). take i entries ++ e ∷ []) (sym c.index-entries-index.is) in (
      subst (λ (l : List (Option Segment)). IsIndexOf l openings c.fill_entry.new.runs.groups) (sym more) filled,
      omega (arith, c.loop-index.invariant.1, c.fill_entry.ensures.slots),
      omega (arith, c.loop-index.invariant.2, c.fill_entry.ensures.room),
    )
