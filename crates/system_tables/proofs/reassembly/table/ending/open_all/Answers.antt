-- One opening more.
use Rattle.std.proofs.Common.{◌≡◌, ◌+◌, ◌<◌, ◌++◌, ◌∷◌, [], take, refl, ap, sym, subst, ◌∙◌, arith}
use Rattle.std.specs.Prelude.{List}
use Rattle.std.proofs.lemmas.List.{length-take, take_more}
use Rattle.std.proofs.lemmas.Option.{get_or_from_slice_get, slice_get_within}
use Rattle.pdus.proofs.ClnpBase.Lists.{AllByRecursion-slice_get}
use Rattle.system_tables.specs.declared.reassembly.runs.Run.{Run}
use Rattle.system_tables.specs.declared.reassembly.openings.Opening.{Opening}
use Rattle.system_tables.specs.Reassembly.Arrival.{data_len}
use Rattle.system_tables.specs.Reassembly.Index.{IsIndexOf}
use Rattle.system_tables.specs.Reassembly.Runs.{unfilled}
use Rattle.system_tables.proofs.ReassemblyFacts.Indexing.{opened_index, total_few}
use Rattle.system_tables.proofs.reassembly.table.ending.open_all.Goals as goal

pub open-requires-clause-room : goal.open-requires-clause-room
open-requires-clause-room c =
    let openings = c.args.openings.now.list in
    let i = c.loop-place.place in
    omega (
      arith,
      total_few [] (take i openings) c.loop-place.runs.groups c.loop-place.invariant.0 tt,
      length-take i openings,
      slice_get_within openings i c.at.result.now c.at.ensures.opening,
      c.requires.room,
      c.loop-place.invariant.2,
    )

pub loop-place-preserved : goal.loop-place-preserved
loop-place-preserved c =
    let openings = c.args.openings.now.list in
    let i = c.loop-place.place in
    let opening = c.at.result.now in
    let at = c.at.ensures.opening in
    let shaped = AllByRecursion-slice_get (λ (o : Opening). o.shape.head_len < o.shape.total) openings i opening at c.requires.shaped in
    let some : 0 < data_len opening.shape = omega (arith, shaped) in
    let opened = opened_index [] (take i openings) c.loop-place.runs.groups opening c.loop-place.invariant.0 refl some in
    let groups = c.open.ensures.groups ∙ ap (λ n. c.loop-place.runs.groups ++ unfilled n ∷ []) c.data_len.ensures in
    let more : take (i + 1) openings ≡ take i openings ++ opening ∷ [] = take_more openings i opening (slice_get_within openings i opening at)
    ∙ ap (λ (o : Opening). take i openings ++ o ∷ []) (get_or_from_slice_get openings i opening opening at) in (
      subst (λ (l : List (List Run)). IsIndexOf [] (take (i + 1) openings) l) (sym groups)
          (subst (λ (l : List Opening). IsIndexOf [] l (c.loop-place.runs.groups ++ unfilled (data_len opening.shape) ∷ [])) (sym more) opened),
      omega (arith, c.loop-place.invariant.1, c.open.ensures.slots),
      omega (arith, c.loop-place.invariant.2, c.open.ensures.room),
    )
