-- One page more has the other indices.
use Rattle.std.proofs.Common.{[], ◌∙◌, ◌<◌, ap, arith, drop, get_or, length, length-append, map, take}
use Rattle.std.proofs.lemmas.List.{get_or_default, length-drop, length-map, length-take}
use Rattle.std.proofs.lemmas.List.Edits.{map_over_more}
use Rattle.system_tables.specs.Reassembly.Runs.{renamed}
use Rattle.system_tables.proofs.reassembly.runs.rename_pages.Goals as goal

pub rename-requires : goal.rename-requires
rename-requires c =
    let f = map (renamed c.args.names.now) in
    let items = c.args.pages.now.items in
    let at = c.loop-at.at in
    omega (
      arith,
      ap length c.loop-at.invariant.items,
      length-append (map f (take at items)) (drop at items),
      length-map (take at items) f,
      length-take at items,
      length-drop at items,
      c.loop-at-test.true,
      c.len-at-end.ensures,
    )

pub loop-at-preserved : goal.loop-at-preserved
loop-at-preserved c =
    let f = map (renamed c.args.names.now) in
    let items = c.args.pages.now.items in
    let pages = c.loop-at.pages.items in
    let at = c.loop-at.at in
    let within : at < length items = omega (arith, c.loop-at-test.true, c.len-at-end.ensures) in
    let more : at < length pages = omega (
      arith,
      ap length c.loop-at.invariant.items,
      length-append (map f (take at items)) (drop at items),
      length-map (take at items) f,
      length-take at items,
      length-drop at items,
      within,
    ) in
    record {
      items = c.rename.ensures.items ∙ map_over_more f items pages at (get_or pages at []) within c.loop-at.invariant.items
          (get_or_default pages at [] (get_or pages at []) more);
      most = c.rename.ensures.most ∙ c.loop-at.invariant.most;
    }
