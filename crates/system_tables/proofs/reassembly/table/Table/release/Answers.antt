use Rattle.std.proofs.lemmas.Option.{slice_get_within}
use Rattle.system_tables.proofs.ReassemblyFacts.NoWhole.{released_none_whole}
use Rattle.system_tables.proofs.reassembly.table.Table.release.Goals as goal

pub take_out-requires : goal.take_out-requires
take_out-requires c =
    let is = c.place_at-place.ensures c.requires.buffer.key c.requires.named in
    slice_get_within c.args.self.now.openings c.place_at-place.result is.opening is.stands_at

pub returns-clause-stands : goal.returns-clause-stands
returns-clause-stands c buffers key stands named = c.take_out.ensures.stands buffers key stands (c.place_at-place.ensures key named)

pub returns-clause-none_whole : goal.returns-clause-none_whole
returns-clause-none_whole c = released_none_whole c.args.self.now c.take_out.new.self c.args.slot.0 (returns-clause-stands c)
