use Rattle.std.proofs.Common.{ap, length, arith}
use Rattle.pdus.proofs.EsisPdus.Lengths.{options_behind}
use Rattle.pdus.proofs.esis_pdus.decoder.read_suggested.Goals as goal

pub overflow_sub-first : goal.overflow_sub-first
overflow_sub-first c = omega (arith, ap length c.requires.options, options_behind c.args.head.now c.requires.at_least)

pub place_of_unfit-requires : goal.place_of_unfit-requires
place_of_unfit-requires c = omega (arith, ap length c.requires.options, options_behind c.args.head.now c.requires.at_least)
