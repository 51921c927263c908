use Rattle.std.specs.List.{AllByRecursion}
use Rattle.pdus.specs.MadePdus.Left.{IsCutOf}
use Rattle.codec_tests.proofs.segmenter_calls.cuts_pieces_again.Given as goal

abbrev pub invariant-loop-want : goal.invariant-loop-want
invariant-loop-want g l = AllByRecursion (IsCutOf 3000) l.cuts
