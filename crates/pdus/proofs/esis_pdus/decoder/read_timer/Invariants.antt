use Rattle.std.proofs.Common.{length}
use Rattle.pdus.proofs.EsisPdus.Timers.{IsSoFar}
use Rattle.pdus.proofs.esis_pdus.decoder.read_timer.Given as goal

abbrev pub invariant-loop-code : goal.invariant-loop-code
invariant-loop-code l = IsSoFar l.seconds l.place l.rest l.first l.options

abbrev pub decreases-loop-code : goal.decreases-loop-code
decreases-loop-code l = length l.rest
