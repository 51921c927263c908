use Rattle.std.proofs.Common.{length}
use Rattle.link_tests.proofs.pcap_told.tell_pieces.Given as goal

abbrev pub decreases-loop-left : goal.decreases-loop-left
decreases-loop-left l = length l.left
