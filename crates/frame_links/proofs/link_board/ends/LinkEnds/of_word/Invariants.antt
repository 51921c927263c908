use Rattle.std.proofs.Common.{◌≡◌, ◌≤◌, length}
use Rattle.frame_links.specs.LinkBoard.Words.{each, parts_left, peer_of}
use Rattle.frame_links.proofs.LinkBoard.Peers.{behind, size_left, text_in}
use Rattle.frame_links.proofs.link_board.ends.LinkEnds.of_word.Given as goal

-- the peers so far and those of the parts that are left are all that the parts name
abbrev pub invariant-loop-left : goal.invariant-loop-left
invariant-loop-left l = record {
  all : each peer_of (parts_left 44 (text_in l.initial.left)) ≡ behind l.peers.items (parts_left 44 (text_in l.left));
  few : length l.peers.items ≤ 16;
}

abbrev pub decreases-loop-left : goal.decreases-loop-left
decreases-loop-left l = size_left (text_in l.left)
