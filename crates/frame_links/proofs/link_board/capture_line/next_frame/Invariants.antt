use Rattle.std.proofs.Common.{◌≡◌, ◌-◌, ◌≤◌, drop, length}
use Rattle.frame_links.specs.LinkBoard.Recording.{frames_in}
use Rattle.frame_links.proofs.link_board.capture_line.next_frame.Given as goal

-- what is left is an end of the text, and has all its frames
abbrev pub invariant-loop-line : goal.invariant-loop-line
invariant-loop-line l = record {
  same : frames_in l.left ≡ frames_in l.text;
  short : length l.left ≤ length l.text;
  rest : l.left ≡ drop (length l.text - length l.left) l.text;
}

abbrev pub decreases-loop-line : goal.decreases-loop-line
decreases-loop-line l = length l.left
