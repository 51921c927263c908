use Rattle.std.proofs.Common.{sym, ◌∙◌, arith}
use Rattle.frame_links.proofs.LinkBoard.Playing.{end_of_end, line_comes, line_passed, no_frames}
use Rattle.frame_links.proofs.link_board.capture_line.next_frame.Goals as goal

pub returns-in-Some-lay-clause-frame : goal.returns-in-Some-lay-clause-frame
returns-in-Some-lay-clause-frame c =
    sym c.loop-line.invariant.same
    ∙ line_comes c.loop-line.left.now c.in-Some.line.now c.in-Some.rest.now _ c.in-Some.ensures.line c.in-Some-lay.ensures.frame

pub loop-line-preserved : goal.loop-line-preserved
loop-line-preserved c = record {
  same = sym (line_passed c.loop-line.left.now c.in-Some.line.now c.in-Some.rest.now c.in-Some.ensures.line c.in_default-lay.ensures.frame)
      ∙ c.loop-line.invariant.same;
  short = omega (arith, c.in-Some.ensures.shorter, c.loop-line.invariant.short);
  rest = end_of_end c.args.text.now c.loop-line.left.now c.in-Some.rest.now c.loop-line.invariant.rest c.loop-line.invariant.short
      c.in-Some.ensures.rest (omega (arith, c.in-Some.ensures.shorter));
}

pub returns-clause-frame : goal.returns-clause-frame
returns-clause-frame c = sym c.loop-line.invariant.same ∙ no_frames c.loop-line.left.now c.in_default.ensures.line
