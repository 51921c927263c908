use Rattle.std.proofs.Common.{◌∙◌}
use Rattle.frame_links.proofs.LinkBoard.Lines.{spelled_by_all}
use Rattle.frame_links.proofs.link_board.capture_line.is_spelled.Goals as goal

pub returns-then-line-eq0 : goal.returns-then-line-eq0
returns-then-line-eq0 c = c.are_digits.ensures ∙ spelled_by_all c.args.line.now c.if-line-eq0.true
