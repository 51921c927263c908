use Rattle.frame_links.proofs.LinkBoard.Places.{changes_at, set_other}
use Rattle.frame_links.proofs.link_board.board.Board.poll.Goals as goal

pub returns-clause-polled : goal.returns-clause-polled
returns-clause-polled g c =
    changes_at _ c.args.self.now.ports.items c.args.port c.index_mut-place.result.now c.poll.new.self _ c.index_mut-place.ensures.value c.requires.place c.poll.ensures.polled

pub returns-clause-others : goal.returns-clause-others
returns-clause-others g c = set_other c.args.self.now.ports.items c.args.port c.poll.new.self
