use Rattle.frame_links.proofs.LinkBoard.Places.{changes_at, set_other}
use Rattle.frame_links.proofs.link_board.board.Board.send.Goals as goal

pub returns-clause-sent : goal.returns-clause-sent
returns-clause-sent g c =
    changes_at _ c.args.self.now.ports.items c.args.port c.index_mut-place.result.now c.send.new.self _ c.index_mut-place.ensures.value c.requires.place c.send.ensures

pub returns-clause-others : goal.returns-clause-others
returns-clause-others g c = set_other c.args.self.now.ports.items c.args.port c.send.new.self
