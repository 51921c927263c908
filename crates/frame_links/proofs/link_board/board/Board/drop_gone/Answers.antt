use Rattle.std.proofs.Common.{◌<◌, ◌∙◌, length, arith}
use Rattle.std.proofs.lemmas.List.{length-set}
use Rattle.frame_links.specs.LinkBoard.Ports.{without_gone}
use Rattle.frame_links.proofs.LinkBoard.Places.{kept_next, over_next}
use Rattle.frame_links.proofs.link_board.board.Board.drop_gone.Goals as goal

pub loop-place-preserved : goal.loop-place-preserved
loop-place-preserved g c =
    let within : c.loop-place.place < length c.loop-place.self.ports.items = omega (arith, c.loop-place-test.true, c.len-place-end.ensures, c.loop-place.invariant.ports) in
    record {
      seen = over_next _ without_gone c.args.self.now.ports.items c.loop-place.self.ports.items c.loop-place.place c.index_mut-port.result.now c.let_go.new.self
          c.loop-place.invariant.seen c.index_mut-port.ensures.value within c.let_go.ensures.gone;
      kept = kept_next _ c.args.self.now.ports.items c.loop-place.self.ports.items c.loop-place.place c.index_mut-port.result.now c.let_go.new.self
          c.loop-place.invariant.kept c.index_mut-port.ensures.value within c.let_go.ensures.kept;
      ports = length-set c.loop-place.self.ports.items c.loop-place.place c.let_go.new.self ∙ c.loop-place.invariant.ports;
    }
