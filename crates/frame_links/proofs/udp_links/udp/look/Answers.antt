use Rattle.std.proofs.Common.{Option, Result, Ok, ap, ◌∙◌, arith}
use Rattle.pdus.specs.ClnpBase.declared.streams.Failed.{Failed}
use Rattle.frame_links.specs.UdpLinks.Sockets.{told_in}
use Rattle.frame_links.specs.declared.link_board.link.Got.{Got}
use Rattle.frame_links.proofs.UdpLinks.Repeating.{one_more_look}
use Rattle.frame_links.proofs.udp_links.udp.look.Goals as goal

pub loop-preserved : goal.loop-preserved
loop-preserved g c = record {
  empty = one_more_look (g.S.Datagrams.told c.args.socket.now) (g.S.Datagrams.told c.loop.socket) (g.S.Datagrams.told c.look_once.new.socket)
      (told_in c.look_once.result c.look_once.new.buf) c.loop.invariant.empty c.look_once.ensures.looked
      (ap (λ (look : Result (Option Got) Failed). told_in look c.look_once.new.buf) (c.in-Ok-None.is ∙ ap Ok c.in-Ok-None.field-0-is));
  room = omega (arith, c.look_once.auto.buf, c.loop.invariant.room);
}
