use Rattle.std.proofs.Common.{take}
use Rattle.frame_links.specs.UdpLinks.Sockets.{GivesEach}
use Rattle.frame_links.proofs.udp_links.udp.give_each.Given as goal

abbrev pub invariant-loop-end : goal.invariant-loop-end
invariant-loop-end g l =
    GivesEach (take l.end-index l.ends) l.datagram (g.S.Datagrams.told l.initial.socket) (g.S.Datagrams.told l.socket) l.all
