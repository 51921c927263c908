use Rattle.frame_links.proofs.UdpLinks.Repeating.{GivesAgain}
use Rattle.frame_links.proofs.udp_links.udp.give.Given as goal

abbrev pub invariant-loop : goal.invariant-loop
invariant-loop g l =
    GivesAgain l.end l.datagram (g.S.Datagrams.told l.initial.socket) (g.S.Datagrams.told l.socket) l.counter
