use Rattle.std.proofs.Common.{◌≤◌, length}
use Rattle.frame_links.proofs.UdpLinks.Repeating.{LooksEmpty}
use Rattle.frame_links.proofs.udp_links.udp.look.Given as goal

abbrev pub invariant-loop : goal.invariant-loop
invariant-loop g l = record {
  empty : LooksEmpty (g.S.Datagrams.told l.initial.socket) (g.S.Datagrams.told l.socket);
  room : 70000 ≤ length l.buf;
}
