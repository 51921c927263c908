use Rattle.std.proofs.Common.{[], take, refl, arith}
use Rattle.std.proofs.lemmas.List.{take_all, take_more}
use Rattle.frame_links.proofs.UdpLinks.Repeating.{given_more}
use Rattle.frame_links.proofs.udp_links.udp.give_each.Goals as goal

pub loop-end-init : goal.loop-end-init
loop-end-init g c = (refl, refl)

pub loop-end-preserved : goal.loop-end-preserved
loop-end-preserved g c =
    rw (take_more c.args.ends.now c.loop-end.end-index (record { address = []; port = 0 }) c.loop-end-test.true)
    (given_more (take c.loop-end.end-index c.args.ends.now) _ c.args.datagram.now (g.S.Datagrams.told c.args.socket.now)
    (g.S.Datagrams.told c.loop-end.socket) (g.S.Datagrams.told c.give-all.new.socket) c.loop-end.all c.give-all.result
    c.loop-end.invariant c.give-all.ensures)

pub returns : goal.returns
returns g c = rw (take_all c.loop-end.end-index c.args.ends.now (omega (arith, c.loop-end-test.false))) at c.loop-end.invariant
