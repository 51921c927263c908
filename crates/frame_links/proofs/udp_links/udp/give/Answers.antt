use Rattle.std.proofs.Common.{sym, ◌∙◌, arith}
use Rattle.frame_links.proofs.UdpLinks.Repeating.{given_again, given_last, not_given}
use Rattle.frame_links.proofs.udp_links.udp.give.Goals as goal

pub loop-init : goal.loop-init
loop-init g c = not_given c.args.end c.args.datagram.now (g.S.Datagrams.told c.args.socket.now)

pub returns-then-not-is_again : goal.returns-then-not-is_again
returns-then-not-is_again g c =
    given_last c.args.end _ c.args.datagram.now (g.S.Datagrams.told c.args.socket.now) (g.S.Datagrams.told c.loop.socket)
    (g.S.Datagrams.told c.give-outcome.new.self) c.loop.counter c.give-outcome.result c.is_ok.result c.loop.invariant c.address_of.ensures
    c.give-outcome.ensures (omega (arith, c.loop-test.true))
    (λ again. absurd (cc (again, c.is_again.ensures, c.if-not-is_again.true))) c.is_ok.ensures.value

pub loop-preserved : goal.loop-preserved
loop-preserved g c =
    given_again c.args.end _ c.args.datagram.now (g.S.Datagrams.told c.args.socket.now) (g.S.Datagrams.told c.loop.socket)
    (g.S.Datagrams.told c.give-outcome.new.self) c.loop.counter c.give-outcome.result c.loop.invariant c.address_of.ensures
    c.give-outcome.ensures (sym c.is_again.ensures ∙ c.if-not-is_again.false)

pub returns : goal.returns
returns g c =
    given_last c.args.end _ c.args.datagram.now (g.S.Datagrams.told c.args.socket.now) (g.S.Datagrams.told c.loop.socket)
    (g.S.Datagrams.told c.give.new.self) c.loop.counter c.give.result c.is_ok-2.result c.loop.invariant c.address_of-2.ensures
    c.give.ensures (omega (arith, c.loop.auto.counter-end)) (λ again. omega (arith, c.loop.auto.counter-end, c.loop-test.false)) c.is_ok-2.ensures.value
