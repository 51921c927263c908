-- One port after another.
use Rattle.std.proofs.Common.{ℕ, ◌+◌, ◌-◌, List, ap, refl, sym, subst, ◌∙◌, arith}
use Rattle.std.specs.List.{range_with_len}
use Rattle.std.proofs.lemmas.Result.{err_from_is_err_and}
use Rattle.clnp_machine.specs.LiveModel.Node.{Node, Outcome, looks_at, looks_at_each}
use Rattle.clnp_program.specs.LiveNode.Plays.{PlaysTo}
use Rattle.clnp_program.proofs.LiveNode.Breaking.{breaks_first, breaks_next, idle_looks}
use Rattle.clnp_program.proofs.LiveNode.Playing.{plays_to_end, plays_to_next, plays_to_start}
use Rattle.clnp_program.proofs.LiveNode.Steps.{all_ports, range_end, range_here}
use Rattle.clnp_program.proofs.live_node.node.LiveNode.look_at_each.Goals as goal

pub loop-port-init : goal.loop-port-init
loop-port-init g c =
    let board = g.B.Ports.ports c.args.board.now in
    let n = c.args.ports in
    record {
      ports = refl;
      room = refl;
      moment = refl;
      config = refl;
      later = omega arith;
      plays = λ node h.
          subst (λ (places : List ℕ). PlaysTo (looks_at_each node places) (λ (other : Node) (outcomes : List Outcome). looks_at_each other (range_with_len 0 (n - 0)) outcomes)
          node c.args.self.now board board (g.K.Sink.written c.args.sink.now) (g.K.Sink.written c.args.sink.now)) (sym (all_ports c.args.self.now board node n h c.requires.counted))
          (plays_to_start (λ (other : Node) (outcomes : List Outcome). looks_at_each other (range_with_len 0 (n - 0)) outcomes) node c.args.self.now board (g.K.Sink.written c.args.sink.now) h);
    }

pub loop-port-preserved : goal.loop-port-preserved
loop-port-preserved g c =
    let n = c.args.ports in
    let p = c.loop-port.port in
    record {
      ports = c.in_ok-look_at.ensures.ports ∙ c.loop-port.invariant.ports;
      room = c.in_ok-look_at.ensures.room ∙ c.loop-port.invariant.room;
      moment = c.in_ok-look_at.ensures.moment ∙ c.loop-port.invariant.moment;
      config = c.in_ok-look_at.ensures.config ∙ c.loop-port.invariant.config;
      later = omega (arith, c.in_ok-look_at.ensures.later, c.loop-port.invariant.later);
      plays = λ node h.
          plays_to_next _ (λ (other : Node) (outcomes : List Outcome). looks_at_each other (range_with_len p (n - p)) outcomes)
          (λ (other : Node) (outcomes : List Outcome). looks_at_each other (range_with_len (p + 1) (n - (p + 1))) outcomes)
          (λ (other : Node) (outcomes : List Outcome). looks_at other p outcomes) node _ _ _ _ _ _ _ _
          (λ (other : Node) (outcomes : List Outcome). ap (λ places. looks_at_each other places outcomes) (range_here n p (omega (arith, c.loop-port-test.true))))
          (c.loop-port.invariant.plays node h) c.in_ok-look_at.ensures.plays;
    }

pub returns-clause-plays : goal.returns-clause-plays
returns-clause-plays g c = λ node h.
    plays_to_end _ _ node _ _ _ _ _
    (λ (other : Node) (outcomes : List Outcome). ap (λ places. looks_at_each other places outcomes) (range_end c.args.ports c.loop-port.port (omega (arith, c.loop-port-test.false))))
    (c.loop-port.invariant.plays node h)

pub returns-in_err-look_at-clause-breaks : goal.returns-in_err-look_at-clause-breaks
returns-in_err-look_at-clause-breaks g c =
    let p = err_from_is_err_and c.from_residual.result c.from_residual.ensures.1 in
    rw (p.1, p.2) (λ node h.
    let n = c.args.ports in
    let p = c.loop-port.port in
    let rest = range_with_len (p + 1) (n - (p + 1)) in
    breaks_next _ _ _ node _ _ _ _ _ _ _ (c.loop-port.invariant.plays node h)
    (λ other k. rw (range_here n p (omega (arith, c.loop-port-test.true)))
    (breaks_first _ (looks_at other p) (λ (then : Node) (outcomes : List Outcome). looks_at_each then rest outcomes) other _ _ _ _ (idle_looks rest)
    (c.in_err-look_at.ensures.breaks other k))))
