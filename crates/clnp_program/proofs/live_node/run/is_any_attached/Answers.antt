-- One port after another.
use Rattle.std.proofs.Common.{◌∙◌, sym, arith}
use Rattle.clnp_program.proofs.LiveNode.Attached.{any_behind, any_here, any_start, none_behind}
use Rattle.clnp_program.proofs.live_node.run.is_any_attached.Goals as goal

pub loop-port-init : goal.loop-port-init
loop-port-init g c = record { rest = any_start (g.B.Ports.ports c.args.board.now) }

pub loop-port-preserved : goal.loop-port-preserved
loop-port-preserved g c = record {
  rest = c.loop-port.invariant.rest
      ∙ any_behind c.loop-port.port (g.B.Ports.ports c.args.board.now) (sym c.is_attached.ensures ∙ c.if-is_attached.false);
}

pub returns-then-is_attached : goal.returns-then-is_attached
returns-then-is_attached g c =
    sym (c.loop-port.invariant.rest
    ∙ any_here c.loop-port.port (g.B.Ports.ports c.args.board.now) (sym c.is_attached.ensures ∙ c.if-is_attached.true))

pub returns : goal.returns
returns g c =
    sym (c.loop-port.invariant.rest
    ∙ none_behind c.loop-port.port (g.B.Ports.ports c.args.board.now) (omega (arith, c.loop-port-test.false, c.count-port-end.ensures)))
