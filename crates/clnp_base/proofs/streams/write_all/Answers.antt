use Rattle.std.proofs.Common.{◌∙◌, arith, length-drop, length-take}
use Rattle.clnp_base.proofs.Pouring.{written_on}
use Rattle.clnp_base.proofs.streams.write_all.Goals as goal

pub loop-at-preserved : goal.loop-at-preserved
loop-at-preserved g c = (
  omega (arith, c.loop-at.invariant.0, simp (length-take, length-drop) at c.in_ok-at.ensures.bound),
  written_on c.args.piece.now c.loop-at.at c.in_ok-at.field-0
      (g.K.Sink.written c.args.sink.now) (g.K.Sink.written c.loop-at.sink) (g.K.Sink.written c.write.new.self)
      c.loop-at.invariant.1 c.in_ok-at.ensures.octets,
  c.in_ok-at.ensures.count ∙ c.loop-at.invariant.2,
)
