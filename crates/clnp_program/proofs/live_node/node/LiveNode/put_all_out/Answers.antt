-- One output after another.
use Rattle.std.proofs.Common.{◌+◌, List, drop, ap, refl, ◌∙◌, arith}
use Rattle.std.proofs.lemmas.Result.{err_from_is_err_and}
use Rattle.clnp_machine.specs.System as machine
use Rattle.clnp_machine.specs.LiveModel.Node.{Node, Outcome, puts_all_out, puts_out}
use Rattle.clnp_program.proofs.LiveNode.Breaking.{breaks_first, breaks_next, idle_outputs}
use Rattle.clnp_program.proofs.LiveNode.Playing.{plays_to_end, plays_to_next, plays_to_start}
use Rattle.clnp_program.proofs.LiveNode.Steps.{goes_next, goes_no_more}
use Rattle.clnp_program.proofs.live_node.node.LiveNode.put_all_out.Goals as goal

pub loop-output-init : goal.loop-output-init
loop-output-init g c = record {
  ports = refl;
  system = refl;
  now = refl;
  later = omega arith;
  plays = λ node others h puts.
      plays_to_start (λ (other : Node) (outcomes : List Outcome). puts_all_out other others outcomes) node c.args.self.now
      (g.B.Ports.ports c.args.board.now) (g.K.Sink.written c.args.sink.now) h;
}

pub loop-output-preserved : goal.loop-output-preserved
loop-output-preserved g c =
    let i = c.loop-output.output-index in
    record {
      ports = c.in_ok-put_out.ensures.ports ∙ c.loop-output.invariant.ports;
      system = c.in_ok-put_out.ensures.system ∙ c.loop-output.invariant.system;
      now = c.in_ok-put_out.ensures.now ∙ c.loop-output.invariant.now;
      later = omega (arith, c.in_ok-put_out.ensures.later, c.loop-output.invariant.later);
      plays = λ node others h puts.
          let next = goes_next c.args.outputs.now others i c.output-item.result puts c.output-item.is c.loop-output-test.true in
          plays_to_next _ (λ (other : Node) (outcomes : List Outcome). puts_all_out other (drop i others) outcomes)
          (λ (other : Node) (outcomes : List Outcome). puts_all_out other (drop (i + 1) others) outcomes)
          (λ (other : Node) (outcomes : List Outcome). puts_out other next.other outcomes) node _ _ _ _ _ _ _ _
          (λ (other : Node) (outcomes : List Outcome). ap (λ os. puts_all_out other os outcomes) next.whole)
          (c.loop-output.invariant.plays node others h puts) (λ other k. c.in_ok-put_out.ensures.plays other next.other k next.puts);
    }

pub returns-clause-plays : goal.returns-clause-plays
returns-clause-plays g c = λ node others h puts.
    plays_to_end _ _ node _ _ _ _ _
    (λ (other : Node) (outcomes : List Outcome). ap (λ os. puts_all_out other os outcomes) (goes_no_more c.args.outputs.now others c.loop-output.output-index puts c.loop-output-test.false))
    (c.loop-output.invariant.plays node others h puts)

pub returns-in_err-put_out-clause-breaks : goal.returns-in_err-put_out-clause-breaks
returns-in_err-put_out-clause-breaks g c =
    let p = err_from_is_err_and c.from_residual.result c.from_residual.ensures.1 in
    rw (p.1, p.2) (λ node others h puts.
    let i = c.loop-output.output-index in
    let next = goes_next c.args.outputs.now others i c.output-item.result puts c.output-item.is c.loop-output-test.true in
    let rest : List machine.Output = drop (i + 1) others in
    breaks_next _ _ _ node _ _ _ _ _ _ _ (c.loop-output.invariant.plays node others h puts)
    (λ other k. rw next.whole
    (breaks_first _ (puts_out other next.other) (λ (then : Node) (outcomes : List Outcome). puts_all_out then rest outcomes) other _ _ _ _ (idle_outputs rest)
    (c.in_err-put_out.ensures.breaks other next.other k next.puts))))
