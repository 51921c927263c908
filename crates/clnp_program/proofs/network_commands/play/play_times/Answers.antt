use Rattle.std.proofs.Common.{◌≡◌, ◌<◌, ◌∙◌, sym, arith, append-nil, append_assoc}
use Rattle.std.proofs.lemmas.Bool.{true≢false}
use Rattle.clnp_machine.specs.ClnpPlan.declared.scenario_plan.event.Move.TheVariants.{SettleOne}
use Rattle.std.proofs.lemmas.List.{replicate_more}
use Rattle.std.proofs.lemmas.Result.{err_from_is_err_and}
use Rattle.clnp_program.proofs.NetworkCommands.Plays.{rests_as, stands_as, stopped_as}
use Rattle.clnp_program.proofs.NetworkCommands.Clocks.{time_for_next}
use Rattle.clnp_program.proofs.NetworkCommands.Runs.{replicate_next, world_after-append}
use Rattle.clnp_program.proofs.NetworkCommands.Still.{stands_rest}
use Rattle.clnp_program.proofs.network_commands.play.play_times.Goals as goal
use Rattle.clnp_program.proofs.network_commands.play.play_times.Goals.{in-SettleOne, in_default}

pub loop-made-init : goal.loop-made-init
loop-made-init g c = (λ model stands. stands, λ kind model past before u. rw append-nil u, omega arith)

pub play_move-requires : goal.play_move-requires
play_move-requires g c =
    time_for_next c.args.scenario.now c.args.world.now c.loop-made.world _ _ _ _ c.requires
    (replicate_next c.loop-made._made c.args.count c.args.mv.now (omega arith)) (c.loop-made.invariant.0 c.requires.model c.requires.stands)

pub returns-in_err-play_move-clause-comes_to : goal.returns-in_err-play_move-clause-comes_to
returns-in_err-play_move-clause-comes_to g c = λ kind model past before u.
    let p = err_from_is_err_and c.from_residual.result c.from_residual.ensures.1 in
    rw (p.1, p.2) (stopped_as kind c.args.scenario.now model past _ _ _ _ _ _ c.in_err-play_move.field-0.0
    (replicate_next c.loop-made._made c.args.count c.args.mv.now (omega arith))
    (c.in_err-play_move.ensures.comes_to kind model _ before (c.loop-made.invariant.1 kind model past before u)))

pub loop-made-preserved : goal.loop-made-preserved
loop-made-preserved g c = (
  λ model stands.
      rw (← replicate_more c.loop-made._made c.args.mv.now, world_after-append)
      (c.in_ok-play_move.ensures.stands _ (c.loop-made.invariant.0 model stands)),
  λ kind model past before u.
      rw (← replicate_more c.loop-made._made c.args.mv.now, ← append_assoc)
      (c.in_ok-play_move.ensures.comes_to kind model _ before (c.loop-made.invariant.1 kind model past before u)),
  omega (arith, c.loop-made.invariant.2, c.in_ok-play_move.ensures.later),
)

pub returns-then-matches-clause-stands : goal.returns-then-matches-clause-stands
returns-then-matches-clause-stands g c = λ model stands.
    let within : c.loop-made._made < c.args.count = omega arith in
    let is : c.args.mv.now ≡ SettleOne =
    elim c.match-matches.branch [
      | in-SettleOne w ↦ w.in-SettleOne.is
      | in_default w ↦ absurd (true≢false (sym c.if-matches.true ∙ w.matches-is))
    ] in
    let so_far = c.loop-made.invariant.0 model stands in
    stands_rest c.args.scenario.now model c.args.mv.now c.loop-made._made c.args.count _ within is
    (sym (c.is_settled-settled.ensures.stands _ so_far) ∙ c.if-settled.true) (c.in_ok-play_move.ensures.stands _ so_far)

pub returns-then-matches-clause-comes_to : goal.returns-then-matches-clause-comes_to
returns-then-matches-clause-comes_to g c = λ kind model past before u.
    let within : c.loop-made._made < c.args.count = omega arith in
    let is : c.args.mv.now ≡ SettleOne =
    elim c.match-matches.branch [
      | in-SettleOne w ↦ w.in-SettleOne.is
      | in_default w ↦ absurd (true≢false (sym c.if-matches.true ∙ w.matches-is))
    ] in
    let so_far = c.loop-made.invariant.1 kind model past before u in
    rests_as kind c.args.scenario.now model past c.args.mv.now c.loop-made._made c.args.count _ _ before _ _ _ _ within is
    (sym (c.is_settled-settled.ensures.stands _ (stands_as kind c.args.scenario.now model _ _ _ _ _ so_far)) ∙ c.if-settled.true) so_far (c.in_ok-play_move.ensures.comes_to kind model _ before so_far)
