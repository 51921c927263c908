-- The clock goes on before those of the systems.
use Rattle.std.proofs.Common.{◌+◌, ap, arith, ℕ}
use Rattle.std.proofs.lemmas.Result.{on_ok_weaker}
use Rattle.clnp_program.proofs.ClnpWorld.TickSteps.{all_may, clock_goes_on}
use Rattle.clnp_program.proofs.clnp_world.network.Network.tick_one.Goals as goal

pub tick_each-requires-clause-running : goal.tick_each-requires-clause-running
tick_each-requires-clause-running g c =
    let old = c.args.self.now in
    let model = c.requires.running.0 in
    let h = c.requires.running.1 in (
      record model { clock = model.clock + 1 },
      clock_goes_on old model (old.clock + 1) (model.clock + 1) h (ap (λ (t : ℕ). t + 1) h.shows.clock) (omega arith),
      all_may model h.behind,
    )

pub returns : goal.returns
returns g c =
    let old = c.args.self.now in
    on_ok_weaker c.tick_each.result
    (λ ticks model h. ticks (record model { clock = model.clock + 1 })
    (clock_goes_on old model (old.clock + 1) (model.clock + 1) h (ap (λ (t : ℕ). t + 1) h.shows.clock) (omega arith)) (all_may model h.behind))
    c.tick_each.ensures
