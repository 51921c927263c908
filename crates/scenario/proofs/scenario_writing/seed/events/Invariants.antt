use Rattle.std.proofs.Common.{◌≡◌, ◌-◌, ◌∷◌, ◌++◌}
use Rattle.scenario.specs.ScenarioWriting.Seeds.{rounds}
use Rattle.clnp_plan.specs.declared.scenario_plan.event.Event.TheVariants.{Settle, Tick}
use Rattle.scenario.proofs.scenario_writing.seed.events.Given as goal

abbrev pub invariant-loop : goal.invariant-loop
invariant-loop l = l.events.items ++ (rounds (300 - l.counter) l.state).0 ≡ Tick 1 ∷ Settle 40 ∷ (rounds 300 l.seed).0
