use Rattle.std.proofs.Common.{◌≡◌, map, take}
use Rattle.clnp_plan.specs.ScenarioPlan.Standing.{prefixes_of}
use Rattle.scenario.proofs.standing.prefixes_of.Given as goal

abbrev pub invariant-loop-system : goal.invariant-loop-system
invariant-loop-system l = l.prefixes.items ≡ map prefixes_of (take l.system-index l.systems)
