use Rattle.std.proofs.Common.{◌≡◌, ◌++◌, take}
use Rattle.std.specs.List.{flat_map}
use Rattle.scenario.specs.ScenarioWriting.Canonical.{belongings_text}
use Rattle.scenario.proofs.scenario_writing.writer.push_all_belongings.Given as goal

abbrev pub invariant-loop-system : goal.invariant-loop-system
invariant-loop-system l =
    l.out.items ≡ l.fn.out.items ++ flat_map (belongings_text l.subnets) (take l.system-index l.systems)
