use Rattle.std.proofs.Common.{◌≡◌, ◌++◌, take}
use Rattle.std.specs.List.{flat_map}
use Rattle.scenario.specs.ScenarioWriting.Canonical.{system_text}
use Rattle.scenario.proofs.scenario_writing.writer.push_systems.Given as goal

abbrev pub invariant-loop-system : goal.invariant-loop-system
invariant-loop-system l =
    l.out.items ≡ l.fn.out.items ++ flat_map system_text (take l.system-index l.systems)
