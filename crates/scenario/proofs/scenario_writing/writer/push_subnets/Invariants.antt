use Rattle.std.proofs.Common.{◌≡◌, ◌++◌, take}
use Rattle.std.specs.List.{flat_map}
use Rattle.scenario.specs.ScenarioWriting.Canonical.{subnet_text}
use Rattle.scenario.proofs.scenario_writing.writer.push_subnets.Given as goal

abbrev pub invariant-loop-subnet : goal.invariant-loop-subnet
invariant-loop-subnet l =
    l.out.items ≡ l.fn.out.items ++ flat_map subnet_text (take l.subnet-index l.subnets)
