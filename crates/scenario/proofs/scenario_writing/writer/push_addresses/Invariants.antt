use Rattle.std.proofs.Common.{◌≡◌, ◌++◌, take}
use Rattle.std.specs.List.{flat_map}
use Rattle.scenario.specs.ScenarioWriting.Canonical.{address_text}
use Rattle.scenario.proofs.scenario_writing.writer.push_addresses.Given as goal

abbrev pub invariant-loop-address : goal.invariant-loop-address
invariant-loop-address l =
    l.out.items ≡ l.fn.out.items ++ flat_map (address_text l.name) (take l.address-index l.addresses)
