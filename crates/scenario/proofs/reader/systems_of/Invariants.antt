use Rattle.std.proofs.Common.{◌≡◌, map}
use Rattle.std.specs.List.{AllByRecursion}
use Rattle.clnp_plan.specs.Configuration.{IsSystem}
use Rattle.scenario.specs.Declarations.{configuration_of}
use Rattle.scenario.proofs.reader.systems_of.Given as goal

abbrev pub invariant-loop-system : goal.invariant-loop-system
invariant-loop-system l = record {
  done : l.configs.items ≡ map configuration_of l.yielded;
  left : AllByRecursion IsSystem (map configuration_of l.system-iterator.rest.items);
}
