use Rattle.std.proofs.Common.{◌≡◌, ◌++◌, take}
use Rattle.std.specs.List.{flat_map}
use Rattle.scenario.specs.ScenarioWriting.Canonical.{route_text}
use Rattle.scenario.proofs.scenario_writing.writer.push_routes.Given as goal

abbrev pub invariant-loop-route : goal.invariant-loop-route
invariant-loop-route l =
    l.out.items ≡ l.fn.out.items ++ flat_map (route_text l.name) (take l.route-index l.routes)
