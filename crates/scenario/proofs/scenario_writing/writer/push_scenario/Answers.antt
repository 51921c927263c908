use Rattle.std.proofs.Common.{◌≡◌, ◌++◌, codes}
use Rattle.std.proofs.lemmas.Result.{on_ok_weaker}
use Rattle.std.specs.List.{flat_map}
use Rattle.scenario.specs.ScenarioWriting.Canonical.{declarations_text, event_text, header_text}
use Rattle.scenario.proofs.ScenarioWriting.Pieces.{five_pieces}
use Rattle.scenario.proofs.scenario_writing.writer.push_scenario.Goals as goal

pub returns : goal.returns
returns c =
    let plan = c.args.scenario.now in
    let head : c.push_header.new.out.items ≡ c.args.out.now.items ++ header_text plan.version = rw c.version.ensures at c.in_ok-push_header.ensures in
    let events : c.push_events.new.out.items ≡ c.push.new.out.items ++ flat_map (event_text plan.subnets plan.systems) plan.events =
    rw (c.subnets.ensures, c.systems.ensures, c.events.ensures) at c.in_ok-push_events.ensures in
    on_ok_weaker c.push-2.result (λ written. five_pieces c.args.out.now.items (header_text plan.version) (declarations_text plan) (codes "events\n")
    (flat_map (event_text plan.subnets plan.systems) plan.events) (codes "end\n") c.push_header.new.out.items c.push_declarations.new.out.items c.push.new.out.items
    c.push_events.new.out.items c.push-2.new.out.items head c.in_ok-push_declarations.ensures c.in_ok-push.ensures.written events written)
    c.push-2.ensures.written
