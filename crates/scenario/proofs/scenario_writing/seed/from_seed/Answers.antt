use Rattle.scenario.proofs.ScenarioWriting.Seeded.{parts_fit}
use Rattle.scenario.proofs.scenario_writing.seed.from_seed.Goals as goal

pub with_events-requires : goal.with_events-requires
with_events-requires c =
    record {
      fit = parts_fit c.args.seed c.in_ok-networks.networks c.in_ok-events.events.items c.in_ok-networks.ensures c.in_ok-events.ensures c.is_fit.ensures;
    }
