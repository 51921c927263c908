-- A fit scenario is fit in version 2.
use Rattle.std.proofs.Common.{arith}
use Rattle.clnp_plan.specs.ScenarioPlan.Migrated.{migrated}
use Rattle.clnp_plan.specs.ScenarioPlan.Plan.{IsFit, Plan}

pub migrated_fit : (plan : Plan) → IsFit plan → IsFit (migrated plan)
migrated_fit plan fit =
    record {
      version = record { least = omega arith; most = omega arith };
      limits = fit.limits;
      together = λ one. absurd (omega (arith, one));
      systems = fit.systems;
      named_subnets = fit.named_subnets;
      named_systems = fit.named_systems;
      subnet_names = fit.subnet_names;
      system_names = fit.system_names;
      few_subnets = fit.few_subnets;
      few_systems = fit.few_systems;
      mtus = fit.mtus;
      snpas = fit.snpas;
      ports = fit.ports;
      different = fit.different;
      prefixes = fit.prefixes;
      addresses = fit.addresses;
      each_address = fit.each_address;
      ticks = fit.ticks;
      asks = fit.asks;
      formed = fit.formed;
      places = fit.places;
      senders = fit.senders;
      congested = fit.congested;
      injected = fit.injected;
      of_version = λ one. absurd (omega (arith, one));
      changes = fit.changes;
      stand = fit.stand;
      said = fit.said;
      few_events = fit.few_events;
      passed = fit.passed;
    }
