-- Scenarios of worked examples: a host, and a router between two subnetworks.
use Rattle.std.proofs.Common.{ℕ, true, List, [], ◌∷◌, codes}
use Rattle.system_tables.specs.declared.forwarding.route.Route.{Route}
use Rattle.clnp_plan.specs.declared.config.PortConfig.{PortConfig}
use Rattle.clnp_plan.specs.declared.config.Role.TheVariants.{Host, Router}
use Rattle.clnp_plan.specs.declared.config.Settings.{Settings}
use Rattle.pdus.specs.Nsap.Prefix.{digits_of}
use Rattle.clnp_plan.specs.ScenarioPlan.Plan.{Plan}
use Rattle.clnp_plan.specs.declared.scenario_plan.event.Event.{Event}
use Rattle.clnp_plan.specs.declared.scenario_plan.event.Event.TheVariants.{Send, Tick}
use Rattle.clnp_plan.specs.declared.scenario_plan.event.Body.TheVariants.{Hex}

-- ---- what both have

abbrev pub silent : Settings
silent = record {
  hello = 0;
  suggest = 0;
  rhold = 120;
  slots = 16;
  segments = 1024;
  budget = 262144;
  neighbours = 64;
  routers = 8;
  redirects = 64;
  life = 64;
  sealed = true;
}

abbrev pub of_a : List ℕ
of_a = 0x47 ∷ 0 ∷ 0x27 ∷ 2 ∷ []

abbrev pub of_b : List ℕ
of_b = 0x47 ∷ 0 ∷ 0x27 ∷ 1 ∷ []

abbrev pub on_subnetwork : ℕ → List ℕ → PortConfig
on_subnetwork subnet snpa = record { subnet = subnet; snpa = snpa; transit = 1; mtu = 1500 }

-- ---- a host that sends a data unit twice

abbrev pub asks : Event
asks = Send 0 of_a of_b (Hex (0x68 ∷ 0x69 ∷ [])) (record { life = 64; report = true; segment = true; options = [] })

abbrev pub host_plan : Plan
host_plan = record {
  version = 1;
  limits = record { age = 256; hold = 60; reuse = 320; skew = 0 };
  subnets = record { name = codes "lan"; mtu = 1500 } ∷ [];
  systems =
      record { name = codes "a"; role = Host; addresses = of_a ∷ []; ports = on_subnetwork 0 (1 ∷ []) ∷ []; routes = []; settings = silent } ∷ [];
  events = asks ∷ Tick 320 ∷ asks ∷ [];
}

-- ---- a router between two subnetworks

-- a route to the host with this address alone, which is the title too
abbrev pub to_host : (address : List ℕ) (port : ℕ) (snpa : List ℕ) → Route
to_host address port snpa = record { prefix = digits_of address; port = port; snpa = snpa; title = address }

abbrev pub router_plan : Plan
router_plan = record {
  version = 1;
  limits = record { age = 256; hold = 60; reuse = 320; skew = 0 };
  subnets = record { name = codes "one"; mtu = 1500 } ∷ record { name = codes "two"; mtu = 1500 } ∷ [];
  systems =
      record {
        name = codes "r";
        role = Router;
        addresses = (0x47 ∷ 0 ∷ 0x27 ∷ 0xff ∷ []) ∷ [];
        ports = on_subnetwork 0 (10 ∷ []) ∷ on_subnetwork 1 (11 ∷ []) ∷ [];
        routes = to_host of_b 1 (2 ∷ []) ∷ to_host of_a 0 (1 ∷ []) ∷ [];
        settings = silent;
      } ∷ [];
  events = [];
}
