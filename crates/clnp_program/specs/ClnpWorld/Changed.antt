-- What is so of a network behind an event that changed it.
use Rattle.std.specs.Prelude.{◌≡◌, ◌==◌, ℕ, if◌then◌else◌, List, slice_get, slice_set, Option, option_map}
use Rattle.clnp_machine.specs.Change.{with_mtu}
use Rattle.clnp_machine.specs.ClnpPlan.declared.config.PortConfig.{PortConfig}
use Rattle.clnp_machine.specs.ScenarioPlan.Plan.{Subnetwork}
use Rattle.clnp_machine.specs.ClnpNetwork.LabelledNetwork.{LabelledNetwork, ports_of, resizes}

-- the port of a number at the system at a place, as it is now
abbrev pub port_at : LabelledNetwork → (place number : ℕ) → Option PortConfig
port_at w place number = slice_get (ports_of (slice_get w.systems place)) number

-- a port, where the frames on a subnetwork may have so many octets from now on
abbrev pub fitted : (subnet mtu : ℕ) → PortConfig → PortConfig
fitted subnet mtu port = if port.subnet == subnet then with_mtu mtu port else port

-- The frames of a subnetwork may be of another length: each port that is on it takes such frames, and every other port is as it
-- was; so long are the frames of the ports that come to it later.
pub record FitsEachPort (subnets : List Subnetwork) (w : LabelledNetwork) (subnet mtu : ℕ) : Type 0 where
  pub ports : (place number : ℕ) → port_at (resizes subnets w subnet mtu).world place number ≡ option_map (fitted subnet mtu) (port_at w place number)
  pub mtus : (resizes subnets w subnet mtu).world.mtus ≡ slice_set w.mtus subnet mtu
