-- Subnetworks, ports and routes, whatever was changed of them.
use Rattle.std.specs.Prelude.{◌≡◌, ℕ, List, length}
use Rattle.std.specs.List.{AllByRecursion}
use Rattle.clnp_machine.specs.ClnpPlan.Configuration.{IsWithin}
use Rattle.clnp_machine.specs.Attachment.{IsAttached}
use Rattle.clnp_machine.specs.System.{SystemState}
use Rattle.clnp_machine.specs.ScenarioPlan.Plan.{Plan}
use Rattle.clnp_machine.specs.ClnpNetwork.LabelledNetwork.{LabelledNetwork}

-- each subnetwork of a plan has an MTU of at least 512
pub record AreItsMtus (plan : Plan) (mtus : List ℕ) : Type 0 where
  pub number : length mtus ≡ length plan.subnets
  pub each : AllByRecursion (IsWithin 512 65535) mtus

-- A system has as many ports as at its declaration, each with a transit of at least 1 and an MTU of at least 512, at an address; each
-- route leads out of one of them, to a system at addresses; and no two routes have one prefix.
pub record HasItsPorts (s : SystemState) : Type 0 where
  pub attached : IsAttached s.attached
  pub number : length s.attached.ports ≡ length s.configuration.ports

-- so it is of all subnetworks and systems of a network
pub record IsAttachedThroughout (plan : Plan) (w : LabelledNetwork) : Type 0 where
  pub mtus : AreItsMtus plan w.mtus
  pub systems : AllByRecursion HasItsPorts w.systems
