-- What comes to a system of a network is fair to its ports and routes.
use Rattle.clnp_machine.proofs.ClnpBase.Lists.{AllByRecursion-slice_get}
use Rattle.std.proofs.Common.{sym, subst}
use Rattle.std.specs.List.{AllByRecursion}
use Rattle.clnp_machine.specs.ClnpPlan.Configuration.{IsPort, IsWithin}
use Rattle.clnp_machine.specs.Attachment.{IsAttached}
use Rattle.clnp_machine.specs.Change.{PortIsAt, PortTakes, RouteIsGone, RouteIsSet}
use Rattle.clnp_machine.specs.System.{SystemState, Input, IsChanged}
use Rattle.clnp_machine.specs.EveryStep.{IsFairChange}
use Rattle.clnp_machine.specs.ClnpNetwork.LabelledNetwork.{LabelledNetwork}
use Rattle.clnp_safety.proofs.EveryMove.{IsOfNow}
use Rattle.clnp_safety.proofs.Events.{ChangesFormed}

-- where it is in form, and goes by the network as it is
pub is_fair_change : (w : LabelledNetwork) (s : SystemState) → AllByRecursion (IsWithin 512 65535) w.mtus → IsAttached s.attached → (input : Input)
    → ChangesFormed input → IsOfNow w s input → IsFairChange s input
is_fair_change w s mtus is (IsChanged (PortIsAt number port)) formed now = (
  record {
    transit = subst (IsWithin 1 255) (sym now.transit) (AllByRecursion-slice_get IsPort s.attached.ports number now.was now.there is.ports).transit;
    mtu = AllByRecursion-slice_get (IsWithin 512 65535) w.mtus port.subnet port.mtu now.mtu mtus;
  },
  formed,
)
is_fair_change w s mtus is (IsChanged (PortTakes number mtu)) formed now = formed
is_fair_change w s mtus is (IsChanged (RouteIsSet route)) formed now = (formed, now)
is_fair_change w s mtus is (IsChanged (RouteIsGone prefix)) formed now = tt
is_fair_change w s mtus is _ formed now = tt
