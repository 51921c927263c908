-- What each event of a fit plan asks and changes is as it should be.
use Rattle.clnp_machine.proofs.ClnpBase.Lists.{AllByRecursion-from_places, AllByRecursion-slice_get}
use Rattle.std.proofs.Common.{◌≡◌, ℕ, length, slice_get, Some}
use Rattle.std.specs.List.{AllByRecursion}
use Rattle.clnp_machine.specs.Nsap.Address.{IsAddress}
use Rattle.clnp_machine.specs.ClnpPlan.Configuration.{IsAddressedRoute, IsWithin}
use Rattle.clnp_machine.specs.Change.{PortIsAt, PortTakes, RouteIsSet}
use Rattle.clnp_machine.specs.System.{Input, IsChanged}
use Rattle.clnp_machine.specs.ScenarioPlan.Plan.{AsksFairly, AsksInForm, ChangesInForm, InjectsInForm, IsFit, IsSaid, Plan}
use Rattle.clnp_machine.specs.ClnpPlan.declared.scenario_plan.event.Event.{Event}

pub record IsFitEvent (plan : Plan) (event : Event) : Type 0 where
  pub fair : AsksFairly event
  pub formed : AsksInForm event
  pub injected : InjectsInForm (length plan.subnets) event
  pub changes : ChangesInForm (length plan.subnets) plan.systems event
  pub said : IsSaid event

module _ (plan : Plan) (fit : IsFit plan) where
  pub fit_event : (place : ℕ) (event : Event) → slice_get plan.events place ≡ Some event → IsFitEvent plan event
  fit_event place event there = record {
    fair = AllByRecursion-slice_get AsksFairly plan.events place event there fit.asks;
    formed = AllByRecursion-slice_get AsksInForm plan.events place event there fit.formed;
    injected = AllByRecursion-slice_get (InjectsInForm (length plan.subnets)) plan.events place event there fit.injected;
    changes = AllByRecursion-slice_get (ChangesInForm (length plan.subnets) plan.systems) plan.events place event there fit.changes;
    said = AllByRecursion-slice_get IsSaid plan.events place event there fit.said;
  }

  pub fit_events : AllByRecursion (IsFitEvent plan) plan.events
  fit_events = AllByRecursion-from_places (IsFitEvent plan) plan.events fit_event

-- what changes of a system is in form: addresses are addresses, and lengths are in their range
abbrev pub ChangesFormed : Input → Type 0
ChangesFormed (IsChanged (PortIsAt number port)) = IsAddress port.snpa
ChangesFormed (IsChanged (PortTakes number mtu)) = IsWithin 512 65535 mtu
ChangesFormed (IsChanged (RouteIsSet route)) = IsAddressedRoute route
ChangesFormed _ = Unit {0}
