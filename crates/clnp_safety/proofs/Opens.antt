-- The world of a scenario's declarations is sound: nothing is sent yet, and nothing is on its way.
use Rattle.clnp_machine.proofs.ClnpBase.Lists.{AllByRecursion-mapped, AllByRecursion-slice_get}
use Rattle.std.proofs.Common.{◌≡◌, ℕ, zero, suc, ◌+◌, List, [], ◌∷◌, length, map, refl, ap, subst, arith}
use Rattle.std.specs.Prelude.{slice_get, Some}
use Rattle.std.specs.List.{AllByRecursion}
use Rattle.clnp_machine.specs.ClnpPlan.Configuration.{IsAddressed, IsSystem, IsWithin, SystemConfiguration}
use Rattle.clnp_machine.specs.ClnpPlan.declared.config.Limits.{Limits}
use Rattle.clnp_machine.specs.ScenarioPlan.Plan.{IsFit, Plan, Subnetwork}
use Rattle.clnp_machine.specs.System.{SystemState, first_state}
use Rattle.clnp_machine.specs.ClnpNetwork.LabelledNetwork.{states_from, first_world}
use Rattle.clnp_safety.specs.Invariant.{SystemStands, WorldIsSound}
use Rattle.clnp_safety.specs.StepLaws.{StepLaws}

-- a system of a plan is configured as it must be
pub configured : (plan : Plan) → IsFit plan → (place : ℕ) (configuration : SystemConfiguration) → slice_get plan.systems place ≡ Some configuration
    → IsSystem configuration × IsAddressed configuration
configured plan fit place configuration declared = (
  AllByRecursion-slice_get IsSystem plan.systems place configuration declared fit.systems,
  AllByRecursion-slice_get IsAddressed plan.systems place configuration declared fit.each_address,
)

length-states_from : (limits : Limits) (from : ℕ) (systems : List SystemConfiguration) → length (states_from limits from systems) ≡ length systems
length-states_from limits from [] = refl
length-states_from limits from (system ∷ systems) = ap suc (length-states_from limits (from + 1) systems)

-- the system at a place at the start
pub record IsOpened (limits : Limits) (systems : List SystemConfiguration) (place at : ℕ) (s : SystemState) : Type 0 where
  pub configuration : SystemConfiguration
  pub declared : slice_get systems place ≡ Some configuration
  pub state : first_state at configuration limits 0 0 ≡ s

pub opened : (limits : Limits) (from : ℕ) (systems : List SystemConfiguration) (place at : ℕ) (s : SystemState) → from + place ≡ at
    → slice_get (states_from limits from systems) place ≡ Some s
    → IsOpened limits systems place at s
opened limits from [] place at s e there = absurd (cc)
opened limits from (system ∷ systems) zero at s e there =
    let same : from ≡ at = omega arith in
    record { configuration = system; declared = refl; state = subst (λ n. first_state n system limits 0 0 ≡ s) same (cc) }
opened limits from (system ∷ systems) (suc place) at s e there =
    let rest = opened limits (from + 1) systems place at s (omega arith) there in
    record { configuration = rest.configuration; declared = rest.declared; state = rest.state }

-- the subnetworks take frames that are long enough
pub first_mtus : (plan : Plan) → IsFit plan → AllByRecursion (IsWithin 512 65535) (first_world plan).mtus
first_mtus plan fit =
    AllByRecursion-mapped (λ (subnet : Subnetwork). IsWithin 512 65535 subnet.mtu) (IsWithin 512 65535) (λ (subnet : Subnetwork). subnet.mtu) plan.subnets
    (λ subnet within. within) fit.mtus

first_is_sound : StepLaws → (plan : Plan) → IsFit plan → (place : ℕ) (configuration : SystemConfiguration) → slice_get plan.systems place ≡ Some configuration
    → SystemStands plan [] [] [] place (first_state place configuration plan.limits 0 0)
first_is_sound laws plan fit place configuration declared = record {
  sound = record {
    stands_at = refl;
    declared = declared;
    hold = refl;
    reuse = refl;
    uses = record { until_now = tt; in_order = λ i j d below within. absurd (omega arith) };
    accounted = λ u there. let none = there.1 in absurd (omega arith);
    buffers = tt;
    not_due = tt;
    not_whole = tt;
    budget = omega arith;
    known = tt;
    attached = let is = configured plan fit place configuration declared in laws.declared configuration is.0 is.1;
    ports = refl;
  };
  pending = tt;
}

-- all clocks begin at 0
first_clock : (limits : Limits) (from : ℕ) (systems : List SystemConfiguration) (place clock : ℕ)
    → slice_get (map (λ (system : SystemState). system.moment) (states_from limits from systems)) place ≡ Some clock → clock ≡ 0
first_clock limits from [] place clock e = absurd (cc)
first_clock limits from (system ∷ systems) zero clock e = cc
first_clock limits from (system ∷ systems) (suc place) clock e = first_clock limits (from + 1) systems place clock e

pub first_world_is_sound : StepLaws → (plan : Plan) → IsFit plan → WorldIsSound plan [] (first_world plan)
first_world_is_sound laws plan fit = record {
  made = record { each = tt; rest = λ i j d below within. absurd (omega arith) };
  copies = tt;
  systems = record {
    number = length-states_from plan.limits 0 plan.systems;
    each = λ place s there.
        let here = opened plan.limits 0 plan.systems place place s (omega arith) there in
        subst (SystemStands plan [] [] [] place) here.state (first_is_sound laws plan fit place here.configuration here.declared);
  };
  together = λ first second a b at there.
      let one = first_clock plan.limits 0 plan.systems first a at in
      let other = first_clock plan.limits 0 plan.systems second b there in
      omega arith;
  mtus = first_mtus plan fit;
}
