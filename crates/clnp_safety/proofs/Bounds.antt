-- Whatever the moves: packets meet the bound on hops and lifetime, and systems keep their budgets.
use Rattle.clnp_machine.proofs.ClnpBase.Lists.{AllByRecursion-any, AllByRecursion-append, AllByRecursion-implies, AllByRecursion-slice_get}
use Rattle.std.proofs.Common.{◌≡◌, ◌≤◌, ◌+◌, ℕ, inl, inr, Bool, true, false, List, [], ◌∷◌, length, arith}
use Rattle.std.specs.Prelude.{if◌then◌else◌, is_none, slice_get, Option, None, Some}
use Rattle.std.specs.List.{AllByRecursion}
use Rattle.clnp_machine.specs.Pdus.declared.nsap.target.Target.{Target}
use Rattle.clnp_machine.specs.ClnpPlan.Configuration.{SystemConfiguration}
use Rattle.clnp_machine.specs.ClnpPlan.declared.config.Limits.{Limits}
use Rattle.clnp_machine.specs.ClnpPlan.declared.config.PortConfig.{PortConfig}
use Rattle.clnp_machine.specs.ScenarioPlan.Plan.{Plan}
use Rattle.clnp_machine.specs.ClnpPlan.declared.scenario_plan.event.Move.{Move}
use Rattle.clnp_machine.specs.PduHeader.Reading.{rest_of}
use Rattle.clnp_machine.specs.EsisPdus.Reading as esis_reading
use Rattle.clnp_machine.specs.EsisPdus.Rules.{why_refused}
use Rattle.clnp_machine.specs.Unit.{DataUnit, Maker, DeclaredAt, Packet}
use Rattle.clnp_machine.specs.Content.{Content, Labelled, Esis, Unlabelled, esis_value_in, is_accepted, packet_from_outside, value_in}
use Rattle.clnp_machine.specs.System.{SystemState, Input, FrameComes, Output, Transmits, SendsEsis, Notes, Effect}
use Rattle.clnp_machine.specs.Step.{step}
use Rattle.clnp_machine.specs.EveryStep.{GoesOnOf, IsWithinBudget, SendsRangesOrGoesOn}
use Rattle.clnp_machine.specs.ClnpNetwork.LabelledNetwork.{LabelledNetwork, Copy, copy_from, copy_from_outside, frame_to, sends_frame, put_out, takes_effect, with_effect, states_from, first_world}
use Rattle.clnp_machine.specs.ClnpNetwork.Run.{world_after}
use Rattle.clnp_machine.specs.ClnpNetwork.Safe.{IsWithinBudgets, IsWithinLifetimes, MeetsLifetime}
use Rattle.clnp_safety.specs.StepLaws.{StepLaws}
use Rattle.clnp_safety.proofs.Lines.{AnyLine, any_line_changes, any_line_is_fine}
use Rattle.clnp_safety.proofs.Steps.{Keeps, keeps-put_all_out, with_outside}
use Rattle.clnp_safety.proofs.EveryMove.{AnyFrame, AnyInput, Follows, IsOfNow, any_events, asked_by_all, keeps-moves}
use Rattle.clnp_safety.proofs.Units.{lives_within}
use Rattle.clnp_machine.proofs.ClnpBase.ListSteps.{all_set}

-- Hops and lifetimes.

abbrev Bounded : Copy → Type 0
Bounded copy = MeetsLifetime copy.content

-- a packet that comes meets the bound
abbrev ComesWithin : Input → Type 0
ComesWithin (FrameComes port sender to_group content) = MeetsLifetime content
ComesWithin _ = Unit {0}

-- and so does one that goes on
goes_on_within : (s : SystemState) (port : ℕ) (input : Input) (p : Packet) → ComesWithin input → GoesOnOf s port input p
    → p.hops + p.lifetime ≤ p.unit.lifetime
goes_on_within s port (FrameComes at sender to_group (Labelled came following)) p comes on = lives_within s port came p on comes
goes_on_within s port _ p comes on = absurd on

frame_comes_within : (w : LabelledNetwork) (at : ℕ) (copy : Copy) → slice_get w.copies at ≡ Some copy → IsWithinLifetimes w
    → (v : LabelledNetwork) → Follows w v → (s : SystemState) → ComesWithin (frame_to s copy)
frame_comes_within w at copy there k v follows s = AllByRecursion-slice_get Bounded w.copies at copy there k

copy_meets : (found : Option PortConfig) (target : Target) (maker : Maker) (birth : ℕ) (content : Content) → MeetsLifetime content
    → AllByRecursion Bounded (copy_from found target maker birth content)
copy_meets None target maker birth content h = tt
copy_meets (Some port) target maker birth content h = (h, tt)

frame_meets : (system : SystemState) (v : LabelledNetwork) (port : ℕ) (target : Target) (maker : Maker) (birth : ℕ) (content : Content) → MeetsLifetime content
    → IsWithinLifetimes v → Keeps IsWithinLifetimes AnyLine (sends_frame system v port target maker birth content)
frame_meets system v port target maker birth content h k = record {
  world = AllByRecursion-append Bounded v.copies (copy_from (slice_get system.attached.ports port) target maker birth content) k
      (copy_meets (slice_get system.attached.ports port) target maker birth content h);
  lines = (tt, tt);
}

module _ (s : SystemState) (input : Input) (comes : ComesWithin input) (units : List DataUnit) where
  sent_within : (port : ℕ) (target : Target) (p : Packet) → SendsRangesOrGoesOn s input units (Transmits port target p) → p.hops + p.lifetime ≤ p.unit.lifetime
  sent_within port target p sends = elim sends [ inl new ↦ new.lifetime | inr on ↦ goes_on_within s port input p comes on ]

  put_out_meets : (system : SystemState) (output : Output) → SendsRangesOrGoesOn s input units output → (v : LabelledNetwork) → IsWithinLifetimes v
      → Keeps IsWithinLifetimes AnyLine (put_out system v output)
  put_out_meets system (Notes note) sends v k = record { world = k; lines = (tt, tt) }
  put_out_meets system (Transmits port target packet) sends v k =
      frame_meets system v port target packet.unit.maker packet.unit.made (Labelled packet []) (sent_within port target packet sends) k
  put_out_meets system (SendsEsis port target value) sends v k =
      frame_meets system v port target (DeclaredAt system.place) system.moment (Esis value []) tt k

step_meets : StepLaws → (w : LabelledNetwork) (place : ℕ) (s : SystemState) (input : Input) → slice_get w.systems place ≡ Some s → ComesWithin input
    → IsOfNow w s input → IsWithinLifetimes w → Keeps IsWithinLifetimes AnyLine (takes_effect w place (step s input))
step_meets laws w place s input there comes at k =
    let effect : Effect = step s input in
    keeps-put_all_out IsWithinLifetimes AnyLine effect.after effect.outputs
    (AllByRecursion-implies (SendsRangesOrGoesOn s input effect.units)
    (λ output. (v : LabelledNetwork) → IsWithinLifetimes v → Keeps IsWithinLifetimes AnyLine (put_out effect.after v output))
    (put_out_meets s input comes effect.units effect.after) effect.outputs (laws.steps.ranges s input))
    (with_effect w place effect) k

-- a packet from outside was not forwarded yet
content_meets : (number moment : ℕ) (octets : List ℕ) (accepted unrefused : Bool)
    → MeetsLifetime (if accepted then Labelled (packet_from_outside number moment (value_in octets)) (rest_of octets)
    else if unrefused then Esis (esis_value_in octets) (esis_reading.rest_of octets) else Unlabelled octets)
content_meets number moment octets true unrefused = omega arith
content_meets number moment octets false true = tt
content_meets number moment octets false false = tt

outside_meets : (w : LabelledNetwork) (subnet : ℕ) (sender : List ℕ) (target : Target) (octets : List ℕ) → AnyFrame sender octets
    → IsWithinLifetimes w → IsWithinLifetimes (with_outside w subnet sender target octets)
outside_meets w subnet sender target octets any k =
    AllByRecursion-append Bounded w.copies (copy_from_outside (length w.copies + 1) w.clock subnet sender target octets ∷ []) k
    (content_meets (length w.copies + 1) w.clock octets (is_accepted octets) (is_none (why_refused octets)), tt)

pub lifetimes_hold : StepLaws → (plan : Plan) (moves : List Move) → IsWithinLifetimes (world_after plan (first_world plan) moves)
lifetimes_hold laws plan moves =
    keeps-moves (λ w. ComesWithin) AnyFrame IsWithinLifetimes AnyLine
    (record {
      steps = step_meets laws;
      frames = frame_comes_within;
      moments = λ w now. tt;
      restarts = λ w. tt;
      congestion = λ w on. tt;
      cursor = λ w next k. k;
      clock = λ w clock k. k;
      outside = outside_meets;
      sizes = λ w subnet mtu takes k. k;
      injected = λ now copy subnet sender target. tt;
      fine = any_line_is_fine;
      changing = any_line_changes;
    })
    plan (λ w. asked_by_all ComesWithin (λ from to octets ask. tt) (λ from to octets. tt) (λ change. tt) plan.events) moves (first_world plan) tt

-- Budgets.

put_out_within : (system : SystemState) (output : Output) (v : LabelledNetwork) → IsWithinBudgets v → Keeps IsWithinBudgets AnyLine (put_out system v output)
put_out_within system (Notes note) v k = record { world = k; lines = (tt, tt) }
put_out_within system (Transmits port target packet) v k = record { world = k; lines = (tt, tt) }
put_out_within system (SendsEsis port target value) v k = record { world = k; lines = (tt, tt) }

step_within : StepLaws → (w : LabelledNetwork) (place : ℕ) (s : SystemState) (input : Input) → slice_get w.systems place ≡ Some s → AnyInput input → IsOfNow w s input
    → IsWithinBudgets w → Keeps IsWithinBudgets AnyLine (takes_effect w place (step s input))
step_within laws w place s input there any at k =
    let effect : Effect = step s input in
    keeps-put_all_out IsWithinBudgets AnyLine effect.after effect.outputs
    (AllByRecursion-any (λ output. (v : LabelledNetwork) → IsWithinBudgets v → Keeps IsWithinBudgets AnyLine (put_out effect.after v output))
    (put_out_within effect.after) effect.outputs)
    (with_effect w place effect)
    (all_set IsWithinBudget w.systems place effect.after k (laws.steps.budget s input (AllByRecursion-slice_get IsWithinBudget w.systems place s there k)))

opened_within : (limits : Limits) (place : ℕ) (systems : List SystemConfiguration) → AllByRecursion IsWithinBudget (states_from limits place systems)
opened_within limits place [] = tt
opened_within limits place (system ∷ systems) = (omega arith, opened_within limits (place + 1) systems)

pub budgets_hold : StepLaws → (plan : Plan) (moves : List Move) → IsWithinBudgets (world_after plan (first_world plan) moves)
budgets_hold laws plan moves =
    keeps-moves (λ w. AnyInput) AnyFrame IsWithinBudgets AnyLine
    (record {
      steps = step_within laws;
      frames = λ w at copy e k v follows s. tt;
      moments = λ w now. tt;
      restarts = λ w. tt;
      congestion = λ w on. tt;
      cursor = λ w next k. k;
      clock = λ w clock k. k;
      outside = λ w subnet sender target octets any k. k;
      sizes = λ w subnet mtu takes k. k;
      injected = λ now copy subnet sender target. tt;
      fine = any_line_is_fine;
      changing = any_line_changes;
    })
    plan (λ w. any_events plan.events) moves (first_world plan)
    (opened_within plan.limits 0 plan.systems)
