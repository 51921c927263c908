-- A send that is refused leaves the world as it was.
use Rattle.clnp_machine.proofs.ClnpBase.Lists.{slice_set-same}
use Rattle.std.proofs.Common.{◌≡◌, ℕ, List, [], ◌++◌, ◌∙◌, refl, ap}
use Rattle.std.specs.Prelude.{slice_get, Option, None, Some}
use Rattle.clnp_machine.specs.Pdus.declared.pdu_header.kind.Kind.TheVariants.{Dt}
use Rattle.clnp_machine.specs.ClnpPlan.declared.ask.Ask.{Ask}
use Rattle.clnp_machine.specs.ClnpPlan.declared.config.Limits.{Limits}
use Rattle.clnp_machine.specs.ClnpPlan.declared.config.Role.{Role}
use Rattle.clnp_machine.specs.ClnpPlan.declared.config.Role.TheVariants.{Host, Router}
use Rattle.clnp_machine.specs.ClnpPlan.declared.note.Note.TheVariants.{Refused}
use Rattle.clnp_machine.specs.ScenarioPlan.Plan.{Plan, Subnetwork, octets_of}
use Rattle.clnp_machine.specs.ClnpPlan.declared.scenario_plan.event.Event.{Event}
use Rattle.clnp_machine.specs.ClnpPlan.declared.scenario_plan.event.Event.TheVariants.{Send}
use Rattle.clnp_machine.specs.ClnpPlan.declared.scenario_plan.event.Move.{Move}
use Rattle.clnp_machine.specs.ClnpPlan.declared.scenario_plan.event.Move.TheVariants.{One}
use Rattle.clnp_machine.specs.Unit.{DataUnit}
use Rattle.clnp_machine.specs.System.{SystemState, AsksToSend}
use Rattle.clnp_machine.specs.Local.{refusal, unit_of, unless_refused}
use Rattle.clnp_machine.specs.Step.{effect_of}
use Rattle.std.proofs.lemmas.List.{append-nil}
use Rattle.clnp_machine.specs.ClnpNetwork.LabelledNetwork.{LabelledNetwork, after, comes_to, asks_role, asks_system, takes_effect, event_happens}
use Rattle.clnp_machine.specs.ClnpNetwork.Safe.{AsksFor, IsSend, NoRefusal}
use Rattle.clnp_machine.specs.ClnpPlan.declared.note.Note.{Note}
use Rattle.clnp_safety.specs.Refusal.{LeavesNothing}
use Rattle.clnp_safety.specs.StepLaws.{StepLaws}
use Rattle.clnp_safety.proofs.Lines.{quiet_lines_refuse_nothing}
use Rattle.clnp_machine.specs.Told.{IsRefusal}
use Rattle.clnp_safety.proofs.Asked.{sending, lines_are_quiet}

refused_leaves : StepLaws → (w : LabelledNetwork) (place : ℕ) (s : SystemState) (u : DataUnit) (refused : Option Note) → IsRefusal refused → slice_get w.systems place ≡ Some s
    → ¬ (NoRefusal (takes_effect w place (effect_of (unless_refused refused s u))).lines)
    → LeavesNothing w (takes_effect w place (effect_of (unless_refused refused s u)))
refused_leaves laws w place s u None refuses e told = absurd (told (quiet_lines_refuse_nothing (sending w place s u).lines (lines_are_quiet laws w place s u)))
refused_leaves laws w place s u (Some (Refused why value)) refuses e told = record {
  world = ap (λ (systems : List SystemState). record w { systems = systems; units = w.units ++ [] }) (slice_set-same w.systems place s e)
      ∙ ap (λ (units : List DataUnit). record w { units = units }) (append-nil w.units);
  lines = λ from to octets up. up;
}
refused_leaves laws w place s u (Some _) refuses e told = absurd refuses

send_leaves : StepLaws → (w : LabelledNetwork) (place : ℕ) (from to octets : List ℕ) (ask : Ask) (found : Option SystemState) → slice_get w.systems place ≡ found
    → ¬ (NoRefusal (comes_to w place (AsksToSend from to octets ask) found).lines)
    → LeavesNothing w (comes_to w place (AsksToSend from to octets ask) found)
send_leaves laws w place from to octets ask None e told = absurd (told tt)
send_leaves laws w place from to octets ask (Some s) e told =
    refused_leaves laws w place s (unit_of s Dt from to octets ask) (refusal s (unit_of s Dt from to octets ask)) (laws.deeds.refused s (unit_of s Dt from to octets ask)) e told

asked_leaves : StepLaws → (role : Role) (w : LabelledNetwork) (place : ℕ) (from to octets : List ℕ) (ask : Ask)
    → ¬ (NoRefusal (asks_role role w place (AsksToSend from to octets ask)).lines) → LeavesNothing w (asks_role role w place (AsksToSend from to octets ask))
asked_leaves laws Host w place from to octets ask told = send_leaves laws w place from to octets ask (slice_get w.systems place) refl told
asked_leaves laws Router w place from to octets ask told = absurd (told tt)

asked_at_leaves : StepLaws → (w : LabelledNetwork) (place : ℕ) (from to octets : List ℕ) (ask : Ask) (found : Option SystemState)
    → ¬ (NoRefusal (asks_system w place (AsksToSend from to octets ask) found).lines)
    → LeavesNothing w (asks_system w place (AsksToSend from to octets ask) found)
asked_at_leaves laws w place from to octets ask None told = absurd (told tt)
asked_at_leaves laws w place from to octets ask (Some s) told = asked_leaves laws s.configuration.role w place from to octets ask told

event_leaves : StepLaws → (subnets : List Subnetwork) (limits : Limits) (w : LabelledNetwork) (asked : Option Event) (from to octets : List ℕ) → AsksFor asked from to octets
    → ¬ (NoRefusal (event_happens subnets limits w asked).lines) → LeavesNothing w (event_happens subnets limits w asked)
event_leaves laws subnets limits w (Some (Send system source destination body ask)) from to octets h told =
    asked_at_leaves laws w system source destination (octets_of body) ask (slice_get w.systems system) told
event_leaves laws subnets limits w _ from to octets h told = absurd h

pub refused_send_leaves : StepLaws → (plan : Plan) (w : LabelledNetwork) (move : Move) (from to octets : List ℕ) → IsSend plan move from to octets
    → ¬ (NoRefusal (after plan w move).lines) → LeavesNothing w (after plan w move)
refused_send_leaves laws plan w (One place) from to octets h told = event_leaves laws plan.subnets plan.limits w (slice_get plan.events place) from to octets h told
refused_send_leaves laws plan w _ from to octets h told = absurd h
