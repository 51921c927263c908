-- What comes to a node's system changes nothing of what it is attached to.
use Rattle.std.proofs.Common.{◌≡◌, ◌∙◌, ap, refl, ℕ, List, [], ◌∷◌, ◌++◌, None, Some}
use Rattle.std.specs.List.{AllByRecursion, flat_map}
use Rattle.clnp_plan.proofs.ClnpBase.Lists.{AllByRecursion-append}
use Rattle.clnp_machine.proofs.Deeds.{step_attached}
use Rattle.clnp_plan.specs.declared.config.Role.{Role}
use Rattle.clnp_plan.specs.declared.config.Role.TheVariants.{Host, Router}
use Rattle.clnp_machine.specs.Step.{step}
use Rattle.clnp_machine.specs.EveryStep.{attached_after}
use Rattle.clnp_machine.specs.System.{SystemState, Input, AsksToSend, AsksForEcho, FrameComes, MomentComes, IsRestarted, IsCongested, IsChanged}
use Rattle.clnp_plan.specs.declared.scenario_plan.event.Event.{Event}
use Rattle.clnp_plan.specs.declared.scenario_plan.event.Event.TheVariants.{Send, Deliver, Settle, Lose, Tick, TickSystem, Restart, Echo, Congest, Inject, Mtu, Route, Unroute, Port}
use Rattle.clnp_machine.specs.LiveModel.Node.{Node, Outcome, Saw, LookFailed, Took, SendFailed}
use Rattle.clnp_machine.specs.LiveModel.Turn.{Due, asked_by, comes_at, due_behind, due_by}
use Rattle.clnp_machine.specs.LiveModel.Course.{Turn, course}
use Rattle.clnp_machine.specs.LiveModel.Parts.{IfWhole}
use Rattle.clnp_machine.specs.LiveModel.Steps.{TakesSteps, frame_of, frames_in, inputs_of, seen_by, seen_in, state_behind}
use Rattle.clnp_machine.proofs.LiveModel.Courses.{course_steps, whole_map}

-- a system isn't attached elsewhere by it
abbrev Leaves : Input → Type 0
Leaves (IsChanged change) = ⊥
Leaves _ = Unit {0}

left_after : (s : SystemState) (input : Input) → Leaves input → attached_after s input ≡ s.attached
left_after s (AsksToSend from to octets ask) h = refl
left_after s (AsksForEcho from to octets) h = refl
left_after s (FrameComes port sender to_group content) h = refl
left_after s (MomentComes now) h = refl
left_after s IsRestarted h = refl
left_after s (IsCongested on) h = refl
left_after s (IsChanged change) h = absurd h

left_behind : (inputs : List Input) (s : SystemState) → AllByRecursion Leaves inputs → (state_behind s inputs).attached ≡ s.attached
left_behind [] s h = refl
left_behind (input ∷ inputs) s h = left_behind inputs (step s input).after h.1 ∙ (step_attached s input ∙ left_after s input h.0)

-- what events ask
asked_leave : (role : Role) (event : Event) → AllByRecursion Leaves (asked_by role event)
asked_leave Host (Send system from to body ask) = (tt, tt)
asked_leave Router (Send system from to body ask) = tt
asked_leave role (Echo system from to body) = (tt, tt)
asked_leave role (Deliver copy system) = tt
asked_leave role (Settle count) = tt
asked_leave role (Lose count) = tt
asked_leave role (Tick count) = tt
asked_leave role (TickSystem system count) = tt
asked_leave role (Restart system) = tt
asked_leave role (Congest system on) = tt
asked_leave role (Inject subnet from to octets) = tt
asked_leave role (Mtu subnet mtu) = tt
asked_leave role (Route system route) = tt
asked_leave role (Unroute system prefix) = tt
asked_leave role (Port system number subnet snpa) = tt

all_asked_leave : (role : Role) (dues : List Due) → AllByRecursion Leaves (flat_map (λ (due : Due). asked_by role due.event) dues)
all_asked_leave role [] = tt
all_asked_leave role (due ∷ dues) =
    AllByRecursion-append Leaves (asked_by role due.event) (flat_map (λ (d : Due). asked_by role d.event) dues) (asked_leave role due.event)
    (all_asked_leave role dues)

-- frames that are seen
frame_leaves : (moment polled : ℕ) (outcome : Outcome) → AllByRecursion Leaves (frame_of moment polled outcome)
frame_leaves moment polled (Saw port None) = tt
frame_leaves moment polled (Saw port (Some frame)) = (tt, tt)
frame_leaves moment polled (LookFailed port) = tt
frame_leaves moment polled (Took port) = tt
frame_leaves moment polled (SendFailed port) = tt

frames_leave : (moment polled : ℕ) (outcomes : List Outcome) → AllByRecursion Leaves (frames_in moment polled outcomes)
frames_leave moment polled [] = tt
frames_leave moment polled (outcome ∷ outcomes) =
    AllByRecursion-append Leaves (frame_of moment polled outcome) (frames_in moment (seen_by polled outcome) outcomes)
    (frame_leaves moment polled outcome) (frames_leave moment (seen_by polled outcome) outcomes)

inputs_leave : (role : Role) (dues : List Due) (polled : ℕ) (turns : List Turn) → AllByRecursion Leaves (inputs_of role dues polled turns)
inputs_leave role dues polled [] = tt
inputs_leave role dues polled (turn ∷ turns) =
    let frames = frames_in turn.moment polled turn.outcomes in
    let rest = inputs_of role (due_behind turn.moment dues) (seen_in polled turn.outcomes) turns in
    AllByRecursion-append Leaves (comes_at turn.moment role dues) (frames ++ rest)
    (tt, all_asked_leave role (due_by turn.moment dues))
    (AllByRecursion-append Leaves frames rest (frames_leave turn.moment polled turn.outcomes)
    (inputs_leave role (due_behind turn.moment dues) (seen_in polled turn.outcomes) turns))

pub course_attached : (dues : List Due) (node : Node) (turns : List Turn)
    → IfWhole (course dues node turns) (λ last lines. last.system.attached ≡ node.system.attached)
course_attached dues node turns =
    let inputs = inputs_of node.system.configuration.role dues node.polled turns in
    whole_map (course dues node turns) (λ last lines. TakesSteps node last inputs lines) (λ last lines. last.system.attached ≡ node.system.attached)
    (course_steps dues node turns)
    (λ last lines h.
    ap (λ (s : SystemState). s.attached) h.system
    ∙ left_behind inputs node.system (inputs_leave node.system.configuration.role dues node.polled turns))
