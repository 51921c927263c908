-- What a step leaves of what a system is attached to.
use Rattle.std.proofs.Common.{◌≡◌, ◌∙◌, refl, sym, ap, subst, length}
use Rattle.clnp_machine.specs.Attachment.{Attachment, IsAttached}
use Rattle.clnp_machine.specs.Change.{Change, ChangesFairly, changed}
use Rattle.clnp_machine.specs.System.{SystemState, Input, AsksToSend, AsksForEcho, FrameComes, MomentComes, IsRestarted, IsCongested, IsChanged}
use Rattle.clnp_machine.specs.Step.{step}
use Rattle.clnp_machine.specs.EveryStep.{IsFairChange, attached_after}
use Rattle.clnp_machine.proofs.Deeds.{step_attached}
use Rattle.clnp_machine.proofs.Keeping.{same_number}

same_ports : (s : SystemState) (input : Input) → length (attached_after s input).ports ≡ length s.attached.ports
same_ports s (AsksToSend from to octets ask) = refl
same_ports s (AsksForEcho from to octets) = refl
same_ports s (FrameComes port sender to_group content) = refl
same_ports s (MomentComes now) = refl
same_ports s IsRestarted = refl
same_ports s (IsCongested on) = refl
same_ports s (IsChanged change) = same_number s.attached change

pub step_ports : (s : SystemState) (input : Input) → length (step s input).after.attached.ports ≡ length s.attached.ports
step_ports s input = ap (λ (a : Attachment). length a.ports) (step_attached s input) ∙ same_ports s input

abbrev pub StaySound : Type 0
StaySound = (a : Attachment) (change : Change) → IsAttached a → ChangesFairly a change → IsAttached (changed change a)

soundly_after : StaySound → (s : SystemState) (input : Input) → IsFairChange s input → IsAttached s.attached → IsAttached (attached_after s input)
soundly_after law s (AsksToSend from to octets ask) fair is = is
soundly_after law s (AsksForEcho from to octets) fair is = is
soundly_after law s (FrameComes port sender to_group content) fair is = is
soundly_after law s (MomentComes now) fair is = is
soundly_after law s IsRestarted fair is = is
soundly_after law s (IsCongested on) fair is = is
soundly_after law s (IsChanged change) fair is = law s.attached change is fair

pub step_soundly : StaySound → (s : SystemState) (input : Input) → IsFairChange s input → IsAttached s.attached
    → IsAttached (step s input).after.attached
step_soundly law s input fair is = subst IsAttached (sym (step_attached s input)) (soundly_after law s input fair is)
