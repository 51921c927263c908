-- What the units that are made in a step are made for, and what reports are of.
use Rattle.std.proofs.Common.{◌≡◌, refl, ap, ℕ, inl, inr, Bool, true, false, List, Option, None, Some}
use Rattle.std.specs.Prelude.{if◌then◌else◌, slice_get}
use Rattle.std.specs.List.{AllByRecursion}
use Rattle.clnp_plan.specs.PduHeader.Rules.{is_reportable}
use Rattle.clnp_machine.specs.Local.{discard, made_in, makes, report_unit, reports, reports_from, rests}
use Rattle.clnp_machine.specs.Content.{Content, Labelled, Esis, Unlabelled, frame_of}
use Rattle.clnp_machine.specs.System.{SystemState, Input, AsksToSend, AsksForEcho, FrameComes, MomentComes, IsRestarted, IsCongested, IsChanged}
use Rattle.clnp_machine.specs.Step.{step}
use Rattle.clnp_machine.specs.EveryStep.{IsAtMostReportOf, IsMadeFor}
use Rattle.clnp_machine.proofs.Deeds.{AllSuch, leads_step}

all_asked : (s : SystemState) (input : Input) → AllSuch (IsMadeFor input) s input
all_asked s (AsksToSend from to octets ask) = λ none. (refl, refl, refl, refl)
all_asked s (AsksForEcho from to octets) = λ none. (refl, refl, refl, refl)
all_asked s (FrameComes port sender to_group (Labelled p following)) = record {
  reported = λ reason of_none t at own first reportable. inl refl;
  replied = λ octets request t at none. inr refl;
}
all_asked s (FrameComes port sender to_group (Esis value following)) = tt
all_asked s (FrameComes port sender to_group (Unlabelled octets)) = λ reason place t at own first reportable. inl refl
all_asked s (MomentComes now) = λ p there t at own first reportable. inl refl
all_asked s IsRestarted = tt
all_asked s (IsCongested on) = tt
all_asked s (IsChanged change) = tt

pub step_asked : (s : SystemState) (input : Input) → AllByRecursion (IsMadeFor input) (step s input).units
step_asked s input = (leads_step (IsMadeFor input) s input (all_asked s input)).makes.such

-- Where a frame is discarded.

at_most_one : (s : SystemState) (frame : List ℕ) (reason place : ℕ) (found : Option (List ℕ))
    → IsAtMostReportOf frame (made_in (reports_from found s frame reason place).actions)
at_most_one s frame reason place None = inl refl
at_most_one s frame reason place (Some own) = go (is_reportable frame)
  where
    go : (test : Bool) → IsAtMostReportOf frame (made_in (if test then makes s (report_unit s own frame reason place) else rests s).actions)
    go true = inr (
      report_unit s own frame reason place,
      refl,
      record { kind = refl; unreported = refl; whole = refl; destination = refl; data_are = refl },
    )
    go false = inl refl

-- at most its report is made
pub discard_makes : (s : SystemState) (frame : Content) (reason place : ℕ) → IsAtMostReportOf (frame_of frame) (made_in (discard s frame reason place).actions)
discard_makes s frame reason place = at_most_one s (frame_of frame) reason place (slice_get s.configuration.addresses 0)

not_from : (s : SystemState) (frame : List ℕ) (reason place : ℕ) (found : Option (List ℕ)) → is_reportable frame ≡ false
    → reports_from found s frame reason place ≡ rests s
not_from s frame reason place None e = refl
not_from s frame reason place (Some own) e = ap (λ (test : Bool). if test then makes s (report_unit s own frame reason place) else rests s) e

-- and nothing is done where it isn't reportable
pub not_reported : (s : SystemState) (frame : List ℕ) (reason place : ℕ) → is_reportable frame ≡ false → reports s frame reason place ≡ rests s
not_reported s frame reason place e = not_from s frame reason place (slice_get s.configuration.addresses 0) e
