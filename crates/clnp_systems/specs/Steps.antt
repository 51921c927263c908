-- One step of a system of the code, whatever comes to it: what it stands for and gives out then, and what is so where memory is
-- refused in it.
use Rattle.std.specs.Prelude.{◌≡◌, ◌≤◌, ◌<◌, ◌^◌, ℕ, true, false, List, length, None, Some}
use Rattle.clnp_machine.specs.ClnpOptions.Grammar.{FitsKind}
use Rattle.clnp_machine.specs.ClnpOptions.Parameter.{parameters}
use Rattle.clnp_machine.specs.ClnpPlan.declared.ask.SendRefusal.{SendRefusal}
use Rattle.clnp_machine.specs.ClnpPlan.declared.ask.SendRefusal.TheVariants.{NoMemory}
use Rattle.clnp_machine.specs.ClnpPlan.declared.config.Role.{Role}
use Rattle.clnp_machine.specs.ClnpPlan.declared.config.Role.TheVariants.{Host, Router}
use Rattle.clnp_machine.specs.ClnpPlan.declared.output.Output.{Output}
use Rattle.clnp_machine.specs.Content.{Content, IsCarried, frame_of}
use Rattle.clnp_machine.specs.Given.{Appends}
use Rattle.clnp_machine.specs.Step.{step}
use Rattle.clnp_machine.specs.System as machine
use Rattle.clnp_machine.specs.System.{SystemState, AsksToSend, AsksForEcho, FrameComes, MomentComes, IsRestarted, IsCongested, IsChanged}
use Rattle.clnp_systems.specs.EntityState.{SystemEntityState}
use Rattle.clnp_systems.specs.EntityStands.{Stands}
use Rattle.clnp_systems.specs.declared.input.Input.{Input}
use Rattle.clnp_systems.specs.declared.input.Input.TheVariants.{Moment, Frame, Send, Echo, Restart, Congest}

-- What may come to a system at a moment: no earlier moment, no longer frame than it takes, no unit with options that no data unit
-- may have.
abbrev pub MayCome : ℕ → Input → Type 0
MayCome moment (Moment now) = (moment ≤ now) × (now < 2 ^ 62)
MayCome moment (Frame port from group frame) = length frame.now ≤ 70000
MayCome moment (Send from to body ask) = FitsKind false (parameters ask.now.options)
MayCome moment (Echo from to body) = Unit {0}
MayCome moment Restart = Unit {0}
MayCome moment (Congest on) = Unit {0}

-- a frame that comes carries a content that has its octets
abbrev pub Carries : Input → Content → Type 0
Carries (Moment now) content = Unit {0}
Carries (Frame port from group frame) content = IsCarried content × (frame_of content ≡ frame.now)
Carries (Send from to body ask) content = Unit {0}
Carries (Echo from to body) content = Unit {0}
Carries Restart content = Unit {0}
Carries (Congest on) content = Unit {0}

-- what comes, in the model, where a frame carries this content
abbrev pub input_with : Content → Input → machine.Input
input_with content (Moment now) = MomentComes now
input_with content (Frame port from group frame) = FrameComes port from group content
input_with content (Send from to body ask) = AsksToSend from to body.now ask.now
input_with content (Echo from to body) = AsksForEcho from to body.now
input_with content Restart = IsRestarted
input_with content (Congest on) = IsCongested on

-- the moment of a system once something came to it
abbrev pub moment_at : machine.Input → ℕ → ℕ
moment_at (MomentComes now) moment = now
moment_at (FrameComes port sender to_group content) moment = moment
moment_at (AsksToSend from to octets ask) moment = moment
moment_at (AsksForEcho from to octets) moment = moment
moment_at IsRestarted moment = moment
moment_at (IsCongested on) moment = moment
moment_at (IsChanged change) moment = moment

-- Exactly these outputs of the model were appended. Where a frame came to a router, one of them may be a frame that goes on.
abbrev pub AppendsOf : machine.Input → Role → (moment : ℕ) → (before after : List Output) → List machine.Output → Type 0
AppendsOf (FrameComes port sender to_group content) Router moment before after others = Appends moment (Some content) before after others
AppendsOf (FrameComes port sender to_group content) Host moment before after others = Appends moment None before after others
AppendsOf (MomentComes now) role moment before after others = Appends moment None before after others
AppendsOf (AsksToSend from to octets ask) role moment before after others = Appends moment None before after others
AppendsOf (AsksForEcho from to octets) role moment before after others = Appends moment None before after others
AppendsOf IsRestarted role moment before after others = Appends moment None before after others
AppendsOf (IsCongested on) role moment before after others = Appends moment None before after others
AppendsOf (IsChanged change) role moment before after others = Appends moment None before after others

-- A step was taken: whatever state the system stood for, it stands for the one after the machine's step, and exactly the outputs
-- of that step were appended.
pub record TakesStep (role : Role) (input : machine.Input) (old new : SystemEntityState) (before after : List Output) : Type 0 where
  pub stands : (s : SystemState) → Stands old s → Stands new (step s input).after
  pub outputs : (s : SystemState) → Stands old s
      → AppendsOf input role (moment_at input s.moment) before after (step s input).outputs
  pub moment : new.moment ≡ moment_at input old.moment
  pub config : new.local.configuration ≡ old.local.configuration

-- Memory was refused in a step: nothing was given out, and the system is spent, at the moment at which it was, and congested if it
-- was.
pub record IsSpentIn (old new : SystemEntityState) (before after : List Output) : Type 0 where
  pub none : after ≡ before
  pub spent : new.spent ≡ true
  pub moment : new.moment ≡ old.moment
  pub congested : new.congested ≡ old.congested
  pub config : new.local.configuration ≡ old.local.configuration

-- A step was refused: where memory was, the system is spent; else all is as it was.
abbrev pub IsRefusedIn : SendRefusal → (old new : SystemEntityState) → (before after : List Output) → Type 0
IsRefusedIn NoMemory old new before after = IsSpentIn old new before after
IsRefusedIn _ old new before after = (new ≡ old) × (after ≡ before)
