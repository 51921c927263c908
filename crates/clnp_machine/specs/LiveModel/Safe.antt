-- What is safe about the runs of a live node, whatever comes of its links.
use Rattle.std.specs.Prelude.{◌≡◌, ℕ, Bool, List, [], ◌∷◌, ◌++◌, Some}
use Rattle.clnp_plan.specs.Configuration.{SystemConfiguration}
use Rattle.clnp_plan.specs.ScenarioPlan.Plan.{Plan}
use Rattle.frame_links.specs.LinkBoard.Links.{CameFrame}
use Rattle.clnp_machine.specs.Content.{content_of}
use Rattle.clnp_machine.specs.EveryStep.{IsRedirectFor, IsWithinBudget, KeepsNextHops}
use Rattle.clnp_machine.specs.Step.{step}
use Rattle.clnp_machine.specs.System.{SystemState, Input}
use Rattle.clnp_machine.specs.LiveModel.Node.{Outcome, Saw}
use Rattle.clnp_machine.specs.LiveModel.Turn.{dues_from}
use Rattle.clnp_machine.specs.LiveModel.Course.{Transcript, Turn, first_node, node_run}
use Rattle.clnp_machine.specs.LiveModel.Parts.{IfAny, IfBreaks}
use Rattle.clnp_machine.specs.LiveModel.Steps.{inputs_of}

-- what holds of a system before the first of some inputs, and behind each of them
abbrev pub HoldsThroughout : (SystemState → Type 0) → SystemState → List Input → Type 0
HoldsThroughout P s [] = P s
HoldsThroughout P s (input ∷ inputs) = P s × HoldsThroughout P (step s input).after inputs

-- a transcript that ends with these outcomes of a turn, behind other turns
abbrev pub ends_with : (start : ℕ) → List Turn → (moment : ℕ) → List Outcome → Transcript
ends_with start turns moment outcomes =
    record { start = start; turns = turns ++ record { moment = moment; outcomes = outcomes } ∷ [] }

-- What is safe about the runs of the one system of a scenario. The runs are of whatever length, so that what is said of the node
-- behind a run holds at each call on a link.
pub record LiveRunsAreSafe (plan : Plan) : Type 0 where
  -- its system holds no more octets for reassembly than its budget
  pub bounded : (attached : List Bool) (transcript : Transcript)
      → IfAny (node_run plan attached transcript) (λ node lines. IsWithinBudget node.system)
  -- nor does it between two calls, behind each thing that comes to it: a moment, what an event asks, or a frame
  pub throughout : (system : SystemConfiguration) (attached : List Bool) (transcript : Transcript)
      → plan.systems ≡ system ∷ []
      → HoldsThroughout IsWithinBudget (first_node plan.limits system transcript.start attached).system
      (inputs_of system.role (dues_from transcript.start plan.events) 0 transcript.turns)
  -- Where a run comes to a look that sees a redirect, this changes the next hop towards the redirect's destination alone
  -- (ISO 9542, section 6.9).
  pub redirects : (attached : List Bool) (start : ℕ) (turns : List Turn) (moment : ℕ) (outcomes : List Outcome)
      (port : ℕ) (frame : CameFrame) (destination : List ℕ) (number made : ℕ)
      → IsRedirectFor destination (content_of number made frame.octets)
      → IfBreaks (node_run plan attached (ends_with start turns moment outcomes)) (λ before lines.
      IfAny (node_run plan attached (ends_with start turns moment (outcomes ++ Saw port (Some frame) ∷ [])))
      (λ after more. KeepsNextHops destination before.system after.system))
