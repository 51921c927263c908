-- The steps of the machine that a live node's run is made of, whatever came of its links.
use Rattle.std.specs.Prelude.{◌≡◌, ℕ, List, [], ◌∷◌, ◌++◌, None, Some}
use Rattle.std.specs.List.{flat_map}
use Rattle.clnp_plan.specs.Journal.{Line, Noted, Transmitted}
use Rattle.clnp_plan.specs.declared.config.Role.{Role}
use Rattle.pdus.specs.EsisPdus.Spelling.{spelling}
use Rattle.clnp_machine.specs.Step.{step}
use Rattle.clnp_machine.specs.System.{SystemState, Input, Output, Transmits, SendsEsis, Notes, number_behind}
use Rattle.clnp_machine.specs.Unit.{wire}
use Rattle.clnp_machine.specs.LiveModel.Lines.{NodeLine, Says, LinkGone}
use Rattle.clnp_machine.specs.LiveModel.Node.{Node, Outcome, Saw, LookFailed, Took, SendFailed, frame_at}
use Rattle.clnp_machine.specs.LiveModel.Turn.{Due, comes_at, due_behind}
use Rattle.clnp_machine.specs.LiveModel.Course.{Turn}

-- the lines but those that tell of links
abbrev pub said_at : NodeLine → List Line
said_at (Says line) = line ∷ []
said_at (LinkGone now name port) = []

abbrev pub said_in : List NodeLine → List Line
said_in lines = flat_map said_at lines

-- the number of the last frame behind outputs
abbrev pub copies_out : (copies : ℕ) → List Output → ℕ
copies_out copies [] = copies
copies_out copies (Notes note ∷ outputs) = copies_out copies outputs
copies_out copies (Transmits port target packet ∷ outputs) = copies_out (number_behind copies) outputs
copies_out copies (SendsEsis port target value ∷ outputs) = copies_out (number_behind copies) outputs

-- the lines of a system's outputs, where its last frame had a number
abbrev pub lines_out : SystemState → (copies : ℕ) → List Output → List Line
lines_out s copies [] = []
lines_out s copies (Notes note ∷ outputs) = Noted s.moment s.configuration.name note ∷ lines_out s copies outputs
lines_out s copies (Transmits port target packet ∷ outputs) =
    Transmitted s.moment s.configuration.name (number_behind copies) port target (wire packet)
    ∷ lines_out s (number_behind copies) outputs
lines_out s copies (SendsEsis port target value ∷ outputs) =
    Transmitted s.moment s.configuration.name (number_behind copies) port target (spelling value)
    ∷ lines_out s (number_behind copies) outputs

-- the system after what came to it
abbrev pub state_behind : SystemState → List Input → SystemState
state_behind s [] = s
state_behind s (input ∷ inputs) = state_behind (step s input).after inputs

-- the lines of the steps that it takes
abbrev pub lines_of_steps : (copies : ℕ) → SystemState → List Input → List Line
lines_of_steps copies s [] = []
lines_of_steps copies s (input ∷ inputs) =
    lines_out (step s input).after copies (step s input).outputs
    ++ lines_of_steps (copies_out copies (step s input).outputs) (step s input).after inputs

-- the number of the last frame behind them
abbrev pub copies_of_steps : (copies : ℕ) → SystemState → List Input → ℕ
copies_of_steps copies s [] = copies
copies_of_steps copies s (input ∷ inputs) = copies_of_steps (copies_out copies (step s input).outputs) (step s input).after inputs

-- What looks saw comes to the system, in order, numbered behind the frames seen before.

abbrev pub seen_by : (polled : ℕ) → Outcome → ℕ
seen_by polled (Saw port None) = polled
seen_by polled (Saw port (Some frame)) = number_behind polled
seen_by polled (LookFailed port) = polled
seen_by polled (Took port) = polled
seen_by polled (SendFailed port) = polled

abbrev pub seen_in : (polled : ℕ) → List Outcome → ℕ
seen_in polled [] = polled
seen_in polled (outcome ∷ outcomes) = seen_in (seen_by polled outcome) outcomes

abbrev pub frame_of : (moment polled : ℕ) → Outcome → List Input
frame_of moment polled (Saw port None) = []
frame_of moment polled (Saw port (Some frame)) = frame_at (number_behind polled) moment port frame ∷ []
frame_of moment polled (LookFailed port) = []
frame_of moment polled (Took port) = []
frame_of moment polled (SendFailed port) = []

abbrev pub frames_in : (moment polled : ℕ) → List Outcome → List Input
frames_in moment polled [] = []
frames_in moment polled (outcome ∷ outcomes) =
    frame_of moment polled outcome ++ frames_in moment (seen_by polled outcome) outcomes

-- all that comes to a system in turns: in each the moment, what the events ask that are due, and what looks saw
abbrev pub inputs_of : Role → List Due → (polled : ℕ) → List Turn → List Input
inputs_of role dues polled [] = []
inputs_of role dues polled (turn ∷ turns) =
    comes_at turn.moment role dues
    ++ (frames_in turn.moment polled turn.outcomes
    ++ inputs_of role (due_behind turn.moment dues) (seen_in polled turn.outcomes) turns)

-- A node took the steps for what came to its system: their lines are those that were written but for those that tell of links.
pub record TakesSteps (before after : Node) (inputs : List Input) (lines : List NodeLine) : Type 0 where
  pub said : said_in lines ≡ lines_of_steps before.copies before.system inputs
  pub system : after.system ≡ state_behind before.system inputs
  pub copies : after.copies ≡ copies_of_steps before.copies before.system inputs

-- the moment that was read last
abbrev pub last_moment : (start : ℕ) → List ℕ → ℕ
last_moment start [] = start
last_moment start (moment ∷ moments) = last_moment moment moments
