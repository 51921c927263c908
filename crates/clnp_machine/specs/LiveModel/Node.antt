-- A live node: one system, each port of which has a link until that fails; and what it does, by what comes of its calls on
-- the links.
use Rattle.std.specs.Prelude.{ℕ, ◌==◌, Bool, false, if◌then◌else◌, List, [], ◌∷◌, ◌++◌, length, slice_get, slice_set, Option, None, Some}
use Rattle.std.specs.List.{range_with_len}
use Rattle.clnp_plan.specs.Journal.{Noted, Transmitted}
use Rattle.pdus.specs.EsisPdus.Spelling.{spelling}
use Rattle.clnp_machine.specs.Content.{content_of}
use Rattle.clnp_machine.specs.Step.{step}
use Rattle.clnp_machine.specs.System.{SystemState, Input, FrameComes, Output, Transmits, SendsEsis, Notes, Effect, number_behind}
use Rattle.clnp_machine.specs.Unit.{wire}
use Rattle.frame_links.specs.LinkBoard.Links.{CameFrame, SentFrame}
use Rattle.clnp_machine.specs.LiveModel.Lines.{NodeLine, Says, LinkGone}

-- What came of a call on a port's link: a look saw a frame, or nothing, or it failed; a frame that was sent was taken, or its
-- sending failed.
pub data Outcome : Type 0 where
  Saw : (port : ℕ) (look : Option CameFrame) → Outcome
  LookFailed : (port : ℕ) → Outcome
  Took : (port : ℕ) → Outcome
  SendFailed : (port : ℕ) → Outcome

-- a frame that goes out on a port
pub record Sending : Type 0 where
  pub port : ℕ
  pub frame : SentFrame

pub record Node : Type 0 where
  pub system : SystemState
  -- of each port, whether its link is attached
  pub attached : List Bool
  -- the number of the last frame that it transmitted
  pub copies : ℕ
  -- the number of the last frame that it saw
  pub polled : ℕ
  -- the frames that links took, in order
  pub taken : List Sending

-- What comes of a part of a run by outcomes: the node after it, the outcomes that are left, and the lines that were written; or
-- they end before the outcome of its next call; or the next of them is that of another call.
pub data Played : Type 0 where
  Goes : (node : Node) (left : List Outcome) (lines : List NodeLine) → Played
  Ends : (node : Node) (lines : List NodeLine) → Played
  Strays : Played

abbrev pub behind : List NodeLine → Played → Played
behind lines (Goes node left others) = Goes node left (lines ++ others)
behind lines (Ends node others) = Ends node (lines ++ others)
behind lines Strays = Strays

-- one part, and then the next
abbrev pub and_then : Played → (Node → List Outcome → Played) → Played
and_then (Goes node left lines) next = behind lines (next node left)
and_then (Ends node lines) next = Ends node lines
and_then Strays next = Strays

abbrev pub is_on : Option Bool → Bool
is_on None = false
is_on (Some on) = on

-- whether a port is there, and its link attached
abbrev pub has_link : Node → ℕ → Bool
has_link node port = is_on (slice_get node.attached port)

abbrev pub detached : Node → ℕ → Node
detached node port = record node { attached = slice_set node.attached port false }

-- one frame more was transmitted
abbrev pub counted : Node → Node
counted node = record node { copies = number_behind node.copies }

-- one frame more was seen
abbrev pub polls : Node → Node
polls node = record node { polled = number_behind node.polled }

-- a port's link took a frame
abbrev pub gives : Node → Sending → Node
gives node sending = record node { taken = node.taken ++ sending ∷ [] }

-- the line of the next frame that is transmitted
abbrev pub transmission : Node → Sending → NodeLine
transmission node sending =
    Says (Transmitted node.system.moment node.system.configuration.name (number_behind node.copies) sending.port sending.frame.target sending.frame.octets)

-- the line of a port whose link failed
abbrev pub loss : Node → ℕ → NodeLine
loss node port = LinkGone node.system.moment node.system.configuration.name port

-- A frame is written and sent on the link of its port, by the next outcome.
abbrev pub goes_out : Node → Sending → List Outcome → Played
goes_out node sending [] = Ends (counted node) (transmission node sending ∷ [])
goes_out node sending (Took at ∷ left) =
    if at == sending.port then Goes (gives (counted node) sending) left (transmission node sending ∷ []) else Strays
goes_out node sending (SendFailed at ∷ left) =
    if at == sending.port
    then Goes (detached (counted node) sending.port) left (transmission node sending ∷ loss node sending.port ∷ [])
    else Strays
goes_out node sending (Saw at look ∷ left) = Strays
goes_out node sending (LookFailed at ∷ left) = Strays

-- a frame for a port whose link is detached is written alone
abbrev pub transmits : Node → Sending → List Outcome → Played
transmits node sending outcomes =
    if has_link node sending.port then goes_out node sending outcomes
    else Goes (counted node) outcomes (transmission node sending ∷ [])

-- One output of the system: its note is written, or its frame is written and sent.
abbrev pub puts_out : Node → Output → List Outcome → Played
puts_out node (Notes note) outcomes =
    Goes node outcomes (Says (Noted node.system.moment node.system.configuration.name note) ∷ [])
puts_out node (Transmits port target packet) outcomes =
    transmits node (record { port = port; frame = record { target = target; octets = wire packet } }) outcomes
puts_out node (SendsEsis port target value) outcomes =
    transmits node (record { port = port; frame = record { target = target; octets = spelling value } }) outcomes

abbrev pub puts_all_out : Node → List Output → List Outcome → Played
puts_all_out node [] outcomes = Goes node outcomes []
puts_all_out node (output ∷ outputs) outcomes =
    and_then (puts_out node output outcomes) (λ other left. puts_all_out other outputs left)

-- the system has taken a step, and what it gives out goes out
abbrev pub takes_effect : Node → Effect → List Outcome → Played
takes_effect node effect outcomes = puts_all_out (record node { system = effect.after }) effect.outputs outcomes

-- something comes to the system
abbrev pub comes : Node → Input → List Outcome → Played
comes node input outcomes = takes_effect node (step node.system input) outcomes

abbrev pub come_all : Node → List Input → List Outcome → Played
come_all node [] outcomes = Goes node outcomes []
come_all node (input ∷ inputs) outcomes =
    and_then (comes node input outcomes) (λ other left. come_all other inputs left)

-- what a frame is to the system that came in at a port at a moment, as the one with a number among those that were seen
abbrev pub frame_at : (number moment port : ℕ) → CameFrame → Input
frame_at number moment port frame = FrameComes port frame.from frame.to_group (content_of number moment frame.octets)

-- what a look saw comes to the system
abbrev pub sees : Node → (port : ℕ) → Option CameFrame → List Outcome → Played
sees node port None outcomes = Goes node outcomes []
sees node port (Some frame) outcomes =
    comes (polls node) (frame_at (number_behind node.polled) node.system.moment port frame) outcomes

-- a look at a port's link, by the next outcome
abbrev pub looks_by : Node → (port : ℕ) → List Outcome → Played
looks_by node port [] = Ends node []
looks_by node port (Saw at look ∷ left) = if at == port then sees node port look left else Strays
looks_by node port (LookFailed at ∷ left) = if at == port then Goes (detached node port) left (loss node port ∷ []) else Strays
looks_by node port (Took at ∷ left) = Strays
looks_by node port (SendFailed at ∷ left) = Strays

-- a port whose link is detached isn't looked at
abbrev pub looks_at : Node → (port : ℕ) → List Outcome → Played
looks_at node port outcomes = if has_link node port then looks_by node port outcomes else Goes node outcomes []

abbrev pub looks_at_each : Node → (ports : List ℕ) → List Outcome → Played
looks_at_each node [] outcomes = Goes node outcomes []
looks_at_each node (port ∷ ports) outcomes =
    and_then (looks_at node port outcomes) (λ other left. looks_at_each other ports left)

abbrev pub ports_of : List Bool → List ℕ
ports_of attached = range_with_len 0 (length attached)
