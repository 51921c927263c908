-- What a part of a run with ports and a sink comes to: there are outcomes by which the model plays it, and they are those of the
-- ports' links.
use Rattle.std.specs.Prelude.{◌≡◌, ◌<◌, ◌⊎◌, ℕ, Bool, false, true, List, [], ◌++◌, length, map, Option}
use Rattle.std.specs.Io.KnownBytes.{Appends}
use Rattle.frame_links.specs.LinkBoard.Ports.{PortState}
use Rattle.clnp_systems.specs.Stands as clnp_systems
use Rattle.clnp_machine.specs.LiveModel.Lines.{NodeLine, lines_text}
use Rattle.clnp_machine.specs.LiveModel.Node.{Node, Outcome, Played, Goes, Ends, Strays, Sending, behind}
use Rattle.clnp_machine.specs.LiveModel.Course.{has_any_link}
use Rattle.clnp_machine.specs.LiveModel.Parts.{UsesAll}
use Rattle.clnp_machine.specs.Step.{step}
use Rattle.clnp_machine.specs.System.{Input}
use Rattle.clnp_program.specs.LiveNode.Links.{PortsWent}
use Rattle.clnp_program.specs.declared.live_node.node.LiveNode.{LiveNode}

-- of each port, whether its link is attached
abbrev pub attached_of : List PortState → List Bool
attached_of ports = map (λ (port : PortState). port.attached) ports

-- the code's node over these ports is one of the model
pub record Stands (live : LiveNode) (ports : List PortState) (node : Node) : Type 0 where
  pub system : clnp_systems.Stands live.system node.system
  pub now : live.now ≡ node.system.moment
  pub copies : live.copies ≡ node.copies
  pub polled : live.polled ≡ node.polled
  pub attached : node.attached ≡ attached_of ports

-- A part was played from a node of the model on, by some outcomes, whatever come behind them; the ports went through just
-- these, and the lines' text was written.
pub record Plays (play : List Outcome → Played) (model : Node) (live : LiveNode) (before after : List PortState) (old new : Option (List ℕ)) : Type 0 where
  pub used : List Outcome
  pub node : Node
  pub lines : List NodeLine
  pub taken : List Sending
  pub goes : (later : List Outcome) → play (used ++ later) ≡ Goes node later lines
  pub stands : Stands live after node
  pub takes : node.taken ≡ model.taken ++ taken
  pub ports : PortsWent 0 before after used taken
  pub written : Appends old new (lines_text lines)

-- A part was played up to where the rest of it begins.
pub record PlaysTo (play : List Outcome → Played) (rest : Node → List Outcome → Played) (model : Node) (live : LiveNode) (before after : List PortState) (old new : Option (List ℕ)) : Type 0 where
  pub used : List Outcome
  pub node : Node
  pub lines : List NodeLine
  pub taken : List Sending
  pub goes : (later : List Outcome) → play (used ++ later) ≡ behind lines (rest node later)
  pub stands : Stands live after node
  pub takes : node.taken ≡ model.taken ++ taken
  pub ports : PortsWent 0 before after used taken
  pub written : Appends old new (lines_text lines)

-- what was written by where the outcomes end
abbrev pub lines_by : Played → List NodeLine
lines_by (Goes node left lines) = lines
lines_by (Ends node lines) = lines
lines_by Strays = []

-- the frames that links took by there
abbrev pub taken_by_then : Node → Played → List Sending
taken_by_then model (Goes node left lines) = node.taken
taken_by_then model (Ends node lines) = node.taken
taken_by_then model Strays = model.taken

-- which links are attached by there
abbrev pub attached_by_then : Node → Played → List Bool
attached_by_then model (Goes node left lines) = node.attached
attached_by_then model (Ends node lines) = node.attached
attached_by_then model Strays = model.attached

-- A part isn't at its end with all of its lines written and no link attached: it goes on with a call, or a link is attached, or
-- this rest of its lines isn't written.
abbrev pub HasMore : Played → (rest : List ℕ) → Type 0
HasMore (Goes node left lines) rest = (has_any_link node ≡ true) ⊎ (0 < length rest)
HasMore (Ends node lines) rest = Unit {0}
HasMore Strays rest = ⊥

-- nothing is given out for what comes to a node without a link
pub record IsUnnoticed (node : Node) (input : Input) : Type 0 where
  pub alone : has_any_link node ≡ false
  pub silent : (step node.system input).outputs ≡ []

-- A part was broken off: it was played by some outcomes, all of which it uses; the ports went through just these; and of the
-- text of the lines by then a front was written. Unless it is excused, more was to be done.
pub record Breaks (excused : Type 0) (play : List Outcome → Played) (model : Node) (before after : List PortState) (old new : Option (List ℕ)) : Type 0 where
  pub used : List Outcome
  pub taken : List Sending
  pub front : List ℕ
  pub rest : List ℕ
  pub uses : UsesAll (play used)
  pub text : lines_text (lines_by (play used)) ≡ front ++ rest
  pub takes : taken_by_then model (play used) ≡ model.taken ++ taken
  pub attached : attached_by_then model (play used) ≡ attached_of after
  pub more : excused ⊎ HasMore (play used) rest
  pub ports : PortsWent 0 before after used taken
  pub written : Appends old new front
