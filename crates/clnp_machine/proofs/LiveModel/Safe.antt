-- What is safe about a node's runs.
use Rattle.std.proofs.Common.{◌≡◌, ◌∙◌, sym, ap, subst, refl, ℕ, Bool, true, false, List, [], ◌∷◌, ◌++◌, Option, Some, None, arith}
use Rattle.std.specs.Prelude.{◌==◌, if◌then◌else◌, is_none}
use Rattle.clnp_machine.proofs.Deeds.{step_budget}
use Rattle.clnp_plan.specs.Configuration.{SystemConfiguration}
use Rattle.clnp_plan.specs.ScenarioPlan.Plan.{Plan}
use Rattle.pdus.specs.EsisPdus.Spelling.{spelling}
use Rattle.frame_links.specs.LinkBoard.Links.{CameFrame}
use Rattle.clnp_plan.specs.PduHeader.Reading.{rest_of}
use Rattle.pdus.specs.EsisPdus.Reading as esis_reading
use Rattle.pdus.specs.EsisPdus.Rules.{why_refused}
use Rattle.pdus.specs.EsisPdus.Value.{EsisValue}
use Rattle.clnp_machine.specs.Content.{Content, Labelled, Esis, Unlabelled, content_of, esis_value_in, is_accepted, packet_from_outside, value_in}
use Rattle.clnp_machine.specs.EveryStep.{IsRedirectFor, IsWithinBudget, KeepsNextHops}
use Rattle.clnp_machine.specs.Step.{step}
use Rattle.clnp_machine.specs.System.{SystemState, Input, FrameComes, Output, Transmits, SendsEsis, Notes, number_behind}
use Rattle.clnp_machine.specs.Unit.{Packet, wire}
use Rattle.clnp_machine.specs.LiveModel.Lines.{NodeLine}
use Rattle.clnp_machine.specs.LiveModel.Node.{Node, Outcome, Saw, LookFailed, Took, SendFailed, Sending, Played, Goes, Ends, Strays, and_then, behind, come_all, comes, counted, detached, frame_at, gives, goes_out, has_link, looks_at, looks_at_each, looks_by, loss, polls, ports_of, puts_all_out, puts_out, sees, transmission, transmits}
use Rattle.clnp_machine.specs.LiveModel.Turn.{Due, comes_at, due_behind, dues_from, takes_turn}
use Rattle.clnp_machine.specs.LiveModel.Course.{Course, Runs, IsOver, Breaks, IsNone, Transcript, Turn, behind_turn, course, course_behind, first_node, goes_on, has_any_link, is_over, run_of}
use Rattle.clnp_machine.specs.LiveModel.Parts.{IfAny, IfBreaks, IsLonger, UsesAll}
use Rattle.clnp_machine.specs.LiveModel.Steps.{inputs_of}
use Rattle.clnp_machine.specs.LiveModel.Safe.{HoldsThroughout, LiveRunsAreSafe, ends_with}
use Rattle.clnp_machine.proofs.LiveModel.Calls.{comes_idle}
use Rattle.clnp_machine.proofs.LiveModel.Longer.{comes_longer, inputs_longer, look_longer, output_longer}
use Rattle.clnp_machine.proofs.LiveModel.Parts.{OnPlayed}

-- ---- what goes out leaves the system

abbrev Leaves : Node → Played → Type 0
Leaves node p = OnPlayed p (λ other left lines. other.system ≡ node.system)

leaves_behind : (a b : Node) → b.system ≡ a.system → (ls : List NodeLine) (p : Played) → Leaves b p → Leaves a (behind ls p)
leaves_behind a b e ls (Goes node left lines) h = h ∙ e
leaves_behind a b e ls (Ends node lines) h = h ∙ e
leaves_behind a b e ls Strays h = tt

leaves_then : (a : Node) (p : Played) (next : Node → List Outcome → Played) → Leaves a p
    → ((b : Node) (left : List Outcome) → Leaves b (next b left)) → Leaves a (and_then p next)
leaves_then a (Goes b left ls) next h k = leaves_behind a b h ls (next b left) (k b left)
leaves_then a (Ends b ls) next h k = h
leaves_then a Strays next h k = tt

leaves_if : (a : Node) (b : Bool) (p q : Played) → Leaves a p → Leaves a q → Leaves a (if b then p else q)
leaves_if a true p q h k = h
leaves_if a false p q h k = k

out_leaves : (node : Node) (sending : Sending) (outcomes : List Outcome) → Leaves node (goes_out node sending outcomes)
out_leaves node sending [] = refl
out_leaves node sending (Saw at look ∷ left) = tt
out_leaves node sending (LookFailed at ∷ left) = tt
out_leaves node sending (Took at ∷ left) =
    leaves_if node (at == sending.port) (Goes (gives (counted node) sending) left (transmission node sending ∷ [])) Strays refl tt
out_leaves node sending (SendFailed at ∷ left) =
    leaves_if node (at == sending.port)
    (Goes (detached (counted node) sending.port) left (transmission node sending ∷ loss node sending.port ∷ [])) Strays refl tt

transmits_leaves : (node : Node) (sending : Sending) (outcomes : List Outcome) → Leaves node (transmits node sending outcomes)
transmits_leaves node sending outcomes =
    leaves_if node (has_link node sending.port) (goes_out node sending outcomes) (Goes (counted node) outcomes (transmission node sending ∷ []))
    (out_leaves node sending outcomes) refl

output_leaves : (node : Node) (output : Output) (outcomes : List Outcome) → Leaves node (puts_out node output outcomes)
output_leaves node (Notes note) outcomes = refl
output_leaves node (Transmits port target packet) outcomes =
    transmits_leaves node (record { port = port; frame = record { target = target; octets = wire packet } }) outcomes
output_leaves node (SendsEsis port target value) outcomes =
    transmits_leaves node (record { port = port; frame = record { target = target; octets = spelling value } }) outcomes

outputs_leave : (outputs : List Output) (node : Node) (outcomes : List Outcome) → Leaves node (puts_all_out node outputs outcomes)
outputs_leave [] node outcomes = refl
outputs_leave (output ∷ outputs) node outcomes =
    leaves_then node (puts_out node output outcomes) (λ other left. puts_all_out other outputs left) (output_leaves node output outcomes)
    (λ other left. outputs_leave outputs other left)

-- the system behind what comes to it
comes_after : (node : Node) (input : Input) (outcomes : List Outcome)
    → OnPlayed (comes node input outcomes) (λ other left lines. other.system ≡ (step node.system input).after)
comes_after node input outcomes =
    outputs_leave (step node.system input).outputs (record node { system = (step node.system input).after }) outcomes

-- ---- what each step keeps, a run keeps

module _ (P : SystemState → Type 0) (keeps : (s : SystemState) (input : Input) → P s → P (step s input).after) where
  abbrev Has : Played → Type 0
  Has p = OnPlayed p (λ node left lines. P node.system)

  has_behind : (ls : List NodeLine) (p : Played) → Has p → Has (behind ls p)
  has_behind ls (Goes node left lines) h = h
  has_behind ls (Ends node lines) h = h
  has_behind ls Strays h = tt

  has_then : (p : Played) (next : Node → List Outcome → Played) → Has p
      → ((node : Node) (left : List Outcome) → P node.system → Has (next node left)) → Has (and_then p next)
  has_then (Goes node left ls) next h k = has_behind ls (next node left) (k node left h)
  has_then (Ends node ls) next h k = h
  has_then Strays next h k = tt

  has_by : (s : SystemState) (p : Played) → P s → OnPlayed p (λ node left lines. node.system ≡ s) → Has p
  has_by s (Goes node left ls) h e = subst P (sym e) h
  has_by s (Ends node ls) h e = subst P (sym e) h
  has_by s Strays h e = tt

  comes_has : (node : Node) (input : Input) (outcomes : List Outcome) → P node.system → Has (comes node input outcomes)
  comes_has node input outcomes h =
      has_by (step node.system input).after (comes node input outcomes) (keeps node.system input h) (comes_after node input outcomes)

  inputs_have : (inputs : List Input) (node : Node) (outcomes : List Outcome) → P node.system → Has (come_all node inputs outcomes)
  inputs_have [] node outcomes h = h
  inputs_have (input ∷ inputs) node outcomes h =
      has_then (comes node input outcomes) (λ other left. come_all other inputs left) (comes_has node input outcomes h)
      (λ other left k. inputs_have inputs other left k)

  sees_has : (node : Node) (port : ℕ) (look : Option CameFrame) (outcomes : List Outcome) → P node.system → Has (sees node port look outcomes)
  sees_has node port None outcomes h = h
  sees_has node port (Some frame) outcomes h =
      comes_has (polls node) (frame_at (number_behind node.polled) node.system.moment port frame) outcomes h

  has_if : (b : Bool) (p q : Played) → Has p → Has q → Has (if b then p else q)
  has_if true p q h k = h
  has_if false p q h k = k

  look_by_has : (node : Node) (port : ℕ) (outcomes : List Outcome) → P node.system → Has (looks_by node port outcomes)
  look_by_has node port [] h = h
  look_by_has node port (Saw at look ∷ left) h = has_if (at == port) (sees node port look left) Strays (sees_has node port look left h) tt
  look_by_has node port (LookFailed at ∷ left) h = has_if (at == port) (Goes (detached node port) left (loss node port ∷ [])) Strays h tt
  look_by_has node port (Took at ∷ left) h = tt
  look_by_has node port (SendFailed at ∷ left) h = tt

  looks_have : (ports : List ℕ) (node : Node) (outcomes : List Outcome) → P node.system → Has (looks_at_each node ports outcomes)
  looks_have [] node outcomes h = h
  looks_have (port ∷ ports) node outcomes h =
      has_then (looks_at node port outcomes) (λ other left. looks_at_each other ports left)
      (has_if (has_link node port) (looks_by node port outcomes) (Goes node outcomes []) (look_by_has node port outcomes h) h)
      (λ other left k. looks_have ports other left k)

  turn_has : (inputs : List Input) (node : Node) (outcomes : List Outcome) → P node.system → Has (takes_turn inputs node outcomes)
  turn_has inputs node outcomes h =
      has_then (come_all node inputs outcomes) (λ other left. looks_at_each other (ports_of other.attached) left) (inputs_have inputs node outcomes h)
      (λ other left k. looks_have (ports_of other.attached) other left k)

  abbrev RunHas : Course → Type 0
  RunHas c = IfAny c (λ node lines. P node.system)

  run_behind : (ls : List NodeLine) (c : Course) → RunHas c → RunHas (course_behind ls c)
  run_behind ls (Runs node lines) h = h
  run_behind ls (IsOver node lines) h = h
  run_behind ls (Breaks node lines) h = h
  run_behind ls IsNone h = tt

  run_over : (node : Node) (turns : List Turn) → P node.system → RunHas (is_over node turns)
  run_over node [] h = h
  run_over node (turn ∷ turns) h = tt

  run_on : (b : Bool) (node : Node) (turns : List Turn) (c : Course) → P node.system → RunHas c → RunHas (if b then c else is_over node turns)
  run_on true node turns c h k = k
  run_on false node turns c h k = run_over node turns h

  run_turn : (p : Played) (turns : List Turn) (next : Node → Course) → Has p → ((node : Node) → P node.system → RunHas (next node))
      → RunHas (behind_turn p turns next)
  run_turn (Goes node [] ls) turns next h k =
      run_behind ls (goes_on node turns next) (run_on (has_any_link node) node turns (next node) h (k node h))
  run_turn (Goes node (outcome ∷ left) ls) turns next h k = tt
  run_turn (Ends node ls) [] next h k = h
  run_turn (Ends node ls) (turn ∷ turns) next h k = tt
  run_turn Strays turns next h k = tt

  pub course_has : (turns : List Turn) (dues : List Due) (node : Node) → P node.system → RunHas (course dues node turns)
  course_has [] dues node h = h
  course_has (turn ∷ turns) dues node h =
      run_turn (takes_turn (comes_at turn.moment node.system.configuration.role dues) node turn.outcomes) turns
      (λ other. course (due_behind turn.moment dues) other turns)
      (turn_has (comes_at turn.moment node.system.configuration.role dues) node turn.outcomes h)
      (λ other k. course_has turns (due_behind turn.moment dues) other k)

  pub holds_throughout : (inputs : List Input) (s : SystemState) → P s → HoldsThroughout P s inputs
  holds_throughout [] s h = h
  holds_throughout (input ∷ inputs) s h = (h, holds_throughout inputs (step s input).after (keeps s input h))

first_is_bounded : (plan : Plan) (system : SystemConfiguration) (start : ℕ) (attached : List Bool)
    → IsWithinBudget (first_node plan.limits system start attached).system
first_is_bounded plan system start attached = omega arith

runs_bounded : (plan : Plan) (systems : List SystemConfiguration) (attached : List Bool) (transcript : Transcript)
    → IfAny (run_of plan systems attached transcript) (λ node lines. IsWithinBudget node.system)
runs_bounded plan [] attached transcript = tt
runs_bounded plan (system ∷ []) attached transcript =
    course_has IsWithinBudget step_budget transcript.turns (dues_from transcript.start plan.events)
    (first_node plan.limits system transcript.start attached) (first_is_bounded plan system transcript.start attached)
runs_bounded plan (system ∷ other ∷ systems) attached transcript = tt

-- ---- one outcome more

-- where outcomes end within a part, one that is none of its call strays
abbrev EndStrays : (shorter longer : Played) → Type 0
EndStrays (Goes node left lines) longer = Unit {0}
EndStrays (Ends node lines) longer = longer ≡ Strays
EndStrays Strays longer = Unit {0}

strays_behind : (ls : List NodeLine) (p q : Played) → EndStrays p q → EndStrays (behind ls p) (behind ls q)
strays_behind ls (Goes node left lines) q h = tt
strays_behind ls (Ends node lines) q h = ap (behind ls) h
strays_behind ls Strays q h = tt

strays_then : (later : List Outcome) (p q : Played) (next : Node → List Outcome → Played) → IsLonger later p q → EndStrays p q
    → ((node : Node) (left : List Outcome) → EndStrays (next node left) (next node (left ++ later)))
    → EndStrays (and_then p next) (and_then q next)
strays_then later (Goes node left ls) q next l h k =
    subst (λ (r : Played). EndStrays (behind ls (next node left)) (and_then r next)) (sym l)
    (strays_behind ls (next node left) (next node (left ++ later)) (k node left))
strays_then later (Ends node ls) q next l h k = ap (λ r. and_then r next) h
strays_then later Strays q next l h k = tt

strays_if : (b : Bool) (p q r s : Played) → EndStrays p r → EndStrays q s → EndStrays (if b then p else q) (if b then r else s)
strays_if true p q r s h k = h
strays_if false p q r s h k = k

module _ (port : ℕ) (frame : CameFrame) where
  abbrev seen : List Outcome
  seen = Saw port (Some frame) ∷ []

  out_stray : (node : Node) (sending : Sending) (outcomes : List Outcome) → EndStrays (goes_out node sending outcomes) (goes_out node sending (outcomes ++ seen))
  out_stray node sending [] = refl
  out_stray node sending (Saw at look ∷ left) = tt
  out_stray node sending (LookFailed at ∷ left) = tt
  out_stray node sending (Took at ∷ left) =
      strays_if (at == sending.port) (Goes (gives (counted node) sending) left (transmission node sending ∷ [])) Strays
      (Goes (gives (counted node) sending) (left ++ seen) (transmission node sending ∷ [])) Strays tt tt
  out_stray node sending (SendFailed at ∷ left) =
      strays_if (at == sending.port) (Goes (detached (counted node) sending.port) left (transmission node sending ∷ loss node sending.port ∷ [])) Strays
      (Goes (detached (counted node) sending.port) (left ++ seen) (transmission node sending ∷ loss node sending.port ∷ [])) Strays tt tt

  transmits_stray : (node : Node) (sending : Sending) (outcomes : List Outcome)
      → EndStrays (transmits node sending outcomes) (transmits node sending (outcomes ++ seen))
  transmits_stray node sending outcomes =
      strays_if (has_link node sending.port) (goes_out node sending outcomes) (Goes (counted node) outcomes (transmission node sending ∷ []))
      (goes_out node sending (outcomes ++ seen)) (Goes (counted node) (outcomes ++ seen) (transmission node sending ∷ []))
      (out_stray node sending outcomes) tt

  output_stray : (node : Node) (output : Output) (outcomes : List Outcome)
      → EndStrays (puts_out node output outcomes) (puts_out node output (outcomes ++ seen))
  output_stray node (Notes note) outcomes = tt
  output_stray node (Transmits at target packet) outcomes =
      transmits_stray node (record { port = at; frame = record { target = target; octets = wire packet } }) outcomes
  output_stray node (SendsEsis at target value) outcomes =
      transmits_stray node (record { port = at; frame = record { target = target; octets = spelling value } }) outcomes

  outputs_stray : (outputs : List Output) (node : Node) (outcomes : List Outcome)
      → EndStrays (puts_all_out node outputs outcomes) (puts_all_out node outputs (outcomes ++ seen))
  outputs_stray [] node outcomes = tt
  outputs_stray (output ∷ outputs) node outcomes =
      strays_then seen (puts_out node output outcomes) (puts_out node output (outcomes ++ seen)) (λ other left. puts_all_out other outputs left)
      (output_longer node output outcomes seen) (output_stray node output outcomes) (λ other left. outputs_stray outputs other left)

  comes_stray : (node : Node) (input : Input) (outcomes : List Outcome) → EndStrays (comes node input outcomes) (comes node input (outcomes ++ seen))
  comes_stray node input outcomes = outputs_stray (step node.system input).outputs (record node { system = (step node.system input).after }) outcomes

  inputs_stray : (inputs : List Input) (node : Node) (outcomes : List Outcome)
      → EndStrays (come_all node inputs outcomes) (come_all node inputs (outcomes ++ seen))
  inputs_stray [] node outcomes = tt
  inputs_stray (input ∷ inputs) node outcomes =
      strays_then seen (comes node input outcomes) (comes node input (outcomes ++ seen)) (λ other left. come_all other inputs left)
      (comes_longer node input outcomes seen) (comes_stray node input outcomes) (λ other left. inputs_stray inputs other left)

  -- ---- a look more, which sees a frame whose step changes a system so

  module _ (Q : SystemState → SystemState → Type 0)
      (steps : (s : SystemState) (number moment at : ℕ) → Q s (step s (frame_at number moment at frame)).after) where
    -- a part is over, or ends with its outcomes, and none is left
    abbrev Done : (SystemState → Type 0) → Played → Type 0
    Done P (Goes node [] lines) = P node.system
    Done P (Goes node (outcome ∷ left) lines) = ⊥
    Done P (Ends node lines) = P node.system
    Done P Strays = Unit {0}

    done_behind : (P : SystemState → Type 0) (ls : List NodeLine) (p : Played) → Done P p → Done P (behind ls p)
    done_behind P ls (Goes node [] lines) h = h
    done_behind P ls (Goes node (outcome ∷ left) lines) h = absurd h
    done_behind P ls (Ends node lines) h = h
    done_behind P ls Strays h = tt

    done_then : (P : SystemState → Type 0) (p : Played) (next : Node → List Outcome → Played) → Done P p
        → ((node : Node) → P node.system → Done P (next node [])) → Done P (and_then p next)
    done_then P (Goes node [] ls) next h k = done_behind P ls (next node []) (k node h)
    done_then P (Goes node (outcome ∷ left) ls) next h k = absurd h
    done_then P (Ends node ls) next h k = h
    done_then P Strays next h k = tt

    done_by : (P : SystemState → Type 0) (s : SystemState) (p : Played) → P s → UsesAll p → OnPlayed p (λ node left lines. node.system ≡ s) → Done P p
    done_by P s (Goes node [] ls) h u e = subst P (sym e) h
    done_by P s (Goes node (outcome ∷ left) ls) h u e = absurd u
    done_by P s (Ends node ls) h u e = subst P (sym e) h
    done_by P s Strays h u e = tt

    look_done : (P : SystemState → Type 0) (ports : List ℕ) (node : Node) (b : Bool) → P node.system → Done P (looks_at_each node ports [])
        → Done P (and_then (if b then Ends node [] else Goes node [] []) (λ other left. looks_at_each other ports left))
    look_done P ports node true h k = h
    look_done P ports node false h k = done_behind P [] (looks_at_each node ports []) k

    -- looks without outcomes leave the system
    looks_done : (P : SystemState → Type 0) (ports : List ℕ) (node : Node) → P node.system → Done P (looks_at_each node ports [])
    looks_done P [] node h = h
    looks_done P (at ∷ ports) node h = look_done P ports node (has_link node at) h (looks_done P ports node h)

    abbrev Next : (shorter longer : Played) → Type 0
    Next (Goes node left lines) longer = Unit {0}
    Next (Ends before lines) longer = Done (Q before.system) longer
    Next Strays longer = Unit {0}

    next_of : (p q : Played) → EndStrays p q → Next p q
    next_of (Goes node left lines) q h = tt
    next_of (Ends before lines) q h = subst (Done (Q before.system)) (sym h) tt
    next_of Strays q h = tt

    next_behind : (ls : List NodeLine) (p q : Played) → Next p q → Next (behind ls p) (behind ls q)
    next_behind ls (Goes node left lines) q h = tt
    next_behind ls (Ends before lines) q h = done_behind (Q before.system) ls q h
    next_behind ls Strays q h = tt

    next_if : (b : Bool) (p q r s : Played) → Next p r → Next q s → Next (if b then p else q) (if b then r else s)
    next_if true p q r s h k = h
    next_if false p q r s h k = k

    next_then : (p q : Played) (next : Node → List Outcome → Played) → IsLonger seen p q → Next p q
        → ((P : SystemState → Type 0) (node : Node) → P node.system → Done P (next node []))
        → ((node : Node) (left : List Outcome) → Next (next node left) (next node (left ++ seen)))
        → Next (and_then p next) (and_then q next)
    next_then (Goes node left ls) q next l h quiet k =
        subst (λ (r : Played). Next (behind ls (next node left)) (and_then r next)) (sym l)
        (next_behind ls (next node left) (next node (left ++ seen)) (k node left))
    next_then (Ends before ls) q next l h quiet k = done_then (Q before.system) q next h (quiet (Q before.system))
    next_then Strays q next l h quiet k = tt

    -- the look that sees it
    look_sees : (node : Node) (at : ℕ) → Done (Q node.system) (looks_by node at seen)
    look_sees node at = go (port == at)
      where
        input : Input
        input = frame_at (number_behind node.polled) node.system.moment at frame

        go : (b : Bool) → Done (Q node.system) (if b then sees node at (Some frame) [] else Strays)
        go true =
            done_by (Q node.system) (step node.system input).after (comes (polls node) input [])
            (steps node.system (number_behind node.polled) node.system.moment at) (comes_idle (polls node) input) (comes_after (polls node) input [])
        go false = tt

    look_next : (node : Node) (at : ℕ) (outcomes : List Outcome) → Next (looks_by node at outcomes) (looks_by node at (outcomes ++ seen))
    look_next node at [] = look_sees node at
    look_next node at (Saw from None ∷ left) =
        next_if (from == at) (Goes node left []) Strays (Goes node (left ++ seen) []) Strays tt tt
    look_next node at (Saw from (Some other) ∷ left) =
        next_if (from == at) (sees node at (Some other) left) Strays (sees node at (Some other) (left ++ seen)) Strays
        (next_of (sees node at (Some other) left) (sees node at (Some other) (left ++ seen))
        (comes_stray (polls node) (frame_at (number_behind node.polled) node.system.moment at other) left)) tt
    look_next node at (LookFailed from ∷ left) =
        next_if (from == at) (Goes (detached node at) left (loss node at ∷ [])) Strays
        (Goes (detached node at) (left ++ seen) (loss node at ∷ [])) Strays tt tt
    look_next node at (Took from ∷ left) = tt
    look_next node at (SendFailed from ∷ left) = tt

    looks_next : (ports : List ℕ) (node : Node) (outcomes : List Outcome)
        → Next (looks_at_each node ports outcomes) (looks_at_each node ports (outcomes ++ seen))
    looks_next [] node outcomes = tt
    looks_next (at ∷ ports) node outcomes =
        next_then (looks_at node at outcomes) (looks_at node at (outcomes ++ seen)) (λ other left. looks_at_each other ports left)
        (look_longer node at outcomes seen)
        (next_if (has_link node at) (looks_by node at outcomes) (Goes node outcomes []) (looks_by node at (outcomes ++ seen)) (Goes node (outcomes ++ seen) [])
        (look_next node at outcomes) tt)
        (λ P other h. looks_done P ports other h) (λ other left. looks_next ports other left)

    turn_next : (inputs : List Input) (node : Node) (outcomes : List Outcome)
        → Next (takes_turn inputs node outcomes) (takes_turn inputs node (outcomes ++ seen))
    turn_next inputs node outcomes =
        next_then (come_all node inputs outcomes) (come_all node inputs (outcomes ++ seen)) (λ other left. looks_at_each other (ports_of other.attached) left)
        (inputs_longer inputs node outcomes seen)
        (next_of (come_all node inputs outcomes) (come_all node inputs (outcomes ++ seen)) (inputs_stray inputs node outcomes))
        (λ P other h. looks_done P (ports_of other.attached) other h) (λ other left. looks_next (ports_of other.attached) other left)

    -- runs

    abbrev RunNext : (shorter longer : Course) → Type 0
    RunNext shorter longer = IfBreaks shorter (λ before lines. IfAny longer (λ after more. Q before.system after.system))

    any_behind : (ls : List NodeLine) (c : Course) (P : SystemState → Type 0) → IfAny c (λ node lines. P node.system)
        → IfAny (course_behind ls c) (λ node lines. P node.system)
    any_behind ls (Runs node lines) P h = h
    any_behind ls (IsOver node lines) P h = h
    any_behind ls (Breaks node lines) P h = h
    any_behind ls IsNone P h = tt

    run_next_behind : (ls : List NodeLine) (c d : Course) → RunNext c d → RunNext (course_behind ls c) (course_behind ls d)
    run_next_behind ls (Runs node lines) d h = tt
    run_next_behind ls (IsOver node lines) d h = tt
    run_next_behind ls (Breaks before lines) d h = any_behind ls d (Q before.system) h
    run_next_behind ls IsNone d h = tt

    -- behind its last turn a run that doesn't end within it goes on or is over
    abbrev last : Node → Course
    last other = Runs other []

    last_goes : (b : Bool) (node : Node) (ls : List NodeLine) (d : Course) → RunNext (course_behind ls (if b then Runs node [] else IsOver node [])) d
    last_goes true node ls d = tt
    last_goes false node ls d = tt

    last_done : (P : SystemState → Type 0) (b : Bool) (node : Node) (ls : List NodeLine) → P node.system
        → IfAny (course_behind ls (if b then Runs node [] else IsOver node [])) (λ other more. P other.system)
    last_done P true node ls h = h
    last_done P false node ls h = h

    done_last : (P : SystemState → Type 0) (q : Played) → Done P q → IfAny (behind_turn q [] last) (λ other more. P other.system)
    done_last P (Goes node [] ls) h = last_done P (has_any_link node) node ls h
    done_last P (Goes node (outcome ∷ left) ls) h = absurd h
    done_last P (Ends node ls) h = h
    done_last P Strays h = tt

    last_next : (p q : Played) → Next p q → RunNext (behind_turn p [] last) (behind_turn q [] last)
    last_next (Goes node [] ls) q h = last_goes (has_any_link node) node ls (behind_turn q [] last)
    last_next (Goes node (outcome ∷ left) ls) q h = tt
    last_next (Ends before ls) q h = done_last (Q before.system) q h
    last_next Strays q h = tt

    module _ (moment : ℕ) (outcomes : List Outcome) where
      abbrev shorter : Turn
      shorter = record { moment = moment; outcomes = outcomes }

      abbrev longer : Turn
      longer = record { moment = moment; outcomes = outcomes ++ seen }

      on_next : (b : Bool) (node : Node) (turns : List Turn) (c d : Course) → RunNext c d
          → RunNext (if b then c else is_over node (turns ++ shorter ∷ [])) (if b then d else is_over node (turns ++ longer ∷ []))
      on_next true node turns c d h = h
      on_next false node [] c d h = tt
      on_next false node (turn ∷ turns) c d h = tt

      before_next : (p : Played) (turns : List Turn) (dues : List Due)
          → ((node : Node) → RunNext (course dues node (turns ++ shorter ∷ [])) (course dues node (turns ++ longer ∷ [])))
          → RunNext (behind_turn p (turns ++ shorter ∷ []) (λ other. course dues other (turns ++ shorter ∷ [])))
          (behind_turn p (turns ++ longer ∷ []) (λ other. course dues other (turns ++ longer ∷ [])))
      before_next (Goes node [] ls) turns dues k =
          run_next_behind ls (goes_on node (turns ++ shorter ∷ []) (λ other. course dues other (turns ++ shorter ∷ [])))
          (goes_on node (turns ++ longer ∷ []) (λ other. course dues other (turns ++ longer ∷ [])))
          (on_next (has_any_link node) node turns (course dues node (turns ++ shorter ∷ [])) (course dues node (turns ++ longer ∷ [])) (k node))
      before_next (Goes node (outcome ∷ left) ls) turns dues k = tt
      before_next (Ends node ls) [] dues k = tt
      before_next (Ends node ls) (turn ∷ turns) dues k = tt
      before_next Strays turns dues k = tt

      course_next : (turns : List Turn) (dues : List Due) (node : Node)
          → RunNext (course dues node (turns ++ shorter ∷ [])) (course dues node (turns ++ longer ∷ []))
      course_next [] dues node =
          last_next (takes_turn (comes_at moment node.system.configuration.role dues) node outcomes)
          (takes_turn (comes_at moment node.system.configuration.role dues) node (outcomes ++ seen))
          (turn_next (comes_at moment node.system.configuration.role dues) node outcomes)
      course_next (turn ∷ turns) dues node =
          before_next (takes_turn (comes_at turn.moment node.system.configuration.role dues) node turn.outcomes) turns (due_behind turn.moment dues)
          (λ other. course_next turns (due_behind turn.moment dues) other)

      runs_next : (plan : Plan) (systems : List SystemConfiguration) (attached : List Bool) (start : ℕ) (turns : List Turn)
          → RunNext (run_of plan systems attached (ends_with start turns moment outcomes))
          (run_of plan systems attached (ends_with start turns moment (outcomes ++ seen)))
      runs_next plan [] attached start turns = tt
      runs_next plan (system ∷ []) attached start turns =
          course_next turns (dues_from start plan.events) (first_node plan.limits system start attached)
      runs_next plan (system ∷ other ∷ systems) attached start turns = tt

-- ---- redirects

-- of whatever number and moment, the same octets are a redirect
redirect_is : (destination : List ℕ) (a b : Bool) (p q : Packet) (following others octets : List ℕ) (value : EsisValue)
    → IsRedirectFor destination (if a then Labelled p following else if b then Esis value others else Unlabelled octets)
    → IsRedirectFor destination (if a then Labelled q following else if b then Esis value others else Unlabelled octets)
redirect_is destination true b p q following others octets value is = absurd is
redirect_is destination false true p q following others octets value is = is
redirect_is destination false false p q following others octets value is = absurd is

still_redirect : (destination octets : List ℕ) (number made other now : ℕ) → IsRedirectFor destination (content_of number made octets)
    → IsRedirectFor destination (content_of other now octets)
still_redirect destination octets number made other now is =
    redirect_is destination (is_accepted octets) (is_none (why_refused octets)) (packet_from_outside number made (value_in octets))
    (packet_from_outside other now (value_in octets)) (rest_of octets) (esis_reading.rest_of octets) octets (esis_value_in octets) is

-- a redirect that comes changes one next hop
abbrev pub OnRedirects : Type 0
OnRedirects = (s : SystemState) (port : ℕ) (sender : List ℕ) (to_group : Bool) (content : Content) (destination : List ℕ)
    → IsRedirectFor destination content → KeepsNextHops destination s (step s (FrameComes port sender to_group content)).after

pub live_runs_are_safe : OnRedirects → (plan : Plan) → LiveRunsAreSafe plan
live_runs_are_safe law plan =
    record {
      bounded = λ attached transcript. runs_bounded plan plan.systems attached transcript;
      throughout = λ system attached transcript one.
          holds_throughout IsWithinBudget step_budget (inputs_of system.role (dues_from transcript.start plan.events) 0 transcript.turns)
          (first_node plan.limits system transcript.start attached).system (first_is_bounded plan system transcript.start attached);
      redirects = λ attached start turns moment outcomes port frame destination number made is.
          runs_next port frame (KeepsNextHops destination)
          (λ s other now at. law s at frame.from frame.to_group (content_of other now frame.octets) destination
          (still_redirect destination frame.octets number made other now is))
          moment outcomes plan plan.systems attached start turns;
    }
