-- Runs of a live node over a transcript, turn by turn, and their journals.
use Rattle.std.specs.Prelude.{ℕ, ◌+◌, Bool, if◌then◌else◌, List, [], ◌∷◌, ◌++◌, map}
use Rattle.std.specs.List.{flat_map, list_any}
use Rattle.clnp_plan.specs.Configuration.{SystemConfiguration}
use Rattle.clnp_plan.specs.Journal.{end_text}
use Rattle.clnp_plan.specs.declared.config.Limits.{Limits}
use Rattle.clnp_machine.specs.System.{first_state}
use Rattle.clnp_plan.specs.ScenarioPlan.Plan.{Plan}
use Rattle.clnp_machine.specs.LiveModel.Lines.{NodeLine, lines_text}
use Rattle.clnp_machine.specs.LiveModel.Node.{Node, Outcome, Played, Goes, Ends, Strays}
use Rattle.clnp_machine.specs.LiveModel.Turn.{Due, comes_at, due_behind, dues_from, takes_turn}

-- the moment that was read in a turn, and what came of each look and each sending, in order
pub record Turn : Type 0 where
  pub moment : ℕ
  pub outcomes : List Outcome

-- the moment at which a run started, and its turns
pub record Transcript : Type 0 where
  pub start : ℕ
  pub turns : List Turn

-- What comes of turns: the node after them and the lines that were written; or so does it, and no link is attached any more, so
-- that no turn follows; or the transcript ends within its last turn; or it is none of this node.
pub data Course : Type 0 where
  Runs : (node : Node) (lines : List NodeLine) → Course
  IsOver : (node : Node) (lines : List NodeLine) → Course
  Breaks : (node : Node) (lines : List NodeLine) → Course
  IsNone : Course

abbrev pub course_behind : List NodeLine → Course → Course
course_behind lines (Runs node others) = Runs node (lines ++ others)
course_behind lines (IsOver node others) = IsOver node (lines ++ others)
course_behind lines (Breaks node others) = Breaks node (lines ++ others)
course_behind lines IsNone = IsNone

abbrev pub has_any_link : Node → Bool
has_any_link node = list_any (λ (on : Bool). on) node.attached

-- no turn follows
abbrev pub is_over : Node → List Turn → Course
is_over node [] = IsOver node []
is_over node (turn ∷ turns) = IsNone

-- behind a turn come the others, while any link is attached
abbrev pub goes_on : Node → List Turn → (Node → Course) → Course
goes_on node turns next = if has_any_link node then next node else is_over node turns

-- A turn has all of its outcomes, no fewer unless the transcript ends with them, and no more.
abbrev pub behind_turn : Played → List Turn → (Node → Course) → Course
behind_turn (Goes node [] lines) turns next = course_behind lines (goes_on node turns next)
behind_turn (Goes node (outcome ∷ left) lines) turns next = IsNone
behind_turn (Ends node lines) [] next = Breaks node lines
behind_turn (Ends node lines) (turn ∷ turns) next = IsNone
behind_turn Strays turns next = IsNone

-- turns of a node, while these events are to be done
abbrev pub course : List Due → Node → List Turn → Course
course dues node [] = Runs node []
course dues node (turn ∷ turns) =
    behind_turn (takes_turn (comes_at turn.moment node.system.configuration.role dues) node turn.outcomes) turns
    (λ other. course (due_behind turn.moment dues) other turns)

-- A node at its start: nobody knows which identifiers it used before, so its system is quiet at first (ISO 8473, section 6.8).
abbrev pub first_node : Limits → SystemConfiguration → (start : ℕ) → (attached : List Bool) → Node
first_node limits configuration start attached =
    record {
      system = first_state 0 configuration limits start (start + limits.reuse);
      attached = attached;
      copies = 0;
      polled = 0;
      taken = [];
    }

-- the run of the system of a scenario, which is its only one
abbrev pub run_of : Plan → List SystemConfiguration → List Bool → Transcript → Course
run_of plan [] attached transcript = IsNone
run_of plan (system ∷ []) attached transcript =
    course (dues_from transcript.start plan.events) (first_node plan.limits system transcript.start attached) transcript.turns
run_of plan (system ∷ other ∷ systems) attached transcript = IsNone

-- the run of a scenario of one system over a transcript, where these of its ports have their links
abbrev pub node_run : Plan → (attached : List Bool) → Transcript → Course
node_run plan attached transcript = run_of plan plan.systems attached transcript

-- what a run writes: its lines; and at its end, where any link is attached, the clock and the number of frames transmitted
abbrev pub journal : Course → List ℕ
journal (Runs node lines) = lines_text lines ++ end_text node.system.moment node.copies
journal (IsOver node lines) = lines_text lines
journal (Breaks node lines) = lines_text lines
journal IsNone = []

abbrev pub moments_of : List Turn → List ℕ
moments_of turns = map (λ (turn : Turn). turn.moment) turns

abbrev pub outcomes_of : List Turn → List Outcome
outcomes_of turns = flat_map (λ (turn : Turn). turn.outcomes) turns
