-- A run: the moves of a scenario, one after another, its journal and its trace.
use Rattle.std.specs.Prelude.{ℕ, if◌then◌else◌, List, [], ◌∷◌, ◌++◌, length, Option, None, Some}
use Rattle.std.specs.List.{filter, flat_map}
use Rattle.clnp_plan.specs.Journal.{Line, is_in_journal, told_text, end_text}
use Rattle.clnp_plan.specs.declared.journal.Telling.{Telling}
use Rattle.clnp_plan.specs.declared.journal.Telling.TheVariants as telling
use Rattle.clnp_plan.specs.ScenarioPlan.Plan.{Plan, moves_from}
use Rattle.clnp_plan.specs.declared.scenario_plan.event.Move.{Move}
use Rattle.clnp_machine.specs.ClnpNetwork.LabelledNetwork.{LabelledNetwork, after, first_world, is_full, weight}

-- a move, and the lines that it wrote
pub record Entry : Type 0 where
  pub move : Move
  pub lines : List Line

abbrev pub world_after : Plan → LabelledNetwork → List Move → LabelledNetwork
world_after plan w [] = w
world_after plan w (move ∷ moves) = world_after plan (after plan w move).world moves

abbrev pub entries_of : Plan → LabelledNetwork → List Move → List Entry
entries_of plan w [] = []
entries_of plan w (move ∷ moves) =
    record { move = move; lines = (after plan w move).lines } ∷ entries_of plan (after plan w move).world moves

-- the text of some lines, in a journal or in a trace
abbrev pub told_lines : Telling → List Line → List ℕ
told_lines form lines = flat_map (told_text form) lines

abbrev pub lines_text : List Line → List ℕ
lines_text lines = told_lines telling.Journal lines

-- those of some lines that a journal has
abbrev pub journal_lines : List Line → List Line
journal_lines lines = filter is_in_journal lines

abbrev pub entry_text : Entry → List ℕ
entry_text entry = lines_text entry.lines

-- the lines of an entry in a trace, and those of them that a journal has
abbrev pub entry_trace : Entry → List ℕ
entry_trace entry = told_lines telling.Trace entry.lines

abbrev pub entry_without : Entry → List ℕ
entry_without entry = told_lines telling.Trace (journal_lines entry.lines)

-- the text that moves write, in a journal or in a trace
abbrev pub told_of : Telling → Plan → LabelledNetwork → List Move → List ℕ
told_of form plan w [] = []
told_of form plan w (move ∷ moves) = told_lines form (after plan w move).lines ++ told_of form plan (after plan w move).world moves

abbrev pub text_of : Plan → LabelledNetwork → List Move → List ℕ
text_of plan w moves = told_of telling.Journal plan w moves

abbrev pub moves_of_plan : Plan → List Move
moves_of_plan plan = moves_from 0 plan.events

-- the moves before the first at which the network is full
abbrev pub until_full : Plan → LabelledNetwork → List Move → List Move
until_full plan w [] = []
until_full plan w (move ∷ moves) = if is_full w then [] else move ∷ until_full plan (after plan w move).world moves

-- the weight of the network where it is full before a move
abbrev pub full_weight : Plan → LabelledNetwork → List Move → Option ℕ
full_weight plan w [] = None
full_weight plan w (move ∷ moves) = if is_full w then Some (weight w) else full_weight plan (after plan w move).world moves

-- the moves of a scenario that are made
abbrev pub moves_made : Plan → List Move
moves_made plan = until_full plan (first_world plan) (moves_of_plan plan)

-- the weight at which the run of a scenario stops, where it does
abbrev pub stopped_at : Plan → Option ℕ
stopped_at plan = full_weight plan (first_world plan) (moves_of_plan plan)

-- the run of a scenario
abbrev pub run : Plan → List Entry
run plan = entries_of plan (first_world plan) (moves_made plan)

abbrev pub last_world : Plan → LabelledNetwork
last_world plan = world_after plan (first_world plan) (moves_made plan)

abbrev pub world_end : LabelledNetwork → List ℕ
world_end w = end_text w.clock (length w.copies)

-- the last line of a journal, where the run wasn't stopped
abbrev pub ending : Option ℕ → LabelledNetwork → List ℕ
ending None w = world_end w
ending (Some weight) w = []

-- the journal of a scenario, or its trace: the text of its moves, and the last line
abbrev pub told : Telling → Plan → List ℕ
told form plan = told_of form plan (first_world plan) (moves_made plan) ++ ending (stopped_at plan) (last_world plan)

-- the journal of a scenario
abbrev pub journal : Plan → List ℕ
journal plan = told telling.Journal plan

-- the trace of a scenario: the lines of its journal, and between them what becomes of each copy
abbrev pub trace : Plan → List ℕ
trace plan = told telling.Trace plan
