-- What moves write is the text of their entries, and a trace without its own lines is a journal.
use Rattle.std.proofs.Common.{◌≡◌, refl, ap, ◌∙◌, ℕ, List, [], ◌∷◌, ◌++◌}
use Rattle.std.specs.List.{flat_map}
use Rattle.clnp_plan.specs.Journal.{Line, Noted, Transmitted, Void, Late, Injected, Resized, Received, Lost, ForNobody, line_text}
use Rattle.clnp_plan.specs.declared.journal.Telling.{Telling}
use Rattle.clnp_plan.specs.declared.journal.Telling.TheVariants as telling
use Rattle.clnp_plan.specs.ScenarioPlan.Plan.{Plan}
use Rattle.clnp_plan.specs.declared.scenario_plan.event.Move.{Move}
use Rattle.clnp_machine.specs.ClnpNetwork.LabelledNetwork.{LabelledNetwork, after, first_world}
use Rattle.clnp_machine.specs.ClnpNetwork.Run.{Entry, ending, entries_of, entry_text, entry_trace, entry_without, journal, journal_lines, last_world, lines_text, moves_made, run, stopped_at, text_of, told_lines, told_of, trace}

-- the text of an entry, in a journal or in a trace
abbrev told_entry : Telling → Entry → List ℕ
told_entry form entry = told_lines form entry.lines

told_is : (form : Telling) (plan : Plan) (w : LabelledNetwork) (moves : List Move)
    → told_of form plan w moves ≡ flat_map (told_entry form) (entries_of plan w moves)
told_is form plan w [] = refl
told_is form plan w (move ∷ moves) =
    ap (λ (more : List ℕ). told_lines form (after plan w move).lines ++ more) (told_is form plan (after plan w move).world moves)

pub text_is : (plan : Plan) (w : LabelledNetwork) (moves : List Move) → text_of plan w moves ≡ flat_map entry_text (entries_of plan w moves)
text_is plan w moves = told_is telling.Journal plan w moves

pub journal_is : (plan : Plan) → journal plan ≡ flat_map entry_text (run plan) ++ ending (stopped_at plan) (last_world plan)
journal_is plan =
    ap (λ (text : List ℕ). text ++ ending (stopped_at plan) (last_world plan)) (text_is plan (first_world plan) (moves_made plan))

pub trace_is : (plan : Plan) → trace plan ≡ flat_map entry_trace (run plan) ++ ending (stopped_at plan) (last_world plan)
trace_is plan =
    ap (λ (text : List ℕ). text ++ ending (stopped_at plan) (last_world plan)) (told_is telling.Trace plan (first_world plan) (moves_made plan))

-- without what only it tells, a trace has the lines of a journal
without : (lines : List Line) → told_lines telling.Trace (journal_lines lines) ≡ lines_text lines
without [] = refl
without (Received now name copy port ∷ lines) = without lines
without (Lost now copy ∷ lines) = without lines
without (ForNobody now copy ∷ lines) = without lines
without (Noted now name note ∷ lines) = ap (λ (more : List ℕ). line_text (Noted now name note) ++ more) (without lines)
without (Transmitted now name copy port target frame ∷ lines) =
    ap (λ (more : List ℕ). line_text (Transmitted now name copy port target frame) ++ more) (without lines)
without (Void now name copy ∷ lines) = ap (λ (more : List ℕ). line_text (Void now name copy) ++ more) (without lines)
without (Late now name copy ∷ lines) = ap (λ (more : List ℕ). line_text (Late now name copy) ++ more) (without lines)
without (Injected now copy subnet sender target ∷ lines) =
    ap (λ (more : List ℕ). line_text (Injected now copy subnet sender target) ++ more) (without lines)
without (Resized now subnet mtu ∷ lines) = ap (λ (more : List ℕ). line_text (Resized now subnet mtu) ++ more) (without lines)

entries_without : (plan : Plan) (w : LabelledNetwork) (moves : List Move) → flat_map entry_without (entries_of plan w moves) ≡ text_of plan w moves
entries_without plan w [] = refl
entries_without plan w (move ∷ moves) =
    ap (λ (text : List ℕ). text ++ flat_map entry_without (entries_of plan (after plan w move).world moves)) (without (after plan w move).lines)
    ∙ ap (λ (more : List ℕ). lines_text (after plan w move).lines ++ more) (entries_without plan (after plan w move).world moves)

pub without_is : (plan : Plan) → flat_map entry_without (run plan) ++ ending (stopped_at plan) (last_world plan) ≡ journal plan
without_is plan =
    ap (λ (text : List ℕ). text ++ ending (stopped_at plan) (last_world plan)) (entries_without plan (first_world plan) (moves_made plan))
