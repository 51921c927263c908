-- What a call of the program comes to.
use Rattle.std.specs.Prelude.{◌≡◌, ℕ, ◌⊎◌, List, [], ◌∷◌, ◌++◌, codes, Option, None, Some}
use Rattle.std.specs.Io.KnownBytes.{Appends, Keeps}
use Rattle.clnp_machine.specs.ClnpBase.Streams.{AppendsFront}
use Rattle.captures.specs.ClnpBase.declared.command_base.status.Status.{Status}
use Rattle.captures.specs.ClnpBase.declared.command_base.status.Status.TheVariants.{Done, WriteFault}
use Rattle.captures.specs.CommandBase.Exit.{exit_number}
use Rattle.clnp_program.specs.LiveNode.Clocks.{ClockState}
use Rattle.clnp_program.specs.Live.{RunsAs}
use Rattle.frame_links.specs.LinkBoard.Ports.{PortState}
use Rattle.clnp_program.specs.Serves.{Serves}
use Rattle.clnp_program.specs.Words.{command_of}
use Rattle.clnp_program.specs.Texts.{behind_fault, information}
use Rattle.clnp_program.specs.declared.fault.Fault.{Fault}
use Rattle.clnp_program.specs.Faults.{fault_of}
use Rattle.clnp_program.specs.FaultTexts.{fault_text}

-- A text about the program: it was written and all is done, or the sink failed in this call and has a front of it.
abbrev pub Informs : List ℕ → Option (List ℕ) → Option (List ℕ) → Type 0 → Status → Type 0
Informs text before after rose status =
    ((status ≡ Done) × Appends before after text) ⊎ ((status ≡ WriteFault) × (rose × AppendsFront before after text))

-- what the words come to: a text about the program, with the source as it was; or a command
abbrev pub AnswersOn : Option (List ℕ) → (words : List (List ℕ))
    → (left_before left_after before after : Option (List ℕ)) → (same_source same_sink read_rose write_rose : Type 0)
    → Status → Type 0
AnswersOn (Some text) words left_before left_after before after same_source same_sink read_rose write_rose status =
    Informs text before after write_rose status × same_source
AnswersOn None words left_before left_after before after same_source same_sink read_rose write_rose status =
    Serves words left_before left_after before after same_source same_sink read_rose write_rose status

abbrev pub Answers : (words : List (List ℕ)) → (left_before left_after before after : Option (List ℕ))
    → (same_source same_sink read_rose write_rose : Type 0) → Status → Type 0
Answers words left_before left_after before after same_source same_sink read_rose write_rose status =
    AnswersOn (information words) words left_before left_after before after same_source same_sink read_rose write_rose status

-- what becomes of the board and the clock: a text about the program leaves them as they are
abbrev pub RunsOn : Option (List ℕ) → (words : List (List ℕ)) → (left_before left_after before after : Option (List ℕ))
    → (ports_before ports_after : List PortState) → (clock_before clock_after : ClockState)
    → (same_sink same_board same_clock read_rose write_rose : Type 0) → Status → Type 0
RunsOn (Some text) words left_before left_after before after ports_before ports_after clock_before clock_after same_sink same_board same_clock read_rose write_rose status =
    same_board × same_clock
RunsOn None words left_before left_after before after ports_before ports_after clock_before clock_after same_sink same_board same_clock read_rose write_rose status =
    RunsAs (command_of words) left_before left_after before after ports_before ports_after clock_before clock_after
    same_sink same_board same_clock read_rose write_rose status

abbrev pub Runs : (words : List (List ℕ)) → (left_before left_after before after : Option (List ℕ))
    → (ports_before ports_after : List PortState) → (clock_before clock_after : ClockState)
    → (same_sink same_board same_clock read_rose write_rose : Type 0) → Status → Type 0
Runs words left_before left_after before after ports_before ports_after clock_before clock_after same_sink same_board same_clock read_rose write_rose status =
    RunsOn (information words) words left_before left_after before after ports_before ports_after clock_before clock_after
    same_sink same_board same_clock read_rose write_rose status

-- the line of a fault, and behind that of bad words which words are commands
abbrev pub line_of_fault : Fault → List ℕ
line_of_fault fault = codes "clnp: " ++ (fault_text fault ++ behind_fault fault)

-- the line of advice, if there is any
abbrev pub line_of_advice : (advice : List ℕ) → List ℕ
line_of_advice [] = []
line_of_advice (first ∷ rest) = codes "clnp: " ++ ((first ∷ rest) ++ codes "\n")

-- What is said on standard error: the line of the fault, and behind it the line of advice, if there is any; nothing where there
-- is no fault.
abbrev pub Tells : Option Fault → (advice : List ℕ) → (before after : Option (List ℕ)) → Type 0
Tells None advice before after = Keeps before after
Tells (Some fault) advice before after = Appends before after (line_of_fault fault ++ line_of_advice advice)

-- How a call with this status and this advice ends: its exit number, and what is said on standard error, unless that failed in
-- this call.
pub record Ends (status : Status) (advice : List ℕ) (number : ℕ) (before after : Option (List ℕ)) (rose : Type 0) : Type 0 where
  pub exits : number ≡ exit_number status
  pub told : Tells (fault_of status) advice before after ⊎ rose
