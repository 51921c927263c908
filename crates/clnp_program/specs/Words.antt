-- The words of a command line, and the input of a command.
use Rattle.std.specs.Prelude.{◌≡◌, ℕ, ◌+◌, ◌&&◌, nat_le, nat_lt, Bool, true, false, if◌then◌else◌, List, [], ◌∷◌, codes, Option, None, Some, Result, Ok, Err}
use Rattle.std.specs.Str.{bytes_eq}
use Rattle.std.specs.Io.KnownBytes.{Keeps}
use Rattle.clnp_machine.specs.ClnpBase.Text.{decimal_of}
use Rattle.frame_links.specs.LinkBoard.Words.{is_link_word}
use Rattle.clnp_program.specs.declared.command.Command.{Command}
use Rattle.clnp_program.specs.declared.command.Command.TheVariants.{Whole, Streamed, Run}
use Rattle.clnp_program.specs.declared.command.WholeCommand.{WholeCommand}
use Rattle.clnp_program.specs.declared.command.WholeCommand.TheVariants.{Sim, Trace, Show, Check, Pack, PcapMake, Reassemble, Migrate, Storm}
use Rattle.clnp_program.specs.declared.command.StreamedCommand.TheVariants.{PcapShow, PcapLines}
use Rattle.captures.specs.CommandBase.Reading.{ReadsWhole}

-- the command of this name that reads an input
abbrev pub command_named : List ℕ → Option Command
command_named word =
    if bytes_eq word (codes "sim") then Some (Whole Sim)
    else if bytes_eq word (codes "trace") then Some (Whole Trace)
    else if bytes_eq word (codes "show") then Some (Whole Show)
    else if bytes_eq word (codes "check") then Some (Whole Check)
    else if bytes_eq word (codes "pack") then Some (Whole Pack)
    else if bytes_eq word (codes "pcap-show") then Some (Streamed PcapShow)
    else if bytes_eq word (codes "pcap-make") then Some (Whole PcapMake)
    else if bytes_eq word (codes "pcap-lines") then Some (Streamed PcapLines)
    else if bytes_eq word (codes "reassemble") then Some (Whole Reassemble)
    else if bytes_eq word (codes "migrate") then Some (Whole Migrate)
    else None

-- a command stands alone; other words give the first place, from 0, at which they are no command
abbrev pub alone : Option Command → (others : List (List ℕ)) → Result Command ℕ
alone None others = Err 0
alone (Some command) [] = Ok command
alone (Some command) (second ∷ others) = Err 1

-- the seed stands alone behind `storm`
abbrev pub storm_with : (seed : Option ℕ) → (others : List (List ℕ)) → Result Command ℕ
storm_with None others = Err 1
storm_with (Some seed) [] = Ok (Whole (Storm seed))
storm_with (Some seed) (third ∷ others) = Err 2

-- what the words behind `storm` make of it
abbrev pub storm_of : (others : List (List ℕ)) → Result Command ℕ
storm_of [] = Err 1
storm_of (second ∷ others) = storm_with (decimal_of second) others

-- the first place, from a place on, at which words are no link words, or are too many
abbrev pub no_link_from : ℕ → List (List ℕ) → Option ℕ
no_link_from place [] = None
no_link_from place (word ∷ words) = if nat_lt place 8 && is_link_word word then no_link_from (place + 1) words else Some place

-- a node that runs for so many turns, unless one of the words behind them is no link word
abbrev pub run_over : (turns : ℕ) → Option ℕ → Result Command ℕ
run_over turns None = Ok (Run turns)
run_over turns (Some place) = Err (place + 3)

-- how many turns a node may run for
abbrev pub may_be_turns : ℕ → Bool
may_be_turns turns = nat_le 1 turns && nat_le turns 1000000000

-- the number of turns, and the link words behind it
abbrev pub run_for : Option ℕ → (links : List (List ℕ)) → Result Command ℕ
run_for None links = Err 2
run_for (Some turns) links = if may_be_turns turns then run_over turns (no_link_from 0 links) else Err 2

-- what the words behind `run --turns` make of it
abbrev pub turns_of : (others : List (List ℕ)) → Result Command ℕ
turns_of [] = Err 2
turns_of (third ∷ links) = run_for (decimal_of third) links

-- what the words behind `run` make of it
abbrev pub run_of : (others : List (List ℕ)) → Result Command ℕ
run_of [] = Err 1
run_of (second ∷ others) = if bytes_eq second (codes "--turns") then turns_of others else Err 1

-- The command that the words are: its name alone; or `storm` and its seed; or `run --turns` with their number, 1 to
-- 1,000,000,000, and up to 8 link words. Words that are no command give the first place, from 0, at which they are none; their
-- number where more are needed.
abbrev pub command_of : List (List ℕ) → Result Command ℕ
command_of [] = Err 0
command_of (word ∷ others) =
    if bytes_eq word (codes "storm") then storm_of others
    else if bytes_eq word (codes "run") then run_of others
    else alone (command_named word) others

-- The places of the link words of a run, from the first up to the one behind the last, among so many words: those behind the
-- number of turns. Other words have none.
abbrev pub ArePlaces : Result Command ℕ → (count first behind : ℕ) → Type 0
ArePlaces (Ok (Run turns)) count first behind = (first ≡ 3) × (behind ≡ count)
ArePlaces (Ok (Whole command)) count first behind = first ≡ behind
ArePlaces (Ok (Streamed command)) count first behind = first ≡ behind
ArePlaces (Err at) count first behind = first ≡ behind

-- whether a command reads an input
abbrev pub reads : WholeCommand → Bool
reads Sim = true
reads Trace = true
reads Show = true
reads Check = true
reads Pack = true
reads PcapMake = true
reads Reassemble = true
reads Migrate = true
reads (Storm seed) = false

-- What a command takes from the source: all that was left, or nothing.
abbrev pub Takes : (reading : Bool) → (before after : Option (List ℕ)) → (text : List ℕ) → Type 0
Takes true before after text = ReadsWhole before after text
Takes false before after text = Keeps before after × (text ≡ [])

-- The input of a command: all that was left in the source; that of a command that reads none is empty, and the source
-- keeps what was left.
abbrev pub Reads : WholeCommand → (before after : Option (List ℕ)) → (text : List ℕ) → Type 0
Reads command before after text = Takes (reads command) before after text
