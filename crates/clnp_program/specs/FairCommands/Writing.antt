-- Lines that are written in blocks, each of the lines of whole frames.
use Rattle.std.specs.Prelude.{◌≡◌, ℕ, List, ◌++◌, Option, Result, Ok, Err}
use Rattle.std.specs.Io.KnownBytes.{Appends, Keeps}
use Rattle.scenario.specs.ClnpBase.Streams.{AppendsFront}
use Rattle.clnp_program.specs.FairCommands.Grammar.{Capture}
use Rattle.clnp_program.specs.FairCommands.Output.{frames_text, output_of}
use Rattle.system_tables.specs.declared.fair_reassembly.came.Came.{Came}
use Rattle.system_tables.specs.FairReassembly.Behind.{StandBehind}
use Rattle.system_tables.specs.FairReassembly.Classes.{Shares}
use Rattle.system_tables.specs.FairReassembly.Tables.{FairState}
use Rattle.clnp_program.specs.declared.fair_commands.joining.Stop.{Stop}
use Rattle.clnp_program.specs.declared.fair_commands.joining.Stop.TheVariants.{WriteFault, NoMemory}
use Rattle.clnp_program.specs.FairCommands.Reassemble.{AppendsFrames}

-- Some frames were taken in, and the tables stand behind them: the lines of the first of them are written, and those of the
-- others wait in a block.
pub record UnderWay (s : Shares) (frames : List Came) (state : FairState) (before after : Option (List ℕ)) (block : List ℕ) : Type 0 where
  pub made : List Came
  pub waiting : List Came
  pub split : frames ≡ made ++ waiting
  pub behind : StandBehind s frames state
  pub appended : Appends before after (frames_text s made)
  pub waits : frames_text s frames ≡ frames_text s made ++ block

-- What was written where taking in frames stopped: a front of their lines, or the lines of some of them.
abbrev pub StopOf : Shares → List Came → Option (List ℕ) → Option (List ℕ) → Stop → Type 0
StopOf s frames before after WriteFault = AppendsFront before after (frames_text s frames)
StopOf s frames before after NoMemory = AppendsFrames s frames before after

-- What taking in frames comes to: all of them were taken in, or it stopped.
abbrev pub TakenOf : {A : Type 0} → Shares → List Came → FairState → Option (List ℕ) → Option (List ℕ) → List ℕ
    → Result A Stop → Type 0
TakenOf s frames state before after block (Ok _) = UnderWay s frames state before after block
TakenOf s frames state before after block (Err stop) = StopOf s frames before after stop

-- What writing the last piece comes to: it was written; a front of it was; or nothing was.
abbrev pub EndOf : {A : Type 0} → List ℕ → Option (List ℕ) → Option (List ℕ) → Result A Stop → Type 0
EndOf piece before after (Ok _) = Appends before after piece
EndOf piece before after (Err WriteFault) = AppendsFront before after piece
EndOf piece before after (Err NoMemory) = Keeps before after

-- What joining the units of captured traffic comes to: all lines were written; a front of them; or those of some frames.
abbrev pub JoinOf : {A : Type 0} → Capture → Option (List ℕ) → Option (List ℕ) → Result A Stop → Type 0
JoinOf capture before after (Ok _) = Appends before after (output_of capture)
JoinOf capture before after (Err WriteFault) = AppendsFront before after (output_of capture)
JoinOf capture before after (Err NoMemory) = AppendsFrames capture.shares capture.frames before after
