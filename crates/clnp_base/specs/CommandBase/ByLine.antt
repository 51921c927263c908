-- Going over the lines of an input one by one, and writing in blocks.
use Rattle.std.specs.Prelude.{◌≡◌, ℕ, List, [], ◌∷◌, ◌++◌, ◌⊎◌, Option, Result, Ok, Err}
use Rattle.std.specs.Io.KnownBytes.{Appends}
use Rattle.clnp_base.specs.Streams.{AppendsFront}
use Rattle.clnp_base.specs.declared.command_base.block.LineFault.{LineFault}
use Rattle.clnp_base.specs.declared.command_base.block.LineFault.TheVariants as fault
use Rattle.clnp_base.specs.declared.command_base.block.LineStop.{LineStop}
use Rattle.clnp_base.specs.declared.command_base.block.LineStop.TheVariants.{BadLine, WriteFault, NoMemory}
use Rattle.clnp_base.specs.declared.command_base.status.Status.{Status}
use Rattle.clnp_base.specs.declared.command_base.status.Status.TheVariants as status
use Rattle.clnp_base.specs.CommandBase.Output.{AppendsCalled, AppendsCalledFront, AppendsCalledPart}
use Rattle.clnp_base.specs.CommandBase.ComesAs.{Task}

-- A command that goes over lines: the points that it may have come to, and how its output may end; the output that lines call
-- for from such a point on, and the answer that they call for; the ending of the whole output, and that of an output
-- which breaks off.
pub record Work : Type 1 where
  pub Point : Type 0
  pub Ending : Type 0
  pub calls : Ending → List (List ℕ) → Point → List ℕ → Type 0
  pub answer : List (List ℕ) → Point → Status → Type 0
  pub whole : Ending
  pub broken : Ending

-- what lines call for, from a point on
abbrev pub task_of : (w : Work) → w.Point → List (List ℕ) → Task
task_of w first lines = record {
  calls = λ answered. w.answer lines first answered;
  whole = λ before after. AppendsCalled (w.calls w.whole lines first) before after;
  front = λ before after. AppendsCalledFront (w.calls w.whole lines first) before after;
  parts = λ before after. AppendsCalledPart (w.calls w.whole lines first) (λ made. w.calls w.broken made first) lines before after;
}

-- None of these lines is bad, they call for this output, and lines behind them for output behind it.
pub record Good (w : Work) (first now : w.Point) (made : List (List ℕ)) (output : List ℕ) : Type 0 where
  pub behind : (ending : w.Ending) (later : List (List ℕ)) (rest : List ℕ) → w.calls ending later now rest
      → w.calls ending (made ++ later) first (output ++ rest)
  pub answer : (later : List (List ℕ)) (answered : Status) → w.answer later now answered
      → w.answer (made ++ later) first answered

-- The line with this number is bad, with this code.
pub record Bad (w : Work) (now : w.Point) (line : List ℕ) (number code : ℕ) : Type 0 where
  pub stops : (later : List (List ℕ)) → w.calls w.whole (line ∷ later) now []
  pub answer : (later : List (List ℕ)) → w.answer (line ∷ later) now (status.BadInput number code)

-- What putting a line into a block comes to.
abbrev pub PushOf : {A : Type 0} → (w : Work) → w.Point → (A → w.Point) → ℕ → List ℕ → List ℕ → List ℕ
    → Result A LineFault → Type 0
PushOf w now next number line old new (Ok x) = (output : List ℕ) × Good w now (next x) (line ∷ []) output × (new ≡ old ++ output)
PushOf w now next number line old new (Err (fault.Bad code)) = Bad w now line number code × (new ≡ old)
PushOf w now next number line old new (Err fault.NoMemory) = Unit {0}

-- What emptying a block into a sink comes to: it was written whole and is empty, or it waits on; or a front of it was
-- written where the sink failed.
abbrev pub FlushOf : {A E : Type 0} → List ℕ → List ℕ → Option (List ℕ) → Option (List ℕ) → Result A E → Type 0
FlushOf old new before after (Ok _) = (Appends before after old × (new ≡ [])) ⊎ (Appends before after [] × (new ≡ old))
FlushOf old new before after (Err _) = AppendsFront before after old

-- What writing a block comes to: it was written whole and is empty, or it waits on; or a front of it was written.
abbrev pub BlockOf : {A : Type 0} → List ℕ → List ℕ → Option (List ℕ) → Option (List ℕ) → Result A LineStop → Type 0
BlockOf old new before after (Ok _) = (Appends before after old × (new ≡ [])) ⊎ (Appends before after [] × (new ≡ old))
BlockOf old new before after (Err WriteFault) = AppendsFront before after old
BlockOf old new before after (Err (BadLine code)) = ⊥
BlockOf old new before after (Err NoMemory) = ⊥

-- What stopping at a bad line comes to: the block before it was written whole, or a front of it.
abbrev pub BadOf : ℕ → List ℕ → Option (List ℕ) → Option (List ℕ) → LineStop → Type 0
BadOf code block before after (BadLine other) = (other ≡ code) × Appends before after block
BadOf code block before after WriteFault = AppendsFront before after block
BadOf code block before after NoMemory = ⊥

-- What stopping at a refused line comes to.
abbrev pub RefusalOf : LineFault → List ℕ → Option (List ℕ) → Option (List ℕ) → LineStop → Type 0
RefusalOf (fault.Bad code) block before after stop = BadOf code block before after stop
RefusalOf fault.NoMemory block before after stop = (stop ≡ NoMemory) × Appends before after []

-- Some of all lines are done and none was bad: the output of the first ones is written, that of the others waits
-- in a block, and these lines are left.
pub record Midway (w : Work) (first now : w.Point) (all left : List (List ℕ)) (before after : Option (List ℕ)) (block : List ℕ) : Type 0 where
  pub made : List (List ℕ)
  pub waiting : List (List ℕ)
  pub split : all ≡ made ++ (waiting ++ left)
  pub between : w.Point
  pub output : List ℕ
  pub good : Good w first between made output
  pub appended : Appends before after output
  pub good_block : Good w between now waiting block

-- a front of the output of some lines was written, none of which was bad
pub record CutOff (w : Work) (first : w.Point) (all : List (List ℕ)) (before after : Option (List ℕ)) : Type 0 where
  pub made : List (List ℕ)
  pub later : List (List ℕ)
  pub split : all ≡ made ++ later
  pub now : w.Point
  pub output : List ℕ
  pub good : Good w first now made output
  pub appended : AppendsFront before after output

-- the output of some lines was written, none of which was bad
pub record LeftOff (w : Work) (first : w.Point) (all : List (List ℕ)) (before after : Option (List ℕ)) : Type 0 where
  pub made : List (List ℕ)
  pub later : List (List ℕ)
  pub split : all ≡ made ++ later
  pub now : w.Point
  pub output : List ℕ
  pub good : Good w first now made output
  pub appended : Appends before after output

-- What stopping at the line with this number comes to.
abbrev pub StopOf : (w : Work) → w.Point → List (List ℕ) → ℕ → Option (List ℕ) → Option (List ℕ) → LineStop → Type 0
StopOf w first all number before after (BadLine code) =
    w.answer all first (status.BadInput number code) × AppendsCalled (w.calls w.whole all first) before after
StopOf w first all number before after WriteFault = CutOff w first all before after
StopOf w first all number before after NoMemory = LeftOff w first all before after

-- What the next line comes to, which has this number.
abbrev pub NextOf : {A : Type 0} → (w : Work) → w.Point → (A → w.Point) → List (List ℕ) → List (List ℕ) → ℕ
    → Option (List ℕ) → Option (List ℕ) → List ℕ → Result A LineStop → Type 0
NextOf w first next all left number before after block (Ok x) = Midway w first (next x) all left before after block
NextOf w first next all left number before after block (Err stop) = StopOf w first all number before after stop

-- the answer where a command stopped at the line with this number
abbrev pub stop_status : ℕ → LineStop → Status
stop_status number (BadLine code) = status.BadInput number code
stop_status number WriteFault = status.WriteFault
stop_status number NoMemory = status.NoMemory

-- What writing the end of an output comes to: it was written, or a front of it, or nothing.
abbrev pub EndOf : List ℕ → Option (List ℕ) → Option (List ℕ) → Status → Type 0
EndOf piece before after status.Done = Appends before after piece
EndOf piece before after status.WriteFault = AppendsFront before after piece
EndOf piece before after status.NoMemory = Appends before after []
EndOf piece before after (status.BadWords at) = ⊥
EndOf piece before after status.TooLong = ⊥
EndOf piece before after (status.BadInput line code) = ⊥
EndOf piece before after (status.WorldFull octets) = ⊥
EndOf piece before after status.ReadFault = ⊥
EndOf piece before after (status.LinksGone links) = ⊥
