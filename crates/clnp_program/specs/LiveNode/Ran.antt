-- What runs of a live node come to.
use Rattle.std.specs.Prelude.{◌≡◌, ◌<◌, ◌≤◌, ℕ, Bool, false, true, take, List, [], ◌∷◌, ◌++◌, length, Option, Result, Ok, Err}
use Rattle.std.specs.Io.KnownBytes.{Appends}
use Rattle.std.specs.List.{AllByRecursion, list_any}
use Rattle.frame_links.specs.ClnpBase.Streams.{AppendsFront}
use Rattle.frame_links.specs.LinkBoard.Ports.{PortState}
use Rattle.clnp_plan.specs.ScenarioPlan.Plan.{Plan}
use Rattle.clnp_machine.specs.LiveModel.Lines.{NodeLine, lines_text}
use Rattle.clnp_machine.specs.LiveModel.Node.{Node, Sending}
use Rattle.clnp_machine.specs.LiveModel.Turn.{Due}
use Rattle.clnp_machine.specs.LiveModel.Course.{Course, Runs, IsOver, Breaks, IsNone, Transcript, Turn, course, course_behind, journal, moments_of, node_run, outcomes_of}
use Rattle.clnp_machine.specs.LiveModel.Ports.{PortsGo}
use Rattle.clnp_program.specs.LiveNode.Clocks.{ClockState, ReadsMoments}
use Rattle.clnp_program.specs.LiveNode.Links.{PortsWent}
use Rattle.clnp_program.specs.LiveNode.Plays.{Stands, attached_of}
use Rattle.clnp_program.specs.declared.live_node.node.LiveNode.{LiveNode}
use Rattle.clnp_program.specs.declared.live_node.node.Stop.{Stop}
use Rattle.clnp_program.specs.declared.live_node.node.Stop.TheVariants as broken
use Rattle.clnp_program.specs.declared.live_node.run.RunStop.{RunStop}
use Rattle.clnp_program.specs.declared.live_node.run.RunStop.TheVariants.{WriteFault, LinksGone, NoMemory}

-- the frames that links took in a run
abbrev pub taken_in : Course → List Sending
taken_in (Runs node lines) = node.taken
taken_in (IsOver node lines) = node.taken
taken_in (Breaks node lines) = node.taken
taken_in IsNone = []

-- which links are attached at the end of a run
abbrev pub attached_in : Course → List Bool
attached_in (Runs node lines) = node.attached
attached_in (IsOver node lines) = node.attached
attached_in (Breaks node lines) = node.attached
attached_in IsNone = []

-- its turns are all over, and a link is attached
abbrev pub IsWhole : Course → Type 0
IsWhole (Runs node lines) = Unit {0}
IsWhole (IsOver node lines) = ⊥
IsWhole (Breaks node lines) = ⊥
IsWhole IsNone = ⊥

-- no link is attached any more
abbrev pub HasNoLink : Course → Type 0
HasNoLink (Runs node lines) = ⊥
HasNoLink (IsOver node lines) = Unit {0}
HasNoLink (Breaks node lines) = ⊥
HasNoLink IsNone = ⊥

-- it is a run of its node, whatever its length
abbrev pub IsSome : Course → Type 0
IsSome (Runs node lines) = Unit {0}
IsSome (IsOver node lines) = Unit {0}
IsSome (Breaks node lines) = Unit {0}
IsSome IsNone = ⊥

abbrev pub IsDetached : PortState → Type 0
IsDetached port = port.attached ≡ false

-- All links are gone: no turn follows, and what the run writes was written.
pub record EndsWithoutLinks (most links : ℕ) (run : Course) (turns : List Turn) (after : List PortState) (old new : Option (List ℕ)) : Type 0 where
  pub within : length turns ≤ most
  pub over : HasNoLink run
  pub written : Appends old new (journal run)
  pub counted : links ≡ length after
  pub gone : AllByRecursion IsDetached after

-- So many turns were run, and what the run writes was written.
pub record RunsAll (most : ℕ) (run : Course) (turns : List Turn) (old new : Option (List ℕ)) : Type 0 where
  pub counted : length turns ≡ most
  pub whole : IsWhole run
  pub written : Appends old new (journal run)

-- The run was broken off: a front of what it writes was written.
pub record IsBrokenOff (most : ℕ) (run : Course) (turns : List Turn) (old new : Option (List ℕ)) : Type 0 where
  pub within : length turns ≤ most
  pub some : IsSome run
  pub written : AppendsFront old new (journal run)

-- whether any of the ports has its link
abbrev pub has_any_attached : List PortState → Bool
has_any_attached ports = list_any (λ (on : Bool). on) (attached_of ports)

-- The first octets of a text were written, and not all of it.
pub record AppendsPart (old new : Option (List ℕ)) (text : List ℕ) : Type 0 where
  pub count : ℕ
  pub short : count < length text
  pub appends : Appends old new (take count text)

-- The run was broken off for want of memory. Where links were attached before and none is any more, not all that it writes was
-- written: where all of it was written, the answer is that the links are gone.
pub record IsOutOfMemory (most : ℕ) (run : Course) (turns : List Turn) (before : List PortState) (old new : Option (List ℕ)) : Type 0 where
  pub broken : IsBrokenOff most run turns old new
  pub unfinished : has_any_attached before ≡ true → HasNoLink run → AppendsPart old new (journal run)

-- What a run comes to, by its answer.
abbrev pub EndsAs : Result (Unit {0}) RunStop → (most : ℕ) → Course → List Turn → (before after : List PortState)
    → (old new : Option (List ℕ)) → Type 0
EndsAs (Ok _) most run turns before after old new = RunsAll most run turns old new
EndsAs (Err (LinksGone links)) most run turns before after old new = EndsWithoutLinks most links run turns after old new
EndsAs (Err WriteFault) most run turns before after old new = IsBrokenOff most run turns old new
EndsAs (Err NoMemory) most run turns before after old new = IsOutOfMemory most run turns before old new

-- A scenario of one system was run over ports, at most so many turns. There is a transcript: its moments are those that were read
-- from the clock, and its outcomes are those of the ports' links. What was written is what the node's run over it writes. At the
-- end of that run just those ports have their links that have them after the call. A port that was detached has one failed
-- outcome, its last; no other port has one.
pub record RanOf (plan : Plan) (most : ℕ) (clock_before clock_after : ClockState) (before after : List PortState) (old new : Option (List ℕ)) (result : Result (Unit {0}) RunStop) : Type 0 where
  pub transcript : Transcript
  pub moments : ReadsMoments clock_before clock_after (transcript.start ∷ moments_of transcript.turns)
  pub ports : PortsWent 0 before after (outcomes_of transcript.turns) (taken_in (node_run plan (attached_of before) transcript))
  pub attached : attached_in (node_run plan (attached_of before) transcript) ≡ attached_of after
  pub failures : PortsGo (attached_of before) (attached_of after) (outcomes_of transcript.turns)
  pub ends : EndsAs result most (node_run plan (attached_of before) transcript) transcript.turns before after old new

-- ---- turn by turn

-- why a run stops that was broken off in a turn
abbrev pub broken_by : Stop → RunStop
broken_by broken.WriteFault = WriteFault
broken_by broken.NoMemory = NoMemory

-- such a one
abbrev pub IsBroken : RunStop → Type 0
IsBroken WriteFault = Unit {0}
IsBroken NoMemory = Unit {0}
IsBroken (LinksGone links) = ⊥

-- Some turns were run behind which a link is attached, whatever turns come behind them.
pub record RanTo (dues later_dues : List Due) (model : Node) (live : LiveNode) (count : ℕ) (clock_before clock_after : ClockState) (before after : List PortState) (old new : Option (List ℕ)) : Type 0 where
  pub turns : List Turn
  pub counted : length turns ≡ count
  pub node : Node
  pub lines : List NodeLine
  pub taken : List Sending
  pub runs : (later : List Turn) → course dues model (turns ++ later) ≡ course_behind lines (course later_dues node later)
  pub stands : Stands live after node
  pub linked : has_any_attached before ≡ true → has_any_attached after ≡ true
  pub takes : node.taken ≡ model.taken ++ taken
  pub moments : ReadsMoments clock_before clock_after (moments_of turns)
  pub ports : PortsWent 0 before after (outcomes_of turns) taken
  pub written : Appends old new (lines_text lines)

-- Some turns were run, at most so many, and the last of them was broken off, or left no link attached.
pub record StopsIn (stop : RunStop) (most : ℕ) (dues : List Due) (model : Node) (clock_before clock_after : ClockState) (before after : List PortState) (old new : Option (List ℕ)) : Type 0 where
  pub turns : List Turn
  pub taken : List Sending
  pub takes : taken_in (course dues model turns) ≡ model.taken ++ taken
  pub attached : attached_in (course dues model turns) ≡ attached_of after
  pub moments : ReadsMoments clock_before clock_after (moments_of turns)
  pub ports : PortsWent 0 before after (outcomes_of turns) taken
  pub ends : EndsAs (Err stop) most (course dues model turns) turns before after old new
