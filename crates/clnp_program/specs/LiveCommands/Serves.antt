-- What a call comes to that runs a live node.
use Rattle.std.specs.Prelude.{◌≡◌, ℕ, ◌⊎◌, nat_lt, Bool, true, false, List, length, Option, Result, Ok, Err, IfSome}
use Rattle.clnp_base.specs.CommandBase.ComesAs.{most_input}
use Rattle.clnp_base.specs.CommandBase.Reading.{Excuses, ReadsWhole, TakesTooMany, TakesWithin}
use Rattle.clnp_base.specs.declared.command_base.status.Status.{Status}
use Rattle.clnp_base.specs.declared.command_base.status.Status.TheVariants.{Done, BadWords, TooLong, BadInput, WorldFull, ReadFault, WriteFault, LinksGone, NoMemory}
use Rattle.frame_links.specs.LinkBoard.Ports.{PortState}
use Rattle.scenario.specs.Grammar.{BadLine, run_plan_of}
use Rattle.scenario.specs.ScenarioPlan.Plan.{Plan}
use Rattle.clnp_program.specs.LiveNode.Clocks.{ClockState}
use Rattle.clnp_program.specs.LiveNode.Ran.{RanOf}
use Rattle.clnp_program.specs.declared.live_node.run.RunStop.{RunStop}
use Rattle.clnp_program.specs.declared.live_node.run.RunStop.TheVariants as run_stop

-- What the scenario calls for: all turns are run, or at the end of one of them no link is attached.
abbrev pub AnswersPlan : Result Plan BadLine → Status → Type 0
AnswersPlan (Err bad) status = status ≡ BadInput bad.line bad.code
AnswersPlan (Ok plan) status = (status ≡ Done) ⊎ ((links : ℕ) × (status ≡ LinksGone links))

abbrev pub AnswersWithin : (too_long : Bool) → (links : ℕ) → (text : List ℕ) → Status → Type 0
AnswersWithin true links text status = status ≡ TooLong
AnswersWithin false links text status = AnswersPlan (run_plan_of links text) status

-- the answer that an input calls for on a board of so many links
abbrev pub AnswersText : (links : ℕ) → (text : List ℕ) → Status → Type 0
AnswersText links text status = AnswersWithin (nat_lt most_input (length text)) links text status

-- All of the input was read, it is a scenario for the board, and its system was run.
pub record RunsText (turns : ℕ) (left_before left_after before after : Option (List ℕ)) (ports_before ports_after : List PortState) (clock_before clock_after : ClockState) (result : Result (Unit {0}) RunStop) : Type 0 where
  pub text : List ℕ
  pub reads : ReadsWhole left_before left_after text
  pub plan : Plan
  pub accepted : run_plan_of (length ports_before) text ≡ Ok plan
  pub ran : RanOf plan turns clock_before clock_after ports_before ports_after before after result

-- All of the input was read, and this is its first bad line.
pub record RefusesText (links line code : ℕ) (left_before left_after : Option (List ℕ)) : Type 0 where
  pub text : List ℕ
  pub reads : ReadsWhole left_before left_after text
  pub bad : run_plan_of links text ≡ Err (record { line = line; code = code })

-- What a call comes to, by its answer: `left` is what the source has left, `before` and `after` what stands in the sink, where
-- they tell it; `untouched` says that sink, board and clock are as they were, `read_rose` and `write_rose` that source and sink
-- failed in this call.
abbrev pub ComesToRun : Status → (turns : ℕ) → (left_before left_after before after : Option (List ℕ))
    → (ports_before ports_after : List PortState) → (clock_before clock_after : ClockState)
    → (untouched read_rose write_rose : Type 0) → Type 0
ComesToRun Done turns left_before left_after before after ports_before ports_after clock_before clock_after untouched read_rose write_rose =
    RunsText turns left_before left_after before after ports_before ports_after clock_before clock_after (Ok tt)
ComesToRun (LinksGone links) turns left_before left_after before after ports_before ports_after clock_before clock_after untouched read_rose write_rose =
    RunsText turns left_before left_after before after ports_before ports_after clock_before clock_after (Err (run_stop.LinksGone links))
ComesToRun WriteFault turns left_before left_after before after ports_before ports_after clock_before clock_after untouched read_rose write_rose =
    write_rose × RunsText turns left_before left_after before after ports_before ports_after clock_before clock_after (Err run_stop.WriteFault)
ComesToRun NoMemory turns left_before left_after before after ports_before ports_after clock_before clock_after untouched read_rose write_rose =
    (TakesWithin left_before left_after × untouched)
    ⊎ RunsText turns left_before left_after before after ports_before ports_after clock_before clock_after (Err run_stop.NoMemory)
ComesToRun (BadInput line code) turns left_before left_after before after ports_before ports_after clock_before clock_after untouched read_rose write_rose =
    RefusesText (length ports_before) line code left_before left_after × untouched
ComesToRun TooLong turns left_before left_after before after ports_before ports_after clock_before clock_after untouched read_rose write_rose =
    TakesTooMany left_before left_after × untouched
ComesToRun ReadFault turns left_before left_after before after ports_before ports_after clock_before clock_after untouched read_rose write_rose =
    read_rose × (TakesWithin left_before left_after × untouched)
ComesToRun (BadWords at) turns left_before left_after before after ports_before ports_after clock_before clock_after untouched read_rose write_rose = ⊥
ComesToRun (WorldFull octets) turns left_before left_after before after ports_before ports_after clock_before clock_after untouched read_rose write_rose = ⊥

-- What a call comes to with this answer.
pub record ServesRun (turns : ℕ) (left_before left_after before after : Option (List ℕ)) (ports_before ports_after : List PortState) (clock_before clock_after : ClockState) (untouched read_rose write_rose : Type 0) (status : Status) : Type 0 where
  -- Where the source tells its octets, the answer is one that they call for on a board of so many links, but for want of memory
  -- and for faults that came in this call.
  pub answer : IfSome left_before (λ text. AnswersText (length ports_before) text status ⊎ Excuses read_rose write_rose status)
  -- What was taken, what was written, and what the links and the clock went through.
  pub comes_to : ComesToRun status turns left_before left_after before after ports_before ports_after clock_before clock_after untouched read_rose write_rose

-- ---- the parts of a call

-- a status that the run of a node comes to, and what is so of the run's result then
abbrev pub RunEndsAs : Status → (Result (Unit {0}) RunStop → Type 0) → Type 0
RunEndsAs Done Ran = Ran (Ok tt)
RunEndsAs (LinksGone links) Ran = Ran (Err (run_stop.LinksGone links))
RunEndsAs WriteFault Ran = Ran (Err run_stop.WriteFault)
RunEndsAs NoMemory Ran = Ran (Err run_stop.NoMemory)
RunEndsAs (BadInput line code) Ran = ⊥
RunEndsAs TooLong Ran = ⊥
RunEndsAs ReadFault Ran = ⊥
RunEndsAs (BadWords at) Ran = ⊥
RunEndsAs (WorldFull octets) Ran = ⊥

-- the text is a scenario for the board, and its system was run
pub record RunsPlan (text : List ℕ) (turns : ℕ) (before after : Option (List ℕ)) (ports_before ports_after : List PortState) (clock_before clock_after : ClockState) (result : Result (Unit {0}) RunStop) : Type 0 where
  pub plan : Plan
  pub accepted : run_plan_of (length ports_before) text ≡ Ok plan
  pub ran : RanOf plan turns clock_before clock_after ports_before ports_after before after result

-- what a text comes to, by the answer
abbrev pub TextComesTo : Status → (text : List ℕ) → (turns : ℕ) → (before after : Option (List ℕ))
    → (ports_before ports_after : List PortState) → (clock_before clock_after : ClockState)
    → (untouched : Type 0) → Type 0
TextComesTo Done text turns before after ports_before ports_after clock_before clock_after untouched =
    RunsPlan text turns before after ports_before ports_after clock_before clock_after (Ok tt)
TextComesTo (LinksGone links) text turns before after ports_before ports_after clock_before clock_after untouched =
    RunsPlan text turns before after ports_before ports_after clock_before clock_after (Err (run_stop.LinksGone links))
TextComesTo WriteFault text turns before after ports_before ports_after clock_before clock_after untouched =
    RunsPlan text turns before after ports_before ports_after clock_before clock_after (Err run_stop.WriteFault)
TextComesTo NoMemory text turns before after ports_before ports_after clock_before clock_after untouched =
    untouched ⊎ RunsPlan text turns before after ports_before ports_after clock_before clock_after (Err run_stop.NoMemory)
TextComesTo (BadInput line code) text turns before after ports_before ports_after clock_before clock_after untouched =
    (run_plan_of (length ports_before) text ≡ Err (record { line = line; code = code })) × untouched
TextComesTo TooLong text turns before after ports_before ports_after clock_before clock_after untouched = ⊥
TextComesTo ReadFault text turns before after ports_before ports_after clock_before clock_after untouched = ⊥
TextComesTo (BadWords at) text turns before after ports_before ports_after clock_before clock_after untouched = ⊥
TextComesTo (WorldFull octets) text turns before after ports_before ports_after clock_before clock_after untouched = ⊥
