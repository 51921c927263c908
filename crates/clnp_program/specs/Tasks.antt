-- What each command and its input call for.
use Rattle.std.specs.Prelude.{◌≡◌, ℕ, ◌&&◌, nat_lt, Bool, true, false, List, length}
use Rattle.clnp_machine.specs.ClnpBase.Text.{lines_of}
use Rattle.clnp_machine.specs.ClnpPlan.declared.journal.Telling.TheVariants as telling
use Rattle.clnp_program.specs.NetworkCommands.RunTasks.{migrate_task, run_task, storm_task}
use Rattle.captures.specs.ClnpBase.declared.command_base.status.Status.{Status}
use Rattle.captures.specs.ClnpBase.declared.command_base.status.Status.TheVariants.{TooLong}
use Rattle.captures.specs.CommandBase.ByLine.{task_of}
use Rattle.captures.specs.CommandBase.ComesAs.{Task, most_input}
use Rattle.captures.specs.CaptureCommands.Show.{showing}
use Rattle.captures.specs.CaptureCommands.Check.{checking, first_checked}
use Rattle.captures.specs.CaptureCommands.Pack.{packing}
use Rattle.captures.specs.CaptureCommands.Make.{make_task}
use Rattle.clnp_program.specs.FairCommands.Reassemble.{reassemble_task}
use Rattle.clnp_program.specs.declared.command.WholeCommand.{WholeCommand}
use Rattle.clnp_program.specs.declared.command.WholeCommand.TheVariants.{Sim, Trace, Show, Check, Pack, PcapMake, Reassemble, Migrate, Storm}
use Rattle.clnp_program.specs.Words.{reads}

-- What a command and an input that isn't too long call for: the journal of a scenario, or its trace; the lines that show the frames of a
-- capture, the verdicts on vectors and their counts, the frames that shown lines pack to, or the Ethernet capture that is made
-- of the lines of frames, each up to the first bad line; what comes of captured frames; or the line of a storm.
abbrev pub task : WholeCommand → List ℕ → Task
task Sim text = run_task telling.Journal text
task Trace text = run_task telling.Trace text
task Show text = task_of showing 1 (lines_of text)
task Check text = task_of checking first_checked (lines_of text)
task Pack text = task_of packing 1 (lines_of text)
task PcapMake text = make_task (lines_of text)
task Reassemble text = reassemble_task text
task Migrate text = migrate_task text
task (Storm seed) text = storm_task seed

-- the answer that an input calls for: too long where it is, else that of its task
abbrev pub CalledWithin : (too_long : Bool) → Task → Status → Type 0
CalledWithin true task status = status ≡ TooLong
CalledWithin false task status = task.calls status

-- the answer that a command and an input call for
abbrev pub CalledBy : WholeCommand → List ℕ → Status → Type 0
CalledBy command text status = CalledWithin (reads command && nat_lt most_input (length text)) (task command text) status
