-- What a call makes of its words, a source and a sink.
use Rattle.std.specs.Prelude.{◌≡◌, ◌≢◌, ℕ, ◌⊎◌, List, [], Option, Result, Ok, Err, IfSome}
use Rattle.std.specs.Io.KnownBytes.{Keeps}
use Rattle.captures.specs.ClnpBase.declared.command_base.status.Status.{Status}
use Rattle.captures.specs.ClnpBase.declared.command_base.status.Status.TheVariants.{Done, BadWords, TooLong, BadInput, WorldFull, ReadFault, WriteFault, LinksGone, NoMemory}
use Rattle.captures.specs.CommandBase.Reading.{Excuses, TakesTooMany, TakesWithin}
use Rattle.captures.specs.declared.capture_commands.form.Form.{Form}
use Rattle.captures.specs.declared.capture_commands.form.Form.TheVariants.{Shown, Remade}
use Rattle.captures.specs.CaptureCommands.Serves.{ServesFile}
use Rattle.clnp_program.specs.declared.command.Command.{Command}
use Rattle.clnp_program.specs.declared.command.Command.TheVariants.{Whole, Streamed, Run}
use Rattle.clnp_program.specs.declared.command.WholeCommand.{WholeCommand}
use Rattle.clnp_program.specs.declared.command.WholeCommand.TheVariants.{Storm}
use Rattle.clnp_program.specs.declared.command.StreamedCommand.{StreamedCommand}
use Rattle.clnp_program.specs.declared.command.StreamedCommand.TheVariants.{PcapShow, PcapLines}
use Rattle.clnp_program.specs.Tasks.{CalledBy, task}
use Rattle.clnp_program.specs.Words.{command_of, Reads}

-- All of a command's input was read: this is the status that both call for, and the output that they call for was written.
pub record Outputs (command : WholeCommand) (left_before left_after before after : Option (List ℕ)) (status : Status) : Type 0 where
  pub text : List ℕ
  pub reads : Reads command left_before left_after text
  pub called : CalledBy command text status
  pub appends : (task command text).whole before after

-- All of a command's input was read, and a front of the output that both call for was written.
pub record OutputsFront (command : WholeCommand) (left_before left_after before after : Option (List ℕ)) : Type 0 where
  pub text : List ℕ
  pub reads : Reads command left_before left_after text
  pub appends : (task command text).front before after

-- All of a command's input was read, and whole parts of the output that both call for were written, from the first on.
pub record OutputsParts (command : WholeCommand) (left_before left_after before after : Option (List ℕ)) : Type 0 where
  pub text : List ℕ
  pub reads : Reads command left_before left_after text
  pub appends : (task command text).parts before after

-- What a call comes to whose words are this command, which reads its whole input first, and that answers this status: `left` is what the source has left,
-- `before` and `after` what stands in the sink, where they tell it; `same_source` and `same_sink` say that they are as they
-- were, `read_rose` and `write_rose` that they failed in this call.
pub record ServesCommand (command : WholeCommand) (left_before left_after before after : Option (List ℕ)) (same_source same_sink read_rose write_rose : Type 0) (status : Status) : Type 0 where
  -- Where the source tells its octets, the answer is the one that command and octets call for, but for want of memory and for
  -- faults that came in this call.
  pub answer : IfSome left_before (λ text. CalledBy command text status ⊎ Excuses read_rose write_rose status)
  -- The words are a command.
  pub no_bad_words : (at : ℕ) → status ≢ BadWords at
  -- A storm leaves the source as it is; and whether or not the source tells its octets, the answer is the one that the seed
  -- calls for, but for want of memory and for faults of the sink that came in this call.
  pub storm : (seed : ℕ) → command ≡ Storm seed
      → same_source × (CalledBy (Storm seed) [] status ⊎ Excuses ⊥ write_rose status)
  -- No node is run.
  pub no_links : (links : ℕ) → status ≢ LinksGone links
  -- Done: all was read, but by a storm nothing, and the output that the command and the text call for was written.
  pub done : status ≡ Done → Outputs command left_before left_after before after Done
  -- Too long: more octets came than an input may have, no further one was taken, and the sink is as it was.
  pub too_long : status ≡ TooLong → TakesTooMany left_before left_after × same_sink
  -- Bad input: all was read, and this is its first bad line. The output of the lines before it was written, and nothing of a
  -- text that is no scenario.
  pub bad_input : (line code : ℕ) → status ≡ BadInput line code
      → Outputs command left_before left_after before after (BadInput line code)
  -- World full: all was read, and the journal or the trace of the scenario that the text is was written, up to the move before which the
  -- copies weighed so much; but by a storm nothing was read or written.
  pub world_full : (octets : ℕ) → status ≡ WorldFull octets
      → Outputs command left_before left_after before after (WorldFull octets)
  -- Read fault: the source failed in this call, no more was taken than an input may have, and the sink is as it was.
  pub read_fault : status ≡ ReadFault → read_rose × (TakesWithin left_before left_after × same_sink)
  -- Write fault: the sink failed in this call, and has a front of what would have been written.
  pub write_fault : status ≡ WriteFault → write_rose × OutputsFront command left_before left_after before after
  -- No memory: no more was taken than an input may have, and nothing was written, or whole parts of the output: the journal or the trace of
  -- some of the moves, or what some of the lines of an input call for.
  pub no_memory : status ≡ NoMemory → TakesWithin left_before left_after
      × (Keeps before after ⊎ OutputsParts command left_before left_after before after)

-- Words that are no command, first at this place: nothing was read or written, and no fault came.
pub record Refuses (at : ℕ) (same_source same_sink : Type 0) (status : Status) : Type 0 where
  pub answer : status ≡ BadWords at
  pub untouched : same_source × same_sink

-- the form of the lines that a command writes of the records of an Ethernet capture
abbrev pub form_of : StreamedCommand → Form
form_of PcapShow = Shown
form_of PcapLines = Remade

-- What a call comes to whose words are a command, or are none; what one comes to that runs a node is said by itself.
abbrev pub ServesAs : Result Command ℕ → (left_before left_after before after : Option (List ℕ))
    → (same_source same_sink read_rose write_rose : Type 0) → Status → Type 0
ServesAs (Err at) left_before left_after before after same_source same_sink read_rose write_rose status =
    Refuses at same_source same_sink status
ServesAs (Ok (Whole command)) left_before left_after before after same_source same_sink read_rose write_rose status =
    ServesCommand command left_before left_after before after same_source same_sink read_rose write_rose status
ServesAs (Ok (Streamed command)) left_before left_after before after same_source same_sink read_rose write_rose status =
    ServesFile (form_of command) left_before left_after before after read_rose write_rose status
ServesAs (Ok (Run turns)) left_before left_after before after same_source same_sink read_rose write_rose status = Unit {0}

-- what a call comes to that answers the words with this status
abbrev pub Serves : (words : List (List ℕ)) → (left_before left_after before after : Option (List ℕ))
    → (same_source same_sink read_rose write_rose : Type 0) → Status → Type 0
Serves words left_before left_after before after same_source same_sink read_rose write_rose status =
    ServesAs (command_of words) left_before left_after before after same_source same_sink read_rose write_rose status
