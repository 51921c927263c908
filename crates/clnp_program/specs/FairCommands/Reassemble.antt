-- What a text of captured traffic calls for.
use Rattle.std.specs.Prelude.{◌≡◌, ℕ, List, [], ◌++◌, Option, Result, Ok, Err, IfOk, IsOk}
use Rattle.std.specs.Io.KnownBytes.{Appends}
use Rattle.scenario.specs.ClnpBase.Streams.{AppendsFront}
use Rattle.clnp_program.specs.FairCommands.Output.{frames_text, output_of}
use Rattle.clnp_program.specs.FairCommands.Grammar.{Capture, capture_of}
use Rattle.scenario.specs.Grammar.{BadLine}
use Rattle.system_tables.specs.declared.fair_reassembly.came.Came.{Came}
use Rattle.system_tables.specs.FairReassembly.Classes.{Shares}
use Rattle.clnp_base.specs.declared.command_base.status.Status.{Status}
use Rattle.clnp_base.specs.declared.command_base.status.Status.TheVariants.{Done, BadInput}
use Rattle.clnp_base.specs.CommandBase.ComesAs.{Task}

-- the status of a text that says what was captured, or has a bad line
abbrev pub status_by : Result Capture BadLine → Status
status_by (Ok capture) = Done
status_by (Err bad) = BadInput bad.line bad.code

abbrev pub output_by : Result Capture BadLine → List ℕ
output_by (Ok capture) = output_of capture
output_by (Err bad) = []

-- the output that a text calls for: the lines of all frames and the last line, and nothing where it has a bad line
abbrev pub reassemble_output : List ℕ → List ℕ
reassemble_output text = output_by (capture_of text)

-- the lines of some of the frames, from the first on, and of no part of a frame, were written
pub record AppendsFrames (s : Shares) (frames : List Came) (before after : Option (List ℕ)) : Type 0 where
  pub made : List Came
  pub later : List Came
  pub all : frames ≡ made ++ later
  pub appended : Appends before after (frames_text s made)

-- `reassemble`: the lines of all frames and the last line, of which the lines of whole frames are the parts
abbrev pub reassemble_task : List ℕ → Task
reassemble_task text = record {
  calls = λ answered. status_by (capture_of text) ≡ answered;
  whole = λ before after. Appends before after (reassemble_output text);
  front = λ before after. IsOk (capture_of text) × AppendsFront before after (reassemble_output text);
  parts = λ before after. IsOk (capture_of text) × IfOk (capture_of text) (λ capture. AppendsFrames capture.shares capture.frames before after);
}
