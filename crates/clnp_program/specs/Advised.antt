-- What the author of a refused input is told.
use Rattle.std.specs.Prelude.{◌≡◌, ℕ, ◌&&◌, Bool, true, false, List, [], Result, Ok, Err}
use Rattle.scenario_advice.specs.Said.{IsTold}
use Rattle.captures.specs.ClnpBase.declared.command_base.status.Status.{Status}
use Rattle.captures.specs.ClnpBase.declared.command_base.status.Status.TheVariants.{BadInput}
use Rattle.clnp_program.specs.declared.command.Command.{Command}
use Rattle.clnp_program.specs.declared.command.Command.TheVariants.{Whole, Streamed, Run}
use Rattle.clnp_program.specs.declared.command.WholeCommand.{WholeCommand}
use Rattle.clnp_program.specs.declared.command.WholeCommand.TheVariants.{Sim, Trace, Show, Check, Migrate}

-- whether an answer is that the input is bad
abbrev pub is_bad_input : Status → Bool
is_bad_input (BadInput line code) = true
is_bad_input _ = false

-- the commands that read their whole input and tell of a bad one more than its first bad line and its code: those that read
-- scenario texts, captures and vectors
abbrev pub advises : WholeCommand → Bool
advises Sim = true
advises Trace = true
advises Migrate = true
advises Show = true
advises Check = true
advises _ = false

abbrev pub is_of_advising : Result Command ℕ → Bool
is_of_advising (Ok (Whole command)) = advises command
is_of_advising (Ok (Streamed command)) = false
is_of_advising (Ok (Run turns)) = true
is_of_advising (Err at) = false

-- whether more is told beside the answer to words
abbrev pub is_advised : Result Command ℕ → Status → Bool
is_advised called status = is_bad_input status && is_of_advising called

-- What is told beside the answer to words: a line of plain characters of a bad scenario text, capture or text of vectors, and
-- nothing of anything else.
pub record Advised (called : Result Command ℕ) (status : Status) (advice : List ℕ) : Type 0 where
  pub told : is_advised called status ≡ true → IsTold advice
  pub silent : is_advised called status ≡ false → advice ≡ []
