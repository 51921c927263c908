-- What the author of a refused scenario is told.
use Rattle.std.specs.Prelude.{◌≡◌, ℕ, List}
use Rattle.clnp_base.specs.declared.command_base.status.Status.{Status}
use Rattle.clnp_base.specs.declared.command_base.status.Status.TheVariants.{BadInput}
use Rattle.scenario_advice.specs.Said.{IsTold}

-- What is told beside an answer: a line of plain characters of a bad text, and of any other nothing more than before.
abbrev pub IsAdvised : Status → (before after : List ℕ) → Type 0
IsAdvised (BadInput line code) before after = IsTold after
IsAdvised _ before after = after ≡ before
