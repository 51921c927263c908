-- What a command comes to on an input that was read whole.
use Rattle.std.specs.Prelude.{ℕ, ◌⊎◌, List, Option}
use Rattle.std.specs.Io.KnownBytes.{Keeps}
use Rattle.clnp_base.specs.declared.command_base.status.Status.{Status}
use Rattle.clnp_base.specs.declared.command_base.status.Status.TheVariants as status

-- the most octets of an input that is read whole
abbrev pub most_input : ℕ
most_input = 16777216

-- What an input calls for: the answer; and, of what stands in a sink before and after, that all of the output was
-- written, a front of it, or whole parts of it from the first on.
pub record Task : Type 1 where
  pub calls : Status → Type 0
  pub whole : (before after : Option (List ℕ)) → Type 0
  pub front : (before after : Option (List ℕ)) → Type 0
  pub parts : (before after : Option (List ℕ)) → Type 0

-- What a call comes to: the answer that the input calls for, with all of the output that it calls for; or the sink
-- failed and has a front of it; or memory was refused, and nothing or whole parts of it were written.
abbrev pub ComesAs : Task → (before after : Option (List ℕ)) → Status → Type 0
ComesAs task before after status.Done = task.calls status.Done × task.whole before after
ComesAs task before after (status.BadInput line code) = task.calls (status.BadInput line code) × task.whole before after
ComesAs task before after (status.WorldFull octets) = task.calls (status.WorldFull octets) × task.whole before after
ComesAs task before after status.WriteFault = task.front before after
ComesAs task before after status.NoMemory = Keeps before after ⊎ task.parts before after
ComesAs task before after (status.BadWords at) = ⊥
ComesAs task before after status.TooLong = ⊥
ComesAs task before after status.ReadFault = ⊥
ComesAs task before after (status.LinksGone links) = ⊥
