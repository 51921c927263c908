use Rattle.clnp_machine.proofs.Noted.{notes_are_told, tick_is_quiet}
use Rattle.clnp_machine.proofs.laws.what_is_noted_was_told.Goals as goal

pub returns-clause-told : goal.returns-clause-told
returns-clause-told c = notes_are_told

pub returns-clause-tick : goal.returns-clause-tick
returns-clause-tick c = tick_is_quiet
