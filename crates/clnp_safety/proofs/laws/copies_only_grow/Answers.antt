use Rattle.clnp_safety.proofs.Grows.{copies_stay, cursor_within}
use Rattle.clnp_safety.proofs.laws.copies_only_grow.Goals as goal

pub returns-clause-copies : goal.returns-clause-copies
returns-clause-copies c = copies_stay

pub returns-clause-cursor : goal.returns-clause-cursor
returns-clause-cursor c = cursor_within
