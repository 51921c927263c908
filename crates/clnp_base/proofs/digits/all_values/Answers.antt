use Rattle.std.proofs.Common.{arith}
use Rattle.clnp_base.proofs.Worths.{worths_more, worths_none}
use Rattle.clnp_base.proofs.digits.all_values.Goals as goal

pub loop-character-init : goal.loop-character-init
loop-character-init c = worths_none

pub loop-character-preserved : goal.loop-character-preserved
loop-character-preserved c =
    worths_more c.loop-character.values c.loop-character.character c.value_of.result c.loop-character.invariant (omega arith) c.value_of.ensures
