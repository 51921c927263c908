use Rattle.std.proofs.Common.{◌<◌, arith, get_or}
use Rattle.clnp_base.proofs.Hexadecimal.{telling_more, telling_none}
use Rattle.clnp_base.proofs.digits.values_in.Goals as goal

pub loop-character-init : goal.loop-character-init
loop-character-init c = telling_none c.args.text.now

pub loop-character-preserved : goal.loop-character-preserved
loop-character-preserved c =
    let small : get_or c.args.text.now c.loop-character.character-index 0 < 256 = omega (arith, c.type_inv.text c.loop-character.character-index) in
    telling_more c.loop-character.values c.args.text.now c.loop-character.character-index c.told.result
    c.loop-character.invariant small c.told.ensures
