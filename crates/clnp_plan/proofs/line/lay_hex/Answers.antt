use Rattle.std.proofs.Common.{arith}
use Rattle.hex.specs.Hex.{lower_digits}
use Rattle.hex.proofs.HexLemmas.{length-encode_with}
use Rattle.clnp_plan.proofs.line.lay_hex.Goals as goal

pub lay_digits-requires : goal.lay_digits-requires
lay_digits-requires c = omega (arith, c.requires, c.room_for_octets.ensures, length-encode_with lower_digits c.args.octets.now)
