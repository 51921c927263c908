use Rattle.std.proofs.Common.{sym}
use Rattle.hex.specs.Hex.{lower_digits}
use Rattle.hex.proofs.HexLemmas.{length-encode_with}
use Rattle.clnp_plan.proofs.line.room_for_octets.Goals as goal

pub returns : goal.returns
returns c = sym (length-encode_with lower_digits c.args.octets.now)
