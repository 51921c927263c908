use Rattle.std.proofs.Common.{◌≡◌, ◌*◌, ◌++◌, take, drop}
use Rattle.hex.specs.Hex.{encode_lower}
use Rattle.clnp_plan.proofs.digits.lay_blocks.Given as goal

abbrev pub invariant-loop-block : goal.invariant-loop-block
invariant-loop-block l = take (32 * l.block) l.place ++ encode_lower (drop (16 * l.block) l.octets) ≡ encode_lower l.octets
