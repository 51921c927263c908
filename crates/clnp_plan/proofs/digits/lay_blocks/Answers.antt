use Rattle.std.proofs.Common.{◌*◌, ◌∙◌, ap, arith}
use Rattle.std.specs.Simd.Lanes.{chunk}
use Rattle.hex.specs.Hex.{encode_with, lower_digits}
use Rattle.clnp_plan.proofs.DigitSteps.{all_written, block_step}
use Rattle.clnp_plan.proofs.digits.lay_blocks.Goals as goal

pub loop-block-preserved : goal.loop-block-preserved
loop-block-preserved c =
    let octets = c.args.octets.now in
    block_step lower_digits octets c.loop-block.place c.pairs_of-pairs.result c.loop-block.block c.loop-block-test.true (omega arith)
    (c.pairs_of-pairs.ensures ∙ ap (λ t. encode_with t (chunk (16 * c.loop-block.block) 16 octets)) c.all_digits-digits.ensures)
    c.loop-block.invariant

pub returns : goal.returns
returns c =
    all_written lower_digits c.args.octets.now c.loop-block.place c.encode_to_slice.new.output c.loop-block.block (omega arith)
    (omega arith) (omega arith) c.in-Ok.ensures.written c.loop-block.invariant
