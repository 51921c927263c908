use Rattle.std.proofs.Common.{◌+◌, ◌*◌, arith, get_or}
use Rattle.hex.proofs.Pairs.{decode_step, decode_done, decode_err}
use Rattle.clnp_base.proofs.Hexadecimal.{pair-digits, pair-bad_high, pair-bad_low}
use Rattle.clnp_base.proofs.digits.read.Goals as goal
use Rattle.clnp_base.proofs.digits.read.Goals.{then-high-gt15-via-then-high-gt15, then-high-gt15-via-else-high-gt15+then-low-gt15}

pub returns-then-high-gt15 : goal.returns-then-high-gt15
returns-then-high-gt15 c = elim c.then-high-gt15.branch [
  | then-high-gt15-via-then-high-gt15 w ↦ (
    get_or c.args.digits.now (2 * c.octets.i) 0,
    2 * c.octets.i,
    decode_err c.args.digits.now c.octets.place c.octets.i _ (omega arith)
        (pair-bad_high (get_or c.args.digits.now (2 * c.octets.i) 0) (get_or c.args.digits.now (2 * c.octets.i + 1) 0) (2 * c.octets.i) (get_or c.args.values.now (get_or c.args.digits.now (2 * c.octets.i) 0) 0) (c.requires.told (2 * c.octets.i) (omega arith)) w.if-high-gt15.true) c.octets.invariant,
  )
  | then-high-gt15-via-else-high-gt15+then-low-gt15 w ↦ (
    get_or c.args.digits.now (2 * c.octets.i + 1) 0,
    2 * c.octets.i + 1,
    decode_err c.args.digits.now c.octets.place c.octets.i _ (omega arith)
        (pair-bad_low (get_or c.args.digits.now (2 * c.octets.i) 0) (get_or c.args.digits.now (2 * c.octets.i + 1) 0) (2 * c.octets.i) (get_or c.args.values.now (get_or c.args.digits.now (2 * c.octets.i) 0) 0) (get_or c.args.values.now (get_or c.args.digits.now (2 * c.octets.i + 1) 0) 0) (c.requires.told (2 * c.octets.i) (omega arith)) (c.requires.told (2 * c.octets.i + 1) (omega arith)) w.if-high-gt15.false w.if-low-gt15.true) c.octets.invariant,
  )
]

pub octets-preserved : goal.octets-preserved
octets-preserved c =
    decode_step c.args.digits.now c.octets.place c.octets.i _ (omega arith) (omega arith)
    (pair-digits (get_or c.args.digits.now (2 * c.octets.i) 0) (get_or c.args.digits.now (2 * c.octets.i + 1) 0) (2 * c.octets.i) (get_or c.args.values.now (get_or c.args.digits.now (2 * c.octets.i) 0) 0) (get_or c.args.values.now (get_or c.args.digits.now (2 * c.octets.i + 1) 0) 0) (c.requires.told (2 * c.octets.i) (omega arith)) (c.requires.told (2 * c.octets.i + 1) (omega arith)) c.if-high-gt15.false c.if-low-gt15.false)
    c.octets.invariant

pub returns : goal.returns
returns c = decode_done c.args.digits.now c.octets.place c.octets.i (omega arith) (omega arith) c.octets.invariant
