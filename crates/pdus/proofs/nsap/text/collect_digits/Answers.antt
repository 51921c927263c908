use Rattle.std.proofs.Common.{arith, ap, ◌∙◌, length, length-set, length-take-le}
use Rattle.pdus.proofs.NsapFacts.TextFacts.{digits_more, digits_past, digits_same}
use Rattle.pdus.proofs.nsap.text.collect_digits.Goals as goal
use Rattle.pdus.proofs.nsap.text.collect_digits.Goals.{then-c-ne46+else-count-eq40, else-c-ne46}

pub returns-then-count-eq40-clause-many : goal.returns-then-count-eq40-clause-many
returns-then-count-eq40-clause-many c =
    let sizes = ap length c.loop-c.invariant.so_far in
    let wide = length-take-le c.loop-c.count c.loop-c.digits (omega arith) in
    digits_past c.args.text.now c.loop-c.c-index (omega arith) c.if-c-ne46.true (omega (arith, sizes, wide))

pub loop-c-preserved : goal.loop-c-preserved
loop-c-preserved c =
    elim c.if-c-ne46.branch [
      | then-c-ne46+else-count-eq40 w ↦
          rw (w.digits-is, w.count-is) (record {
            fits = omega arith;
            wide = length-set c.loop-c.digits c.loop-c.count _ ∙ c.loop-c.invariant.wide;
            so_far = digits_more c.args.text.now c.loop-c.digits c.loop-c.c-index c.loop-c.count (omega arith) (omega arith) w.if-c-ne46.true c.loop-c.invariant.so_far;
          })
      | else-c-ne46 w ↦
          rw (w.digits-is, w.count-is) (record {
            fits = omega arith;
            wide = c.loop-c.invariant.wide;
            so_far = digits_same c.args.text.now c.loop-c.digits c.loop-c.c-index c.loop-c.count (omega arith) w.if-c-ne46.false c.loop-c.invariant.so_far;
          })
    ]
