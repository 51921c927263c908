use Rattle.std.proofs.Common.{◌<◌, ◌∙◌, ap, arith, get_or, length, set}
use Rattle.std.proofs.lemmas.List.{get_or_default}
use Rattle.std.proofs.lemmas.List.Edits.{map_over_more}
use Rattle.pdus.specs.Nsap.Prefix.{digit_value}
use Rattle.pdus.proofs.nsap.prefix.read_values.Goals as goal

pub loop-at-preserved : goal.loop-at-preserved
loop-at-preserved c =
    let within : c.loop-at.at < length c.loop-at.digits = omega arith in
    ap (λ v. set c.loop-at.digits c.loop-at.at v) c.value_of.ensures.value
    ∙ map_over_more digit_value c.args.digits.now c.loop-at.digits c.loop-at.at (get_or c.loop-at.digits c.loop-at.at 0) c.loop-at-test.true c.loop-at.invariant
    (get_or_default c.loop-at.digits c.loop-at.at 0 _ within)
