use Rattle.std.proofs.Common.{arith}
use Rattle.std.proofs.lemmas.List.Sums.{sum_by_more}
use Rattle.pdus.proofs.FletcherFacts.SumLemmas.{weighted_sum_more}
use Rattle.pdus.proofs.fletcher.sums_of.Goals as goal

pub loop-octet-preserved : goal.loop-octet-preserved
loop-octet-preserved c =
    let octets = c.args.head.now in
    let i = c.loop-octet.octet-index in
    let more = sum_by_more (λ n. n) octets i 0 (omega arith) in
    let weighted_more = weighted_sum_more octets i (omega arith) in
    let small = c.type_inv.head i in
    let so_far = c.loop-octet.invariant in
    record { plain = omega arith; weighted = omega arith; plain_small = omega arith; weighted_small = omega arith }
