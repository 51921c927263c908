use Rattle.std.proofs.Common.{◌≡◌, ℕ, List, ◌*◌, ◌≤◌, take}
use Rattle.std.specs.List.{sum}
use Rattle.pdus.specs.Fletcher.Checksum.{weighted_sum}
use Rattle.pdus.proofs.fletcher.sums_of.Given as goal

pub record SumsSoFar (octets : List ℕ) (i total weighted_total : ℕ) : Type 0 where
  pub plain : total ≡ sum (take i octets)
  pub weighted : weighted_total ≡ weighted_sum (take i octets)
  pub plain_small : total ≤ 255 * i
  pub weighted_small : weighted_total ≤ 64770 * i

abbrev pub invariant-loop-octet : goal.invariant-loop-octet
invariant-loop-octet l = SumsSoFar l.head l.octet-index l.plain l.weighted
