-- How the two sums of a header change: one more octet, and another octet at one place.
use Rattle.std.proofs.Common.{◌≡◌, ℕ, zero, suc, ◌+◌, ◌*◌, ◌<◌, List, [], ◌∷◌, ◌++◌, length, get_or, take, ap, ◌∙◌, arith, length-append}
use Rattle.std.proofs.Math.ListN.{set}
use Rattle.std.specs.List.{sum}
use Rattle.std.proofs.lemmas.List.Sums.{sum_by-cons}
use Rattle.std.proofs.lemmas.List.{take_more, length-set}
use Rattle.pdus.specs.Fletcher.Checksum.{weighted_sum}

pub weighted_sum_push : (xs : List ℕ) (x : ℕ) → weighted_sum (xs ++ x ∷ []) ≡ weighted_sum xs + sum xs + x
weighted_sum_push [] x = omega arith
weighted_sum_push (a ∷ xs) x =
    omega (arith, weighted_sum_push xs x, sum_by-cons (λ n. n) a xs, ap (λ n. n * a) (length-append xs (x ∷ [])))

pub weighted_sum_more : (xs : List ℕ) (i : ℕ) → i < length xs → weighted_sum (take (i + 1) xs) ≡ weighted_sum (take i xs) + sum (take i xs) + get_or xs i 0
weighted_sum_more xs i h = ap weighted_sum (take_more xs i 0 h) ∙ weighted_sum_push (take i xs) (get_or xs i 0)

-- the octet at index i of a list that has k more behind it weighs k + 1
pub weighted_sum-set : (xs : List ℕ) (i k v : ℕ) → k + i + 1 ≡ length xs → weighted_sum (set xs i v) + (k + 1) * get_or xs i 0 ≡ weighted_sum xs + (k + 1) * v
weighted_sum-set [] i k v h = absurd (omega arith)
weighted_sum-set (a ∷ xs) zero k v h =
    let len : k ≡ length xs = omega arith in
    omega (arith, ap (λ n. n * a) len, ap (λ n. n * v) len)
weighted_sum-set (a ∷ xs) (suc i) k v h =
    omega (arith, weighted_sum-set xs i k v (omega arith), ap (λ n. n * a) (length-set xs i v))
