-- For given other octets exactly one pair of octets 8 and 9 seals a header.
use Rattle.std.proofs.Common.{◌≡◌, ◌≢◌, ℕ, ◌+◌, ◌-◌, ◌*◌, ◌%◌, ◌<◌, ◌≤◌, List, length, get_or, sym, ◌∙◌, ap, subst, arith}
use Rattle.std.proofs.Math.ListN.{set}
use Rattle.std.specs.List.{sum}
use Rattle.std.proofs.lemmas.List.{length-set, get_or-set_same, get_or-set_other, set-set, set_comm, set-get_or}
use Rattle.std.proofs.lemmas.List.Sums.{sum_by-set}
use Rattle.pdus.specs.Fletcher.Checksum.{octet, weighted_sum, IsSealed, with_checksum, without_checksum, checksum_x, checksum_y, sealed}
use Rattle.pdus.specs.Fletcher.Laws.{IsSealedOnce, SharesOthers}
use Rattle.pdus.proofs.FletcherFacts.Numbers.{IsOctetOf, checksum_octet_is, checksum_octet_unique, Solves, solves, solution_x, solution_y}
use Rattle.pdus.proofs.FletcherFacts.SumLemmas.{weighted_sum-set}

-- ---- the octets of a header with another checksum

pub octet_8_is : (head : List ℕ) (x y : ℕ) → 9 ≤ length head → get_or (with_checksum head x y) 7 0 ≡ x
octet_8_is head x y long =
    let here : 7 < length head = omega arith in
    get_or-set_other (set head 7 x) 8 7 y 0 (omega arith) ∙ get_or-set_same head 7 x 0 here

pub octet_9_is : (head : List ℕ) (x y : ℕ) → 9 ≤ length head → get_or (with_checksum head x y) 8 0 ≡ y
octet_9_is head x y long =
    get_or-set_same (set head 7 x) 8 y 0 (omega (arith, length-set head 7 x))

pub length-with_checksum : (head : List ℕ) (x y : ℕ) → length (with_checksum head x y) ≡ length head
length-with_checksum head x y = length-set (set head 7 x) 8 y ∙ length-set head 7 x

pub with_checksum-with_checksum : (head : List ℕ) (a b x y : ℕ) → with_checksum (with_checksum head a b) x y ≡ with_checksum head x y
with_checksum-with_checksum head a b x y =
    ap (λ t. set t 8 y) (set_comm (set head 7 a) 8 7 b x (omega arith) ∙ ap (λ t. set t 8 b) (set-set head 7 a x)) ∙ set-set (set head 7 x) 8 b y

pub with_checksum_same : (head : List ℕ) → with_checksum head (octet head 8) (octet head 9) ≡ head
with_checksum_same head = ap (λ t. set t 8 (get_or head 8 0)) (set-get_or head 7 0) ∙ set-get_or head 8 0

-- ---- its sums

pub pair_sum : (head : List ℕ) (x y : ℕ) → 9 ≤ length head → sum (with_checksum head x y) + octet head 8 + octet head 9 ≡ sum head + x + y
pair_sum head x y long =
    let first = sum_by-set (λ n. n) head 7 x 0 (omega arith) in
    let second = sum_by-set (λ n. n) (set head 7 x) 8 y 0 (omega (arith, length-set head 7 x)) in
    let other = get_or-set_other head 7 8 x 0 (omega arith) in
    omega arith

pub pair_weighted_sum : (head : List ℕ) (k x y : ℕ) → 1 ≤ k → k + 8 ≡ length head → weighted_sum (with_checksum head x y) + (k + 1) * octet head 8 + k * octet head 9 ≡ weighted_sum head + (k + 1) * x + k * y
pair_weighted_sum head k x y some long =
    let first = weighted_sum-set head 7 k x (omega arith) in
    let second = weighted_sum-set (set head 7 x) 8 (k - 1) y (omega (arith, length-set head 7 x)) in
    let weight : k - 1 + 1 ≡ k = omega arith in
    let other = get_or-set_other head 7 8 x 0 (omega arith) in
    omega (arith, ap (λ t. t * y) weight, ap (λ t. t * get_or (set head 7 x) 8 0) weight, ap (λ t. k * t) other)

pub sum-with_checksum : (head : List ℕ) (x y : ℕ) → 9 ≤ length head → sum (with_checksum head x y) ≡ sum (without_checksum head) + x + y
sum-with_checksum head x y long = omega (arith, pair_sum head x y long, pair_sum head 0 0 long)

pub weighted_sum-with_checksum : (head : List ℕ) (k x y : ℕ) → 1 ≤ k → k + 8 ≡ length head → weighted_sum (with_checksum head x y) ≡ weighted_sum (without_checksum head) + (k + 1) * x + k * y
weighted_sum-with_checksum head k x y some long = omega (arith, pair_weighted_sum head k x y some long, pair_weighted_sum head k 0 0 some long)

-- ---- the pair that seals

-- octets 8 and 9 solve the two equations of a header
pub SolvesFor : List ℕ → ℕ → ℕ → Type 0
SolvesFor head x y = Solves (length head - 8) (sum (without_checksum head)) (weighted_sum (without_checksum head)) x y

pub sealed_from_solved : (head : List ℕ) (x y : ℕ) → 9 ≤ length head → x ≢ 0 → y ≢ 0 → SolvesFor head x y → IsSealed (with_checksum head x y)
unfolding SolvesFor
sealed_from_solved head x y long x_used y_used solved =
    record {
      octet_8 = λ e. x_used (sym (octet_8_is head x y long) ∙ e);
      octet_9 = λ e. y_used (sym (octet_9_is head x y long) ∙ e);
      sum = ap (λ t. t % 255) (sum-with_checksum head x y long) ∙ solved.sum;
      weighted_sum = ap (λ t. t % 255) (weighted_sum-with_checksum head (length head - 8) x y (omega arith) (omega arith)) ∙ solved.weighted_sum;
    }

pub solved_from_sealed : (head : List ℕ) (x y : ℕ) → 9 ≤ length head → IsSealed (with_checksum head x y) → SolvesFor head x y
unfolding SolvesFor
solved_from_sealed head x y long is =
    record {
      sum = sym (ap (λ t. t % 255) (sum-with_checksum head x y long)) ∙ is.sum;
      weighted_sum = sym (ap (λ t. t % 255) (weighted_sum-with_checksum head (length head - 8) x y (omega arith) (omega arith))) ∙ is.weighted_sum;
    }

pub checksum_x_is : (head : List ℕ) → IsOctetOf ((length head - 8) * sum (without_checksum head) + 254 * weighted_sum (without_checksum head)) (checksum_x head)
unfolding checksum_x
checksum_x_is head = checksum_octet_is _

pub checksum_y_is : (head : List ℕ) → IsOctetOf (weighted_sum (without_checksum head) + 254 * ((length head - 7) * sum (without_checksum head))) (checksum_y head)
unfolding checksum_y
checksum_y_is head = checksum_octet_is _

-- the weight of octet 8
weight_8 : (head : List ℕ) → 9 ≤ length head → length head - 7 ≡ length head - 8 + 1
weight_8 head long = omega arith

pub sealed_is : (head : List ℕ) → 9 ≤ length head → IsSealed (sealed head)
unfolding sealed SolvesFor
sealed_is head long =
    let x = checksum_x_is head in
    let y = checksum_y_is head in
    let y_residue = y.residue ∙ ap (λ t. (weighted_sum (without_checksum head) + 254 * (t * sum (without_checksum head))) % 255) (weight_8 head long) in
    sealed_from_solved head (checksum_x head) (checksum_y head) long x.nonzero y.nonzero (solves (length head - 8) _ _ _ _ x.residue y_residue)

x_unique : (head : List ℕ) (x y : ℕ) → x ≢ 0 → x < 256 → SolvesFor head x y → x ≡ checksum_x head
unfolding SolvesFor checksum_x
x_unique head x y used small solved =
    checksum_octet_unique _ x (record { nonzero = used; small = small; residue = solution_x _ _ _ x y solved })

y_unique : (head : List ℕ) (x y : ℕ) → 9 ≤ length head → y ≢ 0 → y < 256 → SolvesFor head x y → y ≡ checksum_y head
unfolding SolvesFor checksum_y
y_unique head x y long used small solved =
    checksum_octet_unique _ y (record {
      nonzero = used;
      small = small;
      residue = solution_y _ _ _ x y solved ∙ sym (ap (λ t. (weighted_sum (without_checksum head) + 254 * (t * sum (without_checksum head))) % 255) (weight_8 head long));
    })

pub sealed_unique : (head : List ℕ) (x y : ℕ) → 9 ≤ length head → x < 256 → y < 256 → IsSealed (with_checksum head x y) → with_checksum head x y ≡ sealed head
unfolding sealed
sealed_unique head x y long x_small y_small is =
    let solved = solved_from_sealed head x y long is in
    let x_used : x ≢ 0 = λ e. is.octet_8 (octet_8_is head x y long ∙ e) in
    let y_used : y ≢ 0 = λ e. is.octet_9 (octet_9_is head x y long ∙ e) in
    ap (λ t. with_checksum head t y) (x_unique head x y x_used x_small solved) ∙ ap (λ t. with_checksum head (checksum_x head) t) (y_unique head x y long y_used y_small solved)

pub sealed_octet_8 : (head : List ℕ) → 9 ≤ length head → octet (sealed head) 8 ≡ checksum_x head
unfolding sealed
sealed_octet_8 head long = octet_8_is head (checksum_x head) (checksum_y head) long

pub sealed_octet_9 : (head : List ℕ) → 9 ≤ length head → octet (sealed head) 9 ≡ checksum_y head
unfolding sealed
sealed_octet_9 head long = octet_9_is head (checksum_x head) (checksum_y head) long

pub sealed_once : (head : List ℕ) → 9 ≤ length head → IsSealedOnce head
sealed_once head long =
    record {
      exists = sealed_is head long;
      octet_8 = omega (arith, sealed_octet_8 head long, (checksum_x_is head).small);
      octet_9 = omega (arith, sealed_octet_9 head long, (checksum_y_is head).small);
      unique = λ x y x_small y_small is. sealed_unique head x y long x_small y_small is;
    }

pub sealed_is_unique : (head other : List ℕ) → 9 ≤ length head → SharesOthers head other → octet other 8 < 256 → octet other 9 < 256 → IsSealed other → other ≡ sealed head
sealed_is_unique head other long shares x_small y_small is =
    shares ∙ sealed_unique head (octet other 8) (octet other 9) long x_small y_small (let P : List ℕ → Type 0 = λ t. IsSealed t in subst P shares is)

pub sealed_shares : (head : List ℕ) → 9 ≤ length head → SharesOthers head (sealed head)
unfolding sealed
sealed_shares head long =
    sym (ap (λ t. with_checksum head t (octet (sealed head) 9)) (sealed_octet_8 head long) ∙ ap (λ t. with_checksum head (checksum_x head) t) (sealed_octet_9 head long))

pub length-sealed : (head : List ℕ) → length (sealed head) ≡ length head
unfolding sealed
length-sealed head = length-with_checksum head (checksum_x head) (checksum_y head)

-- the sealed header depends on the other octets alone
pub sealed-with_checksum : (head : List ℕ) (x y : ℕ) → sealed (with_checksum head x y) ≡ sealed head
unfolding sealed checksum_x checksum_y
sealed-with_checksum head x y = simp (with_checksum-with_checksum, length-with_checksum)

pub without_checksum-sealed : (head : List ℕ) → without_checksum (sealed head) ≡ without_checksum head
unfolding sealed
without_checksum-sealed head = with_checksum-with_checksum head (checksum_x head) (checksum_y head) 0 0

pub sealed_other : (head : List ℕ) (i : ℕ) → i ≢ 7 → i ≢ 8 → get_or (sealed head) i 0 ≡ get_or head i 0
unfolding sealed
sealed_other head i not_7 not_8 =
    get_or-set_other (set head 7 (checksum_x head)) 8 i (checksum_y head) 0 not_8 ∙ get_or-set_other head 7 i (checksum_x head) 0 not_7

pub sealed_of_bare : (head : List ℕ) → 9 ≤ length head → octet head 8 < 256 → octet head 9 < 256 → IsSealed head → head ≡ sealed (without_checksum head)
sealed_of_bare head long x_small y_small is =
    sealed_is_unique head head long (sym (with_checksum_same head)) x_small y_small is ∙ sym (sealed-with_checksum head 0 0)
