-- What `seal` and `adjust` write, over plain lists.
use Rattle.std.proofs.Common.{◌≡◌, ◌≢◌, ℕ, ◌+◌, ◌-◌, ◌*◌, ◌%◌, ◌<◌, ◌≤◌, inl, inr, List, length, get_or, refl, sym, ◌∙◌, ap, subst, arith}
use Rattle.std.proofs.Math.ListN.{set}
use Rattle.std.specs.List.{sum}
use Rattle.std.proofs.lemmas.List.{length-set, get_or-set_other, set_comm}
use Rattle.std.proofs.lemmas.List.Sums.{sum_by-set}
use Rattle.pdus.specs.Fletcher.Checksum.{octet, weighted_sum, IsSealed, IsRight, KeepsSums, with_checksum, without_checksum, checksum_octet, checksum_x, checksum_y, sealed}
use Rattle.pdus.proofs.FletcherFacts.Numbers.{checksum_octet_is, checksum_octet_congruent, scaled, balances}
use Rattle.pdus.proofs.FletcherFacts.SumLemmas.{weighted_sum-set}
use Rattle.pdus.proofs.FletcherFacts.ChecksumLaws.{pair_sum, pair_weighted_sum, with_checksum-with_checksum, length-with_checksum, octet_8_is, octet_9_is, sealed_is, length-sealed, sealed_unique}

-- ---- seal

-- a sum may be taken modulo 255 before it goes into the formulas
reduced : (n : ℕ) → (n % 255) % 255 ≡ n % 255
reduced n = omega arith

seal_writes : (head : List ℕ) (plain weighted x y : ℕ) → plain ≡ sum (without_checksum head) % 255 → weighted ≡ weighted_sum (without_checksum head) % 255 → x ≡ checksum_octet ((length (without_checksum head) - 8) * plain + 254 * weighted) → y ≡ checksum_octet (weighted + 254 * ((length (without_checksum head) - 7) * plain)) → with_checksum (without_checksum head) x y ≡ sealed head
unfolding sealed checksum_x checksum_y
seal_writes head plain weighted x y plain_is weighted_is x_is y_is =
    let c0 = sum (without_checksum head) in
    let c1 = weighted_sum (without_checksum head) in
    let len : length (without_checksum head) ≡ length head = length-with_checksum head 0 0 in
    let plain_residue : plain % 255 ≡ c0 % 255 = ap (λ t. t % 255) plain_is ∙ reduced c0 in
    let by_8 : ((length head - 8) * plain) % 255 ≡ ((length head - 8) * c0) % 255 = scaled (length head - 8) plain c0 plain_residue in
    let by_7 : ((length head - 7) * plain) % 255 ≡ ((length head - 7) * c0) % 255 = scaled (length head - 7) plain c0 plain_residue in
    let x_value : x ≡ checksum_octet ((length head - 8) * c0 + 254 * c1) = x_is ∙ ap (λ t. checksum_octet ((t - 8) * plain + 254 * weighted)) len ∙ checksum_octet_congruent _ _ (omega arith) in
    let y_value : y ≡ checksum_octet (c1 + 254 * ((length head - 7) * c0)) = y_is ∙ ap (λ t. checksum_octet (weighted + 254 * ((t - 7) * plain))) len ∙ checksum_octet_congruent _ _ (omega arith) in
    with_checksum-with_checksum head 0 0 x y ∙ ap (λ t. with_checksum head t y) x_value ∙ ap (λ t. with_checksum head (checksum_x head) t) y_value

pub seal_value : (head : List ℕ) (x y : ℕ) → x ≡ checksum_octet ((length (without_checksum head) - 8) * (sum (without_checksum head) % 255) + 254 * (weighted_sum (without_checksum head) % 255)) → y ≡ checksum_octet (weighted_sum (without_checksum head) % 255 + 254 * ((length (without_checksum head) - 7) * (sum (without_checksum head) % 255))) → with_checksum (without_checksum head) x y ≡ sealed head
seal_value head x y x_is y_is = seal_writes head _ _ x y refl refl x_is y_is

pub seal_is : (head : List ℕ) (x y : ℕ) → 9 ≤ length head → x ≡ checksum_octet ((length (without_checksum head) - 8) * (sum (without_checksum head) % 255) + 254 * (weighted_sum (without_checksum head) % 255)) → y ≡ checksum_octet (weighted_sum (without_checksum head) % 255 + 254 * ((length (without_checksum head) - 7) * (sum (without_checksum head) % 255))) → IsSealed (with_checksum (without_checksum head) x y)
seal_is head x y long x_is y_is =
    let P : List ℕ → Type 0 = λ t. IsSealed t in subst P (sym (seal_value head x y x_is y_is)) (sealed_is head long)

pub written_others : (head : List ℕ) (x y : ℕ) → 9 ≤ length head → with_checksum (without_checksum head) x y ≡ with_checksum head (octet (with_checksum (without_checksum head) x y) 8) (octet (with_checksum (without_checksum head) x y) 9)
written_others head x y long =
    with_checksum-with_checksum head 0 0 x y ∙ sym (ap (λ t. with_checksum head t (octet (with_checksum (without_checksum head) x y) 9)) (octet_8_is (without_checksum head) x y (omega (arith, length-with_checksum head 0 0))) ∙ ap (λ t. with_checksum head x t) (octet_9_is (without_checksum head) x y (omega (arith, length-with_checksum head 0 0))))

-- for the goals of `seal`
pub ruleset sealing = (seal_value, seal_is, written_others)

-- ---- adjust

-- `new` is written at a place that is not of the checksum, and x2 and y2 are what the formulas make of the change
record Changes (head : List ℕ) (place new x2 y2 : ℕ) : Type 0 where
  pub at_least : 9 ≤ length head
  pub at_most : length head ≤ 254
  pub first : 1 ≤ place
  pub last : place ≤ length head
  pub not_octet_8 : place ≢ 8
  pub not_octet_9 : place ≢ 9
  pub known : octet head place < 256
  pub octet_8 : x2 ≡ checksum_octet (octet head 8 + (255 + place - 9) * (255 + new - octet head place))
  pub octet_9 : y2 ≡ checksum_octet (octet head 9 + (255 + 8 - place) * (255 + new - octet head place))

changed : List ℕ → ℕ → ℕ → ℕ → ℕ → List ℕ
changed head place new x2 y2 = with_checksum (set head (place - 1) new) x2 y2

adjust_keeps : (head : List ℕ) (place new x2 y2 : ℕ) → Changes head place new x2 y2 → KeepsSums head (changed head place new x2 y2)
unfolding changed
adjust_keeps head place new x2 y2 h =
    let at_least : 9 ≤ length head = h.at_least in
    let at_most : length head ≤ 254 = h.at_most in
    let first : 1 ≤ place = h.first in
    let last : place ≤ length head = h.last in
    let not_8 : place ≢ 8 = h.not_octet_8 in
    let not_9 : place ≢ 9 = h.not_octet_9 in
    let old = octet head place in
    let k = length head - 8 in
    let behind = length head - place in
    let middle = set head (place - 1) new in
    let len : length middle ≡ length head = length-set head (place - 1) new in
    let long : 9 ≤ length middle = omega arith in
    let x2_is = checksum_octet_is (octet head 8 + (255 + place - 9) * (255 + new - old)) in
    let y2_is = checksum_octet_is (octet head 9 + (255 + 8 - place) * (255 + new - old)) in
    let even = balances k place (behind + 1) old new (octet head 8) (octet head 9) x2 y2 (record {
      weight = omega arith;
      small = omega arith;
      known = h.known;
      octet_8 = ap (λ t. t % 255) h.octet_8 ∙ x2_is.residue;
      octet_9 = ap (λ t. t % 255) h.octet_9 ∙ y2_is.residue;
    }) in
    let even_sum = even.sum in
    let even_weighted = even.weighted_sum in
    let same_8 : octet middle 8 ≡ octet head 8 = get_or-set_other head (place - 1) 7 new 0 (omega arith) in
    let same_9 : octet middle 9 ≡ octet head 9 = get_or-set_other head (place - 1) 8 new 0 (omega arith) in
    let pair = pair_sum middle x2 y2 long in
    let one = sum_by-set (λ n. n) head (place - 1) new 0 (omega arith) in
    let weighted_pair = pair_weighted_sum middle k x2 y2 (omega arith) (omega arith) in
    let weighted_one = weighted_sum-set head (place - 1) behind new (omega arith) in
    record {
      octet_8 = λ e. x2_is.nonzero (sym h.octet_8 ∙ sym (octet_8_is middle x2 y2 long) ∙ e);
      octet_9 = λ e. y2_is.nonzero (sym h.octet_9 ∙ sym (octet_9_is middle x2 y2 long) ∙ e);
      sum = omega arith;
      weighted_sum = omega (arith, ap (λ t. k * t) same_8, ap (λ t. k * t) same_9);
    }

-- a checksum in use that keeps its sums is right exactly where it was
right_kept : (old new : List ℕ) → octet old 8 ≢ 0 → octet old 9 ≢ 0 → KeepsSums old new → (IsRight new → IsRight old) × (IsRight old → IsRight new)
right_kept old new used_8 used_9 keeps = (
  λ right. elim right [
    | inl unused ↦ absurd (keeps.octet_8 unused.0)
    | inr is ↦ inr (record { octet_8 = used_8; octet_9 = used_9; sum = sym keeps.sum ∙ is.sum; weighted_sum = sym keeps.weighted_sum ∙ is.weighted_sum })
  ],
  λ right. elim right [
    | inl unused ↦ absurd (used_8 unused.0)
    | inr is ↦ inr (record { octet_8 = keeps.octet_8; octet_9 = keeps.octet_9; sum = keeps.sum ∙ is.sum; weighted_sum = keeps.weighted_sum ∙ is.weighted_sum })
  ],
)

set-with_checksum : (head : List ℕ) (i v x y : ℕ) → i ≢ 7 → i ≢ 8 → set (with_checksum head x y) i v ≡ with_checksum (set head i v) x y
set-with_checksum head i v x y not_7 not_8 =
    set_comm (set head 7 x) 8 i y v (λ e. not_8 (sym e)) ∙ ap (λ t. set t 8 y) (set_comm head 7 i x v (λ e. not_7 (sym e)))

changed-sealed : (plain : List ℕ) (place new x2 y2 : ℕ) → 1 ≤ place → place ≢ 8 → place ≢ 9 → changed (sealed plain) place new x2 y2 ≡ with_checksum (set plain (place - 1) new) x2 y2
unfolding changed sealed
changed-sealed plain place new x2 y2 first not_8 not_9 =
    ap (λ t. with_checksum t x2 y2) (set-with_checksum plain (place - 1) new (checksum_x plain) (checksum_y plain) (omega arith) (omega arith)) ∙ with_checksum-with_checksum (set plain (place - 1) new) (checksum_x plain) (checksum_y plain) x2 y2

resealed : (head plain : List ℕ) (place new x2 y2 : ℕ) → Changes head place new x2 y2 → head ≡ sealed plain → changed head place new x2 y2 ≡ sealed (set plain (place - 1) new)
resealed head plain place new x2 y2 h is =
    let len : length head ≡ length plain = ap length is ∙ length-sealed plain in
    let at_least : 9 ≤ length head = h.at_least in
    let long : 9 ≤ length (set plain (place - 1) new) = omega (arith, length-set plain (place - 1) new) in
    let keeps = adjust_keeps head place new x2 y2 h in
    let P : List ℕ → Type 0 = λ t. IsSealed t in
    let was : IsSealed head = subst P (sym is) (sealed_is plain (omega arith)) in
    let now : IsSealed (changed head place new x2 y2) = record { octet_8 = keeps.octet_8; octet_9 = keeps.octet_9; sum = keeps.sum ∙ was.sum; weighted_sum = keeps.weighted_sum ∙ was.weighted_sum } in
    let form = ap (λ t. changed t place new x2 y2) is ∙ changed-sealed plain place new x2 y2 h.first h.not_octet_8 h.not_octet_9 in
    let x2_is = checksum_octet_is (octet head 8 + (255 + place - 9) * (255 + new - octet head place)) in
    let y2_is = checksum_octet_is (octet head 9 + (255 + 8 - place) * (255 + new - octet head place)) in
    let x2_small : x2 < 256 = omega (arith, h.octet_8, x2_is.small) in
    let y2_small : y2 < 256 = omega (arith, h.octet_9, y2_is.small) in
    form ∙ sealed_unique (set plain (place - 1) new) x2 y2 long x2_small y2_small (subst P form now)

-- a header that is sealed has a checksum in use
sealed_in_use : (head plain : List ℕ) → 9 ≤ length head → head ≡ sealed plain → (octet head 8 ≢ 0) × (octet head 9 ≢ 0)
sealed_in_use head plain long is =
    let len : length head ≡ length plain = ap length is ∙ length-sealed plain in
    let P : List ℕ → Type 0 = λ t. IsSealed t in
    let was : IsSealed head = subst P (sym is) (sealed_is plain (omega arith)) in
    (was.octet_8, was.octet_9)

-- the same with each premise by itself, as the goals of `adjust` have them
adjust_in_use : (head : List ℕ) (place new x2 y2 : ℕ) → 9 ≤ length head → length head ≤ 254 → 1 ≤ place → place ≤ length head → place ≢ 8 → place ≢ 9 → octet head place < 256 → x2 ≡ checksum_octet (octet head 8 + (255 + place - 9) * (255 + new - octet head place)) → y2 ≡ checksum_octet (octet head 9 + (255 + 8 - place) * (255 + new - octet head place)) → KeepsSums head (with_checksum (set head (place - 1) new) x2 y2)
unfolding changed
adjust_in_use head place new x2 y2 at_least at_most first last not_8 not_9 known x2_is y2_is =
    adjust_keeps head place new x2 y2 (record { at_least = at_least; at_most = at_most; first = first; last = last; not_octet_8 = not_8; not_octet_9 = not_9; known = known; octet_8 = x2_is; octet_9 = y2_is })

pub adjust_right : (head : List ℕ) (place new x2 y2 : ℕ) → 9 ≤ length head → length head ≤ 254 → 1 ≤ place → place ≤ length head → place ≢ 8 → place ≢ 9 → octet head place < 256 → octet head 8 ≢ 0 → octet head 9 ≢ 0 → x2 ≡ checksum_octet (octet head 8 + (255 + place - 9) * (255 + new - octet head place)) → y2 ≡ checksum_octet (octet head 9 + (255 + 8 - place) * (255 + new - octet head place)) → (IsRight (with_checksum (set head (place - 1) new) x2 y2) → IsRight head) × (IsRight head → IsRight (with_checksum (set head (place - 1) new) x2 y2))
adjust_right head place new x2 y2 at_least at_most first last not_8 not_9 known used_8 used_9 x2_is y2_is =
    right_kept head (with_checksum (set head (place - 1) new) x2 y2) used_8 used_9 (adjust_in_use head place new x2 y2 at_least at_most first last not_8 not_9 known x2_is y2_is)

pub adjust_resealed : (head plain : List ℕ) (place new x2 y2 : ℕ) → 9 ≤ length head → length head ≤ 254 → 1 ≤ place → place ≤ length head → place ≢ 8 → place ≢ 9 → octet head place < 256 → x2 ≡ checksum_octet (octet head 8 + (255 + place - 9) * (255 + new - octet head place)) → y2 ≡ checksum_octet (octet head 9 + (255 + 8 - place) * (255 + new - octet head place)) → head ≡ sealed plain → with_checksum (set head (place - 1) new) x2 y2 ≡ sealed (set plain (place - 1) new)
unfolding changed
adjust_resealed head plain place new x2 y2 at_least at_most first last not_8 not_9 known x2_is y2_is is =
    resealed head plain place new x2 y2 (record { at_least = at_least; at_most = at_most; first = first; last = last; not_octet_8 = not_8; not_octet_9 = not_9; known = known; octet_8 = x2_is; octet_9 = y2_is }) is

-- what `adjust_in_use` says, in the form that `grind` finds: the equation says nothing, and shows it the header
pub adjust_keeps_sums : (head : List ℕ) (place new x2 y2 : ℕ) → 9 ≤ length head → length head ≤ 254 → 1 ≤ place → place ≤ length head → place ≢ 8 → place ≢ 9 → octet head place < 256 → x2 ≡ checksum_octet (octet head 8 + (255 + place - 9) * (255 + new - octet head place)) → y2 ≡ checksum_octet (octet head 9 + (255 + 8 - place) * (255 + new - octet head place)) → (with_checksum (set head (place - 1) new) x2 y2 ≡ with_checksum (set head (place - 1) new) x2 y2) × KeepsSums head (with_checksum (set head (place - 1) new) x2 y2)
adjust_keeps_sums head place new x2 y2 at_least at_most first last not_8 not_9 known x2_is y2_is =
    (refl, adjust_in_use head place new x2 y2 at_least at_most first last not_8 not_9 known x2_is y2_is)

pub sealed_used : (plain : List ℕ) → 9 ≤ length (sealed plain) → (get_or (sealed plain) 7 0 ≢ 0) × (get_or (sealed plain) 8 0 ≢ 0)
sealed_used plain long = sealed_in_use (sealed plain) plain long refl

-- for the goals of `adjust`
pub ruleset adjusting = (adjust_keeps_sums, adjust_right, adjust_resealed, sealed_used)
