-- The test of a right header, and what a right header is.
use Rattle.std.proofs.Common.{◌≡◌, ◌≢◌, ℕ, ◌==◌, Bool, true, false, List, inl, inr, refl, arith}
use Rattle.std.specs.Prelude.{◌↔◌, IsTrue}
use Rattle.std.proofs.lemmas.Bool.Decides.{nat_tests}
use Rattle.pdus.specs.Fletcher.Checksum.{octet, IsSealed, IsRight, has_right_checksum}
use Rattle.pdus.specs.Fletcher.Laws.{HasChecksum}
use Rattle.std.proofs.lemmas.Bool.{eqb-true, eqb-false}

pub right_from_test : (head : List ℕ) → has_right_checksum head ≡ true → IsRight head
right_from_test head h = by_octet_8 (octet head 8 == 0) refl
  where
    by_octet_8 : (b : Bool) → (octet head 8 == 0) ≡ b → IsRight head
    by_octet_8 true e = inl (eqb-true _ _ e, grind (arith, nat_tests))
    by_octet_8 false e = inr (record {
      octet_8 = eqb-false _ _ e;
      octet_9 = λ z. grind (arith, nat_tests);
      sum = grind (arith, nat_tests);
      weighted_sum = grind (arith, nat_tests);
    })

pub unused_passes : (head : List ℕ) → octet head 8 ≡ 0 → octet head 9 ≡ 0 → has_right_checksum head ≡ true
unused_passes head x y = grind (arith, nat_tests)

pub sealed_passes : (head : List ℕ) → IsSealed head → has_right_checksum head ≡ true
sealed_passes head h =
    let octet_8 : octet head 8 ≢ 0 = h.octet_8 in
    let octet_9 : octet head 9 ≢ 0 = h.octet_9 in
    grind (arith, nat_tests, h.sum, h.weighted_sum)

pub right_where_tested : (head : List ℕ) → IsTrue (has_right_checksum head) ↔ IsRight head
right_where_tested head = (
  right_from_test head,
  λ right. elim right [ inl unused ↦ unused_passes head unused.0 unused.1 | inr is ↦ sealed_passes head is ],
)

right_if : (head : List ℕ) (is_sealed : Bool) → HasChecksum is_sealed head → IsRight head
right_if head true h = inr h
right_if head false h = inl h

pub right_either_way : (head : List ℕ) → IsRight head ↔ ((is_sealed : Bool) × HasChecksum is_sealed head)
right_either_way head = (λ right. elim right [ inl unused ↦ (false, unused) | inr is ↦ (true, is) ], λ has. right_if head has.0 has.1)
