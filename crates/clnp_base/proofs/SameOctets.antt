-- Comparing octets decides whether they are the same.
use Rattle.std.proofs.Common.{◌≡◌, ◌∙◌, ℕ, true, false, List, refl, sym}
use Rattle.std.proofs.lemmas.Bool.{false_from_ne_true, true≢false}
use Rattle.std.proofs.lemmas.Slice.Eq.{bytes_eq-Decides}
use Rattle.std.specs.Str.{bytes_eq}

pub same_from : (a b : List ℕ) → bytes_eq a b ≡ true → a ≡ b
same_from a b h = (bytes_eq-Decides a b).0 h

pub same_from_equal : (a b : List ℕ) → a ≡ b → bytes_eq a b ≡ true
same_from_equal a b h = (bytes_eq-Decides a b).1 h

pub same-itself : (a : List ℕ) → bytes_eq a a ≡ true
same-itself a = same_from_equal a a refl

pub same-back : (a b : List ℕ) → bytes_eq a b ≡ true → bytes_eq b a ≡ true
same-back a b h = same_from_equal b a (sym (same_from a b h))

pub other_from : (a b : List ℕ) → (a ≡ b → ⊥) → bytes_eq a b ≡ false
other_from a b differ = false_from_ne_true (bytes_eq a b) (λ t. differ (same_from a b t))

pub other-back : (a b : List ℕ) → bytes_eq a b ≡ false → bytes_eq b a ≡ false
other-back a b h = other_from b a (λ same. true≢false (sym (same_from_equal a b (sym same)) ∙ h))
