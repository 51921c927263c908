-- The order of addresses.
use Rattle.std.proofs.Common.{◌≡◌, ℕ, true, false, List, refl, sym, ap, ◌∙◌, Ordering}
use Rattle.std.proofs.lemmas.Bool.{false_from_ne_true, true≢false}
use Rattle.std.proofs.lemmas.Cmp.{nat_list_cmp_total, tied_itself}
use Rattle.pdus.proofs.ClnpBase.SameOctets.{same_from}
use Rattle.std.specs.Cmp.Lexicographic.{slice_cmp, texts_ties}
use Rattle.std.specs.Ordering.{nat_cmp, is_lt, is_eq, ordering_reverse}
use Rattle.std.specs.declared.cmp.Ordering.TheVariants.{Less, Equal, Greater}
use Rattle.std.specs.Str.{bytes_eq}
use Rattle.system_tables.specs.EsisTables.Order.{is_before}

pub less_from : (o : Ordering) → is_lt o ≡ true → o ≡ Less
less_from Less h = refl
less_from Equal h = absurd (cc)
less_from Greater h = absurd (cc)

-- no address is before itself
pub before-itself : (a : List ℕ) → is_before a a ≡ false
before-itself a = ap is_lt (tied_itself nat_list_cmp_total a)

pub before-trans : (a b c : List ℕ) → is_before a b ≡ true → is_before b c ≡ true → is_before a c ≡ true
before-trans a b c ab bc =
    ap is_lt (nat_list_cmp_total.trans a b c (less_from (slice_cmp nat_cmp a b) ab) (less_from (slice_cmp nat_cmp b c) bc))

-- of two addresses at most one is before the other
pub before-back : (a b : List ℕ) → is_before a b ≡ true → is_before b a ≡ false
before-back a b ab =
    ap is_lt (nat_list_cmp_total.antisymm b a ∙ ap ordering_reverse (less_from (slice_cmp nat_cmp a b) ab))

-- an address that is before another isn't the same
pub before-other : (a b : List ℕ) → is_before a b ≡ true → bytes_eq a b ≡ false
before-other a b ab =
    false_from_ne_true (bytes_eq a b) (λ t. true≢false (sym ab ∙ ap (is_before a) (sym (same_from a b t)) ∙ before-itself a))

-- of two addresses that aren't the same, one is before the other
pub after-other : (a b : List ℕ) → bytes_eq a b ≡ false → is_before a b ≡ false → is_before b a ≡ true
after-other a b differ not_before = by_order (slice_cmp nat_cmp a b) (slice_cmp nat_cmp b a)
    (sym (texts_ties a b) ∙ differ) not_before (nat_list_cmp_total.antisymm b a)
  where
    by_order : (o back : Ordering) → is_eq o ≡ false → is_lt o ≡ false → back ≡ ordering_reverse o → is_lt back ≡ true
    by_order Less back e l h = absurd (cc)
    by_order Equal back e l h = absurd (cc)
    by_order Greater back e l h = ap is_lt h

-- the comparison tells whether two addresses are the same
pub same_from_equal : (a b : List ℕ) → slice_cmp nat_cmp a b ≡ Equal → bytes_eq a b ≡ true
same_from_equal a b h = texts_ties a b ∙ ap is_eq h
