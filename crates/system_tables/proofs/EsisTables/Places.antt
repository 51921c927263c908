-- Where a key is in a rising list, or would go.
use Rattle.std.proofs.Common.{◌≡◌, ℕ, zero, suc, ◌+◌, ◌<◌, ◌≤◌, true, false, not, List, [], ◌∷◌, Option, None, Some, refl, sym, ap, subst, ◌∙◌, arith, inl, inr, length, slice_get, slice_set, get_or, insert, remove}
use Rattle.std.proofs.lemmas.Cmp.{nat_list_cmp_total}
use Rattle.std.proofs.lemmas.Bool.{cases_order}
use Rattle.std.proofs.lemmas.Option.{get_or_from_slice_get, none-some, same_Some, slice_get-get_or, slice_get_within}
use Rattle.std.specs.Cmp.Lexicographic.{slice_cmp}
use Rattle.std.specs.List.{AllByRecursion, AllWithin, filter, find}
use Rattle.std.specs.Option.{option_map}
use Rattle.std.specs.Ordering.{nat_cmp, is_lt, ordering_reverse}
use Rattle.std.specs.Str.{bytes_eq}
use Rattle.std.specs.declared.cmp.Ordering.{Ordering}
use Rattle.std.specs.declared.cmp.Ordering.TheVariants.{Less, Equal, Greater}
use Rattle.system_tables.specs.declared.esis_tables.table.Entry.{Entry}
use Rattle.system_tables.specs.EsisTables.Order.{is_before, put_in, IsRising}
use Rattle.system_tables.specs.EsisTables.State.{IsAt, IsGap, key_in}
use Rattle.pdus.proofs.ClnpBase.SameOctets.{same_from, other-back}
use Rattle.system_tables.proofs.EsisTables.Addresses.{before-back, before-other, before-trans, same_from_equal}
use Rattle.system_tables.proofs.EsisTables.Rising.{NoneHas, filter_all, put_in-front}
use Rattle.pdus.proofs.ClnpBase.Lists.{AllByRecursion-slice_get, AllByRecursion-implies}

module _ {X : Type 0} (key : X → List ℕ) where
  -- each item comes before those behind it
  pub rising_pair : (xs : List X) (i j : ℕ) (x y : X) → IsRising key xs → i < j → slice_get xs i ≡ Some x → slice_get xs j ≡ Some y
      → is_before (key x) (key y) ≡ true
  rising_pair [] i j x y rising less at_i at_j = absurd (cc)
  rising_pair (z ∷ zs) i zero x y rising less at_i at_j = absurd (omega (arith, less))
  rising_pair (z ∷ zs) zero (suc j) x y rising less at_i at_j =
      subst (λ w. is_before (key w) (key y) ≡ true) (same_Some z x at_i)
      (AllByRecursion-slice_get (λ w. is_before (key z) (key w) ≡ true) zs j y at_j rising.0)
  rising_pair (z ∷ zs) (suc i) (suc j) x y rising less at_i at_j = rising_pair zs i j x y rising.1 (omega (arith, less)) at_i at_j

  -- those behind an item of this key have other keys
  pub others_behind : (x : X) (xs : List X) (k : List ℕ) → IsRising key (x ∷ xs) → bytes_eq (key x) k ≡ true → NoneHas key k xs
  others_behind x xs k rising same =
      AllByRecursion-implies (λ y. is_before (key x) (key y) ≡ true) (λ y. bytes_eq (key y) k ≡ false)
      (λ y before. subst (λ j. bytes_eq (key y) j ≡ false) (same_from (key x) k same) (other-back (key x) (key y) (before-other (key x) (key y) before))) xs rising.0

  -- an item that comes before one of this key has another key
  other_before : (x y : X) (k : List ℕ) → is_before (key x) (key y) ≡ true → bytes_eq (key y) k ≡ true → bytes_eq (key x) k ≡ false
  other_before x y k before same = subst (λ j. bytes_eq (key x) j ≡ false) (same_from (key y) k same) (before-other (key x) (key y) before)

  -- without the one item of this key
  pub remove_is : (xs : List X) (i : ℕ) (x : X) (k : List ℕ) → IsRising key xs → slice_get xs i ≡ Some x → bytes_eq (key x) k ≡ true
      → remove xs i ≡ filter (λ y. not (bytes_eq (key y) k)) xs
  remove_is [] i x k rising there same = absurd (cc)
  remove_is (y ∷ ys) zero x k rising there same =
      let e : y ≡ x = cc in
      let here : bytes_eq (key y) k ≡ true = subst (λ z. bytes_eq (key z) k ≡ true) (sym e) same in
      let behind : NoneHas key k ys = others_behind y ys k rising here in
      rw here (sym (filter_all (λ z. not (bytes_eq (key z) k)) ys (AllByRecursion-implies (λ z. bytes_eq (key z) k ≡ false) (λ z. not (bytes_eq (key z) k) ≡ true) (λ z e. ap not e) ys behind)))
  remove_is (y ∷ ys) (suc i) x k rising there same =
      let before = AllByRecursion-slice_get (λ z. is_before (key y) (key z) ≡ true) ys i x there rising.0 in
      let other = other_before y x k before same in
      rw other (ap (λ l. y ∷ l) (remove_is ys i x k rising.1 there same))

  -- the one item of this key, written over
  pub set_is : (xs : List X) (i : ℕ) (x new : X) (k : List ℕ) → IsRising key xs → slice_get xs i ≡ Some x → bytes_eq (key x) k ≡ true → key new ≡ k
      → slice_set xs i new ≡ put_in key new (filter (λ y. not (bytes_eq (key y) k)) xs)
  set_is [] i x new k rising there same its = absurd (cc)
  set_is (y ∷ ys) zero x new k rising there same its =
      let e : y ≡ x = cc in
      let here : bytes_eq (key y) k ≡ true = subst (λ z. bytes_eq (key z) k ≡ true) (sym e) same in
      let others : filter (λ z. not (bytes_eq (key z) k)) ys ≡ ys = sym (remove_is (y ∷ ys) zero y k rising refl here ∙ rw here refl) in
      let front : put_in key new ys ≡ new ∷ ys =
      put_in-front key new ys (subst (λ j. AllByRecursion (λ z. is_before j (key z) ≡ true) ys) (same_from (key y) k here ∙ sym its) rising.0) in
      rw here (sym (ap (put_in key new) others ∙ front))
  set_is (y ∷ ys) (suc i) x new k rising there same its =
      let before = AllByRecursion-slice_get (λ z. is_before (key y) (key z) ≡ true) ys i x there rising.0 in
      let other = other_before y x k before same in
      let not_before : is_before (key new) (key y) ≡ false =
      before-back (key y) (key new) (subst (λ j. is_before (key y) j ≡ true) (same_from (key x) k same ∙ sym its) before) in
      rw other (rw not_before (ap (λ l. y ∷ l) (set_is ys i x new k rising.1 there same its)))

  pub find_is : (xs : List X) (i : ℕ) (x : X) (k : List ℕ) → IsRising key xs → slice_get xs i ≡ Some x → bytes_eq (key x) k ≡ true
      → find (λ y. bytes_eq (key y) k) xs ≡ Some x
  find_is [] i x k rising there same = absurd (cc)
  find_is (y ∷ ys) zero x k rising there same =
      let e : y ≡ x = cc in
      let here : bytes_eq (key y) k ≡ true = subst (λ z. bytes_eq (key z) k ≡ true) (sym e) same in
      rw here there
  find_is (y ∷ ys) (suc i) x k rising there same =
      let before = AllByRecursion-slice_get (λ z. is_before (key y) (key z) ≡ true) ys i x there rising.0 in
      let other = other_before y x k before same in
      rw other (find_is ys i x k rising.1 there same)

  -- the items before a place come before a key, those from it on come after it
  pub record Splits (k : List ℕ) (xs : List X) (i : ℕ) : Type 0 where
    pub within : i ≤ length xs
    pub before : AllWithin (λ y. is_before (key y) k ≡ true) xs 0 i
    pub behind : AllWithin (λ y. is_before k (key y) ≡ true) xs i (length xs)

  splits-tail : (k : List ℕ) (x : X) (xs : List X) (i : ℕ) → Splits k (x ∷ xs) (suc i) → Splits k xs i
  splits-tail k x xs i splits = record {
    within = omega (arith, splits.within);
    before = λ j d low high. splits.before (suc j) d (omega arith) (omega arith);
    behind = λ j d low high. splits.behind (suc j) d (omega arith) (omega arith);
  }

  pub insert_is : (xs : List X) (i : ℕ) (x : X) → Splits (key x) xs i → insert xs i x ≡ put_in key x xs
  insert_is [] zero x splits = refl
  insert_is [] (suc i) x splits = absurd (omega (arith, splits.within))
  insert_is (y ∷ ys) zero x splits =
      let behind : is_before (key x) (key y) ≡ true = splits.behind zero y (omega arith) (omega arith) in
      rw behind refl
  insert_is (y ∷ ys) (suc i) x splits =
      let before : is_before (key y) (key x) ≡ true = splits.before zero y (omega arith) (omega arith) in
      let not_before : is_before (key x) (key y) ≡ false = before-back (key y) (key x) before in
      rw not_before (ap (λ l. y ∷ l) (insert_is ys i x (splits-tail (key x) y ys i splits)))

  -- none has a key that has a gap
  pub none_has : (xs : List X) (i : ℕ) (k : List ℕ) → Splits k xs i → NoneHas key k xs
  none_has [] i k splits = tt
  none_has (y ∷ ys) zero k splits =
      let behind : is_before k (key y) ≡ true = splits.behind zero y (omega arith) (omega arith) in
      (other-back k (key y) (before-other k (key y) behind), none_has ys zero k (splits-zero ys splits))
    where
      splits-zero : (ys : List X) → Splits k (y ∷ ys) zero → Splits k ys zero
      splits-zero ys splits = record {
        within = omega arith;
        before = λ j d low high. absurd (omega arith);
        behind = λ j d low high. splits.behind (suc j) d (omega arith) (omega arith);
      }
  none_has (y ∷ ys) (suc i) k splits =
      let before : is_before (key y) k ≡ true = splits.before zero y (omega arith) (omega arith) in
      (before-other (key y) k before, none_has ys i k (splits-tail k y ys i splits))

  pub find_none : (xs : List X) (k : List ℕ) → NoneHas key k xs → find (λ y. bytes_eq (key y) k) xs ≡ None
  find_none [] k none = refl
  find_none (x ∷ xs) k none = rw none.0 (find_none xs k none.1)

-- ---- a search that halves what may hold a key

-- what stands before these places comes before a key, what stands behind them after it
pub record IsBetween (entries : List Entry) (key : List ℕ) (low high : ℕ) : Type 0 where
  pub before : AllWithin (λ entry. is_before entry.key key ≡ true) entries 0 low
  pub behind : AllWithin (λ entry. is_before key entry.key ≡ true) entries high (length entries)

pub between_all : (entries : List Entry) (key : List ℕ) → IsBetween entries key 0 (length entries)
between_all entries key = record {
  before = λ k d from below. absurd (omega (arith, below));
  behind = λ k d from below. absurd (omega (arith, from, below));
}

-- the entry of which a key is told
entry_with : (option : Option Entry) (key : List ℕ) → option_map key_in option ≡ Some key → (entry : Entry) × (option ≡ Some entry) × (entry.key ≡ key)
entry_with None key told = absurd (none-some key told)
entry_with (Some entry) key told = (entry, refl, same_Some entry.key key told)

module _ (entries : List Entry) (key : List ℕ) (low high middle : ℕ) (its_key : List ℕ) (told : option_map key_in (slice_get entries middle) ≡ Some its_key) where
  its_entry : (entry : Entry) × (slice_get entries middle ≡ Some entry) × (entry.key ≡ its_key)
  its_entry = entry_with (slice_get entries middle) its_key told

  abbrev entry : Entry
  entry = its_entry.0

  there : slice_get entries middle ≡ Some entry
  there = its_entry.1

  compared : (result : Ordering) → slice_cmp nat_cmp its_key key ≡ result → slice_cmp nat_cmp entry.key key ≡ result
  compared result same = ap (λ (k : List ℕ). slice_cmp nat_cmp k key) its_entry.2 ∙ same

  -- the entry at a place that is the middle one
  read_middle : (k : ℕ) (d : Entry) → k ≡ middle → get_or entries k d ≡ entry
  read_middle k d same = ap (λ (n : ℕ). get_or entries n d) same ∙ get_or_from_slice_get entries middle entry d there

  pub found_middle : slice_cmp nat_cmp its_key key ≡ Equal → IsAt entries key middle
  found_middle equal = record { entry = entry; stands_at = there; is_its = same_from_equal entry.key key (compared Equal equal) }

  pub above_middle : slice_cmp nat_cmp its_key key ≡ Less → (IsRising key_in entries → IsBetween entries key low high)
      → IsRising key_in entries → IsBetween entries key (middle + 1) high
  above_middle less between rising = record { before = all_before; behind = (between rising).behind }
    where
      its : is_before entry.key key ≡ true
      its = ap is_lt (compared Less less)

      all_before : AllWithin (λ e. is_before e.key key ≡ true) entries 0 (middle + 1)
      all_before k d from below =
          elim (cases_order k middle) [
            | inl same ↦ subst (λ (e : Entry). is_before e.key key ≡ true) (sym (read_middle k d same)) its
            | inr (inl before) ↦
                let within : k < length entries = omega (arith, before, slice_get_within entries middle entry there) in
                before-trans (key_in (get_or entries k d)) entry.key key
                (rising_pair key_in entries k middle (get_or entries k d) entry rising before (slice_get-get_or entries k d within) there) its
            | inr (inr behind) ↦ absurd (omega (arith, below, behind))
          ]

  pub below_middle : slice_cmp nat_cmp its_key key ≡ Greater → (IsRising key_in entries → IsBetween entries key low high)
      → IsRising key_in entries → IsBetween entries key low middle
  below_middle greater between rising = record { before = (between rising).before; behind = all_behind }
    where
      its : is_before key entry.key ≡ true
      its = ap is_lt (nat_list_cmp_total.antisymm key entry.key ∙ ap ordering_reverse (compared Greater greater))

      all_behind : AllWithin (λ e. is_before key e.key ≡ true) entries middle (length entries)
      all_behind k d from below =
          elim (cases_order k middle) [
            | inl same ↦ subst (λ (e : Entry). is_before key e.key ≡ true) (sym (read_middle k d same)) its
            | inr (inl before) ↦ absurd (omega (arith, from, before))
            | inr (inr behind) ↦
                before-trans key entry.key (key_in (get_or entries k d)) its
                (rising_pair key_in entries middle k entry (get_or entries k d) rising behind there (slice_get-get_or entries k d below))
          ]

-- nothing is left to be looked at
pub gap_between : (entries : List Entry) (key : List ℕ) (low high : ℕ) → low ≤ high → high ≤ low → high ≤ length entries
    → (IsRising key_in entries → IsBetween entries key low high) → IsRising key_in entries → IsGap entries key low
gap_between entries key low high ordered met within between rising =
    let same : high ≡ low = omega (arith, ordered, met) in
    record {
      within = omega (arith, ordered, within);
      before = (between rising).before;
      behind = subst (λ (n : ℕ). AllWithin (λ entry. is_before key entry.key ≡ true) entries n (length entries)) same (between rising).behind;
    }
