-- Gaps between numbers, which are closed.
use Rattle.std.proofs.Common.{◌≡◌, ℕ, suc, ◌+◌, ◌-◌, ◌<◌, ◌≤◌, ◌==◌, Bool, true, false, ◌&&◌, ◌||◌, nat_lt, List, [], ◌∷◌, Option, None, Some, MatchOption, ◌⊎◌, refl, sym, ap, subst, ◌∙◌, inl, inr, arith, length, map}
use Rattle.std.proofs.lemmas.Bool.{cases_Bool, lt-ltb, le-ltb, ltb-true, ltb-false, eqb-true, and_parts, and_cases, both_ways, or_left, or_right}
use Rattle.std.proofs.lemmas.Option.{same_Some}
use Rattle.std.specs.List.{AllByRecursion, list_any}
use Rattle.system_tables.specs.declared.esis_tables.table.Entry.{Entry}
use Rattle.system_tables.specs.EsisTables.Fact.{Fact}
use Rattle.system_tables.specs.EsisTables.Keeps.{AreNumbered, entries_of}
use Rattle.system_tables.specs.EsisTables.Numbers.{KeepTheSame, count_above, down, is_above, is_less_than, least_above, lowered}
use Rattle.system_tables.specs.EsisTables.Order.{in_order}
use Rattle.system_tables.specs.EsisTables.State.{entry_for, key_in}
use Rattle.pdus.proofs.ClnpBase.Choices.{equal_is}
use Rattle.pdus.proofs.ClnpBase.Lists.{AllByRecursion-both, AllByRecursion-implies, AllByRecursion-mapped}
use Rattle.system_tables.proofs.EsisTables.Numbers.{of_facts}
use Rattle.system_tables.proofs.EsisTables.Rising.{filter_none}
use Rattle.system_tables.proofs.EsisTables.Sorting.{all_in_order-back, map-in_order}

abbrev pub has_number : ℕ → Entry → Bool
has_number number entry = entry.number == number

-- no entry has a number between these
abbrev pub HasNoneBetween : ℕ → ℕ → Entry → Type 0
HasNoneBetween above least entry = above < entry.number → least ≤ entry.number

-- the least number above another, of some entries and of one found before
pub record IsLeast (above : ℕ) (found : Option ℕ) (entries : List Entry) (least : ℕ) : Type 0 where
  pub is_above : above < least
  pub there : (found ≡ Some least) ⊎ (list_any (has_number least) entries ≡ true)
  pub none_between : AllByRecursion (HasNoneBetween above least) entries
  pub no_more : (other : ℕ) → found ≡ Some other → least ≤ other

pub record HasNoneAbove (above : ℕ) (found : Option ℕ) (entries : List Entry) : Type 0 where
  pub none_found : found ≡ None
  pub none_above : AllByRecursion (λ entry. entry.number ≤ above) entries

abbrev pub Tells : ℕ → Option ℕ → List Entry → Option ℕ → Type 0
Tells above found entries result = MatchOption result (HasNoneAbove above found entries) (IsLeast above found entries)

-- one that is above and less is found from then on
taken : (above : ℕ) (found : Option ℕ) (x : Entry) (xs : List Entry) (r : Option ℕ) → is_less_than x.number found ≡ true
    → Tells above (Some x.number) xs r → Tells above found (x ∷ xs) r
taken above found x xs None less tells = absurd (some_none tells.none_found)
  where
    some_none : {n : ℕ} → Some n ≡ None → ⊥
    some_none h = cc
taken above found x xs (Some least) less tells = record {
  is_above = tells.is_above;
  there = inr (there_now tells.there);
  none_between = ((λ _. tells.no_more x.number refl), tells.none_between);
  no_more = λ other is. below other (subst (λ (f : Option ℕ). is_less_than x.number f ≡ true) is less);
}
  where
    there_now : (Some x.number ≡ Some least) ⊎ (list_any (has_number least) xs ≡ true) → list_any (has_number least) (x ∷ xs) ≡ true
    there_now (inl e) = or_left (has_number least x) (list_any (has_number least) xs) (equal_is x.number least (same_Some _ _ e))
    there_now (inr t) = or_right (has_number least x) (list_any (has_number least) xs) t

    below : (other : ℕ) → nat_lt x.number other ≡ true → least ≤ other
    below other t = omega (arith, tells.no_more x.number refl, ltb-true x.number other t)

-- one that isn't is passed by
passed : (above : ℕ) (found : Option ℕ) (x : Entry) (xs : List Entry) (r : Option ℕ) → (is_above above x && is_less_than x.number found) ≡ false
    → Tells above found xs r → Tells above found (x ∷ xs) r
passed above found x xs None not_taken tells = record {
  none_found = tells.none_found;
  none_above = (low (subst (λ (f : Option ℕ). (is_above above x && is_less_than x.number f) ≡ false) tells.none_found not_taken), tells.none_above);
}
  where
    low : (is_above above x && true) ≡ false → x.number ≤ above
    low h = elim (and_cases (is_above above x) true h) [ inl e ↦ ltb-false above x.number e | inr e ↦ absurd (cc) ]
passed above found x xs (Some least) not_taken tells = record {
  is_above = tells.is_above;
  there = elim tells.there [ inl e ↦ inl e | inr t ↦ inr (or_right (has_number least x) (list_any (has_number least) xs) t) ];
  none_between = (no_less found refl, tells.none_between);
  no_more = tells.no_more;
}
  where
    no_less : (o : Option ℕ) → found ≡ o → above < x.number → least ≤ x.number
    no_less None is higher =
        elim (and_cases (is_above above x) true (subst (λ (f : Option ℕ). (is_above above x && is_less_than x.number f) ≡ false) is not_taken)) [
          | inl e ↦ absurd (both_ways (is_above above x) e (lt-ltb above x.number higher))
          | inr e ↦ absurd (cc)
        ]
    no_less (Some o) is higher =
        elim (and_cases (is_above above x) (nat_lt x.number o) (subst (λ (f : Option ℕ). (is_above above x && is_less_than x.number f) ≡ false) is not_taken)) [
          | inl e ↦ absurd (both_ways (is_above above x) e (lt-ltb above x.number higher))
          | inr e ↦ omega (arith, tells.no_more o is, ltb-false x.number o e)
        ]

tells_least : (above : ℕ) (found : Option ℕ) (entries : List Entry) → ((n : ℕ) → found ≡ Some n → above < n)
    → Tells above found entries (least_above above found entries)
tells_least above None [] higher = record { none_found = refl; none_above = tt }
tells_least above (Some n) [] higher = record {
  is_above = higher n refl;
  there = inl refl;
  none_between = tt;
  no_more = λ other same. subst (λ (m : ℕ). n ≤ m) (same_Some _ _ same) (omega arith);
}
tells_least above found (x ∷ xs) higher =
    elim (cases_Bool (is_above above x && is_less_than x.number found)) [
      | inl t ↦
          let parts = and_parts (is_above above x) (is_less_than x.number found) t in
          let step = tells_least above (Some x.number) xs
          (λ n same. subst (λ (m : ℕ). above < m) (same_Some _ _ same) (ltb-true above x.number parts.0)) in
          rw t (taken above found x xs (least_above above (Some x.number) xs) parts.1 step)
      | inr f ↦ rw f (passed above found x xs (least_above above found xs) f (tells_least above found xs higher))
    ]

pub tells : (above : ℕ) (entries : List Entry) (result : Option ℕ) → result ≡ least_above above None entries
    → Tells above None entries result
tells above entries result is = subst (Tells above None entries) (sym is) (tells_least above None entries (λ n none. absurd (none_some n none)))
  where
    none_some : (n : ℕ) → None ≡ Some n → ⊥
    none_some n e = cc

pub same_entries : (entries : List Entry) → KeepTheSame entries entries
same_entries entries = record { keeps = λ limit kept keeps. keeps; ends = λ moment all. all; number = refl }

pub same_later : (a b c : List Entry) → KeepTheSame a b → KeepTheSame b c → KeepTheSame a c
same_later a b c first second = record {
  keeps = λ limit kept keeps. second.keeps limit kept (first.keeps limit kept keeps);
  ends = λ moment all. second.ends moment (first.ends moment all);
  number = second.number ∙ first.number;
}

-- where none is above a number, none is above the next one
pub none_counted : (above : ℕ) (entries : List Entry) → AllByRecursion (λ entry. entry.number ≤ above) entries → count_above (above + 1) entries ≡ 0
none_counted above entries none =
    ap length (filter_none (is_above (above + 1)) entries (all_below entries none))
  where
    all_below : (xs : List Entry) → AllByRecursion (λ entry. entry.number ≤ above) xs → AllByRecursion (λ entry. is_above (above + 1) entry ≡ false) xs
    all_below [] all = tt
    all_below (x ∷ xs) all = (le-ltb (above + 1) x.number (omega (arith, all.0)), all_below xs all.1)

all_counted : (above : ℕ) (entries : List Entry) → count_above above entries ≤ 0 → AllByRecursion (λ entry. entry.number < above + 1) entries
all_counted above [] none = tt
all_counted above (x ∷ xs) none =
    elim (cases_Bool (is_above above x)) [
      | inl t ↦ absurd (some_none (rw t at none))
      | inr f ↦ let low = ltb-false above x.number f in (omega (arith, low), all_counted above xs (rw f at none))
    ]
  where
    some_none : suc (count_above above xs) ≤ 0 → ⊥
    some_none h = omega (arith, h)

pub all_numbered : (above : ℕ) (entries : List Entry) (next : ℕ) → count_above above entries ≤ 0 → above + 1 ≤ next
    → AllByRecursion (λ entry. entry.number < next) entries
all_numbered above entries next none le =
    AllByRecursion-implies (λ (entry : Entry). entry.number < above + 1) (λ (entry : Entry). entry.number < next) (λ entry h. omega (arith, h, le)) entries (all_counted above entries none)

pub counted_all : (entries : List Entry) → count_above 0 entries ≤ length entries
counted_all [] = omega arith
counted_all (x ∷ xs) =
    let step = counted_all xs in
    elim (cases_Bool (is_above 0 x)) [
      | inl t ↦ rw t (omega (arith, step))
      | inr f ↦ rw f (omega (arith, step))
    ]

-- the gap between a number and the least one above it
module _ (above least : ℕ) (higher : above < least) where
  abbrev by : ℕ
  by = least - above - 1

  -- numbers keep their order
  down-rises : (a b : ℕ) → (above < a → least ≤ a) → (above < b → least ≤ b) → a < b → down above by a < down above by b
  down-rises a b a_out b_out less =
      elim (cases_Bool (nat_lt above a)) [
        | inl t ↦
            let a_high = ltb-true above a t in
            let s = lt-ltb above b (omega (arith, a_high, less)) in
            rw t (rw s (omega (arith, a_out a_high, less, higher)))
        | inr f ↦
            let a_low = ltb-false above a f in
            rw f (elim (cases_Bool (nat_lt above b)) [
              | inl s ↦ rw s (omega (arith, b_out (ltb-true above b s), a_low, higher))
              | inr e ↦ rw e less
            ])
      ]

  entries-lowered : (number : List ℕ → ℕ) (kept : List Fact)
      → map (lowered above by) (entries_of number kept) ≡ entries_of (λ key. down above by (number key)) kept
  entries-lowered number [] = refl
  entries-lowered number (fact ∷ later) =
      ap (λ l. entry_for fact (down above by (number fact.key)) ∷ l) (entries-lowered number later)

  numbered-lowered : (number : List ℕ → ℕ) (kept : List Fact) → AllByRecursion (λ fact. above < number fact.key → least ≤ number fact.key) kept
      → AreNumbered number kept → AreNumbered (λ key. down above by (number key)) kept
  numbered-lowered number [] out numbered = tt
  numbered-lowered number (fact ∷ later) out numbered = (
    AllByRecursion-both (λ other. above < number other.key → least ≤ number other.key) (λ other. number fact.key < number other.key)
        (λ other. down above by (number fact.key) < down above by (number other.key))
        (λ other other_out less. down-rises (number fact.key) (number other.key) out.0 other_out less) later out.1 numbered.0,
    numbered-lowered number later out.1 numbered.1,
  )

  length-lowered : (entries : List Entry) → length (map (lowered above by) entries) ≡ length entries
  length-lowered [] = refl
  length-lowered (x ∷ xs) = ap suc (length-lowered xs)

  pub closed_same : (entries : List Entry) → AllByRecursion (HasNoneBetween above least) entries
      → KeepTheSame entries (map (lowered above by) entries)
  closed_same entries none_between = record {
    keeps = λ limit kept keeps. record {
      number = λ key. down above by (keeps.number key);
      entries = ap (map (lowered above by)) keeps.entries
          ∙ map-in_order key_in key_in (lowered above by) (λ e. refl) (entries_of keeps.number kept)
          ∙ ap (in_order key_in) (entries-lowered keeps.number kept);
      numbered = numbered-lowered keeps.number kept
          (of_facts keeps.number (λ n. above < n → least ≤ n) kept (all_in_order-back key_in (HasNoneBetween above least) (entries_of keeps.number kept)
          (subst (AllByRecursion (HasNoneBetween above least)) keeps.entries none_between))) keeps.numbered;
      distinct = keeps.distinct;
    };
    ends = λ moment all. AllByRecursion-mapped (λ (entry : Entry). moment ≤ entry.until) (λ (entry : Entry). moment ≤ entry.until) (lowered above by) entries (λ entry h. h) all;
    number = length-lowered entries;
  }

  -- an entry is above the next number only where it was above this one
  at_most : (entries : List Entry) → AllByRecursion (HasNoneBetween above least) entries
      → count_above (above + 1) (map (lowered above by) entries) ≤ count_above above entries
  at_most [] none_between = omega arith
  at_most (x ∷ xs) none_between =
      let step = at_most xs none_between.1 in
      elim (cases_Bool (nat_lt above x.number)) [
        | inl t ↦ rw t (elim (cases_Bool (nat_lt (above + 1) (x.number - by))) [
          | inl s ↦ rw s (omega (arith, step))
          | inr e ↦ rw e (omega (arith, step))
        ])
        | inr f ↦
            let low = le-ltb (above + 1) x.number (omega (arith, ltb-false above x.number f)) in
            rw f (rw low step)
      ]

  -- the least one isn't
  pub fewer : (entries : List Entry) → AllByRecursion (HasNoneBetween above least) entries → list_any (has_number least) entries ≡ true
      → count_above (above + 1) (map (lowered above by) entries) + 1 ≤ count_above above entries
  fewer [] none_between there = absurd (cc)
  fewer (x ∷ xs) none_between there =
      elim (cases_Bool (has_number least x)) [
        | inl t ↦
            let is : x.number ≡ least = eqb-true x.number least t in
            let high = lt-ltb above x.number (omega (arith, is, higher)) in
            let low = le-ltb (above + 1) (x.number - by) (omega (arith, is, higher)) in
            rw high (rw low (omega (arith, at_most xs none_between.1)))
        | inr f ↦
            let step = fewer xs none_between.1 (or_there f there) in
            elim (cases_Bool (nat_lt above x.number)) [
              | inl t ↦ rw t (elim (cases_Bool (nat_lt (above + 1) (x.number - by))) [
                | inl s ↦ rw s (omega (arith, step))
                | inr e ↦ rw e (omega (arith, step))
              ])
              | inr e ↦
                  let low = le-ltb (above + 1) x.number (omega (arith, ltb-false above x.number e)) in
                  rw e (rw low step)
            ]
      ]
    where
      or_there : has_number least x ≡ false → (has_number least x || list_any (has_number least) xs) ≡ true → list_any (has_number least) xs ≡ true
      or_there f t = rw f at t

-- what closing the gap gives
module _ (above : ℕ) (entries new : List Entry) (least : ℕ) (found : Some least ≡ least_above above None entries) where
  is_least : IsLeast above None entries least
  is_least = tells above entries (Some least) found

  pub least_higher : above < least
  least_higher = is_least.is_above

  there : list_any (has_number least) entries ≡ true
  there = elim is_least.there [ inl e ↦ absurd (none_some e) | inr t ↦ t ]
    where
      none_some : None ≡ Some least → ⊥
      none_some e = cc

  pub found_same : new ≡ map (lowered above (least - above - 1)) entries → KeepTheSame entries new
  found_same is = subst (KeepTheSame entries) (sym is) (closed_same above least least_higher entries is_least.none_between)

  pub found_fewer : new ≡ map (lowered above (least - above - 1)) entries → count_above (above + 1) new ≤ count_above above entries - 1
  found_fewer is =
      let less = fewer above least least_higher entries is_least.none_between there in
      omega (arith, ap (count_above (above + 1)) is, less)

pub missing_fewer : (above : ℕ) (entries : List Entry) → None ≡ least_above above None entries
    → count_above (above + 1) entries ≤ count_above above entries - 1
missing_fewer above entries none =
    let none_there = tells above entries None none in
    omega (arith, none_counted above entries none_there.none_above)
