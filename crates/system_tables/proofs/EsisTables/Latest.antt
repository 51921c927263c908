-- The entry that was heard last.
use Rattle.std.proofs.Common.{◌≡◌, ℕ, ◌<◌, ◌≤◌, true, false, ◌&&◌, nat_lt, List, [], ◌∷◌, Option, None, Some, MatchOption, ◌⊎◌, refl, sym, ap, subst, ◌∙◌, inl, inr, arith, fold}
use Rattle.std.proofs.lemmas.Bool.{cases_Bool, ltb-true, ltb-false, and_parts, and_cases, both_ways, false_from_ne_true}
use Rattle.std.specs.List.{AllByRecursion, filter}
use Rattle.std.specs.Option.{option_map, option_or}
use Rattle.system_tables.specs.declared.esis_tables.fact.Neighbour.{Neighbour}
use Rattle.system_tables.specs.declared.esis_tables.table.Entry.{Entry}
use Rattle.system_tables.specs.EsisTables.Fact.{Fact, is_held}
use Rattle.system_tables.specs.EsisTables.Keeps.{AreNumbered, Keeps, entries_of}
use Rattle.system_tables.specs.EsisTables.NextHop.{last, neighbour_of}
use Rattle.system_tables.specs.EsisTables.Order.{in_order, put_in, is_before}
use Rattle.system_tables.specs.EsisTables.State.{TableState, is_kept, is_later_than, key_in, latest_kept, neighbour_in}
use Rattle.system_tables.proofs.EsisTables.Rising.{filter_none}
use Rattle.system_tables.proofs.EsisTables.Sorting.{all_in_order-back}
use Rattle.std.proofs.lemmas.Option.{same_Some}

-- the entry is one of these
abbrev Among : Entry → List Entry → Type 0
Among entry [] = ⊥
Among entry (first ∷ rest) = (first ≡ entry) ⊎ Among entry rest

-- an entry that holds has at most this number
abbrev HasNoGreater : ℕ → ℕ → Entry → Type 0
HasNoGreater now number entry = is_kept now entry ≡ true → entry.number ≤ number

-- the latest one of those that hold, and of one found before
record IsLatest (now : ℕ) (found : Option Entry) (entries : List Entry) (latest : Entry) : Type 0 where
  pub among : (found ≡ Some latest) ⊎ (Among latest entries × (is_kept now latest ≡ true))
  pub greatest : AllByRecursion (HasNoGreater now latest.number) entries
  pub found_no_later : (entry : Entry) → found ≡ Some entry → entry.number ≤ latest.number

record IsNone (now : ℕ) (found : Option Entry) (entries : List Entry) : Type 0 where
  pub none_found : found ≡ None
  pub none_holds : AllByRecursion (λ entry. is_kept now entry ≡ false) entries

abbrev Tells : ℕ → Option Entry → List Entry → Option Entry → Type 0
Tells now found entries result = MatchOption result (IsNone now found entries) (IsLatest now found entries)

taken : (now : ℕ) (found : Option Entry) (x : Entry) (xs : List Entry) (r : Option Entry) → is_kept now x ≡ true → is_later_than x found ≡ true
    → Tells now (Some x) xs r → Tells now found (x ∷ xs) r
taken now found x xs None holds later tells = absurd (some_none tells.none_found)
  where
    some_none : {e : Entry} → Some e ≡ None → ⊥
    some_none h = cc
taken now found x xs (Some latest) holds later tells = record {
  among = inr (among_more tells.among);
  greatest = ((λ _. tells.found_no_later x refl), tells.greatest);
  found_no_later = λ entry there. below entry (subst (λ (f : Option Entry). is_later_than x f ≡ true) there later);
}
  where
    among_more : (Some x ≡ Some latest) ⊎ (Among latest xs × (is_kept now latest ≡ true)) → Among latest (x ∷ xs) × (is_kept now latest ≡ true)
    among_more (inl e) = let s = same_Some _ _ e in (inl s, subst (λ (l : Entry). is_kept now l ≡ true) s holds)
    among_more (inr a) = (inr a.0, a.1)

    below : (entry : Entry) → is_later_than x (Some entry) ≡ true → entry.number ≤ latest.number
    below entry later = omega (arith, tells.found_no_later x refl, ltb-true entry.number x.number later)

kept_on : (now : ℕ) (found : Option Entry) (x : Entry) (xs : List Entry) (r : Option Entry) → (is_kept now x && is_later_than x found) ≡ false
    → Tells now found xs r → Tells now found (x ∷ xs) r
kept_on now found x xs None passed tells = record {
  none_found = tells.none_found;
  none_holds = (not_kept (subst (λ (f : Option Entry). (is_kept now x && is_later_than x f) ≡ false) tells.none_found passed), tells.none_holds);
}
  where
    not_kept : (is_kept now x && true) ≡ false → is_kept now x ≡ false
    not_kept h = elim (and_cases (is_kept now x) true h) [ inl e ↦ e | inr e ↦ absurd (cc) ]
kept_on now found x xs (Some latest) passed tells = record {
  among = among_more tells.among;
  greatest = (low found refl, tells.greatest);
  found_no_later = tells.found_no_later;
}
  where
    among_more : (found ≡ Some latest) ⊎ (Among latest xs × (is_kept now latest ≡ true)) → (found ≡ Some latest) ⊎ (Among latest (x ∷ xs) × (is_kept now latest ≡ true))
    among_more (inl e) = inl e
    among_more (inr a) = inr (inr a.0, a.1)

    low : (o : Option Entry) → found ≡ o → is_kept now x ≡ true → x.number ≤ latest.number
    low None is holds =
        elim (and_cases (is_kept now x) true (subst (λ (f : Option Entry). (is_kept now x && is_later_than x f) ≡ false) is passed)) [
          | inl e ↦ absurd (both_ways (is_kept now x) e holds)
          | inr e ↦ absurd (cc)
        ]
    low (Some o) is holds =
        elim (and_cases (is_kept now x) (nat_lt o.number x.number) (subst (λ (f : Option Entry). (is_kept now x && is_later_than x f) ≡ false) is passed)) [
          | inl e ↦ absurd (both_ways (is_kept now x) e holds)
          | inr e ↦ omega (arith, tells.found_no_later o is, ltb-false o.number x.number e)
        ]

tells_latest : (now : ℕ) (found : Option Entry) (entries : List Entry) → Tells now found entries (latest_kept now found entries)
tells_latest now None [] = record { none_found = refl; none_holds = tt }
tells_latest now (Some entry) [] = record {
  among = inl refl;
  greatest = tt;
  found_no_later = λ other same. at_most other same;
}
  where
    at_most : (other : Entry) → Some entry ≡ Some other → other.number ≤ entry.number
    at_most other same = subst (λ (e : Entry). e.number ≤ entry.number) (same_Some _ _ same) (omega arith)
tells_latest now found (x ∷ xs) =
    elim (cases_Bool (is_kept now x && is_later_than x found)) [
      | inl t ↦
          let parts = and_parts (is_kept now x) (is_later_than x found) t in
          rw t (taken now found x xs (latest_kept now (Some x) xs) parts.0 parts.1 (tells_latest now (Some x) xs))
      | inr f ↦ rw f (kept_on now found x xs (latest_kept now found xs) f (tells_latest now found xs))
    ]

among_put_in : (entry x : Entry) (xs : List Entry) → Among entry (put_in key_in x xs) → Among entry (x ∷ xs)
among_put_in entry x [] among = among
among_put_in entry x (y ∷ ys) among =
    elim (cases_Bool (is_before x.key y.key)) [
      | inl t ↦ rw t at among
      | inr f ↦ swapped (among_put_in entry x ys) (rw f at among)
    ]
  where
    swapped : (Among entry (put_in key_in x ys) → Among entry (x ∷ ys)) → (y ≡ entry) ⊎ Among entry (put_in key_in x ys) → Among entry (x ∷ y ∷ ys)
    swapped step (inl e) = inr (inl e)
    swapped step (inr a) = elim (step a) [ inl e ↦ inl e | inr b ↦ inr (inr b) ]

among_put_all : (entry : Entry) (sorted xs : List Entry) → Among entry (fold (λ s x. put_in key_in x s) sorted xs) → Among entry xs ⊎ Among entry sorted
among_put_all entry sorted [] among = inr among
among_put_all entry sorted (x ∷ xs) among =
    elim (among_put_all entry (put_in key_in x sorted) xs among) [
      | inl a ↦ inl (inr a)
      | inr a ↦ elim (among_put_in entry x sorted a) [ inl e ↦ inl (inl e) | inr b ↦ inr b ]
    ]

-- what was heard after the latest that holds doesn't hold
none_later : (now n : ℕ) (number : List ℕ → ℕ) (kept : List Fact) → AllByRecursion (λ fact. n < number fact.key) kept
    → AllByRecursion (HasNoGreater now n) (entries_of number kept) → AllByRecursion (λ fact. is_held now fact ≡ false) kept
none_later now n number [] above all = tt
none_later now n number (fact ∷ later) above all =
    (false_from_ne_true (is_held now fact) (λ holds. absurd (too_high above.0 (all.0 holds))), none_later now n number later above.1 all.1)
  where
    too_high : n < number fact.key → number fact.key ≤ n → ⊥
    too_high h k = omega (arith, h, k)

or_some : (o : Option Fact) (other : Option Fact) (neighbour : Neighbour) → option_map neighbour_of o ≡ Some neighbour → option_map neighbour_of (option_or o other) ≡ Some neighbour
or_some None other neighbour h = absurd (none_some h)
  where
    none_some : None ≡ Some neighbour → ⊥
    none_some e = cc
or_some (Some fact) other neighbour h = h

latest_place : (now : ℕ) (number : List ℕ → ℕ) (kept : List Fact) (latest : Entry) → AreNumbered number kept → Among latest (entries_of number kept)
    → is_kept now latest ≡ true → AllByRecursion (HasNoGreater now latest.number) (entries_of number kept)
    → option_map neighbour_of (last (filter (is_held now) kept)) ≡ Some latest.neighbour
latest_place now number [] latest numbered among holds greatest = absurd among
latest_place now number (fact ∷ later) latest numbered (inl e) holds greatest =
    let held : is_held now fact ≡ true = subst (λ (l : Entry). is_kept now l ≡ true) (sym e) holds in
    let high : AllByRecursion (HasNoGreater now (number fact.key)) (entries_of number later) =
    subst (λ (l : Entry). AllByRecursion (HasNoGreater now l.number) (entries_of number later)) (sym e) greatest.1 in
    let alone : filter (is_held now) later ≡ [] = filter_none (is_held now) later (none_later now (number fact.key) number later numbered.0 high) in
    rw held (rw alone (ap (λ (l : Entry). Some l.neighbour) e))
latest_place now number (fact ∷ later) latest numbered (inr a) holds greatest =
    let step = latest_place now number later latest numbered.1 a holds greatest.1 in
    elim (cases_Bool (is_held now fact)) [
      | inl t ↦ rw t (or_some (last (filter (is_held now) later)) (Some fact) latest.neighbour step)
      | inr f ↦ rw f step
    ]

none_held : (now : ℕ) (number : List ℕ → ℕ) (kept : List Fact) → AllByRecursion (λ entry. is_kept now entry ≡ false) (entries_of number kept)
    → AllByRecursion (λ fact. is_held now fact ≡ false) kept
none_held now number [] none = tt
none_held now number (fact ∷ later) none = (none.0, none_held now number later none.1)

answered : (now : ℕ) (number : List ℕ → ℕ) (kept : List Fact) (result : Option Entry) → AreNumbered number kept
    → Tells now None (in_order key_in (entries_of number kept)) result
    → option_map neighbour_in result ≡ option_map neighbour_of (last (filter (is_held now) kept))
answered now number kept None numbered tells =
    let none = all_in_order-back key_in (λ entry. is_kept now entry ≡ false) (entries_of number kept) tells.none_holds in
    sym (ap (λ l. option_map neighbour_of (last l)) (filter_none (is_held now) kept (none_held now number kept none)))
answered now number kept (Some latest) numbered tells =
    elim tells.among [
      | inl e ↦ absurd (none_some e)
      | inr a ↦
          elim (among_put_all latest [] (entries_of number kept) a.0) [
            | inl b ↦ sym (latest_place now number kept latest numbered b a.1 (all_in_order-back key_in (HasNoGreater now latest.number) (entries_of number kept) tells.greatest))
            | inr b ↦ absurd b
          ]
    ]
  where
    none_some : None ≡ Some latest → ⊥
    none_some e = cc

-- the place of the entry heard last is that of the kept fact heard last
pub last_kept : (now : ℕ) (table : TableState) (kept : List Fact) → Keeps table kept
    → option_map neighbour_in (latest_kept now None table.entries) ≡ option_map neighbour_of (last (filter (is_held now) kept))
last_kept now table kept keeps =
    ap (λ l. option_map neighbour_in (latest_kept now None l)) keeps.entries
    ∙ answered now keeps.number kept (latest_kept now None (in_order key_in (entries_of keeps.number kept))) keeps.numbered
    (tells_latest now None (in_order key_in (entries_of keeps.number kept)))
