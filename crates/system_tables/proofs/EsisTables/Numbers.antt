-- The entries of facts, and their numbers after a hearing and after one is taken out.
use Rattle.std.proofs.Common.{◌≡◌, ℕ, suc, ◌<◌, Bool, true, false, not, if◌then◌else◌, List, [], ◌∷◌, ◌++◌, Some, refl, sym, ap, subst, ◌∙◌, inl, inr, arith, length}
use Rattle.std.proofs.lemmas.Bool.{cases_Bool, cond_both, cond-true, cond-false}
use Rattle.std.proofs.lemmas.Option.{same_Some}
use Rattle.std.specs.List.{AllByRecursion, filter, find}
use Rattle.std.specs.Str.{bytes_eq}
use Rattle.system_tables.specs.declared.esis_tables.table.Entry.{Entry}
use Rattle.system_tables.specs.EsisTables.Fact.{Fact, has_key}
use Rattle.system_tables.specs.EsisTables.Keeps.{AreDistinct, AreNumbered, entries_of, without}
use Rattle.system_tables.specs.EsisTables.State.{entry_for, key_in, is_of}
use Rattle.pdus.proofs.ClnpBase.SameOctets.{same_from}
use Rattle.pdus.proofs.ClnpBase.Lists.{AllByRecursion-both, AllByRecursion-implies, AllByRecursion-map, AllByRecursion-push}
use Rattle.system_tables.proofs.EsisTables.Rising.{Differ, NoneHas, all_filter, filter_all}

module _ (number : List ℕ → ℕ) where
  -- a test that speaks of no number is the same of facts and of their entries
  none_has-entries : (key : List ℕ) (kept : List Fact) → AllByRecursion (λ fact. has_key key fact ≡ false) kept
      → NoneHas key_in key (entries_of number kept)
  none_has-entries key [] none = tt
  none_has-entries key (fact ∷ later) none = (none.0, none_has-entries key later none.1)

  pub differ-entries : (kept : List Fact) → AreDistinct kept → Differ key_in (entries_of number kept)
  differ-entries [] distinct = tt
  differ-entries (fact ∷ later) distinct = (none_has-entries fact.key later distinct.0, differ-entries later distinct.1)

  pub length-entries : (kept : List Fact) → length (entries_of number kept) ≡ length kept
  length-entries [] = refl
  length-entries (fact ∷ later) = ap suc (length-entries later)

  pub entries_of-push : (kept : List Fact) (fact : Fact)
      → entries_of number (kept ++ fact ∷ []) ≡ entries_of number kept ++ entry_for fact (number fact.key) ∷ []
  entries_of-push [] fact = refl
  entries_of-push (first ∷ later) fact = ap (λ l. entry_for first (number first.key) ∷ l) (entries_of-push later fact)

  pub entries_of-without : (key : List ℕ) (kept : List Fact)
      → entries_of number (without key kept) ≡ filter (λ e. not (is_of key e)) (entries_of number kept)
  entries_of-without key [] = refl
  entries_of-without key (fact ∷ later) =
      elim (cases_Bool (not (has_key key fact))) [
        | inl t ↦ rw t (ap (λ l. entry_for fact (number fact.key) ∷ l) (entries_of-without key later))
        | inr f ↦ rw f (entries_of-without key later)
      ]

  pub numbered-filter : (p : Fact → Bool) (kept : List Fact) → AreNumbered number kept → AreNumbered number (filter p kept)
  numbered-filter p [] numbered = tt
  numbered-filter p (fact ∷ later) numbered =
      cond_both (p fact) (fact ∷ filter p later) (filter p later) (AreNumbered number)
      (λ t. (all_filter (λ other. number fact.key < number other.key) p later numbered.0, numbered-filter p later numbered.1))
      (λ f. numbered-filter p later numbered.1)

  pub numbered-push : (kept : List Fact) (fact : Fact) → AreNumbered number kept
      → AllByRecursion (λ other. number other.key < number fact.key) kept → AreNumbered number (kept ++ fact ∷ [])
  numbered-push [] fact numbered below = (tt, tt)
  numbered-push (first ∷ later) fact numbered below = (
    AllByRecursion-push (λ other. number first.key < number other.key) later fact numbered.0 below.0,
    numbered-push later fact numbered.1 below.1,
  )

  -- what holds of the entries' numbers holds of the facts'
  pub of_facts : (P : ℕ → Type 0) (kept : List Fact) → AllByRecursion (λ entry. P entry.number) (entries_of number kept)
      → AllByRecursion (λ fact. P (number fact.key)) kept
  of_facts P kept all = AllByRecursion-map (λ (entry : Entry). P entry.number) (λ fact. entry_for fact (number fact.key)) kept all

  pub found_first : (key : List ℕ) (fact : Fact) (later : List Fact) (entry : Entry)
      → find (is_of key) (entries_of number (fact ∷ later)) ≡ Some entry → has_key key fact ≡ true → entry_for fact (number fact.key) ≡ entry
  found_first key fact later entry found t =
      same_Some _ _ (sym (cond-true (has_key key fact) (Some (entry_for fact (number fact.key))) (find (is_of key) (entries_of number later)) t) ∙ found)

  pub found_later : (key : List ℕ) (fact : Fact) (later : List Fact) (entry : Entry)
      → find (is_of key) (entries_of number (fact ∷ later)) ≡ Some entry → has_key key fact ≡ false
      → find (is_of key) (entries_of number later) ≡ Some entry
  found_later key fact later entry found f =
      sym (cond-false (has_key key fact) (Some (entry_for fact (number fact.key))) (find (is_of key) (entries_of number later)) f) ∙ found

-- numbers that say the same of some facts
module _ (a b : List ℕ → ℕ) where
  pub entries_of-same : (kept : List Fact) → AllByRecursion (λ fact. a fact.key ≡ b fact.key) kept → entries_of a kept ≡ entries_of b kept
  entries_of-same [] same = refl
  entries_of-same (fact ∷ later) same =
      ap (λ n. entry_for fact n ∷ entries_of a later) same.0 ∙ ap (λ l. entry_for fact (b fact.key) ∷ l) (entries_of-same later same.1)

  pub numbered-same : (kept : List Fact) → AllByRecursion (λ fact. a fact.key ≡ b fact.key) kept → AreNumbered a kept → AreNumbered b kept
  numbered-same [] same numbered = tt
  numbered-same (fact ∷ later) same numbered = (
    AllByRecursion-both (λ other. a fact.key < a other.key) (λ other. a other.key ≡ b other.key) (λ other. b fact.key < b other.key)
        (λ other below is. omega (arith, below, is, same.0)) later numbered.0 same.1,
    numbered-same later same.1 numbered.1,
  )

-- the numbers, where one key has another
abbrev pub with_number : List ℕ → ℕ → (List ℕ → ℕ) → List ℕ → ℕ
with_number key n number other = if bytes_eq other key then n else number other

pub others_same : (key : List ℕ) (n : ℕ) (number : List ℕ → ℕ) (kept : List Fact) → AllByRecursion (λ fact. has_key key fact ≡ false) kept
    → AllByRecursion (λ fact. number fact.key ≡ with_number key n number fact.key) kept
others_same key n number kept other =
    AllByRecursion-implies (λ fact. has_key key fact ≡ false) (λ fact. number fact.key ≡ with_number key n number fact.key)
    (λ fact f. sym (cond-false (has_key key fact) n (number fact.key) f)) kept other

pub without_none : (key : List ℕ) (kept : List Fact) → AllByRecursion (λ fact. has_key key fact ≡ false) kept → without key kept ≡ kept
without_none key kept none =
    filter_all (λ fact. not (has_key key fact)) kept (AllByRecursion-implies (λ fact. has_key key fact ≡ false) (λ fact. not (has_key key fact) ≡ true) (λ fact e. ap not e) kept none)

pub distinct-key : (key : List ℕ) (fact : Fact) (later : List Fact) → AreDistinct (fact ∷ later) → has_key key fact ≡ true
    → AllByRecursion (λ other. has_key key other ≡ false) later
distinct-key key fact later distinct same =
    subst (λ (k : List ℕ). AllByRecursion (λ other. has_key k other ≡ false) later) (same_from fact.key key same) distinct.0
