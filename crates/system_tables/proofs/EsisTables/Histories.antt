-- The last facts of the keys of a table.
use Rattle.std.proofs.Common.{◌≡◌, ℕ, Bool, true, false, ◌&&◌, if◌then◌else◌, List, [], ◌∷◌, ◌++◌, Option, None, Some, is_none, refl, sym, ap, ◌∙◌, inl, inr}
use Rattle.std.proofs.lemmas.Bool.{cases_Bool, cond_both, cond-true, cond-false, and_left, and_right, and_from, and_parts}
use Rattle.std.specs.List.{AllByRecursion, find}
use Rattle.std.specs.Option.{option_or}
use Rattle.system_tables.specs.declared.esis_tables.fact.TableKind.{TableKind}
use Rattle.system_tables.specs.EsisTables.Fact.{Fact, has_key, is_about, last_of, latest, same_table}
use Rattle.system_tables.specs.EsisTables.Keeps.{AreDistinct, without}
use Rattle.pdus.proofs.ClnpBase.SameOctets.{same_from, same-back, other-back}
use Rattle.pdus.proofs.ClnpBase.Choices.{none_is, option_or-assoc, option_or-nothing}

-- a fact, if it is about this key
abbrev pub one_about : TableKind → List ℕ → Fact → Option Fact
one_about table key fact = if is_about table key fact then Some fact else None

pub last_of-push : (table : TableKind) (key : List ℕ) (facts : List Fact) (fact : Fact)
    → last_of table key (facts ++ fact ∷ []) ≡ option_or (one_about table key fact) (last_of table key facts)
last_of-push table key [] fact = sym (option_or-nothing (one_about table key fact))
last_of-push table key (first ∷ later) fact =
    ap (λ o. option_or o (one_about table key first)) (last_of-push table key later fact)
    ∙ option_or-assoc (one_about table key fact) (last_of table key later) (one_about table key first)

pub elsewhere_none : (table : TableKind) (key : List ℕ) (fact : Fact) → same_table fact.table table ≡ false → one_about table key fact ≡ None
elsewhere_none table key fact other =
    cond-false (is_about table key fact) (Some fact) None (and_left (same_table fact.table table) (has_key key fact) other)

pub other_none : (table : TableKind) (key : List ℕ) (fact : Fact) → has_key key fact ≡ false → one_about table key fact ≡ None
other_none table key fact other =
    cond-false (is_about table key fact) (Some fact) None (and_right (same_table fact.table table) (has_key key fact) other)

pub about_some : (table : TableKind) (key : List ℕ) (fact : Fact) → same_table fact.table table ≡ true → has_key key fact ≡ true
    → one_about table key fact ≡ Some fact
about_some table key fact same its =
    cond-true (is_about table key fact) (Some fact) None (and_from (same_table fact.table table) (has_key key fact) same its)

pub last_of-elsewhere : (table : TableKind) (key : List ℕ) (facts : List Fact) (fact : Fact) → same_table fact.table table ≡ false
    → last_of table key (facts ++ fact ∷ []) ≡ last_of table key facts
last_of-elsewhere table key facts fact other =
    last_of-push table key facts fact ∙ ap (λ o. option_or o (last_of table key facts)) (elsewhere_none table key fact other)

pub last_of-other : (table : TableKind) (key : List ℕ) (facts : List Fact) (fact : Fact) → has_key key fact ≡ false
    → last_of table key (facts ++ fact ∷ []) ≡ last_of table key facts
last_of-other table key facts fact other =
    last_of-push table key facts fact ∙ ap (λ o. option_or o (last_of table key facts)) (other_none table key fact other)

pub last_of-there : (table : TableKind) (key : List ℕ) (facts : List Fact) (fact : Fact) → same_table fact.table table ≡ true
    → has_key key fact ≡ true → last_of table key (facts ++ fact ∷ []) ≡ Some fact
last_of-there table key facts fact same its =
    last_of-push table key facts fact ∙ ap (λ o. option_or o (last_of table key facts)) (about_some table key fact same its)

-- the latest fact of a key is the last one
found_latest : (table : TableKind) (key : List ℕ) (fact : Fact) (latest' : List Fact) (last own : Option Fact)
    → find (has_key key) latest' ≡ last → (has_key key fact ≡ true → own ≡ last)
    → (b : Bool) → same_table fact.table table ≡ b
    → find (has_key key) (if (b && is_none own) then fact ∷ latest' else latest') ≡ option_or last (if (b && has_key key fact) then Some fact else None)
found_latest table key fact latest' last own step same false is = step ∙ sym (option_or-nothing last)
found_latest table key fact latest' last own step same true is =
    elim (cases_Bool (has_key key fact)) [
      | inl t ↦ here last step (same t) t
      | inr f ↦
          elsewhere own f ∙ sym (ap (λ b. option_or last (if b then Some fact else None)) f ∙ option_or-nothing last)
    ]
  where
    here : (o : Option Fact) → find (has_key key) latest' ≡ o → own ≡ o → has_key key fact ≡ true
        → find (has_key key) (if is_none own then fact ∷ latest' else latest') ≡ option_or o (if has_key key fact then Some fact else None)
    here None step e t =
        ap (λ x. find (has_key key) (if is_none x then fact ∷ latest' else latest')) e
        ∙ cond-true (has_key key fact) (Some fact) (find (has_key key) latest') t
        ∙ sym (cond-true (has_key key fact) (Some fact) None t)
    here (Some last) step e t = ap (λ x. find (has_key key) (if is_none x then fact ∷ latest' else latest')) e ∙ step

    elsewhere : (x : Option Fact) → has_key key fact ≡ false → find (has_key key) (if is_none x then fact ∷ latest' else latest') ≡ last
    elsewhere None f = cond-false (has_key key fact) (Some fact) (find (has_key key) latest') f ∙ step
    elsewhere (Some other) f = step

pub find_latest : (table : TableKind) (key : List ℕ) (facts : List Fact) → find (has_key key) (latest table facts) ≡ last_of table key facts
find_latest table key [] = refl
find_latest table key (fact ∷ later) =
    found_latest table key fact (latest table later) (last_of table key later) (last_of table fact.key later) (find_latest table key later)
    (λ t. ap (λ k. last_of table k later) (same_from fact.key key t)) (same_table fact.table table) refl

none_found : (p : Fact → Bool) (xs : List Fact) → find p xs ≡ None → AllByRecursion (λ x. p x ≡ false) xs
none_found p [] none = tt
none_found p (x ∷ xs) none =
    elim (cases_Bool (p x)) [
      | inl t ↦ absurd (some_none (rw t at none))
      | inr f ↦ (f, none_found p xs (rw f at none))
    ]
  where
    some_none : Some x ≡ None → ⊥
    some_none e = cc

pub distinct-latest : (table : TableKind) (facts : List Fact) → AreDistinct (latest table facts)
distinct-latest table [] = tt
distinct-latest table (fact ∷ later) =
    let own : Option Fact = last_of table fact.key later in
    cond_both (same_table fact.table table && is_none own) (fact ∷ latest table later) (latest table later) AreDistinct
    (λ t. (
      none_found (has_key fact.key) (latest table later) (find_latest table fact.key later ∙ none_is own (and_parts (same_table fact.table table) (is_none own) t).1),
      distinct-latest table later,
    ))
    (λ f. distinct-latest table later)

-- a hearing in another table changes nothing
pub latest-elsewhere : (table : TableKind) (facts : List Fact) (fact : Fact) → same_table fact.table table ≡ false
    → latest table (facts ++ fact ∷ []) ≡ latest table facts
latest-elsewhere table [] fact other = cond-false (same_table fact.table table && true) (fact ∷ []) [] (and_left (same_table fact.table table) true other)
latest-elsewhere table (first ∷ later) fact other =
    ap (λ o. if (same_table first.table table && is_none o) then first ∷ latest table (later ++ fact ∷ []) else latest table (later ++ fact ∷ []))
    (last_of-elsewhere table first.key later fact other)
    ∙ ap (λ l. if (same_table first.table table && is_none (last_of table first.key later)) then first ∷ l else l) (latest-elsewhere table later fact other)

-- a hearing puts its fact behind the others, without the earlier one of its key
pub latest-there : (table : TableKind) (facts : List Fact) (fact : Fact) → same_table fact.table table ≡ true
    → latest table (facts ++ fact ∷ []) ≡ without fact.key (latest table facts) ++ fact ∷ []
latest-there table [] fact same = cond-true (same_table fact.table table && true) (fact ∷ []) [] (and_from (same_table fact.table table) true same refl)
latest-there table (first ∷ later) fact same =
    let step = latest-there table later fact same in
    elim (cases_Bool (has_key first.key fact)) [
      | inl t ↦
          ap (λ o. if (same_table first.table table && is_none o) then first ∷ latest table (later ++ fact ∷ []) else latest table (later ++ fact ∷ []))
          (last_of-there table first.key later fact same t)
          ∙ cond-false (same_table first.table table && false) (first ∷ latest table (later ++ fact ∷ [])) (latest table (later ++ fact ∷ [])) (and_right (same_table first.table table) false refl)
          ∙ step
          ∙ ap (λ l. l ++ fact ∷ []) (sym (dropped (same_table first.table table && is_none (last_of table first.key later)) (same-back fact.key first.key t)))
      | inr f ↦
          ap (λ o. if (same_table first.table table && is_none o) then first ∷ latest table (later ++ fact ∷ []) else latest table (later ++ fact ∷ []))
          (last_of-other table first.key later fact f)
          ∙ ap (λ l. if (same_table first.table table && is_none (last_of table first.key later)) then first ∷ l else l) step
          ∙ stays (same_table first.table table && is_none (last_of table first.key later)) (other-back fact.key first.key f)
    ]
  where
    dropped : (b : Bool) → has_key fact.key first ≡ true
        → without fact.key (if b then first ∷ latest table later else latest table later) ≡ without fact.key (latest table later)
    dropped true h = rw h refl
    dropped false h = refl

    stays : (b : Bool) → has_key fact.key first ≡ false
        → (if b then first ∷ (without fact.key (latest table later) ++ fact ∷ []) else without fact.key (latest table later) ++ fact ∷ [])
        ≡ without fact.key (if b then first ∷ latest table later else latest table later) ++ fact ∷ []
    stays true h = rw h refl
    stays false h = refl
