-- Which keys are gone.
use Rattle.std.proofs.Common.{◌≡◌, ℕ, ◌≤◌, Bool, false, ◌&&◌, ◌||◌, not, List, [], ◌∷◌, is_none, is_some, refl, ap, ◌∙◌, inl, inr, map}
use Rattle.std.proofs.lemmas.Bool.{cases_Bool, or_left}
use Rattle.std.specs.List.{AllByRecursion, filter, find, list_any}
use Rattle.std.specs.Str.{bytes_eq}
use Rattle.system_tables.specs.declared.esis_tables.fact.TableKind.{TableKind}
use Rattle.system_tables.specs.EsisTables.Fact.{Fact, current, currents, has_key, is_held, latest, while_held}
use Rattle.system_tables.specs.EsisTables.Gone.{gone_keys, key_of}
use Rattle.system_tables.specs.EsisTables.Keeps.{AreDistinct}
use Rattle.system_tables.specs.EsisTables.Order.{IsRising}
use Rattle.system_tables.proofs.EsisTables.Numbers.{distinct-key}
use Rattle.system_tables.proofs.EsisTables.Histories.{distinct-latest, find_latest}
use Rattle.system_tables.proofs.EsisTables.Rising.{Differ, NoneHas, all_filter}
use Rattle.system_tables.proofs.EsisTables.Sorting.{in_order-rising, list_any-in_order}

none_keys : (key : List ℕ) (facts : List Fact) → AllByRecursion (λ fact. has_key key fact ≡ false) facts → NoneHas (λ k. k) key (map key_of facts)
none_keys key [] none = tt
none_keys key (fact ∷ later) none = (none.0, none_keys key later none.1)

differ-keys : (facts : List Fact) → AreDistinct facts → Differ (λ key. key) (map key_of facts)
differ-keys [] distinct = tt
differ-keys (fact ∷ later) distinct = (none_keys fact.key later distinct.0, differ-keys later distinct.1)

distinct-filter : (p : Fact → Bool) (facts : List Fact) → AreDistinct facts → AreDistinct (filter p facts)
distinct-filter p [] distinct = tt
distinct-filter p (fact ∷ later) distinct =
    elim (cases_Bool (p fact)) [
      | inl t ↦ rw t (all_filter (λ other. has_key fact.key other ≡ false) p later distinct.0, distinct-filter p later distinct.1)
      | inr f ↦ rw f (distinct-filter p later distinct.1)
    ]

pub gone_rise : (before now : ℕ) (table : TableKind) (facts : List Fact) → IsRising (λ key. key) (gone_keys before now table facts)
gone_rise before now table facts =
    let left : List Fact = filter (λ fact. not (is_held now fact)) (currents before table facts) in
    in_order-rising (λ (key : List ℕ). key) (map key_of left) (differ-keys left
    (distinct-filter (λ fact. not (is_held now fact)) (currents before table facts) (distinct-filter (is_held before) (latest table facts) (distinct-latest table facts))))

any-keys : (key : List ℕ) (facts : List Fact) → list_any (λ other. bytes_eq other key) (map key_of facts) ≡ list_any (has_key key) facts
any-keys key [] = refl
any-keys key (fact ∷ later) = ap (λ b. has_key key fact || b) (any-keys key later)

-- the one of a key, where it is held at a moment and not at another
found_gone : (before now : ℕ) (key : List ℕ) (facts : List Fact) → AreDistinct facts
    → list_any (has_key key) (filter (λ fact. not (is_held now fact)) (filter (is_held before) facts))
    ≡ (is_some (while_held before (find (has_key key) facts)) && is_none (while_held now (find (has_key key) facts)))
found_gone before now key [] distinct = refl
found_gone before now key (fact ∷ later) distinct =
    let rest : List Fact = filter (λ other. not (is_held now other)) (filter (is_held before) later) in
    let step = found_gone before now key later distinct.1 in
    elim (cases_Bool (has_key key fact)) [
      | inl c ↦
          let none : list_any (has_key key) rest ≡ false =
          none_any rest (all_filter (λ other. has_key key other ≡ false) (λ other. not (is_held now other)) (filter (is_held before) later)
          (all_filter (λ other. has_key key other ≡ false) (is_held before) later (distinct-key key fact later distinct c))) in
          rw c (elim (cases_Bool (is_held before fact)) [
            | inl b ↦ rw b (elim (cases_Bool (is_held now fact)) [
              | inl n ↦ rw n none
              | inr n ↦ rw n (or_left (has_key key fact) (list_any (has_key key) rest) c)
            ])
            | inr b ↦ rw b none
          ])
      | inr c ↦
          rw c (elim (cases_Bool (is_held before fact)) [
            | inl b ↦ rw b (elim (cases_Bool (is_held now fact)) [
              | inl n ↦ rw n step
              | inr n ↦ rw n (ap (λ a. a || list_any (has_key key) rest) c ∙ step)
            ])
            | inr b ↦ rw b step
          ])
    ]
  where
    none_any : (some : List Fact) → AllByRecursion (λ other. has_key key other ≡ false) some → list_any (has_key key) some ≡ false
    none_any [] none = refl
    none_any (x ∷ some) none = rw none.0 (none_any some none.1)

pub gone_those : (before now : ℕ) (table : TableKind) (facts : List Fact) (key : List ℕ) → before ≤ now
    → list_any (λ other. bytes_eq other key) (gone_keys before now table facts)
    ≡ (is_some (current before table key facts) && is_none (current now table key facts))
gone_those before now table facts key le =
    let left : List Fact = filter (λ fact. not (is_held now fact)) (currents before table facts) in
    list_any-in_order (λ (k : List ℕ). k) (λ other. bytes_eq other key) (map key_of left)
    ∙ any-keys key left
    ∙ found_gone before now key (latest table facts) (distinct-latest table facts)
    ∙ ap (λ o. is_some (while_held before o) && is_none (while_held now o)) (find_latest table key facts)
