-- No table has more current keys than it may keep.
use Rattle.std.proofs.Common.{◌≡◌, ℕ, suc, ◌+◌, ◌<◌, ◌≤◌, ◌==◌, true, false, cond, not, nat_le, List, [], ◌∷◌, ◌++◌, is_some, refl, ap, subst, ◌∙◌, inl, inr, arith, length, length-append, fold}
use Rattle.std.proofs.lemmas.Bool.{cases_Bool, cond_both, cond-true, cond-false, le-ltb, leb-false, eqb-true}
use Rattle.std.specs.List.{filter, find}
use Rattle.system_tables.specs.declared.esis_tables.fact.EsisLimits.{EsisLimits}
use Rattle.system_tables.specs.declared.esis_tables.fact.Heard.{Heard}
use Rattle.system_tables.specs.declared.esis_tables.fact.Heard.TheVariants.{New, Again, Zero, Full}
use Rattle.system_tables.specs.declared.esis_tables.fact.TableKind.{TableKind}
use Rattle.system_tables.specs.declared.esis_tables.fact.TableKind.TheVariants.{Es, Is, Rd}
use Rattle.system_tables.specs.EsisTables.Claims.{NeverFall, heard_all}
use Rattle.system_tables.specs.EsisTables.Fact.{Fact, after, answer, current, currents, end_of, has_key, is_held, is_noted, limit_of, same_table}
use Rattle.system_tables.specs.EsisTables.Keeps.{without}
use Rattle.system_tables.proofs.EsisTables.Current.{after-elsewhere, currents-there, found_current, fewer_later, same_table-itself}

same_table-from : (a b : TableKind) → same_table a b ≡ true → a ≡ b
same_table-from Es Es h = refl
same_table-from Is Is h = refl
same_table-from Rd Rd h = refl
same_table-from Es Is h = absurd (cc)
same_table-from Es Rd h = absurd (cc)
same_table-from Is Es h = absurd (cc)
same_table-from Is Rd h = absurd (cc)
same_table-from Rd Es h = absurd (cc)
same_table-from Rd Is h = absurd (cc)

fewer_without : (key : List ℕ) (facts : List Fact) → length (without key facts) ≤ length facts
fewer_without key [] = omega arith
fewer_without key (fact ∷ later) =
    let step = fewer_without key later in
    cond_both (not (has_key key fact)) (fact ∷ without key later) (without key later) (λ l. length l ≤ suc (length later))
    (λ t. omega arith) (λ f. omega arith)

-- with one of this key there is at least one less without it
one_less : (key : List ℕ) (facts : List Fact) → is_some (find (has_key key) facts) ≡ true → length (without key facts) < length facts
one_less key [] found = absurd (cc)
one_less key (fact ∷ later) found =
    elim (cases_Bool (has_key key fact)) [
      | inl t ↦ let few = fewer_without key later in rw t (omega arith)
      | inr f ↦ let few = one_less key later (rw f at found) in rw f (omega arith)
    ]

at_most_one : (now : ℕ) (fact : Fact) → length (filter (is_held now) (fact ∷ [])) ≤ 1
at_most_one now fact = cond_both (is_held now fact) (fact ∷ []) [] (λ l. length l ≤ 1) (λ t. omega arith) (λ f. omega arith)

-- a hearing of this table
module _ (limits : EsisLimits) (fact : Fact) (facts : List Fact) where
  grown : length (currents fact.moment fact.table (facts ++ fact ∷ []))
      ≡ length (without fact.key (currents fact.moment fact.table facts)) + length (filter (is_held fact.moment) (fact ∷ []))
  grown = ap length (currents-there fact.moment fact facts (same_table-itself fact.table))
      ∙ length-append (without fact.key (currents fact.moment fact.table facts)) (filter (is_held fact.moment) (fact ∷ []))

  pub there_within : length (currents fact.moment fact.table facts) ≤ limit_of fact.table limits
      → length (currents fact.moment fact.table (after limits fact facts)) ≤ limit_of fact.table limits
  there_within within =
      elim (cases_Bool (fact.holding == 0)) [
        | inl zero ↦ zero_within zero
        | inr lasts ↦
            elim (cases_Bool (is_some (current fact.moment fact.table fact.key facts))) [
              | inl again ↦ again_within lasts again
              | inr new ↦
                  elim (cases_Bool (nat_le (limit_of fact.table limits) (length (currents fact.moment fact.table facts)))) [
                    | inl full ↦ full_within lasts new full
                    | inr room ↦ new_within lasts new room
                  ]
            ]
      ]
    where
      few : length (without fact.key (currents fact.moment fact.table facts)) ≤ length (currents fact.moment fact.table facts)
      few = fewer_without fact.key (currents fact.moment fact.table facts)

      becomes : (a : Heard) → answer limits fact facts ≡ a → is_noted a ≡ true → after limits fact facts ≡ facts ++ fact ∷ []
      becomes a is noted = cond-true (is_noted (answer limits fact facts)) (facts ++ fact ∷ []) facts (ap is_noted is ∙ noted)

      zero_within : (fact.holding == 0) ≡ true → length (currents fact.moment fact.table (after limits fact facts)) ≤ limit_of fact.table limits
      zero_within zero =
          let ended : end_of fact ≤ fact.moment = omega (arith, eqb-true fact.holding 0 zero) in
          let none : length (filter (is_held fact.moment) (fact ∷ [])) ≡ 0 =
          ap (λ b. length (cond b (fact ∷ []) [])) (le-ltb fact.moment (end_of fact) ended) in
          let is : after limits fact facts ≡ facts ++ fact ∷ [] = becomes Zero (rw zero refl) refl in
          omega (arith, ap (λ l. length (currents fact.moment fact.table l)) is, grown, few, none, within)

      again_within : (fact.holding == 0) ≡ false → is_some (current fact.moment fact.table fact.key facts) ≡ true
          → length (currents fact.moment fact.table (after limits fact facts)) ≤ limit_of fact.table limits
      again_within lasts again =
          let is : after limits fact facts ≡ facts ++ fact ∷ [] = becomes Again (rw (lasts, again) refl) refl in
          let less = one_less fact.key (currents fact.moment fact.table facts) (ap is_some (found_current fact.moment fact.table fact.key facts) ∙ again) in
          omega (arith, ap (λ l. length (currents fact.moment fact.table l)) is, grown, less, at_most_one fact.moment fact, within)

      full_within : (fact.holding == 0) ≡ false → is_some (current fact.moment fact.table fact.key facts) ≡ false
          → nat_le (limit_of fact.table limits) (length (currents fact.moment fact.table facts)) ≡ true
          → length (currents fact.moment fact.table (after limits fact facts)) ≤ limit_of fact.table limits
      full_within lasts new full =
          let answered : answer limits fact facts ≡ Full (length (currents fact.moment fact.table facts)) = rw (lasts, new, full) refl in
          let is : after limits fact facts ≡ facts = cond-false (is_noted (answer limits fact facts)) (facts ++ fact ∷ []) facts (ap is_noted answered) in
          omega (arith, ap (λ l. length (currents fact.moment fact.table l)) is, within)

      new_within : (fact.holding == 0) ≡ false → is_some (current fact.moment fact.table fact.key facts) ≡ false
          → nat_le (limit_of fact.table limits) (length (currents fact.moment fact.table facts)) ≡ false
          → length (currents fact.moment fact.table (after limits fact facts)) ≤ limit_of fact.table limits
      new_within lasts new room =
          let is : after limits fact facts ≡ facts ++ fact ∷ [] = becomes New (rw (lasts, new, room) refl) refl in
          let below = leb-false (limit_of fact.table limits) (length (currents fact.moment fact.table facts)) room in
          omega (arith, ap (λ l. length (currents fact.moment fact.table l)) is, grown, few, at_most_one fact.moment fact, below)

-- no table has more current facts than its limit
abbrev Within : EsisLimits → ℕ → List Fact → Type 0
Within limits now facts = (table : TableKind) → length (currents now table facts) ≤ limit_of table limits

heard_within : (limits : EsisLimits) (fact : Fact) (facts : List Fact) → Within limits fact.moment facts → Within limits fact.moment (after limits fact facts)
heard_within limits fact facts within table =
    elim (cases_Bool (same_table fact.table table)) [
      | inl same ↦
          let P : TableKind → Type 0 = λ t. length (currents fact.moment t (after limits fact facts)) ≤ limit_of t limits in
          subst P (same_table-from fact.table table same) (there_within limits fact facts (within fact.table))
      | inr other ↦ omega (arith, ap length (after-elsewhere table fact.moment limits fact facts other), within table)
    ]

all_within : (limits : EsisLimits) (before : ℕ) (facts hearings : List Fact) (now : ℕ) (table : TableKind) → Within limits before facts
    → NeverFall before hearings now → length (currents now table (fold (λ known fact. after limits fact known) facts hearings)) ≤ limit_of table limits
all_within limits before facts [] now table within order = omega (arith, fewer_later before now table facts order, within table)
all_within limits before facts (fact ∷ later) now table within order =
    all_within limits fact.moment (after limits fact facts) later now table
    (heard_within limits fact facts (λ t. omega (arith, fewer_later before fact.moment t facts order.0, within t))) order.1

pub never_passed : (limits : EsisLimits) (hearings : List Fact) (now : ℕ) (table : TableKind) → NeverFall 0 hearings now
    → length (currents now table (heard_all limits hearings)) ≤ limit_of table limits
never_passed limits hearings now table order = all_within limits 0 [] hearings now table (λ t. omega arith) order
