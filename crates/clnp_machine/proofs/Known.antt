-- What is heard a second time at one moment is nothing new.
use Rattle.std.proofs.Common.{◌≡◌, ◌∙◌, refl, sym, ap, subst, ℕ, ◌+◌, ◌≤◌, ◌⊎◌, inl, inr, Bool, true, false, List, [], ◌∷◌, ◌++◌, length, length-append, None, Some, is_some, arith}
use Rattle.std.specs.Prelude.{◌==◌, ◌||◌, nat_le, if◌then◌else◌}
use Rattle.std.specs.List.{AllByRecursion, filter, list_any}
use Rattle.std.proofs.lemmas.Bool.{cases_Bool, cond_both, lt-ltb, le-leb, leb-true, eqb-false}
use Rattle.clnp_plan.proofs.ClnpBase.Lists.{AllByRecursion-implies}
use Rattle.clnp_plan.specs.SystemTables.declared.esis_tables.fact.EsisLimits.{EsisLimits}
use Rattle.clnp_plan.specs.SystemTables.declared.esis_tables.fact.Heard.{Heard}
use Rattle.clnp_plan.specs.SystemTables.declared.esis_tables.fact.Heard.TheVariants.{New, Again, Zero, Full}
use Rattle.clnp_plan.specs.SystemTables.declared.esis_tables.fact.Neighbour.{Neighbour}
use Rattle.clnp_plan.specs.SystemTables.declared.esis_tables.fact.TableKind.{TableKind}
use Rattle.clnp_plan.specs.SystemTables.declared.esis_tables.fact.TableKind.TheVariants.{Es}
use Rattle.clnp_plan.specs.EsisTables.Fact.{Fact, after, answer, current, currents, end_of, has_key, hearing, is_held, is_noted, latest, limit_of, while_held}
use Rattle.clnp_plan.specs.EsisTables.Keeps.{AreDistinct, without}
use Rattle.clnp_plan.proofs.ClnpBase.SameOctets.{same_from, same-itself}
use Rattle.clnp_plan.proofs.EsisTables.Current.{currents-there, same_table-itself}
use Rattle.clnp_plan.proofs.EsisTables.Histories.{distinct-latest, last_of-other, last_of-there}
use Rattle.clnp_plan.specs.declared.note.Note.TheVariants.{Hear}
use Rattle.clnp_machine.specs.System.{SystemState, Notes}
use Rattle.clnp_machine.specs.Esis.{esis_limits, hears, hears_each, tells_new}

-- among facts of different keys there is at most one of a key

none_with : (key : List ℕ) (p : Fact → Bool) (facts : List Fact) → AllByRecursion (λ other. has_key key other ≡ false) facts
    → without key (filter p facts) ≡ filter p facts
none_with key p [] none = refl
none_with key p (fact ∷ later) none =
    elim (cases_Bool (p fact)) [
      | inl t ↦ rw (t, none.0) (ap (λ l. fact ∷ l) (none_with key p later none.1))
      | inr f ↦ rw f (none_with key p later none.1)
    ]

one_less : (key : List ℕ) (p : Fact → Bool) (facts : List Fact) → AreDistinct facts → length (filter p facts) ≤ length (without key (filter p facts)) + 1
one_less key p [] distinct = omega arith
one_less key p (fact ∷ later) distinct =
    elim (cases_Bool (p fact)) [
      | inl t ↦ rw t (elim (cases_Bool (has_key key fact)) [
        | inl its ↦ (
            let P : List ℕ → Type 0 = λ k. AllByRecursion (λ other. has_key k other ≡ false) later in
            let none = none_with key p later (subst P (same_from fact.key key its) distinct.0) in
            let same : length (without key (filter p later)) ≡ length (filter p later) = ap length none in
            rw its (omega arith))
        | inr other ↦ (let few = one_less key p later distinct.1 in rw other (omega arith))
      ])
      | inr f ↦ (let few = one_less key p later distinct.1 in rw f few)
    ]

by_answer : (zero known full : Bool) (kept : ℕ) → (if zero then Zero else if known then Again else if full then Full kept else New) ≡ New
    → (zero ≡ false) × (known ≡ false) × (full ≡ false)
by_answer true known full kept new = absurd (cc)
by_answer false true full kept new = absurd (cc)
by_answer false false true kept new = absurd (cc)
by_answer false false false kept new = (refl, refl, refl)

-- hearings of a table at a moment
module _ (limits : EsisLimits) (now : ℕ) (table : TableKind) (neighbour : Neighbour) (holding : ℕ) where
  abbrev heard : List ℕ → Fact
  heard key = hearing now table key neighbour holding

  -- nothing new can be heard of a key: it is to be held no time, it is known, or the table is full
  abbrev pub IsKnown : List ℕ → List Fact → Type 0
  IsKnown key facts =
      ((holding == 0) ≡ true) ⊎ (is_some (current now table key facts) ≡ true) ⊎ (nat_le (limit_of table limits) (length (currents now table facts)) ≡ true)

  pub not_new : (key : List ℕ) (facts : List Fact) → IsKnown key facts → answer limits (heard key) facts ≡ New → ⊥
  not_new key facts known new =
      let (zero, again, full) =
      by_answer (holding == 0) (is_some (current now table key facts)) (nat_le (limit_of table limits) (length (currents now table facts)))
      (length (currents now table facts)) new
      in
      elim known [
        | inl z ↦ cc
        | inr (inl k) ↦ cc
        | inr (inr f) ↦ cc
      ]

  held_now : (key : List ℕ) → (holding == 0) ≡ false → is_held now (heard key) ≡ true
  held_now key lasts = let some = eqb-false holding 0 lasts in lt-ltb now (end_of (heard key)) (omega arith)

  current_now : (key : List ℕ) (facts : List Fact) → (holding == 0) ≡ false → is_some (current now table key (facts ++ heard key ∷ [])) ≡ true
  current_now key facts lasts =
      ap (λ o. is_some (while_held now o)) (last_of-there table key facts (heard key) (same_table-itself table) (same-itself key))
      ∙ ap (λ b. is_some (if b then Some (heard key) else None)) (held_now key lasts)

  pushed : (key other : List ℕ) (facts : List Fact) → IsKnown key facts → IsKnown key (facts ++ heard other ∷ [])
  pushed key other facts known =
      elim (cases_Bool (holding == 0)) [
        | inl zero ↦ inl zero
        | inr lasts ↦ elim known [
          | inl zero ↦ inl zero
          | inr (inl again) ↦ inr (inl (again_pushed lasts again))
          | inr (inr full) ↦ inr (inr (full_pushed lasts full))
        ]
      ]
    where
      again_pushed : (holding == 0) ≡ false → is_some (current now table key facts) ≡ true → is_some (current now table key (facts ++ heard other ∷ [])) ≡ true
      again_pushed lasts again =
          elim (cases_Bool (has_key key (heard other))) [
            | inl its ↦
                ap (λ o. is_some (while_held now o)) (last_of-there table key facts (heard other) (same_table-itself table) its)
                ∙ ap (λ b. is_some (if b then Some (heard other) else None)) (held_now other lasts)
            | inr not_its ↦ ap (λ o. is_some (while_held now o)) (last_of-other table key facts (heard other) not_its) ∙ again
          ]

      full_pushed : (holding == 0) ≡ false → nat_le (limit_of table limits) (length (currents now table facts)) ≡ true
          → nat_le (limit_of table limits) (length (currents now table (facts ++ heard other ∷ []))) ≡ true
      full_pushed lasts full =
          let there = ap length (currents-there now (heard other) facts (same_table-itself table)) in
          let long = length-append (without other (currents now table facts)) (filter (is_held now) (heard other ∷ [])) in
          let one : length (filter (is_held now) (heard other ∷ [])) ≡ 1 = ap (λ b. length (if b then heard other ∷ [] else [])) (held_now other lasts) in
          let few = one_less other (is_held now) (latest table facts) (distinct-latest table facts) in
          let most = leb-true (limit_of table limits) (length (currents now table facts)) full in
          le-leb (limit_of table limits) (length (currents now table (facts ++ heard other ∷ []))) (omega arith)

  -- it stays so when another key is heard of
  pub stays_known : (key other : List ℕ) (facts : List Fact) → IsKnown key facts → IsKnown key (after limits (heard other) facts)
  stays_known key other facts known =
      cond_both (is_noted (answer limits (heard other) facts)) (facts ++ heard other ∷ []) facts (IsKnown key)
      (λ noted. pushed key other facts known) (λ left. known)

  -- and it is so once the key was heard of
  pub becomes_known : (key : List ℕ) (facts : List Fact) → IsKnown key (after limits (heard key) facts)
  becomes_known key facts =
      elim (cases_Bool (holding == 0)) [
        | inl zero ↦ inl zero
        | inr lasts ↦
            cond_both (is_noted (answer limits (heard key) facts)) (facts ++ heard key ∷ []) facts (IsKnown key)
            (λ noted. inr (inl (current_now key facts lasts)))
            (λ left. inr (inr (full_else (is_some (current now table key facts)) (nat_le (limit_of table limits) (length (currents now table facts)))
            (length (currents now table facts)) (ap (λ z. is_noted (if z then Zero else if is_some (current now table key facts) then Again else if nat_le (limit_of table limits) (length (currents now table facts)) then Full (length (currents now table facts)) else New)) (sym lasts) ∙ left))))
      ]
    where
      full_else : (known full : Bool) (kept : ℕ) → is_noted (if false then Zero else if known then Again else if full then Full kept else New) ≡ false → full ≡ true
      full_else true full kept left = absurd (cc)
      full_else false true kept left = refl
      full_else false false kept left = absurd (cc)

-- addresses that are heard, one after another

-- nothing new can be heard by a system of an address of an end system
abbrev pub IsKnownTo : Neighbour → ℕ → SystemState → List ℕ → Type 0
IsKnownTo neighbour holding s key = IsKnown (esis_limits s) s.moment Es neighbour holding key s.facts

pub told_old : (table : TableKind) (key : List ℕ) (heard : Heard) → (heard ≡ New → ⊥) → tells_new (Notes (Hear table key heard)) ≡ false
told_old table key New old = absurd (old refl)
told_old table key Again old = refl
told_old table key Zero old = refl
told_old table key (Full kept) old = refl

module _ (neighbour : Neighbour) (holding : ℕ) where
  pub none_new : (s : SystemState) (addresses : List (List ℕ)) → AllByRecursion (IsKnownTo neighbour holding s) addresses
      → list_any tells_new (hears_each s addresses neighbour holding).outputs ≡ false
  none_new s [] known = refl
  none_new s (address ∷ others) known =
      let t = (hears s Es address neighbour holding).after in
      ap (λ (first : Bool). first || list_any tells_new (hears_each t others neighbour holding).outputs)
      (told_old Es address (answer (esis_limits s) (hearing s.moment Es address neighbour holding) s.facts)
      (not_new (esis_limits s) s.moment Es neighbour holding address s.facts known.0))
      ∙ none_new t others
      (AllByRecursion-implies (IsKnownTo neighbour holding s) (IsKnownTo neighbour holding t)
      (λ key is. stays_known (esis_limits s) s.moment Es neighbour holding key address s.facts is) others known.1)

  stays_known_to : (s : SystemState) (addresses : List (List ℕ)) (key : List ℕ) → IsKnownTo neighbour holding s key
      → IsKnownTo neighbour holding (hears_each s addresses neighbour holding).after key
  stays_known_to s [] key known = known
  stays_known_to s (address ∷ others) key known =
      stays_known_to (hears s Es address neighbour holding).after others key
      (stays_known (esis_limits s) s.moment Es neighbour holding key address s.facts known)

  pub all_known : (s : SystemState) (addresses : List (List ℕ))
      → AllByRecursion (IsKnownTo neighbour holding (hears_each s addresses neighbour holding).after) addresses
  all_known s [] = tt
  all_known s (address ∷ others) = (
    stays_known_to (hears s Es address neighbour holding).after others address (becomes_known (esis_limits s) s.moment Es neighbour holding address s.facts),
    all_known (hears s Es address neighbour holding).after others,
  )
