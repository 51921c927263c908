-- What a redirect leaves as it is, and how long a fact is current.
use Rattle.std.proofs.Common.{◌≡◌, ℕ, ◌<◌, true, false, cond, List, [], ◌∷◌, ◌++◌, None, Some, refl, ap, ◌∙◌}
use Rattle.std.proofs.lemmas.Bool.{cond_both, cond-true, and_from, false_from_ne_true, lt-ltb}
use Rattle.std.specs.List.{AllByRecursion}
use Rattle.std.specs.Option.{option_map, option_or}
use Rattle.system_tables.specs.declared.esis_tables.fact.EsisLimits.{EsisLimits}
use Rattle.system_tables.specs.declared.esis_tables.fact.TableKind.{TableKind}
use Rattle.system_tables.specs.declared.esis_tables.fact.TableKind.TheVariants.{Es, Is, Rd}
use Rattle.system_tables.specs.EsisTables.Fact.{Fact, after, answer, current, currents, end_of, has_key, is_about, is_held, is_noted, last_of, same_table, while_held}
use Rattle.system_tables.specs.EsisTables.NextHop.{last, next_hop, neighbour_of}
use Rattle.pdus.proofs.ClnpBase.SameOctets.{same_from, same-itself}
use Rattle.system_tables.proofs.EsisTables.Current.{after-elsewhere, same_table-itself}
use Rattle.system_tables.proofs.EsisTables.Histories.{last_of-elsewhere, last_of-other}

-- a property of the facts that a hearing doesn't change
unless_noted : {A : Type 0} (f : List Fact → A) (limits : EsisLimits) (heard : Fact) (facts : List Fact) → f (facts ++ heard ∷ []) ≡ f facts
    → f (after limits heard facts) ≡ f facts
unless_noted f limits heard facts same =
    cond_both (is_noted (answer limits heard facts)) (facts ++ heard ∷ []) facts (λ l. f l ≡ f facts) (λ t. same) (λ e. refl)

module _ (limits : EsisLimits) (heard : Fact) (facts : List Fact) (now : ℕ) where
  pub others_stay : (destination : List ℕ) → heard.table ≡ Rd → (heard.key ≡ destination → ⊥)
      → current now Rd destination (after limits heard facts) ≡ current now Rd destination facts
  others_stay destination redirect other =
      let differ : has_key destination heard ≡ false = false_from_ne_true (has_key destination heard) (λ t. other (same_from heard.key destination t)) in
      ap (while_held now) (unless_noted (last_of Rd destination) limits heard facts (last_of-other Rd destination facts heard differ))

  pub systems_stay : (key : List ℕ) → heard.table ≡ Rd → current now Es key (after limits heard facts) ≡ current now Es key facts
  systems_stay key redirect =
      let elsewhere : same_table heard.table Es ≡ false = ap (λ t. same_table t Es) redirect in
      ap (while_held now) (unless_noted (last_of Es key) limits heard facts (last_of-elsewhere Es key facts heard elsewhere))

  pub routers_stay : heard.table ≡ Rd → currents now Is (after limits heard facts) ≡ currents now Is facts
  routers_stay redirect = after-elsewhere Is now limits heard facts (ap (λ t. same_table t Is) redirect)

  pub hops_stay : (destination : List ℕ) → heard.table ≡ Rd → (heard.key ≡ destination → ⊥)
      → next_hop now destination (after limits heard facts) ≡ next_hop now destination facts
  hops_stay destination redirect other =
      ap (λ o. option_or (option_map neighbour_of o) (option_or (option_map neighbour_of (current now Es destination (after limits heard facts)))
      (option_map neighbour_of (last (currents now Is (after limits heard facts)))))) (others_stay destination redirect other)
      ∙ ap (λ o. option_or (option_map neighbour_of (current now Rd destination facts)) (option_or (option_map neighbour_of o)
      (option_map neighbour_of (last (currents now Is (after limits heard facts)))))) (systems_stay destination redirect)
      ∙ ap (λ l. option_or (option_map neighbour_of (current now Rd destination facts)) (option_or (option_map neighbour_of (current now Es destination facts))
      (option_map neighbour_of (last l)))) (routers_stay redirect)

none_later : (table : TableKind) (key : List ℕ) (later : List Fact) → AllByRecursion (λ other. is_about table key other ≡ false) later
    → last_of table key later ≡ None
none_later table key [] none = refl
none_later table key (other ∷ later) none = rw none.0 (ap (λ o. option_or o None) (none_later table key later none.1))

last_is : (table : TableKind) (key : List ℕ) (earlier later : List Fact) (fact : Fact) → last_of table key later ≡ Some fact
    → last_of table key (earlier ++ later) ≡ Some fact
last_is table key [] later fact found = found
last_is table key (first ∷ earlier) later fact found =
    ap (λ o. option_or o (cond (is_about table key first) (Some first) None)) (last_is table key earlier later fact found)

pub holds_until : (earlier later : List Fact) (fact : Fact) (now : ℕ)
    → AllByRecursion (λ other. is_about fact.table fact.key other ≡ false) later → now < end_of fact
    → current now fact.table fact.key (earlier ++ fact ∷ later) ≡ Some fact
holds_until earlier later fact now none holds =
    let about : is_about fact.table fact.key fact ≡ true =
    and_from (same_table fact.table fact.table) (has_key fact.key fact) (same_table-itself fact.table) (same-itself fact.key) in
    let found : last_of fact.table fact.key (fact ∷ later) ≡ Some fact =
    ap (λ o. option_or o (cond (is_about fact.table fact.key fact) (Some fact) None)) (none_later fact.table fact.key later none)
    ∙ cond-true (is_about fact.table fact.key fact) (Some fact) None about in
    ap (while_held now) (last_is fact.table fact.key earlier (fact ∷ later) fact found)
    ∙ cond-true (is_held now fact) (Some fact) None (lt-ltb now (end_of fact) holds)
