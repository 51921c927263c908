-- What the maps have after a route was put in or taken out, and what is looked up in them.
use Rattle.std.proofs.Common.{◌≡◌, ◌∙◌, ℕ, ◌+◌, ◌≤◌, true, false, cond, List, Option, Some, None, ap, arith, inl, inr, length, refl, sym, take, length-take-le, Bor}
use Rattle.std.specs.Prelude.{slice_get, slice_set}
use Rattle.std.specs.BTreeMap.{BTreeMap, IsUnchanged, Updates, get}
use Rattle.std.specs.Cmp.Lexicographic.{slice_cmp, texts_ties}
use Rattle.std.specs.List.{find, list_any}
use Rattle.std.specs.Option.{is_some, option_copied}
use Rattle.std.specs.Ordering.{nat_cmp}
use Rattle.std.specs.Str.{bytes_eq}
use Rattle.std.proofs.lemmas.Bool.{cases_Bool, cases_eq}
use Rattle.std.proofs.lemmas.Option.{same_Some, slice_get_within}
use Rattle.pdus.proofs.ClnpBase.Lists.{slice_get-set, slice_get-set_other}
use Rattle.pdus.specs.Nsap.Prefix.{digits_of}
use Rattle.system_tables.specs.declared.forwarding.route.Route.{Route}
use Rattle.system_tables.specs.declared.forwarding.routes.Routes.{Routes}
use Rattle.system_tables.specs.Forwarding.Distinct.{has_prefix}
use Rattle.system_tables.specs.Forwarding.Longest.{longest}
use Rattle.system_tables.specs.Forwarding.Setting.{set_in, without}
use Rattle.system_tables.specs.Forwarding.Stands.{Stands}
use Rattle.system_tables.proofs.ForwardingFacts.Choosing.{NoneAt, longest_at}
use Rattle.system_tables.proofs.ForwardingFacts.Setting.{IsChangedAt, is_set, is_without}
use Rattle.pdus.proofs.ClnpBase.SameOctets.{other_from, same_from}
use Rattle.pdus.proofs.ClnpBase.Found.{is_some-find}
use Rattle.pdus.proofs.ClnpBase.Choices.{no_value}

-- the route of a prefix, where there is one
pub found_at : (routes : Routes) (list : List Route) (prefix : List ℕ) (n : ℕ) (map : BTreeMap (List ℕ) Route) (found : Option Route)
    → Stands routes list → n ≡ length prefix → slice_get routes.by_length n ≡ Some map → found ≡ get (slice_cmp nat_cmp) map prefix
    → found ≡ find (has_prefix prefix) list
found_at routes list prefix n map found stands size at is =
    is ∙ stands.found prefix map (sym (ap (slice_get routes.by_length) size) ∙ at)

-- whether a route of this prefix was there
pub was_there : (routes : Routes) (list : List Route) (prefix : List ℕ) (n : ℕ) (map : BTreeMap (List ℕ) Route) (old : Option Route)
    → Stands routes list → n ≡ length prefix → slice_get routes.by_length n ≡ Some map → old ≡ get (slice_cmp nat_cmp) map prefix
    → is_some old ≡ list_any (has_prefix prefix) list
was_there routes list prefix n map old stands size at is =
    ap is_some (found_at routes list prefix n map old stands size at is) ∙ is_some-find (has_prefix prefix) list

-- a route is there exactly where one is found
pub ruleset finding = (is_some-find)

-- the map of one length was changed at a prefix alone
pub stands_updated : (routes : Routes) (list changed : List Route) (prefix : List ℕ) (n : ℕ) (map new : BTreeMap (List ℕ) Route) (now : Option Route)
    → Stands routes list → n ≡ length prefix → slice_get routes.by_length n ≡ Some map
    → Updates (slice_cmp nat_cmp) map new prefix now → IsChangedAt prefix now list changed
    → Stands (record { by_length = slice_set routes.by_length n new }) changed
stands_updated routes list changed prefix n map new now stands size at updates is = record {
  distinct = is.distinct;
  found = λ wanted other there.
      elim (cases_eq (length wanted) n) [
        | inl same ↦
            let is_new : other ≡ new =
            same_Some other new
            (sym there ∙ ap (slice_get (slice_set routes.by_length n new)) same ∙ slice_get-set routes.by_length n new (slice_get_within routes.by_length n map at)) in
            let old = stands.found wanted map (ap (slice_get routes.by_length) same ∙ at) in
            ap (λ m. get (slice_cmp nat_cmp) m wanted) is_new
            ∙ updates.0 wanted
            ∙ ap (λ b. cond b now (get (slice_cmp nat_cmp) map wanted)) (sym (texts_ties prefix wanted))
            ∙ (elim (cases_Bool (bytes_eq prefix wanted)) [
              | inl own ↦ rw own (sym is.found ∙ ap (λ p. find (has_prefix p) changed) (same_from prefix wanted own))
              | inr foreign ↦ rw foreign (old ∙ sym (is.others wanted foreign))
            ])
        | inr differ ↦
            let foreign : bytes_eq prefix wanted ≡ false =
            other_from prefix wanted (λ same. differ (sym (size ∙ ap length same))) in
            stands.found wanted other (sym (slice_get-set_other routes.by_length n (length wanted) new (λ same. differ (sym same))) ∙ there)
            ∙ sym (is.others wanted foreign)
      ];
}

-- a route was put in the map of its length
pub stands_set : (routes : Routes) (list : List Route) (route : Route) (n : ℕ) (map new : BTreeMap (List ℕ) Route)
    → Stands routes list → n ≡ length route.prefix → slice_get routes.by_length n ≡ Some map
    → Updates (slice_cmp nat_cmp) map new route.prefix (Some route)
    → Stands (record { by_length = slice_set routes.by_length n new }) (set_in route list)
stands_set routes list route n map new stands size at updates =
    stands_updated routes list (set_in route list) route.prefix n map new (Some route) stands size at updates (is_set route list stands.distinct)

-- the route of a prefix was taken out of the map of its length
pub stands_without : (routes : Routes) (list : List Route) (prefix : List ℕ) (n : ℕ) (map new : BTreeMap (List ℕ) Route)
    → Stands routes list → n ≡ length prefix → slice_get routes.by_length n ≡ Some map
    → Updates (slice_cmp nat_cmp) map new prefix None
    → Stands (record { by_length = slice_set routes.by_length n new }) (without prefix list)
stands_without routes list prefix n map new stands size at updates =
    stands_updated routes list (without prefix list) prefix n map new None stands size at updates (is_without prefix list stands.distinct)

-- a map that has the entries that it had
pub stands_same : (routes : Routes) (list : List Route) (n : ℕ) (map new : BTreeMap (List ℕ) Route) → Stands routes list
    → slice_get routes.by_length n ≡ Some map → IsUnchanged map new → Stands (record { by_length = slice_set routes.by_length n new }) list
stands_same routes list n map new stands at unchanged = record {
  distinct = stands.distinct;
  found = λ wanted other there.
      elim (cases_eq (length wanted) n) [
        | inl same ↦
            let is_new : other ≡ new =
            same_Some other new
            (sym there ∙ ap (slice_get (slice_set routes.by_length n new)) same ∙ slice_get-set routes.by_length n new (slice_get_within routes.by_length n map at)) in
            let kept : get (slice_cmp nat_cmp) new wanted ≡ get (slice_cmp nat_cmp) map wanted = rw unchanged refl in
            ap (λ m. get (slice_cmp nat_cmp) m wanted) is_new
            ∙ kept
            ∙ stands.found wanted map (ap (slice_get routes.by_length) same ∙ at)
        | inr differ ↦
            stands.found wanted other (sym (slice_get-set_other routes.by_length n (length wanted) new (λ same. differ (sym same))) ∙ there)
      ];
}

-- ---- looking through the lengths

-- what the map of a length has at the beginning of the digits
looked_up : (routes : Routes) (list : List Route) (address digits prefix : List ℕ) (n : ℕ) (map : BTreeMap (List ℕ) Route) (found : Option Route)
    → Stands routes list → digits ≡ digits_of address → prefix ≡ take n digits → n ≤ length digits
    → slice_get routes.by_length n ≡ Some map → found ≡ get (slice_cmp nat_cmp) map prefix
    → found ≡ find (has_prefix (take n (digits_of address))) list
looked_up routes list address digits prefix n map found stands are beginning within at is =
    let size : length prefix ≡ n = ap length beginning ∙ length-take-le n digits within in
    is
    ∙ stands.found prefix map (ap (slice_get routes.by_length) size ∙ at)
    ∙ ap (λ p. find (has_prefix p) list) (beginning ∙ ap (take n) are)

copied_some : (found : Option (Bor Route)) → is_some (option_copied found) ≡ is_some found
copied_some None = refl
copied_some (Some r) = refl

-- a route is found at this length, and none was at greater ones
pub found_here : (routes : Routes) (list : List Route) (address digits prefix : List ℕ) (n : ℕ) (map : BTreeMap (List ℕ) Route) (found : Option (Bor Route))
    → Stands routes list → digits ≡ digits_of address → prefix ≡ take n digits → n ≤ length digits
    → slice_get routes.by_length n ≡ Some map → option_copied found ≡ get (slice_cmp nat_cmp) map prefix
    → ((k : ℕ) → n + 1 ≤ k → k ≤ length digits → NoneAt address list k) → is_some found ≡ true
    → option_copied found ≡ longest address list
found_here routes list address digits prefix n map found stands are beginning within at is none some =
    let there = looked_up routes list address digits prefix n map (option_copied found) stands are beginning within at is in
    by_found (option_copied found) there (copied_some found ∙ some)
  where
    by_found : (answer : Option Route) → answer ≡ find (has_prefix (take n (digits_of address))) list → is_some answer ≡ true
        → answer ≡ longest address list
    by_found None e t = absurd (cc t)
    by_found (Some route) e t =
        let size = ap length are in
        sym (longest_at address list n route stands.distinct (omega (arith, size))
        (λ k more few. none k (omega arith) (omega (arith, size))) (sym e))

-- no route is found at this length either
pub none_here : (routes : Routes) (list : List Route) (address digits prefix : List ℕ) (n : ℕ) (map : BTreeMap (List ℕ) Route) (found : Option (Bor Route))
    → Stands routes list → digits ≡ digits_of address → prefix ≡ take n digits → n ≤ length digits
    → slice_get routes.by_length n ≡ Some map → option_copied found ≡ get (slice_cmp nat_cmp) map prefix
    → ((k : ℕ) → n + 1 ≤ k → k ≤ length digits → NoneAt address list k) → is_some found ≡ false
    → (k : ℕ) → n ≤ k → k ≤ length digits → NoneAt address list k
none_here routes list address digits prefix n map found stands are beginning within at is none some k from to =
    elim (cases_eq k n) [
      | inl same ↦
          let there = looked_up routes list address digits prefix n map (option_copied found) stands are beginning within at is in
          ap (λ m. find (has_prefix (take m (digits_of address))) list) same
          ∙ sym there
          ∙ no_value (option_copied found) (copied_some found ∙ some)
      | inr other ↦ none k (omega arith) to
    ]
