-- What the edits of a router keep of a list of options.
use Rattle.std.proofs.Common.{◌≡◌, ◌∙◌, sym, ap, subst, refl, ℕ, ◌+◌, ◌-◌, ◌≤◌, ◌≢◌, inl, inr, Bool, true, false, ◌==◌, List, [], ◌∷◌, length, take, drop, get_or, arith, length-append, Option, Some, None, is_some, IsSome}
use Rattle.std.specs.Option.{option_and_then, option_map, option_map_or}
use Rattle.std.specs.Prelude.{All, AllPairs, eqb}
use Rattle.std.proofs.lemmas.Bool.{cases_Bool, cases_eq, false≢true, eqb-true, eqb-false}
use Rattle.std.proofs.lemmas.Option.{none-some, same_Some}
use Rattle.std.proofs.lemmas.List.{length-drop, length-take-le, get_or-set_same, get_or-set_other}
use Rattle.std.proofs.lemmas.List.Elements.{All-cons, All-nil, All-head, All-tail}
use Rattle.pdus.specs.ClnpOptions.Parameter.{Parameter, padding, source_route, recording, quality, spelled}
use Rattle.pdus.specs.ClnpOptions.Grammar.{IsTitle, IsSourceRoute, HasForm, AreFormed, FitsKind}
use Rattle.pdus.specs.ClnpOptions.Edits.{edited, value_of, pointer_of, title_size, title_at, target_of, is_complete, route_left, advanced, recorded, marked, HaveOneForm}
use Rattle.pdus.proofs.ClnpOptions.Located.{value_of-nil, value_of-other, value_of-same}
use Rattle.pdus.proofs.ClnpOptions.Values.{quality_form_of, marked_form, length-marked, title_of_route, leads_on, route_form_of, advanced_form, length-advanced, title_at-leads, title_at-some, recording_form_of, recorded_form, length-recorded}
use Rattle.pdus.proofs.ClnpOptions.Agree.{Differs, fits_kind_of, reason_fits}
use Rattle.pdus.proofs.ClnpOptions.Edited.{codes_of-edited, pairs_by_codes, reason_by_codes, kind_by_codes}
use Rattle.clnp_base.proofs.Lists.{pairs_first, pairs_others}

-- ---- one form

pub HaveOneForm-same : (os : List Parameter) → HaveOneForm os os
HaveOneForm-same [] = tt
HaveOneForm-same (o ∷ os) = ((refl, refl), HaveOneForm-same os)

pub HaveOneForm-chained : (os ps qs : List Parameter) → HaveOneForm os ps → HaveOneForm ps qs → HaveOneForm os qs
HaveOneForm-chained [] [] qs h k = k
HaveOneForm-chained [] (p ∷ ps) qs h k = absurd h
HaveOneForm-chained (o ∷ os) [] qs h k = absurd h
HaveOneForm-chained (o ∷ os) (p ∷ ps) [] h k = absurd k
HaveOneForm-chained (o ∷ os) (p ∷ ps) (q ∷ qs) h k =
    ((h.0.0 ∙ k.0.0, h.0.1 ∙ k.0.1), HaveOneForm-chained os ps qs h.1 k.1)

pub length-one_form : (os ps : List Parameter) → HaveOneForm os ps → length (spelled os) ≡ length (spelled ps)
unfolding spelled
length-one_form [] [] h = refl
length-one_form [] (p ∷ ps) h = absurd h
length-one_form (o ∷ os) [] h = absurd h
length-one_form (o ∷ os) (p ∷ ps) h =
    omega (arith, h.0.1, length-append o.value (spelled os), length-append p.value (spelled ps), length-one_form os ps h.1)

-- a change that keeps the length of each value
pub edited-one_form : (code : ℕ) (change : List ℕ → List ℕ) (os : List Parameter) → All (λ o. o.code ≡ code → length (change o.value) ≡ length o.value) os → HaveOneForm (edited code change os) os
unfolding edited
edited-one_form code change [] h = tt
edited-one_form code change (o ∷ os) h =
    let P : Parameter → Type 0 = λ p. p.code ≡ code → length (change p.value) ≡ length p.value in
    let others = edited-one_form code change os (All-tail P o os h) in
    elim (cases_Bool (eqb o.code code)) [
      | inl t ↦ let e = eqb-true o.code code t in rw t ((sym e, All-head P o os h e), others)
      | inr f ↦ rw f ((refl, refl), others)
    ]

pub advanced-one_form : (os : List Parameter) → HaveOneForm (edited source_route advanced os) os
advanced-one_form os = edited-one_form source_route advanced os (λ k d within e. length-advanced (get_or os k d).value)

pub recorded-one_form : (os : List Parameter) (title : List ℕ) → AreFormed os → HaveOneForm (edited recording (recorded title) os) os
recorded-one_form os title h =
    edited-one_form recording (recorded title) os (λ k d within e. length-recorded title (get_or os k d).value ((h.formed k d within).recording_form e))

pub marked-one_form : (os : List Parameter) → HaveOneForm (edited quality marked os) os
marked-one_form os = edited-one_form quality marked os (λ k d within e. length-marked (get_or os k d).value)

-- ---- forms

edited-first : (code : ℕ) (change : List ℕ → List ℕ) (o : Parameter) (os : List Parameter) → eqb o.code code ≡ true → edited code change (o ∷ os) ≡ record { code = code; value = change o.value } ∷ edited code change os
unfolding edited
edited-first code change o os t = rw t refl

edited-kept : (code : ℕ) (change : List ℕ → List ℕ) (o : Parameter) (os : List Parameter) → eqb o.code code ≡ false → edited code change (o ∷ os) ≡ o ∷ edited code change os
unfolding edited
edited-kept code change o os f = rw f refl

pub edited-all : (P : Parameter → Type 0) (code : ℕ) (change : List ℕ → List ℕ) (os : List Parameter) → All P os → All (λ o. o.code ≡ code → P (record { code = code; value = change o.value })) os → All P (edited code change os)
unfolding edited
edited-all P code change [] h k = All-nil P
edited-all P code change (o ∷ os) h k =
    let Q : Parameter → Type 0 = λ p. p.code ≡ code → P (record { code = code; value = change p.value }) in
    let R : List Parameter → Type 0 = All P in
    let others = edited-all P code change os (All-tail P o os h) (All-tail Q o os k) in
    elim (cases_Bool (eqb o.code code)) [
      | inl t ↦ subst R (sym (edited-first code change o os t)) (All-cons P (record { code = code; value = change o.value }) (edited code change os) (All-head Q o os k (eqb-true o.code code t)) others)
      | inr f ↦ subst R (sym (edited-kept code change o os f)) (All-cons P o (edited code change os) (All-head P o os h) others)
    ]

-- a change that keeps the form of each value
pub edited-formed : (code : ℕ) (change : List ℕ → List ℕ) (os : List Parameter) → AreFormed os → All (λ o. o.code ≡ code → HasForm (record { code = code; value = change o.value })) os → AreFormed (edited code change os)
edited-formed code change os h k = record {
  formed = edited-all HasForm code change os h.formed k;
  distinct = pairs_by_codes os (edited code change os) (sym (codes_of-edited code change os)) h.distinct;
}

pub edited-kind : (is_report : Bool) (code : ℕ) (change : List ℕ → List ℕ) (os : List Parameter) → FitsKind is_report os → FitsKind is_report (edited code change os)
edited-kind is_report code change os h =
    fits_kind_of is_report (edited code change os)
    (kind_by_codes is_report os (edited code change os)
    (sym (reason_by_codes (edited code change os) os (codes_of-edited code change os)))
    (reason_fits is_report os h))

-- an option of a code that comes once has the code's value
pub value_of-each : (code : ℕ) (os : List Parameter) → code ≢ padding → AllPairs Differs os → All (λ o. o.code ≡ code → value_of code os ≡ Some o.value) os
value_of-each code [] n h = All-nil (λ o. o.code ≡ code → value_of code [] ≡ Some o.value)
value_of-each code (o ∷ os) n h =
    All-cons (λ p. p.code ≡ code → value_of code (o ∷ os) ≡ Some p.value) o os
    (λ e. value_of-same code o os e)
    (λ k d within e.
    value_of-other code o os (λ same. n (sym same ∙ pairs_first Differs o os h k d within (same ∙ sym e)))
    ∙ value_of-each code os n (pairs_others Differs o os h) k d within e)

-- the value of a code is that of an option
pub value_of-all : (P : Parameter → Type 0) (code : ℕ) (os : List Parameter) (value : List ℕ) → All P os → value_of code os ≡ Some value → P (record { code = code; value = value })
value_of-all P code [] value h e = absurd (none-some value (sym (value_of-nil code) ∙ e))
value_of-all P code (o ∷ os) value h e =
    elim (cases_eq o.code code) [
      | inl same ↦
          let v : o.value ≡ value = same_Some o.value value (sym (value_of-same code o os same) ∙ e) in
          let Q : List ℕ → Type 0 = λ t. P (record { code = code; value = t }) in
          let R : ℕ → Type 0 = λ c. P (record { code = c; value = o.value }) in
          subst Q v (subst R same (All-head P o os h))
      | inr n ↦ value_of-all P code os value (All-tail P o os h) (sym (value_of-other code o os n) ∙ e)
    ]

pub route_value_form : (os : List Parameter) (value : List ℕ) → AreFormed os → value_of source_route os ≡ Some value → IsSourceRoute value
route_value_form os value h e = (value_of-all HasForm source_route os value h.formed e).source_route_form refl

-- ---- the value of a code after an edit

pub value_of-edited : (code : ℕ) (change : List ℕ → List ℕ) (os : List Parameter) → value_of code (edited code change os) ≡ option_map change (value_of code os)
unfolding edited
value_of-edited code change [] = rw (value_of-nil code) refl
value_of-edited code change (o ∷ os) =
    elim (cases_Bool (eqb o.code code)) [
      | inl t ↦
          rw t
          (value_of-same code (record { code = code; value = change o.value }) (edited code change os) refl
          ∙ sym (ap (option_map change) (value_of-same code o os (eqb-true o.code code t))))
      | inr f ↦
          let n : o.code ≢ code = eqb-false o.code code f in
          rw f
          (value_of-other code o (edited code change os) n
          ∙ value_of-edited code change os
          ∙ sym (ap (option_map change) (value_of-other code o os n)))
    ]

pub value_of-edited_other : (code other : ℕ) (change : List ℕ → List ℕ) (os : List Parameter) → code ≢ other → value_of other (edited code change os) ≡ value_of other os
unfolding edited
value_of-edited_other code other change [] n = refl
value_of-edited_other code other change (o ∷ os) n =
    let others = value_of-edited_other code other change os n in
    elim (cases_Bool (eqb o.code code)) [
      | inl t ↦
          rw t
          (value_of-other other (record { code = code; value = change o.value }) (edited code change os) n
          ∙ others
          ∙ sym (value_of-other other o os (λ e. n (sym (eqb-true o.code code t) ∙ e))))
      | inr f ↦
          rw f
          (elim (cases_eq o.code other) [
            | inl same ↦ value_of-same other o (edited code change os) same ∙ sym (value_of-same other o os same)
            | inr differs ↦ value_of-other other o (edited code change os) differs ∙ others ∙ sym (value_of-other other o os differs)
          ])
    ]

-- ---- the source route after an edit of other options

pub recording_leaves : (change : List ℕ → List ℕ) (os : List Parameter) → value_of source_route (edited recording change os) ≡ value_of source_route os
recording_leaves change os = value_of-edited_other recording source_route change os (λ e. absurd (omega arith))

pub quality_leaves : (change : List ℕ → List ℕ) (os : List Parameter) → value_of source_route (edited quality change os) ≡ value_of source_route os
quality_leaves change os = value_of-edited_other quality source_route change os (λ e. absurd (omega arith))

pub target_by_value : (os ps : List Parameter) → value_of source_route os ≡ value_of source_route ps → target_of os ≡ target_of ps
unfolding target_of
target_by_value os ps e = ap (option_and_then title_at) e

pub complete_by_value : (os ps : List Parameter) → value_of source_route os ≡ value_of source_route ps → is_complete os ≡ is_complete ps
complete_by_value os ps e = ap (λ o. option_map_or (λ value. get_or value 0 0 == 1) o false) e

-- ---- the source route after its pointer was moved

advanced-pointer : (value : List ℕ) → 2 ≤ length value → pointer_of (advanced value) ≡ pointer_of value + title_size value + 1
unfolding advanced
advanced-pointer value long = get_or-set_same value 1 (pointer_of value + title_size value + 1) 0 (omega arith)

advanced-kind : (value : List ℕ) → get_or (advanced value) 0 0 ≡ get_or value 0 0
unfolding advanced
advanced-kind value = get_or-set_other value 1 0 (pointer_of value + title_size value + 1) 0 (λ e. absurd (omega arith))

complete_moved : (found : Option (List ℕ)) → option_map_or (λ value. get_or value 0 0 == 1) (option_map advanced found) false ≡ option_map_or (λ value. get_or value 0 0 == 1) found false
complete_moved None = refl
complete_moved (Some value) = ap (λ kind. kind == 1) (advanced-kind value)

pub complete-advanced : (os : List Parameter) → is_complete (edited source_route advanced os) ≡ is_complete os
complete-advanced os =
    ap (λ o. option_map_or (λ value. get_or value 0 0 == 1) o false) (value_of-edited source_route advanced os)
    ∙ complete_moved (value_of source_route os)

pub value_moved : (os : List Parameter) (value : List ℕ) → value_of source_route os ≡ Some value → value_of source_route (edited source_route advanced os) ≡ Some (advanced value)
value_moved os value e = value_of-edited source_route advanced os ∙ ap (option_map advanced) e

pub moved_further : (value : List ℕ) → IsSourceRoute value → pointer_of value + 1 ≤ pointer_of (advanced value)
moved_further value h = let long = h.long in omega (arith, advanced-pointer value long)

pub moved_within : (value : List ℕ) → IsSourceRoute value → IsSome (title_at value) → pointer_of (advanced value) ≤ length value + 1
moved_within value h target =
    let long = h.long in
    let fits = (leads_on value h (title_at-leads value target)).fits in
    omega (arith, advanced-pointer value long)

-- ---- where a source route leads

-- options that lead to a title, with the source route's value
pub record Leads (os : List Parameter) : Type 0 where
  pub value : List ℕ
  pub found : value_of source_route os ≡ Some value
  pub target : target_of os ≡ title_at value

leads_of : (os : List Parameter) (found : Option (List ℕ)) → value_of source_route os ≡ found → IsSome (target_of os) → Leads os
unfolding target_of
leads_of os None e h = absurd (false≢true (sym (ap (λ o. is_some (option_and_then title_at o)) e) ∙ h))
leads_of os (Some value) e h = record { value = value; found = e; target = ap (option_and_then title_at) e }

pub leads : (os : List Parameter) → IsSome (target_of os) → Leads os
leads os h = leads_of os (value_of source_route os) refl h

pub leads_to : (os : List Parameter) (l : Leads os) → IsSome (target_of os) → IsSome (title_at l.value)
leads_to os l h = ap is_some (sym l.target) ∙ h

title_is : (value title : List ℕ) → IsSourceRoute value → title_at value ≡ Some title → IsTitle title
title_is value title h e =
    let within : pointer_of value ≤ length value = title_at-leads value (ap is_some e) in
    let t = title_of_route value h within in
    let fits = (leads_on value h within).fits in
    let is : take (title_size value) (drop (pointer_of value) value) ≡ title = same_Some _ _ (title_at-some value within ∙ e) in
    let size : length title ≡ length (get_or h.titles t.n []) =
    ap length (sym is) ∙ length-take-le (title_size value) (drop (pointer_of value) value) (omega (arith, length-drop (pointer_of value) value)) ∙ t.size in
    let it : IsTitle (get_or h.titles t.n []) = h.each t.n [] t.within in
    (omega (arith, size, it.0), omega (arith, size, it.1))

pub target_is_title : (os : List Parameter) (title : List ℕ) → AreFormed os → target_of os ≡ Some title → IsTitle title
target_is_title os title h e =
    let l = leads os (ap is_some e) in
    title_is l.value title (route_value_form os l.value h l.found) (sym l.target ∙ e)

pub less_left : (os : List Parameter) → AreFormed os → IsSome (target_of os) → route_left (edited source_route advanced os) + 1 ≤ route_left os
less_left os h target =
    let l = leads os target in
    let v : List ℕ = l.value in
    let form = route_value_form os v h l.found in
    let within : pointer_of v ≤ length v = title_at-leads v (leads_to os l target) in
    let left : route_left os ≡ length v + 1 - pointer_of v = ap (λ o. option_map_or (λ value. length value + 1 - pointer_of value) o 0) l.found in
    let then : route_left (edited source_route advanced os) ≡ length (advanced v) + 1 - pointer_of (advanced v) =
    ap (λ o. option_map_or (λ value. length value + 1 - pointer_of value) o 0) (value_moved os v l.found) in
    omega (arith, left, then, length-advanced v, moved_further v form)

-- ---- the three edits of formed options

pub advanced-formed : (os : List Parameter) → AreFormed os → IsSome (target_of os) → AreFormed (edited source_route advanced os)
advanced-formed os h target =
    let l = leads os target in
    let within : pointer_of l.value ≤ length l.value = title_at-leads l.value (leads_to os l target) in
    edited-formed source_route advanced os h
    (λ k d inside e.
    let v : List ℕ = (get_or os k d).value in
    let same : l.value ≡ v = same_Some l.value v (sym l.found ∙ value_of-each source_route os (λ n. absurd (omega arith)) h.distinct k d inside e) in
    let P : List ℕ → Type 0 = λ t. pointer_of t ≤ length t in
    route_form_of (advanced v) (advanced_form v ((h.formed k d inside).source_route_form e) (subst P same within)))

pub recorded-formed : (os : List Parameter) (title : List ℕ) → AreFormed os → IsTitle title → AreFormed (edited recording (recorded title) os)
recorded-formed os title h it =
    edited-formed recording (recorded title) os h
    (λ k d inside e. recording_form_of (recorded title (get_or os k d).value) (recorded_form title (get_or os k d).value ((h.formed k d inside).recording_form e) it))

pub marked-formed : (os : List Parameter) → AreFormed os → AreFormed (edited quality marked os)
marked-formed os h =
    edited-formed quality marked os h
    (λ k d inside e. quality_form_of (marked (get_or os k d).value) (marked_form (get_or os k d).value ((h.formed k d inside).quality_form e)))
