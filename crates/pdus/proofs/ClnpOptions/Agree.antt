-- The rules and the grammar agree on lists of options and on parts.
use Rattle.std.proofs.Common.{◌≡◌, ◌∙◌, sym, ap, refl, ℕ, ◌+◌, ◌↔◌, inl, inr, Bool, true, false, not, ◌&&◌, ◌||◌, ◌==◌, List, [], ◌∷◌, ◌++◌, length, get_or, arith, length-append, Option, Some, None, is_some, IsNone, IsTrue}
use Rattle.std.specs.Prelude.{All, Any, AllPairs}
use Rattle.std.specs.List.{list_any, list_all}
use Rattle.std.specs.Option.{option_or}
use Rattle.std.proofs.lemmas.Bool.{eqb-true, eq-eqb, and_parts, and_from, and_cases, and_left, and_right, or_cases, or_parts, or_from, or_left, or_right, not-true, not-false, not_from_true, not_from_false, cases_Bool, false≢true, true≢false, false_from_ne_true}
use Rattle.std.proofs.lemmas.List.{append-nil, nil_from_length}
use Rattle.std.proofs.lemmas.List.Elements.{All-nil, All-cons, All-head, All-tail, All-weaker}
use Rattle.std.proofs.lemmas.List.Folds.{Any-from_list_any, list_any-from_Any, list_any_none, list_any_at}
use Rattle.pdus.specs.ClnpOptions.Parameter.{Parameter, padding, reason, spelled, size_of, parameters, parameters_after}
use Rattle.pdus.specs.ClnpOptions.Grammar.{HasForm, AreFormed, Forms, FitsKind, Spells}
use Rattle.pdus.specs.ClnpOptions.Rules.{place_of, place_of_repeat, place_of_unfit, place_of_reason, contains_code, is_unknown, has_bad_security, has_bad_route, has_bad_form, is_reason, at_rule, list_refusal, form_refusal, refusal, Accepts, IsWellFormed, AreWellFormed}
use Rattle.pdus.specs.ClnpOptions.Reading.{is_readable, are_readable}
pub use Rattle.pdus.proofs.ClnpOptions.Parts.{parameters-Forms}
use Rattle.pdus.proofs.ClnpOptions.Parts.{split_of}
use Rattle.pdus.proofs.ClnpOptions.Places.{is_some-place_of}
use Rattle.pdus.proofs.ClnpOptions.Least.{option_or-none_left, option_or-none_right, same-refusal, same-form_refusal}
use Rattle.pdus.proofs.ClnpOptions.Forms.{has_form, passes}
use Rattle.pdus.specs.declared.clnp_options.reasons.Reason.{Reason}
use Rattle.pdus.specs.declared.clnp_options.reasons.Reason.TheVariants.{DuplicateOption, HeaderSyntaxError, SourceRoutingSyntaxError, UnsupportedOption, UnsupportedSecurity}
use Rattle.clnp_base.proofs.Lists.{pairs_first, pairs_others}
use Rattle.std.proofs.lemmas.List.Kept.{AllPairs-cons}

-- no code but padding comes twice
abbrev pub Differs : Parameter → Parameter → Type 0
Differs a b = a.code ≡ b.code → a.code ≡ padding

-- an option is padding where its code is one of `seen`
abbrev pub IsFresh : List ℕ → Parameter → Type 0
IsFresh seen o = contains_code seen o.code ≡ true → o.code ≡ padding

-- no repeat was found: the options differ from each other, and from what was seen
pub distinct_of : (seen : List ℕ) (place : ℕ) (os : List Parameter) → IsNone (place_of_repeat seen place os) → AllPairs Differs os × All (IsFresh seen) os
unfolding place_of_repeat
distinct_of seen place [] h = ((λ i j d lt within. absurd (omega arith)), All-nil (IsFresh seen))
distinct_of seen place (o ∷ os) h =
    elim (cases_Bool (not (o.code == padding) && contains_code seen o.code)) [
      | inl t ↦ absurd (true≢false (sym (rw t refl) ∙ h))
      | inr f ↦
          let r = distinct_of (o.code ∷ seen) (place + size_of o) os (rw f at h) in (
            AllPairs-cons Differs o os (All-weaker (IsFresh (o.code ∷ seen)) (Differs o) (λ q fresh e. e ∙ fresh (or_left _ _ (eq-eqb o.code q.code e))) os r.1) r.0,
            All-cons (IsFresh seen) o os
                (λ c. eqb-true o.code padding (elim (and_cases (not (o.code == padding)) (contains_code seen o.code) f) [ inl n ↦ not-false _ n | inr n ↦ absurd (false≢true (sym n ∙ c)) ]))
                (All-weaker (IsFresh (o.code ∷ seen)) (IsFresh seen) (λ q fresh c. fresh (or_right _ _ c)) os r.1),
          )
    ]

pub no_repeat : (seen : List ℕ) (place : ℕ) (os : List Parameter) → AllPairs Differs os → All (IsFresh seen) os → IsNone (place_of_repeat seen place os)
unfolding place_of_repeat
no_repeat seen place [] pairs fresh = refl
no_repeat seen place (o ∷ os) pairs fresh =
    let first = All-head (IsFresh seen) o os fresh in
    let f : (not (o.code == padding) && contains_code seen o.code) ≡ false =
    elim (cases_Bool (contains_code seen o.code)) [
      | inl c ↦ and_left _ _ (not_from_true _ (eq-eqb o.code padding (first c)))
      | inr c ↦ and_right _ _ c
    ] in
    rw f (no_repeat (o.code ∷ seen) (place + size_of o) os (pairs_others Differs o os pairs) (fresh_after seen o os pairs fresh))
  where
    fresh_after : (seen : List ℕ) (o : Parameter) (os : List Parameter) → AllPairs Differs (o ∷ os) → All (IsFresh seen) (o ∷ os) → All (IsFresh (o.code ∷ seen)) os
    fresh_after seen o os pairs fresh k d within c =
        elim (or_cases (o.code == (get_or os k d).code) (contains_code seen (get_or os k d).code) c) [
          | inl e ↦ let same = eqb-true o.code (get_or os k d).code e in sym same ∙ pairs_first Differs o os pairs k d within same
          | inr s ↦ All-tail (IsFresh seen) o os fresh k d within s
        ]

pub fresh_of_none : (os : List Parameter) → All (IsFresh []) os
fresh_of_none os k d within c = absurd (false≢true c)

-- a test that picks none picks no option
pub none_picked : (test : Parameter → Bool) (os : List Parameter) → list_any test os ≡ false → All (λ o. test o ≡ false) os
none_picked test os h k d within =
    false_from_ne_true _ (λ t. false≢true (sym h ∙ list_any_at test os k d within t))

pub is_none-at_rule : (rule : ℕ) (cause : Reason) (place : Option ℕ) → IsNone (at_rule rule cause place) → IsNone place
is_none-at_rule rule cause None h = refl
is_none-at_rule rule cause (Some p) h = h

pub at_rule-is_none : (rule : ℕ) (cause : Reason) (place : Option ℕ) → IsNone place → IsNone (at_rule rule cause place)
at_rule-is_none rule cause None h = refl
at_rule-is_none rule cause (Some p) h = h

pub option_or-is_none : {A : Type 0} (a b : Option A) → IsNone a → IsNone b → IsNone (option_or a b)
option_or-is_none None b h k = k
option_or-is_none (Some x) b h k = h

pub none_of : {A : Type 0} (o : Option A) → IsNone o → o ≡ None
none_of None h = refl
none_of (Some x) h = absurd (true≢false h)

picked_none : (rule : ℕ) (cause : Reason) (place : ℕ) (test : Parameter → Bool) (os : List Parameter) → IsNone (at_rule rule cause (place_of test place os)) → All (λ o. test o ≡ false) os
picked_none rule cause place test os h =
    none_picked test os (sym (is_some-place_of test place os) ∙ is_none-at_rule rule cause (place_of test place os) h)

none_at : (rule : ℕ) (cause : Reason) (place : ℕ) (test : Parameter → Bool) (os : List Parameter) → All (λ o. test o ≡ false) os → IsNone (at_rule rule cause (place_of test place os))
none_at rule cause place test os h =
    at_rule-is_none rule cause (place_of test place os) (is_some-place_of test place os ∙ list_any_none test os h)

-- the rules for lists and the grammar's relation agree
pub are_formed : (os : List Parameter) → AreWellFormed os → AreFormed os
unfolding list_refusal
are_formed os h =
    let h16 = option_or-none_right _ _ h in
    let h17 = option_or-none_right _ _ h16 in
    let h18 = option_or-none_right _ _ h17 in
    let h19 = option_or-none_right _ _ h18 in
    let unknown = picked_none 16 UnsupportedOption 1 is_unknown os (option_or-none_left _ _ h16) in
    let bad_security = picked_none 17 UnsupportedSecurity 1 has_bad_security os (option_or-none_left _ _ h17) in
    let bad_route = picked_none 18 SourceRoutingSyntaxError 1 has_bad_route os (option_or-none_left _ _ h18) in
    let bad_form = picked_none 19 HeaderSyntaxError 1 has_bad_form os h19 in
    record {
      formed = λ k d within. has_form (get_or os k d) (record { known = unknown k d within; security_form = bad_security k d within; route_form = bad_route k d within; other_forms = bad_form k d within });
      distinct = (distinct_of [] 1 os (is_none-at_rule 15 DuplicateOption _ (option_or-none_left _ _ h))).0;
    }

pub are_well_formed : (os : List Parameter) → AreFormed os → AreWellFormed os
unfolding list_refusal
are_well_formed os h =
    option_or-is_none _ _ (at_rule-is_none 15 DuplicateOption _ (no_repeat [] 1 os h.distinct (fresh_of_none os)))
    (option_or-is_none _ _ (none_at 16 UnsupportedOption 1 is_unknown os (All-weaker HasForm _ (λ o f. (passes o f).known) os h.formed))
    (option_or-is_none _ _ (none_at 17 UnsupportedSecurity 1 has_bad_security os (All-weaker HasForm _ (λ o f. (passes o f).security_form) os h.formed))
    (option_or-is_none _ _ (none_at 18 SourceRoutingSyntaxError 1 has_bad_route os (All-weaker HasForm _ (λ o f. (passes o f).route_form) os h.formed))
    (none_at 19 HeaderSyntaxError 1 has_bad_form os (All-weaker HasForm _ (λ o f. (passes o f).other_forms) os h.formed)))))

-- where all octets are of whole options, the part is what they spell
pub spelled_of : (first : ℕ) (part : List ℕ) → IsNone (place_of_unfit first part) → part ≡ spelled (parameters part)
spelled_of first part h =
    elim (cases_Bool (length (spelled (parameters part)) == length part)) [
      | inl t ↦
          let s = split_of part in
          let l : length s.rest ≡ 0 = omega (arith, eqb-true _ _ t, ap length s.octets_are, length-append (spelled (parameters part)) s.rest) in
          s.octets_are ∙ ap (λ r. spelled (parameters part) ++ r) (nil_from_length s.rest l) ∙ append-nil (spelled (parameters part))
      | inr f ↦ absurd (true≢false (sym (rw f refl) ∙ h))
    ]

pub fits : (first : ℕ) (part : List ℕ) → part ≡ spelled (parameters part) → IsNone (place_of_unfit first part)
fits first part e = rw (eq-eqb _ _ (ap length (sym e))) refl

pub forms_of : (part : List ℕ) → IsWellFormed part → Forms (parameters part) part
unfolding form_refusal
forms_of part h = record {
  octets = spelled_of 1 part (is_none-at_rule 14 HeaderSyntaxError (place_of_unfit 1 part) (option_or-none_left _ _ h));
  formed = are_formed (parameters part) (option_or-none_right _ _ h);
}

-- no options are such as each PDU but a report may have
pub none_fit : FitsKind false (parameters [])
unfolding parameters_after
none_fit = (λ t. absurd (cc), λ any. let within = any.2 in absurd (omega arith))

pub well_formed_from : (os : List Parameter) (part : List ℕ) → Forms os part → IsWellFormed part
unfolding form_refusal
well_formed_from os part h =
    let e = parameters-Forms os part h.octets in
    option_or-is_none _ _
    (at_rule-is_none 14 HeaderSyntaxError (place_of_unfit 1 part) (fits 1 part (h.octets ∙ ap spelled (sym e))))
    (rw e (are_well_formed os h.formed))

-- a reason for discard in a report and in no other PDU
pub fits_kind_of : (is_report : Bool) (os : List Parameter) → IsNone (place_of_reason is_report 1 os) → FitsKind is_report os
fits_kind_of true os h = ((λ _. any_reason os (some_reason os h)), (λ _. refl))
  where
    some_reason : (os : List Parameter) → IsNone (place_of_reason true 1 os) → list_any is_reason os ≡ true
    some_reason os h = elim (cases_Bool (list_any is_reason os)) [ inl t ↦ t | inr f ↦ absurd (true≢false (sym (rw f refl) ∙ h)) ]

    any_reason : (os : List Parameter) → list_any is_reason os ≡ true → Any (λ o. o.code ≡ reason) os
    any_reason os t = let a = Any-from_list_any is_reason os t in (a.0, a.1, a.2, a.3, eqb-true _ reason a.4)
fits_kind_of false os h =
    ((λ t. absurd (false≢true t)), (λ a. absurd (false≢true (sym (sym (is_some-place_of is_reason 1 os) ∙ h) ∙ list_any-from_Any is_reason os (a.0, a.1, a.2, a.3, eq-eqb _ reason a.4)))))

pub reason_fits : (is_report : Bool) (os : List Parameter) → FitsKind is_report os → IsNone (place_of_reason is_report 1 os)
reason_fits true os h =
    let a = h.0 refl in
    rw (list_any-from_Any is_reason os (a.0, a.1, a.2, a.3, eq-eqb _ reason a.4)) refl
reason_fits false os h =
    is_some-place_of is_reason 1 os
    ∙ false_from_ne_true _ (λ t. let a = Any-from_list_any is_reason os t in false≢true (h.1 (a.0, a.1, a.2, a.3, eqb-true _ reason a.4)))

pub spells_of : (is_report : Bool) (part : List ℕ) → Accepts is_report part → Spells is_report (parameters part) part
unfolding refusal
spells_of is_report part h =
    let f = forms_of part (option_or-none_left _ _ h) in
    record {
      octets = f.octets;
      formed = f.formed;
      kind = fits_kind_of is_report (parameters part) (is_none-at_rule 20 HeaderSyntaxError (place_of_reason is_report 1 (parameters part)) (option_or-none_right _ _ h));
    }

pub accepts_from : (is_report : Bool) (os : List Parameter) (part : List ℕ) → Spells is_report os part → Accepts is_report part
unfolding refusal
accepts_from is_report os part h =
    option_or-is_none _ _
    (well_formed_from os part (record { octets = h.octets; formed = h.formed }))
    (at_rule-is_none 20 HeaderSyntaxError (place_of_reason is_report 1 (parameters part)) (rw (parameters-Forms os part h.octets) (reason_fits is_report os h.kind)))

pub accepted_anywhere : (is_report : Bool) (part : List ℕ) (first : ℕ) → (refusal part first is_report ≡ None) ↔ Accepts is_report part
accepted_anywhere is_report part first =
    ((λ e. same-refusal 1 first part is_report ∙ ap is_some e), (λ h. none_of _ (same-refusal first 1 part is_report ∙ h)))

pub well_formed_anywhere : (part : List ℕ) (first : ℕ) → (form_refusal first part ≡ None) ↔ IsWellFormed part
well_formed_anywhere part first =
    ((λ e. same-form_refusal 1 first part ∙ ap is_some e), (λ h. none_of _ (same-form_refusal first 1 part ∙ h)))

-- options with their forms can be read, and back
pub readable : (os : List Parameter) → All HasForm os → IsTrue (are_readable os)
unfolding are_readable is_readable
readable [] h = refl
readable (o ∷ os) h =
    let p = passes o (All-head HasForm o os h) in
    and_from _ _ (not_from_false _ (or_from _ _ (or_from _ _ (or_from _ _ p.known p.security_form) p.route_form) p.other_forms)) (readable os (All-tail HasForm o os h))

pub readable_first : (o : Parameter) (os : List Parameter) → IsTrue (are_readable (o ∷ os)) → HasForm o × IsTrue (are_readable os)
unfolding are_readable is_readable
readable_first o os h =
    let p = and_parts (not (is_unknown o || has_bad_security o || has_bad_route o || has_bad_form o)) (list_all is_readable os) h in
    let q = or_parts (is_unknown o || has_bad_security o || has_bad_route o) (has_bad_form o) (not-true _ p.0) in
    let r = or_parts (is_unknown o || has_bad_security o) (has_bad_route o) q.0 in
    let s = or_parts (is_unknown o) (has_bad_security o) r.0 in
    (has_form o (record { known = s.0; security_form = s.1; route_form = r.1; other_forms = q.1 }), p.1)
