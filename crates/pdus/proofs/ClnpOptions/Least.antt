-- The least broken rule, and that whether one is broken does not depend on where the part begins.
use Rattle.std.proofs.Common.{◌≡◌, ◌∙◌, sym, ap, refl, ℕ, ◌+◌, Bool, true, false, not, ◌&&◌, ◌==◌, inl, inr, List, [], ◌∷◌, length, Option, Some, None, is_some, IsNone, Result, Ok, Err, IsOk, OnOk, ◌↔◌}
use Rattle.std.specs.Option.{option_or}
use Rattle.std.proofs.lemmas.Bool.{cases_Bool, true≢false, false≢true}
use Rattle.pdus.specs.ClnpOptions.Parameter.{Parameter, padding, spelled, size_of, parameters}
use Rattle.pdus.specs.ClnpOptions.Rules.{place_of, place_of_repeat, place_of_unfit, place_of_reason, is_unknown, has_bad_security, has_bad_route, has_bad_form, is_reason, at_rule, list_refusal, form_refusal, refusal, contains_code, Gives, Accepts, IsWellFormed}
use Rattle.pdus.specs.declared.clnp_options.judge.OptionRefusal.{OptionRefusal}
use Rattle.pdus.proofs.ClnpOptions.Places.{is_some-place_of}
use Rattle.pdus.specs.declared.clnp_options.reasons.Reason.{Reason}
use Rattle.pdus.specs.declared.clnp_options.reasons.Reason.TheVariants.{DuplicateOption, HeaderSyntaxError, SourceRoutingSyntaxError, UnsupportedOption, UnsupportedSecurity}
use Rattle.clnp_base.proofs.Choices.{is_some-option_or, option_or-none, option_or-some}

-- what a rule says at the place that was found
pub at_rule-found : (rule : ℕ) (cause : Reason) (found place : Option ℕ) (o : Option OptionRefusal) → found ≡ place → at_rule rule cause found ≡ o → at_rule rule cause place ≡ o
at_rule-found rule cause found place o e h = sym (ap (at_rule rule cause) e) ∙ h

pub is_some-at_rule : (rule : ℕ) (cause : Reason) (a b : Option ℕ) → is_some a ≡ is_some b → is_some (at_rule rule cause a) ≡ is_some (at_rule rule cause b)
is_some-at_rule rule cause None None h = refl
is_some-at_rule rule cause (Some x) (Some y) h = refl
is_some-at_rule rule cause (Some x) None h = h
is_some-at_rule rule cause None (Some y) h = h

pub same-place_of : (test : Parameter → Bool) (p q : ℕ) (os : List Parameter) → is_some (place_of test p os) ≡ is_some (place_of test q os)
same-place_of test p q os = is_some-place_of test p os ∙ sym (is_some-place_of test q os)

pub same-place_of_repeat : (seen : List ℕ) (p q : ℕ) (os : List Parameter) → is_some (place_of_repeat seen p os) ≡ is_some (place_of_repeat seen q os)
unfolding place_of_repeat
same-place_of_repeat seen p q [] = refl
same-place_of_repeat seen p q (o ∷ os) =
    elim (cases_Bool (not (o.code == padding) && contains_code seen o.code)) [
      | inl h ↦ rw (h) refl
      | inr h ↦ rw (h) (same-place_of_repeat (o.code ∷ seen) (p + size_of o) (q + size_of o) os)
    ]

pub same-place_of_unfit : (p q : ℕ) (part : List ℕ) → is_some (place_of_unfit p part) ≡ is_some (place_of_unfit q part)
same-place_of_unfit p q part =
    elim (cases_Bool (length (spelled (parameters part)) == length part)) [
      | inl h ↦ rw (h) refl
      | inr h ↦ rw (h) refl
    ]

pub same-place_of_reason : (is_report : Bool) (p q : ℕ) (os : List Parameter) → is_some (place_of_reason is_report p os) ≡ is_some (place_of_reason is_report q os)
same-place_of_reason true p q os = refl
same-place_of_reason false p q os = same-place_of is_reason p q os

pub same-list_refusal : (p q : ℕ) (os : List Parameter) → is_some (list_refusal p os) ≡ is_some (list_refusal q os)
unfolding list_refusal
same-list_refusal p q os =
    is_some-option_or _ _ _ _ (is_some-at_rule 15 DuplicateOption _ _ (same-place_of_repeat [] p q os))
    (is_some-option_or _ _ _ _ (is_some-at_rule 16 UnsupportedOption _ _ (same-place_of is_unknown p q os))
    (is_some-option_or _ _ _ _ (is_some-at_rule 17 UnsupportedSecurity _ _ (same-place_of has_bad_security p q os))
    (is_some-option_or _ _ _ _ (is_some-at_rule 18 SourceRoutingSyntaxError _ _ (same-place_of has_bad_route p q os))
    (is_some-at_rule 19 HeaderSyntaxError _ _ (same-place_of has_bad_form p q os)))))

pub same-form_refusal : (p q : ℕ) (part : List ℕ) → is_some (form_refusal p part) ≡ is_some (form_refusal q part)
unfolding form_refusal
same-form_refusal p q part =
    is_some-option_or _ _ _ _ (is_some-at_rule 14 HeaderSyntaxError _ _ (same-place_of_unfit p q part)) (same-list_refusal p q (parameters part))

pub same-refusal : (p q : ℕ) (part : List ℕ) (is_report : Bool) → is_some (refusal part p is_report) ≡ is_some (refusal part q is_report)
unfolding refusal
same-refusal p q part is_report =
    is_some-option_or _ _ _ _ (same-form_refusal p q part) (is_some-at_rule 20 HeaderSyntaxError _ _ (same-place_of_reason is_report p q (parameters part)))

-- form_refusal, rule by rule
pub refused_at_14 : (first : ℕ) (part : List ℕ) (r : OptionRefusal) → at_rule 14 HeaderSyntaxError (place_of_unfit first part) ≡ Some r → form_refusal first part ≡ Some r
unfolding form_refusal
refused_at_14 first part r e = option_or-some _ _ r e

pub passed_14 : (first : ℕ) (part : List ℕ) (o : Option OptionRefusal) → at_rule 14 HeaderSyntaxError (place_of_unfit first part) ≡ None → list_refusal first (parameters part) ≡ o → form_refusal first part ≡ o
unfolding form_refusal
passed_14 first part o e h = option_or-none _ _ o e h

pub refused_at_15 : (first : ℕ) (os : List Parameter) (r : OptionRefusal) → at_rule 15 DuplicateOption (place_of_repeat [] first os) ≡ Some r → list_refusal first os ≡ Some r
unfolding list_refusal
refused_at_15 first os r e = option_or-some _ _ r e

pub refused_at_16 : (first : ℕ) (os : List Parameter) (r : OptionRefusal) → at_rule 15 DuplicateOption (place_of_repeat [] first os) ≡ None → at_rule 16 UnsupportedOption (place_of is_unknown first os) ≡ Some r → list_refusal first os ≡ Some r
unfolding list_refusal
refused_at_16 first os r e15 e = option_or-none _ _ _ e15 (option_or-some _ _ r e)

pub refused_at_17 : (first : ℕ) (os : List Parameter) (r : OptionRefusal) → at_rule 15 DuplicateOption (place_of_repeat [] first os) ≡ None → at_rule 16 UnsupportedOption (place_of is_unknown first os) ≡ None → at_rule 17 UnsupportedSecurity (place_of has_bad_security first os) ≡ Some r → list_refusal first os ≡ Some r
unfolding list_refusal
refused_at_17 first os r e15 e16 e = option_or-none _ _ _ e15 (option_or-none _ _ _ e16 (option_or-some _ _ r e))

pub refused_at_18 : (first : ℕ) (os : List Parameter) (r : OptionRefusal) → at_rule 15 DuplicateOption (place_of_repeat [] first os) ≡ None → at_rule 16 UnsupportedOption (place_of is_unknown first os) ≡ None → at_rule 17 UnsupportedSecurity (place_of has_bad_security first os) ≡ None → at_rule 18 SourceRoutingSyntaxError (place_of has_bad_route first os) ≡ Some r → list_refusal first os ≡ Some r
unfolding list_refusal
refused_at_18 first os r e15 e16 e17 e = option_or-none _ _ _ e15 (option_or-none _ _ _ e16 (option_or-none _ _ _ e17 (option_or-some _ _ r e)))

pub passed_18 : (first : ℕ) (os : List Parameter) → at_rule 15 DuplicateOption (place_of_repeat [] first os) ≡ None → at_rule 16 UnsupportedOption (place_of is_unknown first os) ≡ None → at_rule 17 UnsupportedSecurity (place_of has_bad_security first os) ≡ None → at_rule 18 SourceRoutingSyntaxError (place_of has_bad_route first os) ≡ None → list_refusal first os ≡ at_rule 19 HeaderSyntaxError (place_of has_bad_form first os)
unfolding list_refusal
passed_18 first os e15 e16 e17 e18 = option_or-none _ _ _ e15 (option_or-none _ _ _ e16 (option_or-none _ _ _ e17 (option_or-none _ _ _ e18 refl)))

pub refused_by_form : (first : ℕ) (part : List ℕ) (is_report : Bool) (r : OptionRefusal) → form_refusal first part ≡ Some r → refusal part first is_report ≡ Some r
unfolding refusal
refused_by_form first part is_report r e = option_or-some _ _ r e

pub passed_form : (first : ℕ) (part : List ℕ) (is_report : Bool) (o : Option OptionRefusal) → form_refusal first part ≡ None → at_rule 20 HeaderSyntaxError (place_of_reason is_report first (parameters part)) ≡ o → refusal part first is_report ≡ o
unfolding refusal
passed_form first part is_report o e h = option_or-none _ _ o e h

pub option_or-none_left : {A : Type 0} (a b : Option A) → IsNone (option_or a b) → IsNone a
option_or-none_left None b h = refl
option_or-none_left (Some x) b h = h

pub option_or-none_right : {A : Type 0} (a b : Option A) → IsNone (option_or a b) → IsNone b
option_or-none_right None b h = h
option_or-none_right (Some x) b h = absurd (true≢false h)

pub IsWellFormed-accepted : (is_report : Bool) (part : List ℕ) → Accepts is_report part → IsWellFormed part
unfolding refusal
IsWellFormed-accepted is_report part h = option_or-none_left _ _ h

pub accepted_iff : {U : Type 0} (r : Result U OptionRefusal) (part : List ℕ) (first : ℕ) (is_report : Bool) → Gives r (refusal part first is_report) → IsOk r ↔ Accepts is_report part
accepted_iff (Ok u) part first is_report e = (λ _. same-refusal 1 first part is_report ∙ ap is_some e, λ _. refl)
accepted_iff (Err d) part first is_report e =
    (λ h. absurd (false≢true h), λ h. absurd (true≢false (sym (same-refusal 1 first part is_report ∙ ap is_some e) ∙ h)))

pub well_formed_on_ok : {U : Type 0} (r : Result U OptionRefusal) (part : List ℕ) (first : ℕ) (is_report : Bool) → Gives r (refusal part first is_report) → OnOk r (IsWellFormed part)
well_formed_on_ok (Ok u) part first is_report e = IsWellFormed-accepted is_report part (same-refusal 1 first part is_report ∙ ap is_some e)
well_formed_on_ok (Err d) part first is_report e = tt
