-- The reason for discard among options.
use Rattle.std.proofs.Common.{◌≡◌, ◌≢◌, ℕ, ◌==◌, true, false, List, [], ◌∷◌, ◌++◌, length, get_or, All, AllPairs, Any, Contains, Option, Some, None, IsSome, unwrap_or, refl, sym, ◌∙◌, ap, subst, arith, rules, inl, inr, ◌⊎◌, ⊎_elim}
use Rattle.std.specs.List.{list_any}
use Rattle.std.proofs.lemmas.Bool.{cases_lt, eq-eqb, true≢false}
use Rattle.std.proofs.lemmas.List.{get_or_default}
use Rattle.std.proofs.lemmas.Bool.Decides.{eqb_tells}
use Rattle.std.proofs.lemmas.List.Folds.{list_any-from_Any}
use Rattle.std.proofs.lemmas.List.Elements.{Contains-get_or, Contains-append_right, All-contains}
use Rattle.std.proofs.lemmas.Grind.{elements}
use Rattle.pdus.specs.ClnpOptions.Parameter.{Parameter, padding, parameters, parameters_after, reason}
use Rattle.pdus.specs.ClnpOptions.Edits.{value_of}
use Rattle.pdus.specs.ClnpOptions.Grammar.{HasForm, FitsKind}
use Rattle.pdus.specs.ClnpOptions.Rules.{AreWellFormed, list_refusal, place_of, place_of_repeat}
use Rattle.pdus.specs.Fletcher.Checksum.{octet}
use Rattle.pdus.specs.declared.pdu_header.kind.Kind.{Kind}
use Rattle.pdus.specs.declared.pdu_header.kind.Kind.TheVariants.{Er}
use Rattle.pdus.specs.PduHeader.Grammar.{is_report}
use Rattle.pdus.specs.MadePdus.Report.{reason_option}
use Rattle.pdus.specs.MadePdus.Told.{cause_in, place_in}
use Rattle.std.proofs.lemmas.Option.{same_Some}

-- the first option is of the code, or it isn't
pub first : (option : Parameter) (others : List Parameter) (code : ℕ)
    → ((option.code ≡ code) × (value_of code (option ∷ others) ≡ Some option.value)) ⊎ (((option.code == code) ≡ false) × (value_of code (option ∷ others) ≡ value_of code others))
unfolding value_of
first option others code = ⊎_elim (λ same. inl (same.1, rw same.0 refl)) (λ other. inr (other.0, rw other.0 refl)) (eqb_tells option.code code)

-- where an option with a code is picked, that code's value is found
pub picked : (options : List Parameter) (code : ℕ) → list_any (λ option. option.code == code) options ≡ true → IsSome (value_of code options)
picked [] code any = cc
picked (option ∷ others) code any =
    ⊎_elim (λ same. search (rules, same.1)) (λ other. rw other.1 (picked others code (rw other.0 at any))) (first option others code)

-- where an option with a code stands, that code's value is found
pub found : (options : List Parameter) (code : ℕ) → Any (λ option. option.code ≡ code) options → IsSome (value_of code options)
found options code any =
    picked options code (list_any-from_Any (λ option. option.code == code) options (any.0, any.1, any.2, any.3, eq-eqb _ _ any.4))

some_value : {A : Type 0} (o : Option A) → IsSome o → (x : A) × (o ≡ Some x)
some_value None h = cc
some_value (Some x) h = (x, refl)

head_stands : (option : Parameter) (others : List Parameter) (code : ℕ) (value : List ℕ) → option.code ≡ code → option.value ≡ value
    → Contains (option ∷ others) (record { code = code; value = value })
head_stands option others code value e f =
    let same : option ≡ record { code = code; value = value } = ap (λ c. record { code = c; value = option.value }) e ∙ ap (λ w. record { code = code; value = w }) f in
    subst (λ p. Contains (option ∷ others) p) same (Contains-get_or (option ∷ others) 0 option (omega arith))

-- the option whose value is found stands among the options
pub stands : (options : List Parameter) (code : ℕ) (value : List ℕ) → value_of code options ≡ Some value → Contains options (record { code = code; value = value })
unfolding value_of
stands [] code value e = cc
stands (option ∷ others) code value e =
    ⊎_elim
    (λ same. head_stands option others code value same.0 (same_Some _ _ (sym same.1 ∙ e)))
    (λ other. Contains-append_right (option ∷ []) others (record { code = code; value = value }) (stands others code value (sym other.1 ∙ e)))
    (first option others code)

-- two options of one code other than padding are one
pub one : (options : List Parameter) (a b : Parameter) → AllPairs (λ p q. p.code ≡ q.code → p.code ≡ padding) options
    → Contains options a → Contains options b → a.code ≡ b.code → a.code ≢ padding → a ≡ b
one options a b distinct (i, i_in, a_is) (j, j_in, b_is) same not_padding =
    let b_there : get_or options j a ≡ b = get_or_default options j a b j_in ∙ b_is in
    let a_code : (get_or options i a).code ≡ a.code = ap (λ p. p.code) a_is in
    let b_code : (get_or options j a).code ≡ b.code = ap (λ p. p.code) b_there in
    ⊎_elim
    (λ before. absurd (not_padding (sym a_code ∙ distinct i j a before j_in (a_code ∙ (same ∙ sym b_code)))))
    (λ not_before. ⊎_elim
    (λ behind. absurd (not_padding (same ∙ (sym b_code ∙ distinct j i a behind i_in (b_code ∙ (sym same ∙ sym a_code))))))
    (λ not_behind. let here : i ≡ j = omega arith in sym a_is ∙ (ap (λ k. get_or options k a) here ∙ b_there))
    (cases_lt j i))
    (cases_lt i j)

-- the value that is found is that of each option of the code
pub only : (options : List Parameter) (code : ℕ) (value : List ℕ) → AllPairs (λ p q. p.code ≡ q.code → p.code ≡ padding) options
    → code ≢ padding → Contains options (record { code = code; value = value }) → value_of code options ≡ Some value
only options code value distinct not_padding (k, k_in, is) =
    let (w, found_w) = some_value (value_of code options) (found options code (k, record { code = code; value = value }, k_in, is, refl)) in
    let same = one options (record { code = code; value = w }) (record { code = code; value = value }) distinct (stands options code w found_w) (k, k_in, is) refl not_padding in
    found_w ∙ ap (λ p. Some p.value) same

-- a list of two is its two
two : (xs : List ℕ) → length xs ≡ 2 → xs ≡ get_or xs 0 0 ∷ get_or xs 1 0 ∷ []
two xs two_long = search (rules, elements)

-- an option of the code ends the search for it
pub ends : (options rest others : List Parameter) (option : Parameter) → rest ≡ option ∷ others → option.code ≡ reason → HasForm option
    → value_of reason rest ≡ value_of reason options
    → value_of reason options ≡ Some (get_or option.value 0 0 ∷ get_or option.value 1 0 ∷ [])
ends options rest others option is coded form so_far =
    let here : value_of reason (option ∷ others) ≡ Some option.value =
    ⊎_elim (λ same. same.1) (λ other. absurd (true≢false (sym (eq-eqb option.code reason coded) ∙ other.0))) (first option others reason) in
    sym so_far ∙ (ap (value_of reason) is ∙ (here ∙ ap Some (two option.value (form.reason_form coded))))

-- an option of another code is passed over
pub passes : (options rest others : List Parameter) (option : Parameter) → rest ≡ option ∷ others → option.code ≢ reason
    → value_of reason rest ≡ value_of reason options → value_of reason others ≡ value_of reason options
passes options rest others option is other so_far =
    ⊎_elim (λ same. absurd (other same.0)) (λ skips. sym skips.1 ∙ (sym (ap (value_of reason) is) ∙ so_far)) (first option others reason)

-- without options no value is found
pub none_left : (options rest : List Parameter) → rest ≡ [] → value_of reason rest ≡ value_of reason options → IsSome (value_of reason options) → ⊥
unfolding value_of
none_left options rest is so_far some =
    let none : value_of reason options ≡ None = sym so_far ∙ ap (value_of reason) is in
    let P : Option (List ℕ) → Type 0 = λ o. IsSome o in
    let e = subst P none some in
    cc

-- the reason alone is a list of options that breaks no rule
pub alone : (code place : ℕ) → AreWellFormed (parameters [] ++ reason_option code place ∷ [])
unfolding list_refusal place_of place_of_repeat parameters_after
alone code place = refl

-- the reason alone stands in an error report
pub alone_fits : (options : List Parameter) (code place : ℕ) → options ≡ reason_option code place ∷ [] → FitsKind true options
alone_fits options code place is =
    let P : List Parameter → Type 0 = λ os. FitsKind true os in
    subst P (sym is) ((λ t. (0, reason_option code place, omega arith, refl, refl)), (λ any. search rules))

-- an error report has a reason
pub has_reason : (options : List Parameter) → FitsKind true options → IsSome (value_of reason options)
has_reason options fits = found options reason (fits.0 (search rules))

-- the reason that an error report has
pub its_reason : (kind : Kind) (options : List Parameter) → kind ≡ Er → All HasForm options → FitsKind (is_report kind) options
    → Contains options (reason_option (cause_in options) (place_in options))
its_reason kind options is_er formed fits =
    let P : Kind → Type 0 = λ k. FitsKind (is_report k) options in
    let (w, e) = some_value (value_of reason options) (has_reason options (subst P is_er fits)) in
    let here = stands options reason w e in
    let form = All-contains HasForm options (record { code = reason; value = w }) formed here in
    let octets : w ≡ cause_in options ∷ place_in options ∷ [] =
    two w (form.reason_form refl) ∙ ap (λ o. octet (unwrap_or o []) 1 ∷ octet (unwrap_or o []) 2 ∷ []) (sym e) in
    let Q : List ℕ → Type 0 = λ xs. Contains options (record { code = reason; value = xs }) in
    subst Q octets here
