-- What the rules of a whole frame say, from what those of its parts say.
use Rattle.std.proofs.Common.{◌≡◌, ◌∙◌, sym, refl, ap, subst, ℕ, ◌==◌, ◌-◌, ◌&&◌, not, Bool, true, false, if◌then◌else◌, List, length, take, take_all, length-drop, arith, Option, Some, None, Result, Ok, Err, MatchResult}
use Rattle.std.specs.Prelude.{option_map}
use Rattle.std.specs.Option.{option_or}
use Rattle.pdus.specs.Fletcher.Checksum.{octet}
use Rattle.pdus.specs.PduHeader.Rules.{header_of}
use Rattle.pdus.specs.ClnpOptions.Parameter.{Parameter}
use Rattle.pdus.specs.declared.esis_pdus.kind.Kind.{Kind}
use Rattle.pdus.specs.declared.esis_pdus.kind.Kind.TheVariants.{EndSystemHello, IntermediateSystemHello, Redirect}
use Rattle.pdus.specs.declared.esis_pdus.pdu.EsisRefusal.{EsisRefusal}
use Rattle.pdus.specs.declared.esis_pdus.pdu.EsisRefusal.TheVariants.{Broken}
use Rattle.pdus.specs.EsisPdus.Fields.{is_field, is_address_list}
use Rattle.pdus.specs.EsisPdus.Rules.{Gives, variable_part, is_ish, is_redirection, frame_rules, fixed_part_rules, address_rules, option_rules, first_broken, header_refusal, refusal}
use Rattle.pdus.specs.EsisPdus.Kinds.{code_of}
use Rattle.pdus.specs.EsisPdus.Reading.{body_of}
use Rattle.pdus.specs.EsisPdus.Timer.{seconds_of}
use Rattle.pdus.specs.EsisPdus.Value.{suggested}

-- the slice behind the fixed part
abbrev pub cut : List ℕ → List ℕ
cut head = take (length head - 9) (variable_part head)

pub cut_is : (head : List ℕ) → cut head ≡ variable_part head
cut_is head = take_all (length head - 9) (variable_part head) (omega (arith, length-drop 9 head))

-- a part that is tested by this rule
abbrev pub IsTested : {U : Type 0} → Result U EsisRefusal → ℕ → Bool → Type 0
IsTested result number good = MatchResult result (λ _. good ≡ true) (λ refused. (good ≡ false) × (refused ≡ Broken number 10))

-- what the rules of the address parts say, where one of them tells the kind and the tests' answers
abbrev broken_in : ℕ → Bool → Bool → Bool → Option EsisRefusal
broken_in code esh ish rd =
    option_or (option_map (Broken 8) (if (code == 2) && not esh then Some 10 else None))
    (option_or (option_map (Broken 9) (if (code == 4) && not ish then Some 10 else None))
    (option_or (option_map (Broken 10) (if (code == 6) && not rd then Some 10 else None)) None))

gives : {U : Type 0} (result : Result U EsisRefusal) (number : ℕ) (good : Bool) (refused : Bool → Option EsisRefusal)
    → refused true ≡ None → refused false ≡ Some (Broken number 10) → IsTested result number good → Gives result (refused good)
gives (Ok parts) number good refused right wrong tested = ap refused tested ∙ right
gives (Err r) number good refused right wrong tested = ap refused tested.0 ∙ (wrong ∙ ap (λ x. Some x) (sym tested.1))

module _ {U : Type 0} (result : Result U EsisRefusal) (head : List ℕ) where
  pub of_esh : octet head 5 ≡ 2 → IsTested result 8 (is_address_list (cut head)) → Gives result (first_broken address_rules head)
  unfolding first_broken
  of_esh code tested =
      let part = variable_part head in
      let P : ℕ → Type 0 = λ k. Gives result (broken_in k (is_address_list part) (is_field 1 part) (is_redirection part)) in
      let Q : List ℕ → Type 0 = λ p. IsTested result 8 (is_address_list p) in
      subst P (sym code) (gives result 8 (is_address_list part) (λ good. broken_in 2 good (is_field 1 part) (is_redirection part)) refl refl (subst Q (cut_is head) tested))

  pub of_ish : octet head 5 ≡ 4 → IsTested result 9 (is_field 1 (cut head)) → Gives result (first_broken address_rules head)
  unfolding first_broken
  of_ish code tested =
      let part = variable_part head in
      let P : ℕ → Type 0 = λ k. Gives result (broken_in k (is_address_list part) (is_field 1 part) (is_redirection part)) in
      let Q : List ℕ → Type 0 = λ p. IsTested result 9 (is_field 1 p) in
      subst P (sym code) (gives result 9 (is_field 1 part) (λ good. broken_in 4 (is_address_list part) good (is_redirection part)) refl refl (subst Q (cut_is head) tested))

  pub of_rd : octet head 5 ≡ 6 → IsTested result 10 (is_redirection (cut head)) → Gives result (first_broken address_rules head)
  unfolding first_broken
  of_rd code tested =
      let part = variable_part head in
      let P : ℕ → Type 0 = λ k. Gives result (broken_in k (is_address_list part) (is_field 1 part) (is_redirection part)) in
      let Q : List ℕ → Type 0 = λ p. IsTested result 10 (is_redirection p) in
      subst P (sym code) (gives result 10 (is_redirection part) (λ good. broken_in 6 (is_address_list part) (is_field 1 part) good) refl refl (subst Q (cut_is head) tested))

pub of_frame : (frame : List ℕ) (r : EsisRefusal) → first_broken frame_rules frame ≡ Some r → refusal frame ≡ Some r
unfolding refusal
of_frame frame r e = rw e refl

module _ (frame head : List ℕ) (is : head ≡ header_of frame) (whole : first_broken frame_rules frame ≡ None) where
  of_header : (answer : Option EsisRefusal) → header_refusal head ≡ answer → refusal frame ≡ answer
  unfolding refusal
  of_header answer e = rw whole (rw (sym is) e)

  pub of_fixed : (r : EsisRefusal) → first_broken fixed_part_rules head ≡ Some r → refusal frame ≡ Some r
  unfolding header_refusal
  of_fixed r e = of_header (Some r) (rw e refl)

  pub of_addresses : (r : EsisRefusal) → first_broken fixed_part_rules head ≡ None → first_broken address_rules head ≡ Some r → refusal frame ≡ Some r
  unfolding header_refusal
  of_addresses r fixed e = of_header (Some r) (rw fixed (rw e refl))

  pub of_options : (answer : Option EsisRefusal) → first_broken fixed_part_rules head ≡ None → first_broken address_rules head ≡ None
      → first_broken option_rules head ≡ answer → refusal frame ≡ answer
  unfolding header_refusal
  of_options answer fixed addresses e = of_header answer (rw fixed (rw addresses e))

pub suggested_is : (head : List ℕ) (options : List Parameter) (kind : Kind) → octet head 5 ≡ code_of kind
    → (if is_ish head then seconds_of options else None) ≡ suggested (body_of head) options
suggested_is head options EndSystemHello code = rw code refl
suggested_is head options IntermediateSystemHello code = rw code refl
suggested_is head options Redirect code = rw code refl
