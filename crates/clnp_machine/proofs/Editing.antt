-- The options of a packet behind a router are what the router's edits make of those before it.
use Rattle.std.proofs.Common.{◌≡◌, ◌≢◌, ◌∙◌, refl, sym, ap, ℕ, zero, suc, inl, inr, Bool, true, false, List, [], ◌∷◌, ◌++◌, Option, Some}
use Rattle.std.specs.Prelude.{◌==◌, if◌then◌else◌}
use Rattle.std.proofs.lemmas.Bool.{cases_Bool, eqb-true, ne_eqb}
use Rattle.clnp_plan.specs.ClnpOptions.Edits.{advanced, edited, marked, recorded, target_of, value_of}
use Rattle.clnp_plan.specs.ClnpOptions.Parameter.{Parameter, quality, recording, source_route}
use Rattle.clnp_machine.specs.Edited.{AreEdited, Edit, Advances, Marks, Records, with_edit, with_edits}
use Rattle.clnp_machine.specs.Esis.{title_of}
use Rattle.clnp_machine.specs.Step.{most_titles, noting_congestion, options_behind, passing_own}
use Rattle.clnp_machine.specs.System.{SystemState}
use Rattle.clnp_machine.proofs.Behind.{one_passed}

edits_append : (edits more : List Edit) (options : List Parameter) → with_edits (edits ++ more) options ≡ with_edits more (with_edits edits options)
edits_append [] more options = refl
edits_append (first ∷ edits) more options = edits_append edits more (with_edit first options)

-- what is edited again is edited
pub edited_again : (before options later : List Parameter) → AreEdited before options → AreEdited options later → AreEdited before later
edited_again before options later first second =
    (first.0 ++ second.0, second.1 ∙ ap (with_edits second.0) first.1 ∙ sym (edits_append first.0 second.0 before))

module _ (s : SystemState) where
  passing_edited : (most : ℕ) (options : List Parameter) → AreEdited options (passing_own most s options)
  passing_edited zero options = ([], refl)
  passing_edited (suc most) options =
      let deeper : List Parameter = edited source_route advanced options in
      one_passed (AreEdited options) s options (passing_own most s deeper) (target_of options) ([], refl)
      (λ some. let rest = passing_edited most deeper in (Advances ∷ rest.0, rest.1))

  noting_edited : (congested : Bool) (options : List Parameter) → AreEdited options (noting_congestion congested options)
  noting_edited true options = (Marks ∷ [], refl)
  noting_edited false options = ([], refl)

  pub behind_edited : (options : List Parameter) → AreEdited options (options_behind s options)
  behind_edited options =
      let passed = passing_own most_titles s options in
      let noted = edited recording (recorded (title_of s)) passed in
      edited_again options noted (options_behind s options)
      (edited_again options passed noted (passing_edited most_titles options) (Records (title_of s) ∷ [], refl)) (noting_edited s.congested noted)

-- An option of another code keeps its value.

other_kept : (code other : ℕ) (change : List ℕ → List ℕ) → other ≢ code → (options : List Parameter) → value_of other (edited code change options) ≡ value_of other options
unfolding value_of edited
other_kept code other change differs [] = refl
other_kept code other change differs (option ∷ options) =
    let rest = other_kept code other change differs options in
    elim (cases_Bool (option.code == code)) [
      | inl same ↦
          let not_code : (code == other) ≡ false = ne_eqb code other (λ e. differs (sym e)) in
          let not_option : (option.code == other) ≡ false = ne_eqb option.code other (λ e. differs (sym e ∙ eqb-true option.code code same)) in
          rw (same, not_code, not_option) rest
      | inr apart ↦ rw apart (ap (λ (found : Option (List ℕ)). if option.code == other then Some option.value else found) rest)
    ]

one_keeps : (edit : Edit) (code : ℕ) → code ≢ source_route → code ≢ recording → code ≢ quality → (options : List Parameter)
    → value_of code (with_edit edit options) ≡ value_of code options
one_keeps Advances code route record_of service options = other_kept source_route code advanced route options
one_keeps (Records title) code route record_of service options = other_kept recording code (recorded title) record_of options
one_keeps Marks code route record_of service options = other_kept quality code marked service options

pub edits_keep : (edits : List Edit) (code : ℕ) → code ≢ source_route → code ≢ recording → code ≢ quality → (options : List Parameter)
    → value_of code (with_edits edits options) ≡ value_of code options
edits_keep [] code route record_of service options = refl
edits_keep (first ∷ edits) code route record_of service options =
    edits_keep edits code route record_of service (with_edit first options) ∙ one_keeps first code route record_of service options
