-- What holds of a header that breaks no rule, rule by rule.
use Rattle.std.proofs.Common.{◌≡◌, ◌≢◌, refl, ℕ, ◌≤◌, ◌==◌, ◌&&◌, ◌||◌, not, Bool, true, false, if◌then◌else◌, List, Option, Some, None, arith}
use Rattle.std.specs.Prelude.{nat_lt, option_map}
use Rattle.std.specs.Option.{option_or}
use Rattle.std.proofs.lemmas.Bool.{not-false, not_from_true, eqb-true, eq-eqb}
use Rattle.std.proofs.lemmas.Bool.Decides.{nat_tests}
use Rattle.clnp_base.proofs.Choices.{option_or-parts, option_or-none, not_below, below_not, not_picked}
use Rattle.pdus.specs.Fletcher.Checksum.{octet}
use Rattle.pdus.specs.ClnpOptions.Parameter.{parameters}
use Rattle.pdus.specs.ClnpOptions.Rules.{place_of_unfit}
use Rattle.pdus.specs.PduHeader.Rules.{has_right_checksum}
use Rattle.pdus.specs.declared.esis_pdus.pdu.EsisRefusal.{EsisRefusal}
use Rattle.pdus.specs.declared.esis_pdus.pdu.EsisRefusal.TheVariants.{Broken}
use Rattle.pdus.specs.EsisPdus.Fields.{is_field, is_address_list}
use Rattle.pdus.specs.EsisPdus.Timer.{place_of_wrong_timer}
use Rattle.pdus.specs.EsisPdus.Rules.{variable_part, is_esh, is_ish, is_rd, is_redirection, options_part, options_place, frame_rules, first_broken, header_refusal}
use Rattle.pdus.proofs.EsisPdus.Shape.{HasHeader, good_size}

-- a header breaks no rule
pub record IsAccepted (head : List ℕ) : Type 0 where
  pub version : octet head 3 ≡ 1
  pub reserved : octet head 4 ≡ 0
  pub type : (is_esh head || (is_ish head || is_rd head)) ≡ true
  pub checksum : has_right_checksum head ≡ true
  pub esh : (is_esh head && not (is_address_list (variable_part head))) ≡ false
  pub ish : (is_ish head && not (is_field 1 (variable_part head))) ≡ false
  pub rd : (is_rd head && not (is_redirection (variable_part head))) ≡ false
  pub fill : place_of_unfit (options_place head) (options_part head) ≡ None
  pub timer : (if is_ish head then place_of_wrong_timer false (options_place head) (parameters (options_part head)) else None) ≡ None

pub passed : (number : ℕ) (here : Option ℕ) (others : Option EsisRefusal) → option_or (option_map (λ p. Broken number p) here) others ≡ None → (here ≡ None) × (others ≡ None)
passed number None others h = (refl, h)
passed number (Some p) others h = cc

pub passing : (number : ℕ) (here : Option ℕ) (others : Option EsisRefusal) → here ≡ None → others ≡ None → option_or (option_map (λ p. Broken number p) here) others ≡ None
passing number here others e h = rw e h

pub test_passing : (b : Bool) (place : ℕ) → b ≡ false → (if b then Some place else None) ≡ None
test_passing b place e = rw e refl

pub accepted : (head : List ℕ) → header_refusal head ≡ None → IsAccepted head
unfolding header_refusal first_broken
accepted head h =
    let fixed = option_or-parts _ _ h in
    let others = option_or-parts _ _ fixed.1 in
    let e4 = passed 4 _ _ fixed.0 in
    let e5 = passed 5 _ _ e4.1 in
    let e6 = passed 6 _ _ e5.1 in
    let e7 = passed 7 _ _ e6.1 in
    let e8 = passed 8 _ _ others.0 in
    let e9 = passed 9 _ _ e8.1 in
    let e10 = passed 10 _ _ e9.1 in
    let e11 = passed 11 _ _ others.1 in
    let e12 = passed 12 _ _ e11.1 in
    record {
      version = eqb-true _ _ (not-false _ (not_picked _ _ e4.0));
      reserved = eqb-true _ _ (not-false _ (not_picked _ _ e5.0));
      type = not-false _ (not_picked _ _ e6.0);
      checksum = not-false _ (not_picked _ _ e7.0);
      esh = not_picked _ _ e8.0;
      ish = not_picked _ _ e9.0;
      rd = not_picked _ _ e10.0;
      fill = e11.0;
      timer = e12.0;
    }

pub accepting : (head : List ℕ) → IsAccepted head → header_refusal head ≡ None
unfolding header_refusal first_broken
accepting head h =
    option_or-none _ _ _
    (passing 4 _ _ (test_passing _ _ (not_from_true _ (eq-eqb _ _ h.version)))
    (passing 5 _ _ (test_passing _ _ (not_from_true _ (eq-eqb _ _ h.reserved)))
    (passing 6 _ _ (test_passing _ _ (not_from_true _ h.type))
    (passing 7 _ _ (test_passing _ _ (not_from_true _ h.checksum)) refl))))
    (option_or-none _ _ _
    (passing 8 _ _ (test_passing _ _ h.esh) (passing 9 _ _ (test_passing _ _ h.ish) (passing 10 _ _ (test_passing _ _ h.rd) refl)))
    (passing 11 _ _ h.fill (passing 12 _ _ h.timer refl)))

size_good : (n : ℕ) → 9 ≤ n → n ≢ 255 → (nat_lt n 9 || n == 255) ≡ false
size_good n h k = grind (arith, nat_tests)

pub has_header : (frame : List ℕ) → first_broken frame_rules frame ≡ None → HasHeader frame
unfolding first_broken
has_header frame h =
    let e1 = passed 1 _ _ h in
    let e2 = passed 2 _ _ e1.1 in
    let e3 = passed 3 _ _ e2.1 in
    let size = good_size _ (not_picked _ _ e2.0) in
    record {
      long = not_below _ _ (not_picked _ _ e1.0);
      size = size.0;
      not_reserved = size.1;
      within = not_below _ _ (not_picked _ _ e3.0);
    }

pub header_here : (frame : List ℕ) → HasHeader frame → first_broken frame_rules frame ≡ None
unfolding first_broken
header_here frame h =
    passing 1 _ _ (test_passing _ _ (below_not _ _ h.long))
    (passing 2 _ _ (test_passing _ _ (size_good _ h.size h.not_reserved))
    (passing 3 _ _ (test_passing _ _ (below_not _ _ h.within)) refl))
