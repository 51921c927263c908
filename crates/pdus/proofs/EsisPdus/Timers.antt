-- A walk over options that looks for the timer.
use Rattle.std.proofs.Common.{◌≡◌, ◌≢◌, ◌∙◌, refl, sym, ap, ℕ, ◌+◌, ◌||◌, ◌==◌, not, Bool, true, false, List, [], ◌∷◌, length, Option, Some, None, is_some, arith}
use Rattle.std.specs.Option.{option_or}
use Rattle.std.proofs.lemmas.Bool.{eq-eqb, ne_eqb}
use Rattle.pdus.specs.ClnpOptions.Parameter.{Parameter, parameters, size_of}
use Rattle.pdus.specs.PduHeader.Rules.{pair_at}
use Rattle.pdus.specs.EsisPdus.Timer.{place_of_wrong_timer, seconds_of}
use Rattle.clnp_base.proofs.Choices.{or_false, option_or-nothing}

pub nil_place : (seen : Bool) (place : ℕ) → place_of_wrong_timer seen place [] ≡ None
unfolding place_of_wrong_timer
nil_place seen place = refl

pub nil_seconds : seconds_of [] ≡ None
unfolding seconds_of
nil_seconds = refl

-- what is known in the walk: where it stands, and what it found
pub record IsSoFar (seconds : Option ℕ) (place : ℕ) (rest : List ℕ) (first : ℕ) (options : List ℕ) : Type 0 where
  pub at : place + length rest ≡ first + length options
  pub place_is : place_of_wrong_timer (is_some seconds) place (parameters rest) ≡ place_of_wrong_timer false first (parameters options)
  pub seconds_are : option_or seconds (seconds_of (parameters rest)) ≡ seconds_of (parameters options)

pub wrong_here : (o : Parameter) (os : List Parameter) (seen : Bool) (place : ℕ) → o.code ≡ 0xc6 → (seen || not (length o.value == 2)) ≡ true → place_of_wrong_timer seen place (o ∷ os) ≡ Some place
unfolding place_of_wrong_timer
wrong_here o os seen place e w = rw (eq-eqb o.code 0xc6 e, w) refl

pub timer_here : (o : Parameter) (os : List Parameter) (place : ℕ) → o.code ≡ 0xc6 → length o.value ≡ 2 → place_of_wrong_timer false place (o ∷ os) ≡ place_of_wrong_timer true (place + size_of o) os
unfolding place_of_wrong_timer
timer_here o os place e two = rw (eq-eqb o.code 0xc6 e, eq-eqb (length o.value) 2 two) refl

pub other_here : (o : Parameter) (os : List Parameter) (seen : Bool) (place : ℕ) → o.code ≢ 0xc6 → place_of_wrong_timer seen place (o ∷ os) ≡ place_of_wrong_timer seen (place + size_of o) os
unfolding place_of_wrong_timer
other_here o os seen place e = rw (ne_eqb o.code 0xc6 e, or_false seen) refl

pub seconds_here : (o : Parameter) (os : List Parameter) → o.code ≡ 0xc6 → seconds_of (o ∷ os) ≡ Some (pair_at o.value 1)
unfolding seconds_of
seconds_here o os e = rw (eq-eqb o.code 0xc6 e) refl

pub no_seconds_here : (o : Parameter) (os : List Parameter) → o.code ≢ 0xc6 → seconds_of (o ∷ os) ≡ seconds_of os
unfolding seconds_of
no_seconds_here o os e = rw (ne_eqb o.code 0xc6 e) refl

-- ---- the walk, step by step

pub wrong_at : (seconds : Option ℕ) (place code : ℕ) (value rest others options : List ℕ) (first : ℕ)
    → IsSoFar seconds place rest first options → parameters rest ≡ record { code = code; value = value } ∷ parameters others → code ≡ 0xc6
    → (is_some seconds || not (length value == 2)) ≡ true → place_of_wrong_timer false first (parameters options) ≡ Some place
wrong_at seconds place code value rest others options first h e at w =
    sym h.place_is
    ∙ ap (λ (os : List Parameter). place_of_wrong_timer (is_some seconds) place os) e
    ∙ wrong_here (record { code = code; value = value }) (parameters others) (is_some seconds) place at w

pub timer_at : (seconds : Option ℕ) (place code n : ℕ) (value rest others options : List ℕ) (first : ℕ)
    → IsSoFar seconds place rest first options → length rest ≡ 2 + length value + length others
    → parameters rest ≡ record { code = code; value = value } ∷ parameters others → code ≡ 0xc6
    → is_some seconds ≡ false → length value ≡ 2 → n ≡ pair_at value 1
    → IsSoFar (Some n) (place + (2 + length value)) others first options
timer_at (Some m) place code n value rest others options first h size e at none two is = cc
timer_at None place code n value rest others options first h size e at none two is = record {
  at = omega (arith, size, h.at);
  place_is =
      sym (timer_here (record { code = code; value = value }) (parameters others) place at two)
      ∙ ap (λ (os : List Parameter). place_of_wrong_timer false place os) (sym e)
      ∙ h.place_is;
  seconds_are =
      ap (λ k. Some k) is
      ∙ sym (seconds_here (record { code = code; value = value }) (parameters others) at)
      ∙ ap (λ (os : List Parameter). seconds_of os) (sym e)
      ∙ h.seconds_are;
}

pub other_at : (seconds : Option ℕ) (place code : ℕ) (value rest others options : List ℕ) (first : ℕ)
    → IsSoFar seconds place rest first options → length rest ≡ 2 + length value + length others
    → parameters rest ≡ record { code = code; value = value } ∷ parameters others → code ≢ 0xc6
    → IsSoFar seconds (place + (2 + length value)) others first options
other_at seconds place code value rest others options first h size e at = record {
  at = omega (arith, size, h.at);
  place_is =
      sym (other_here (record { code = code; value = value }) (parameters others) (is_some seconds) place at)
      ∙ ap (λ (os : List Parameter). place_of_wrong_timer (is_some seconds) place os) (sym e)
      ∙ h.place_is;
  seconds_are =
      ap (λ (s : Option ℕ). option_or seconds s) (sym (no_seconds_here (record { code = code; value = value }) (parameters others) at) ∙ ap (λ (os : List Parameter). seconds_of os) (sym e))
      ∙ h.seconds_are;
}

pub end_place : (seconds : Option ℕ) (place : ℕ) (rest options : List ℕ) (first : ℕ)
    → IsSoFar seconds place rest first options → parameters rest ≡ [] → place_of_wrong_timer false first (parameters options) ≡ None
end_place seconds place rest options first h e =
    sym h.place_is ∙ ap (λ (os : List Parameter). place_of_wrong_timer (is_some seconds) place os) e ∙ nil_place (is_some seconds) place

pub end_seconds : (seconds : Option ℕ) (place : ℕ) (rest options : List ℕ) (first : ℕ)
    → IsSoFar seconds place rest first options → parameters rest ≡ [] → seconds ≡ seconds_of (parameters options)
end_seconds seconds place rest options first h e =
    sym (option_or-nothing seconds)
    ∙ ap (λ (s : Option ℕ). option_or seconds s) (sym (ap (λ (os : List Parameter). seconds_of os) e ∙ nil_seconds))
    ∙ h.seconds_are
