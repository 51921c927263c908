-- What characters are worth, written down one after the other.
use Rattle.std.proofs.Common.{◌≡◌, ◌∙◌, ℕ, ◌+◌, ◌<◌, inl, inr, List, length, set, length-set, get_or, get_or-set_other, get_or-set_same, ap, sym, arith, replicate}
use Rattle.std.proofs.lemmas.List.{length-replicate}
use Rattle.std.proofs.lemmas.Bool.{cases_eq, cases_lt}
use Rattle.clnp_base.specs.Hexadecimal.{worth}

-- at the places of the first characters stands what these are worth
pub record FirstWorths (values : List ℕ) (count : ℕ) : Type 0 where
  pub long : length values ≡ 256
  pub each : (character : ℕ) → character < count → get_or values character 0 ≡ worth character

pub worths_none : FirstWorths (replicate 256 0) 0
worths_none = record { long = length-replicate {A = ℕ} 256 0; each = λ character below. absurd (omega arith) }

pub worths_more : (values : List ℕ) (count value : ℕ) → FirstWorths values count → count < 256 → value ≡ worth count
    → FirstWorths (set values count value) (count + 1)
worths_more values count value so_far small is =
    let long = so_far.long in
    let here : get_or (set values count value) count 0 ≡ worth count = get_or-set_same values count value 0 (omega arith) ∙ is in
    record {
      long = length-set values count value ∙ long;
      each = λ character below.
          elim (cases_eq character count) [
            | inl same ↦ ap (λ k. get_or (set values count value) k 0) same ∙ here ∙ sym (ap worth same)
            | inr other ↦
                let earlier : character < count = elim (cases_lt character count) [
                  | inl before ↦ before
                  | inr after ↦ absurd (let last : character ≡ count = omega arith in other last)
                ] in
                get_or-set_other values count character value 0 other ∙ so_far.each character earlier
          ];
    }
