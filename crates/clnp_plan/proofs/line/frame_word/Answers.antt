use Rattle.std.proofs.Common.{◌≡◌, ◌<◌, ◌/◌, ◌%◌, ◌++◌, ℕ, List, [], ◌∷◌, ap, arith, length, refl, rules, ◌∙◌}
use Rattle.std.specs.Prelude.{slice_index}
use Rattle.hex.specs.Hex.{encode_with}
use Rattle.clnp_plan.specs.Journal.{octets_word}
use Rattle.pdus.specs.Nsap.Text.{hex_text}
use Rattle.clnp_plan.proofs.line.frame_word.Goals as goal

digits_of_both : (digits front behind : List ℕ) → encode_with digits front ++ encode_with digits behind ≡ encode_with digits (front ++ behind)
unfolding encode_with
digits_of_both digits [] behind = refl
digits_of_both digits (octet ∷ front) behind =
    ap (λ text. slice_index digits (octet / 16) ∷ slice_index digits (octet % 16) ∷ text) (digits_of_both digits front behind)

of_both : (front behind : List ℕ) → 0 < length front → hex_text front ++ hex_text behind ≡ octets_word (front ++ behind)
of_both [] behind some = absurd (omega (arith, some))
of_both (octet ∷ front) behind some = digits_of_both _ (octet ∷ front) behind

pub returns : goal.returns
returns c =
    let some : 0 < length c.parts.result.0.now = search rules in
    of_both c.parts.result.0.now c.parts.result.1.now some ∙ ap octets_word c.parts.ensures.octets
