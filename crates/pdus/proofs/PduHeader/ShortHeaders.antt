-- A frame that begins with a short header, which tells its own length.
use Rattle.std.proofs.Common.{◌≡◌, ℕ, ◌+◌, ◌-◌, ◌==◌, ◌&&◌, not, List, ◌++◌, inl, inr, length, take, drop, None, refl, sym, ◌∙◌, ap, arith}
use Rattle.std.proofs.lemmas.List.{drop_at, get_or_append_left, get_or-append_right, length-append, take_at}
use Rattle.std.proofs.lemmas.Bool.{cases_Bool, ltb-false, ltb-true}
use Rattle.std.specs.Option.{option_or}
use Rattle.std.specs.Prelude.{is_some, nat_lt}
use Rattle.pdus.specs.ClnpViews.Parted.{IsShortHeader}
use Rattle.pdus.specs.PduHeader.Rules.{data_size, extent_refusal, header_of, header_refusal, header_size, is_reportable, is_reportable_header, octet, refusal}
use Rattle.pdus.specs.PduHeader.Reading.{body_of, rest_of, value_of}
use Rattle.pdus.proofs.PduHeader.Fields.{AreOctets}
use Rattle.pdus.proofs.PduHeader.Frames.{header_here}

module _ (front behind : List ℕ) (h : IsShortHeader front) where
  pub protocol_there : octet (front ++ behind) 1 ≡ 0x81
  protocol_there = get_or_append_left front behind 0 0 (omega (arith, h.long)) ∙ h.protocol

  size_there : header_size (front ++ behind) ≡ length front
  size_there = get_or_append_left front behind 0 1 (omega (arith, h.long)) ∙ h.length_told

  pub header_there : header_of (front ++ behind) ≡ front
  header_there = take_at front behind (header_size (front ++ behind)) (sym size_there)

  behind_there : drop (header_size (front ++ behind)) (front ++ behind) ≡ behind
  behind_there = drop_at front behind (header_size (front ++ behind)) (sym size_there)

  whole_there : extent_refusal (front ++ behind) ≡ None
  whole_there =
      let whole = length-append front behind in
      header_here (front ++ behind) (record {
        long = omega (arith, whole, h.long);
        size = omega (arith, size_there, h.long);
        not_reserved = λ reserved. omega (arith, size_there, h.short, reserved);
        within = omega (arith, whole, size_there);
      })

  pub refusal_there : refusal (front ++ behind) ≡ header_refusal front (length front + length behind)
  unfolding refusal
  refusal_there =
      ap (λ none. option_or none (header_refusal (header_of (front ++ behind)) (length (front ++ behind)))) whole_there
      ∙ ap (λ head. header_refusal head (length (front ++ behind))) header_there
      ∙ ap (λ long. header_refusal front long) (length-append front behind)

  pub value_there : value_of front (take (data_size front) behind) ≡ value_of (header_of (front ++ behind)) (body_of (front ++ behind))
  value_there =
      ap (λ head. value_of head (take (data_size head) behind)) (sym header_there)
      ∙ ap (λ octets. value_of (header_of (front ++ behind)) (take (data_size (header_of (front ++ behind))) octets)) (sym behind_there)

  pub rest_there : drop (data_size front) behind ≡ rest_of (front ++ behind)
  rest_there =
      ap (λ head. drop (data_size head) behind) (sym header_there)
      ∙ ap (λ octets. drop (data_size (header_of (front ++ behind))) octets) (sym behind_there)

  pub reportable_there : is_reportable (front ++ behind) ≡ is_reportable_header front
  reportable_there =
      ap (λ first. first == 0x81 && (not (is_some (extent_refusal (front ++ behind))) && is_reportable_header (header_of (front ++ behind)))) protocol_there
      ∙ ap (λ none. not (is_some none) && is_reportable_header (header_of (front ++ behind))) whole_there
      ∙ ap is_reportable_header header_there

-- octets of two parts
pub octets_of_both : (front behind : List ℕ) → AreOctets front → AreOctets behind → AreOctets (front ++ behind)
octets_of_both front behind some others i =
    elim (cases_Bool (nat_lt i (length front))) [
      | inl before ↦ let l = ltb-true i (length front) before in let at = get_or_append_left front behind 0 i l in omega (arith, at, some i)
      | inr past ↦ let l = ltb-false i (length front) past in
          let at = get_or-append_right front behind (length front) i 0 refl (omega (arith, l)) in omega (arith, at, others (i - length front))
    ]
