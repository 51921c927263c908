-- What the first 254 octets of a frame tell of its header, which has no more.
use Rattle.std.proofs.Common.{◌≡◌, ℕ, ◌≤◌, ◌<◌, ◌==◌, ◌||◌, ◌&&◌, not, true, List, inl, inr, length, take, get_or, None, Some, refl, ◌∙◌, ap, arith}
use Rattle.std.proofs.lemmas.List.{get_or-take, length-take-le, take-take, take_all}
use Rattle.std.proofs.lemmas.Bool.{cases_Bool, leb-false, leb-true}
use Rattle.std.specs.Prelude.{is_some, nat_le, nat_lt}
use Rattle.pdus.specs.PduHeader.Rules.{extent_refusal, header_of, header_size, is_reportable, is_reportable_header, octet}
use Rattle.pdus.proofs.PduHeader.Fields.{AreOctets}
use Rattle.pdus.proofs.PduHeader.Frames.{has_header}
use Rattle.pdus.proofs.PduHeader.Shape.{good_size}
use Rattle.clnp_base.proofs.Choices.{below_not}

module _ (frame : List ℕ) (octets : AreOctets (take 254 frame)) where
  module _ (many : 254 ≤ length frame) where
    at_first : (i : ℕ) → i < 254 → get_or (take 254 frame) i 0 ≡ get_or frame i 0
    at_first i within = get_or-take 254 frame i 0 within

    size_is : header_size (take 254 frame) ≡ header_size frame
    size_is = at_first 1 (omega arith)

    long : length (take 254 frame) ≡ 254
    long = length-take-le 254 frame many

    extent_of_many : extent_refusal (take 254 frame) ≡ extent_refusal frame
    unfolding extent_refusal
    extent_of_many =
        let first = below_not (length (take 254 frame)) 9 (omega (arith, long)) in
        let whole = below_not (length frame) 9 (omega (arith, many)) in
        elim (cases_Bool (nat_lt (header_size frame) 9 || header_size frame == 255)) [
          | inl bad ↦ rw (first, whole, size_is, bad) refl
          | inr good ↦ let size = good_size (header_size frame) good in
              let fits = octets 1 in
              let some = below_not (length (take 254 frame)) (header_size frame) (omega (arith, long, size_is, fits, size.0, size.1)) in
              let all = below_not (length frame) (header_size frame) (omega (arith, many, size_is, fits, size.0, size.1)) in
              rw (first, whole, size_is, good, some, all) refl
        ]

    header_of_many : extent_refusal frame ≡ None → header_of (take 254 frame) ≡ header_of frame
    header_of_many stands =
        let header = has_header frame stands in
        let fits = octets 1 in
        ap (λ size. take size (take 254 frame)) size_is
        ∙ take-take (header_size frame) 254 frame (omega (arith, size_is, fits, header.not_reserved))

    protocol_of_many : octet (take 254 frame) 1 ≡ octet frame 1
    protocol_of_many = at_first 0 (omega arith)

  pub same_extent : extent_refusal (take 254 frame) ≡ extent_refusal frame
  same_extent =
      elim (cases_Bool (nat_le (length frame) 254)) [
        | inl few ↦ ap extent_refusal (take_all 254 frame (leb-true (length frame) 254 few))
        | inr many ↦ let l = leb-false (length frame) 254 many in extent_of_many (omega (arith, l))
      ]

  pub same_header : extent_refusal frame ≡ None → header_of (take 254 frame) ≡ header_of frame
  same_header stands =
      elim (cases_Bool (nat_le (length frame) 254)) [
        | inl few ↦ ap header_of (take_all 254 frame (leb-true (length frame) 254 few))
        | inr many ↦ let l = leb-false (length frame) 254 many in header_of_many (omega (arith, l)) stands
      ]

  same_protocol : octet (take 254 frame) 1 ≡ octet frame 1
  same_protocol =
      elim (cases_Bool (nat_le (length frame) 254)) [
        | inl few ↦ ap (λ xs. octet xs 1) (take_all 254 frame (leb-true (length frame) 254 few))
        | inr many ↦ let l = leb-false (length frame) 254 many in protocol_of_many (omega (arith, l))
      ]

  pub same_reportable : is_reportable (take 254 frame) ≡ is_reportable frame
  same_reportable =
      rw (same_protocol, same_extent) (each (extent_refusal frame) refl)
    where
      each : (refused : _) → extent_refusal frame ≡ refused
          → (octet frame 1 == 0x81 && (not (is_some refused) && is_reportable_header (header_of (take 254 frame))))
          ≡ (octet frame 1 == 0x81 && (not (is_some refused) && is_reportable_header (header_of frame)))
      each None stands = ap (λ head. octet frame 1 == 0x81 && (true && is_reportable_header head)) (same_header stands)
      each (Some broken) stands = refl
