-- What octets from outside carry: they are the frame of their content.
use Rattle.std.proofs.Common.{◌≡◌, ◌∙◌, refl, sym, ap, subst, ℕ, ◌+◌, ◌-◌, ◌≤◌, inl, inr, Bool, true, false, Option, None, Some, List, ◌++◌, length, take, drop, arith}
use Rattle.std.specs.Prelude.{◌==◌, ◌&&◌, if◌then◌else◌, is_none, nat_lt}
use Rattle.std.proofs.lemmas.Bool.{and_parts, cases_Bool, eqb-true}
use Rattle.std.proofs.lemmas.Bool.Decides.{nat_tests}
use Rattle.std.proofs.lemmas.List.{take_all}
use Rattle.hex.specs.Hex.{IsBytes}
use Rattle.clnp_plan.specs.Pdus.declared.clnp_options.judge.OptionRefusal.{OptionRefusal}
use Rattle.clnp_plan.specs.PduHeader.Value.{SegmentationPart, PduValue}
use Rattle.clnp_plan.specs.PduHeader.Spelling.{header_length, spelling}
use Rattle.clnp_plan.specs.PduHeader.Grammar.{BeginsWith, IsPdu}
use Rattle.clnp_plan.specs.PduHeader.Rules.{octet, refusal}
use Rattle.clnp_plan.specs.PduHeader.Reading.{rest_of}
use Rattle.pdus.specs.declared.esis_pdus.pdu.EsisRefusal.{EsisRefusal}
use Rattle.pdus.specs.EsisPdus.Grammar as esis
use Rattle.pdus.specs.EsisPdus.Reading as esis_reading
use Rattle.pdus.specs.EsisPdus.Rules as esis_rules
use Rattle.pdus.specs.EsisPdus.Rules.{why_refused}
use Rattle.pdus.specs.EsisPdus.Value.{EsisValue}
use Rattle.pdus.proofs.EsisPdus.Frames as esis_frames
use Rattle.clnp_machine.specs.Unit.{IsCarriable, value_of}
use Rattle.clnp_machine.specs.Content.{Content, Labelled, Esis, Unlabelled, IsCarried, content_of, esis_value_in, frame_of, is_accepted, packet_from_outside, value_in}
use Rattle.clnp_machine.proofs.Pieces.{with_parts}
use Rattle.clnp_machine.proofs.Headers.{front, nothing_spelled, other_protocol}
use Rattle.clnp_plan.proofs.ClnpBase.Choices.{none_is}

follows : (end all : ℕ) (more : Bool) → end ≤ all → (more ≡ false → end ≡ all) → (end ≡ all → more ≡ false) → nat_lt end all ≡ more
follows end all true within ends last = grind (arith, nat_tests)
follows end all false within ends last = grind (arith, nat_tests)

body_again : (at : ℕ) (octets : List ℕ) → take (length octets) (drop (at - at) octets) ≡ octets
body_again at octets =
    let none : at - at ≡ 0 = omega arith in
    ap (λ n. take (length octets) (drop n octets)) none ∙ take_all (length octets) octets (omega arith)

-- a value is again that of all of the unit of which nobody knows more
value_again : (number moment : ℕ) (w : PduValue) (part : Option SegmentationPart) → IsPdu (record w { segmentation = part })
    → value_of (packet_from_outside number moment (record w { segmentation = part })) ≡ record w { segmentation = part }
value_again number moment w None pdu =
    with_parts w None None false w.more (take (length w.body) (drop 0 w.body)) w.body refl (sym pdu.segmentation) (take_all (length w.body) w.body (omega arith))
value_again number moment w (Some part) pdu =
    let v : PduValue = record w { segmentation = Some part } in
    let fits = pdu.segmentation in
    with_parts w (Some part) (Some part) (nat_lt (part.offset + length w.body) (part.total - header_length v)) w.more
    (take (length w.body) (drop (part.offset - part.offset) w.body)) w.body refl
    (follows (part.offset + length w.body) (part.total - header_length v) w.more fits.range.within fits.range.ends.0 fits.range.ends.1) (body_again part.offset w.body)

carriable : (number moment : ℕ) (v : PduValue) → IsPdu v → IsCarriable (packet_from_outside number moment v)
carriable number moment v pdu = record {
  pdu = subst IsPdu (sym (value_again number moment v v.segmentation pdu)) pdu;
  from = omega arith;
  to = omega arith;
}

-- octets are the frame of what they carry, and a frame may carry it
pub record Carries (octets : List ℕ) (content : Content) : Type 0 where
  pub frame : frame_of content ≡ octets
  pub carried : IsCarried content

carries_packet : (number moment : ℕ) (octets : List ℕ) → BeginsWith octets (value_in octets) (rest_of octets)
    → Carries octets (Labelled (packet_from_outside number moment (value_in octets)) (rest_of octets))
carries_packet number moment octets begins =
    let v = value_in octets in
    record {
      frame = ap (λ (w : PduValue). spelling w ++ rest_of octets) (value_again number moment v v.segmentation begins.spells.pdu)
          ∙ ap (λ (front : List ℕ). front ++ rest_of octets) (sym begins.spells.octets_are)
          ∙ sym begins.split;
      carried = carriable number moment v begins.spells.pdu;
    }

accepted_is : (octets : List ℕ) → is_accepted octets ≡ true → (octet octets 1 ≡ 0x81) × (refusal octets ≡ None)
accepted_is octets passes =
    let parts = and_parts (octet octets 1 == 0x81) (is_none (refusal octets)) passes in
    (eqb-true (octet octets 1) 0x81 parts.0, none_is (refusal octets) parts.1)

not_accepted : (octets : List ℕ) → is_accepted octets ≡ false → (v : PduValue) (rest : List ℕ) → BeginsWith octets v rest → ⊥
not_accepted octets fails v rest begins =
    elim (cases_Bool (octet octets 1 == 0x81)) [
      | inr other ↦ other_protocol octets other v rest begins
      | inl begun ↦ refused (refusal octets) refl (subst (λ (b : Bool). (b && is_none (refusal octets)) ≡ false) begun fails)
    ]
  where
    refused : (found : Option OptionRefusal) → refusal octets ≡ found → (true && is_none (refusal octets)) ≡ false → ⊥
    refused None e h = absurd (let none = subst (λ (f : Option OptionRefusal). (true && is_none f) ≡ false) e h in cc)
    refused (Some broken) e h = nothing_spelled octets broken e v rest begins

-- octets that begin with an ES-IS PDU

carries_esis : (octets : List ℕ) → esis.BeginsWith octets (esis_value_in octets) (esis_reading.rest_of octets)
    → Carries octets (Esis (esis_value_in octets) (esis_reading.rest_of octets))
carries_esis octets begins = record {
  frame = ap (λ (front : List ℕ). front ++ esis_reading.rest_of octets) (sym begins.spells.octets_are) ∙ sym begins.split;
  carried = begins.spells.pdu;
}

not_refused : (octets : List ℕ) → why_refused octets ≡ None → (octet octets 1 ≡ 0x82) × (esis_rules.refusal octets ≡ None)
not_refused octets none =
    elim (cases_Bool (octet octets 1 == 0x82)) [
      | inl begun ↦ (eqb-true (octet octets 1) 0x82 begun, rw begun at none)
      | inr other ↦ absurd (let some = rw other at none in cc)
    ]

refused_spells_none : (octets : List ℕ) (why : EsisRefusal) → why_refused octets ≡ Some why → (v : EsisValue) (rest : List ℕ) → esis.BeginsWith octets v rest → ⊥
refused_spells_none octets why some v rest begins =
    elim (cases_Bool (octet octets 1 == 0x82)) [
      | inl begun ↦ esis_frames.nothing_spelled octets why (rw begun at some) v rest begins
      | inr other ↦ esis_frames.other_protocol octets other v rest begins
    ]

-- where no CLNP PDU is accepted

carries_other : (octets : List ℕ) → IsBytes octets → is_accepted octets ≡ false → (found : Option EsisRefusal) → why_refused octets ≡ found
    → Carries octets (if is_none found then Esis (esis_value_in octets) (esis_reading.rest_of octets) else Unlabelled octets)
carries_other octets bytes fails None e =
    let told = not_refused octets e in carries_esis octets (esis_frames.front octets bytes told.0 told.1)
carries_other octets bytes fails (Some why) e =
    record { frame = refl; carried = record { bytes = bytes; clnp = not_accepted octets fails; esis = refused_spells_none octets why e } }

pub has_content : (number moment : ℕ) (octets : List ℕ) → IsBytes octets → Carries octets (content_of number moment octets)
has_content number moment octets bytes =
    elim (cases_Bool (is_accepted octets)) [
      | inl passes ↦ (
          let told = accepted_is octets passes in
          rw passes (carries_packet number moment octets (front octets bytes told.0 told.1)))
      | inr fails ↦ rw fails (carries_other octets bytes fails (why_refused octets) refl)
    ]

pub content_frame : (number moment : ℕ) (octets : List ℕ) → IsBytes octets → frame_of (content_of number moment octets) ≡ octets
content_frame number moment octets bytes = (has_content number moment octets bytes).frame

pub content_carried : (number moment : ℕ) (octets : List ℕ) → IsBytes octets → IsCarried (content_of number moment octets)
content_carried number moment octets bytes = (has_content number moment octets bytes).carried
