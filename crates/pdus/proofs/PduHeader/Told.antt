-- What a header tells of the PDU that it is the header of.
use Rattle.std.proofs.Common.{◌≡◌, ◌∙◌, sym, ap, ℕ, ◌+◌, ◌≤◌, true, false, None, Some, List, length, arith}
use Rattle.pdus.specs.declared.pdu_header.pdu.SegPart.{SegPart}
use Rattle.pdus.specs.PduHeader.Value.{PduValue}
use Rattle.pdus.specs.PduHeader.Headers.{IsHeader, SpellsHeader}
use Rattle.pdus.specs.PduHeader.Rules.{has_more, is_segmented, pair_at, part_place}
use Rattle.pdus.specs.PduHeader.Reading.{segmentation_at, value_of}
use Rattle.pdus.specs.PduHeader.View.{part_value}
use Rattle.clnp_base.proofs.Choices.{not_below}
use Rattle.pdus.proofs.PduHeader.Read.{read_as}

pub tells_value : (v : PduValue) (octets : List ℕ) → SpellsHeader v octets → v ≡ value_of octets v.body
tells_value v octets h =
    sym (ap (λ (xs : List ℕ). value_of xs v.body) h.octets_are ∙ (read_as v h.pdu).value)

pub tells_more : (v : PduValue) (octets : List ℕ) → SpellsHeader v octets → has_more octets ≡ v.more
tells_more v octets h = sym (ap (λ (w : PduValue). w.more) (tells_value v octets h))

pub tells_segmentation : (v : PduValue) (octets : List ℕ) → SpellsHeader v octets → segmentation_at octets ≡ v.segmentation
tells_segmentation v octets h = sym (ap (λ (w : PduValue). w.segmentation) (tells_value v octets h))

pub tells_none : (v : PduValue) (octets : List ℕ) → SpellsHeader v octets → is_segmented octets ≡ false → None ≡ v.segmentation
tells_none v octets h e = let s = tells_segmentation v octets h in rw e at s

pub tells_part : (v : PduValue) (octets : List ℕ) (place : ℕ) (part : SegPart) → SpellsHeader v octets → is_segmented octets ≡ true → part_place octets ≡ place
    → part.id ≡ pair_at octets place → part.offset ≡ pair_at octets (place + 2) → part.total ≡ pair_at octets (place + 4)
    → Some (part_value part) ≡ v.segmentation
tells_part v octets place part h e at id offset total =
    let s = tells_segmentation v octets h in rw (id, offset, total) (rw (e, at) at s)

pub part_within : (octets : List ℕ) → IsHeader octets → is_segmented octets ≡ true → part_place octets + 5 ≤ length octets
part_within octets h e =
    let read = read_as h.0 h.1.pdu in
    let within = (read.accepted (length octets + length h.0.body) (omega (arith, ap length h.1.octets_are))).part in
    let here = rw (← h.1.octets_are, e) at within in
    not_below _ _ here
