-- The PDU at the front of a frame is that of some packet.
use Rattle.std.proofs.Common.{◌≡◌, ◌∙◌, refl, sym, ap, subst, ℕ, ◌+◌, ◌-◌, Bool, false, Option, None, Some, List, ◌++◌, length, take, drop, arith}
use Rattle.std.specs.Prelude.{option_map, nat_lt}
use Rattle.std.proofs.lemmas.List.{take_all}
use Rattle.clnp_machine.specs.PduHeader.Value.{SegmentationPart, PduValue}
use Rattle.clnp_machine.specs.PduHeader.Spelling.{header_length, spelling}
use Rattle.clnp_machine.specs.PduHeader.Grammar.{BeginsWith, IsPdu, IsSegment}
use Rattle.clnp_machine.specs.Unit.{IsCarriable, Outside, Packet, more_follows, value_of, value_with, wire}
use Rattle.clnp_machine.proofs.ClnpBase.Choices.{flag_is}

abbrev identifier_of : Option SegmentationPart → Option ℕ
identifier_of part = option_map (λ p. p.identifier) part

abbrev offset_of : Option SegmentationPart → ℕ
offset_of None = 0
offset_of (Some part) = part.offset

abbrev total_of : Option SegmentationPart → ℕ
total_of None = 0
total_of (Some part) = part.total

-- a packet whose PDU has a value
abbrev pub packet_of : PduValue → Packet
packet_of v =
    record {
      unit = record {
        maker = Outside;
        number = 0;
        made = 0;
        kind = v.kind;
        report = v.report;
        sealed = v.sealed;
        source = v.source;
        destination = v.destination;
        identifier = identifier_of v.segmentation;
        options = v.options;
        lifetime = v.lifetime;
        first_position = offset_of v.segmentation;
        total = total_of v.segmentation;
        octets = v.body;
      };
      offset = offset_of v.segmentation;
      length = length v.body;
      lifetime = v.lifetime;
      options = v.options;
      hops = 0;
    }

same_part : (o : Option SegmentationPart)
    → option_map (λ (i : ℕ). let s : SegmentationPart = record { identifier = i; offset = offset_of o; total = total_of o } in s) (identifier_of o) ≡ o
same_part None = refl
same_part (Some part) = refl

same_header : (v : PduValue) → header_length (value_with (packet_of v) false) ≡ header_length v
same_header v = ap (λ (o : Option SegmentationPart). header_length (record v { segmentation = o })) (same_part v.segmentation)

same_more : (v : PduValue) (o : Option SegmentationPart) → v.segmentation ≡ o → IsSegment v o → more_follows (packet_of v) (identifier_of o) ≡ v.more
same_more v None e h = sym h
same_more v (Some part) e h =
    ap (λ (n : ℕ). nat_lt (n + length v.body) (total_of v.segmentation - header_length (value_with (packet_of v) false))) (ap (λ (o : Option SegmentationPart). offset_of o) e)
    ∙ ap (λ (n : ℕ). nat_lt (part.offset + length v.body) (n - header_length (value_with (packet_of v) false))) (ap (λ (o : Option SegmentationPart). total_of o) e)
    ∙ ap (λ (n : ℕ). nat_lt (part.offset + length v.body) (part.total - n)) (same_header v)
    ∙ sym (flag_is v.more (part.offset + length v.body) (part.total - header_length v) h.range.within h.range.ends)

same_body : (v : PduValue) → take (length v.body) (drop (offset_of v.segmentation - offset_of v.segmentation) v.body) ≡ v.body
same_body v =
    let none : offset_of v.segmentation - offset_of v.segmentation ≡ 0 = omega arith in
    ap (λ (n : ℕ). take (length v.body) (drop n v.body)) none ∙ take_all (length v.body) v.body (omega arith)

pub packet_value : (v : PduValue) → IsPdu v → value_of (packet_of v) ≡ v
packet_value v h =
    let p : Packet = packet_of v in
    let more : Bool = more_follows p (identifier_of v.segmentation) in
    let body : List ℕ = take (length v.body) (drop (offset_of v.segmentation - offset_of v.segmentation) v.body) in
    ap (λ (o : Option SegmentationPart). record v { segmentation = o; more = more; body = body }) (same_part v.segmentation)
    ∙ ap (λ (m : Bool). record v { more = m; body = body }) (same_more v v.segmentation refl h.segmentation)
    ∙ ap (λ (b : List ℕ). record v { body = b }) (same_body v)

pub packet_carriable : (v : PduValue) → IsPdu v → IsCarriable (packet_of v)
packet_carriable v h =
    record { pdu = subst (λ (w : PduValue). IsPdu w) (sym (packet_value v h)) h; from = omega arith; to = omega arith }

-- a frame that begins with a PDU is a packet's PDU and what follows it
pub frame_is : (frame : List ℕ) (v : PduValue) (rest : List ℕ) → BeginsWith frame v rest → frame ≡ wire (packet_of v) ++ rest
frame_is frame v rest h =
    h.split ∙ ap (λ (octets : List ℕ). octets ++ rest) h.spells.octets_are
    ∙ ap (λ (w : PduValue). spelling w ++ rest) (sym (packet_value v h.spells.pdu))
