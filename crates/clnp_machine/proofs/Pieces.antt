-- The pieces of a packet are the packets of the pieces of its PDU.
use Rattle.std.proofs.Common.{◌≡◌, ◌∙◌, refl, sym, ap, subst, ℕ, ◌+◌, ◌-◌, ◌≤◌, Bool, true, false, Option, None, Some, List, [], ◌∷◌, map, length, take, drop, arith, length-append}
use Rattle.std.specs.Prelude.{if◌then◌else◌, nat_le, nat_lt, option_map}
use Rattle.std.specs.List.{AllByRecursion}
use Rattle.std.proofs.lemmas.List.{take_all}
use Rattle.clnp_plan.specs.ClnpOptions.Parameter.{spelled}
use Rattle.clnp_plan.specs.PduHeader.Value.{SegmentationPart, PduValue}
use Rattle.clnp_plan.specs.PduHeader.Spelling.{header, header_length, segment_length, segmentation_octets}
use Rattle.clnp_plan.specs.PduHeader.Grammar.{IsPdu}
use Rattle.pdus.specs.MadePdus.Range.{Range}
use Rattle.pdus.specs.MadePdus.Cut as segmenter
use Rattle.pdus.specs.MadePdus.Cut.{Piece, data_room, ranges, segment, segments, uncut}
use Rattle.pdus.proofs.MadePdus.Claims.{segments_tile}
use Rattle.clnp_plan.proofs.ClnpBase.Lists.{length_part, part_of_part}
use Rattle.pdus.proofs.MadePdus.Segments.{segment_is_pdu}
use Rattle.pdus.proofs.MadePdus.Tiles.{tiles_within}
use Rattle.clnp_machine.specs.EveryStep.{AreCarriable}
use Rattle.clnp_machine.specs.Unit.{IsCarriable, Packet, cut, more_follows, piece_of, pieces, segmentation_of, value_of, value_with, wire}
use Rattle.clnp_machine.proofs.Headers.{header_length-is, length-header}

-- ---- one piece

-- the segmentation part of a packet of a unit with an identifier
abbrev pub part_of : Packet → ℕ → SegmentationPart
part_of p identifier = record { identifier = identifier; offset = p.offset; total = p.unit.total }

pub part_length : (o : Option ℕ) (a b total : ℕ)
    → length (segmentation_octets (option_map (λ (i : ℕ). let s : SegmentationPart = record { identifier = i; offset = a; total = total } in s) o))
    ≡ length (segmentation_octets (option_map (λ (i : ℕ). let s : SegmentationPart = record { identifier = i; offset = b; total = total } in s) o))
part_length None a b total = refl
part_length (Some i) a b total = refl

-- the header of a piece is as long as the packet's
header_length-piece : (p : Packet) (range : Range) → header_length (value_with (piece_of p range) false) ≡ header_length (value_of p)
header_length-piece p range =
    let octets : ℕ → ℕ = λ n. 11 + length p.unit.destination + length p.unit.source + n + length (spelled p.options) in
    header_length-is (value_with (piece_of p range) false)
    ∙ ap octets (part_length p.unit.identifier (p.offset + range.from) p.offset p.unit.total)
    ∙ sym (header_length-is (value_of p))

pub with_parts : (v : PduValue) (s t : Option SegmentationPart) (more flag : Bool) (body octets : List ℕ) → s ≡ t → more ≡ flag → body ≡ octets
    → record v { segmentation = s; more = more; body = body } ≡ record v { segmentation = t; more = flag; body = octets }
with_parts v s t more flag body octets e m b =
    ap (λ x. record v { segmentation = x; more = more; body = body }) e
    ∙ ap (λ x. record v { segmentation = t; more = x; body = body }) m
    ∙ ap (λ x. record v { segmentation = t; more = flag; body = x }) b

-- the PDU of a piece is the segment of the PDU
pub piece_value : (p : Packet) (identifier : ℕ) (range : Range) → p.unit.identifier ≡ Some identifier → p.unit.first_position ≤ p.offset
    → range.from + range.len ≤ p.length → value_of (piece_of p range) ≡ segment (value_of p) (part_of p identifier) range
piece_value p identifier range has first within =
    let q : Packet = piece_of p range in
    let at : p.offset + range.from - p.unit.first_position ≡ p.offset - p.unit.first_position + range.from = omega arith in
    with_parts (value_of p) (segmentation_of q) (Some (part_of q identifier))
    (more_follows q p.unit.identifier) (nat_lt (p.offset + range.from + range.len) (p.unit.total - header_length (value_of p)))
    (take range.len (drop (p.offset + range.from - p.unit.first_position) p.unit.octets)) (take range.len (drop range.from (value_of p).body))
    (ap (λ (o : Option ℕ). option_map (part_of q) o) has)
    (ap (λ (o : Option ℕ). more_follows q o) has
    ∙ ap (λ (n : ℕ). nat_lt (p.offset + range.from + range.len) (p.unit.total - n)) (header_length-piece p range))
    (ap (λ (n : ℕ). take range.len (drop n p.unit.octets)) at
    ∙ sym (part_of_part p.unit.octets (p.offset - p.unit.first_position) p.length range.from range.len within))

-- a carriable packet has as many octets of data as places
pub body_length : (p : Packet) → IsCarriable p → length (value_of p).body ≡ p.length
body_length p h =
    let from = h.from in
    let to = h.to in
    length_part p.unit.octets (p.offset - p.unit.first_position) p.length (omega arith)

-- ---- all pieces

-- the packet is the piece of another packet that this piece of its PDU is
pub record IsThis (p : Packet) (piece : Piece) (packet : Packet) : Type 0 where
  pub value : value_of packet ≡ piece.value
  pub within : piece.range.from + piece.range.len ≤ length (value_of p).body
  pub body : piece.value.body ≡ take piece.range.len (drop piece.range.from (value_of p).body)
  pub carriable : IsCarriable packet
  pub unit_is : packet.unit ≡ p.unit
  pub hops_is : packet.hops ≡ p.hops

abbrev pub AreThese : Packet → List Piece → List Packet → Type 0
AreThese p [] [] = Unit {0}
AreThese p (piece ∷ others) (packet ∷ packets) = IsThis p piece packet × AreThese p others packets
AreThese p [] (packet ∷ packets) = ⊥
AreThese p (piece ∷ others) [] = ⊥

abbrev pub AreBoth : Packet → Option (List Piece) → Option (List Packet) → Type 0
AreBoth p None None = Unit {0}
AreBoth p (Some parts) (Some packets) = AreThese p parts packets
AreBoth p None (Some packets) = ⊥
AreBoth p (Some parts) None = ⊥

whole_is : (p : Packet) → IsCarriable p → IsThis p (uncut (value_of p)) p
whole_is p h =
    record {
      value = refl;
      within = omega arith;
      body = sym (take_all (length (value_of p).body) (value_of p).body (omega arith));
      carriable = h;
      unit_is = refl;
      hops_is = refl;
    }

piece_is : (p : Packet) (identifier : ℕ) (range : Range) → p.unit.identifier ≡ Some identifier → IsCarriable p
    → range.from + range.len ≤ length (value_of p).body
    → IsThis p (record { value = segment (value_of p) (part_of p identifier) range; range = range }) (piece_of p range)
piece_is p identifier range has h within =
    let from = h.from in
    let to = h.to in
    let all = body_length p h in
    let value : value_of (piece_of p range) ≡ segment (value_of p) (part_of p identifier) range = piece_value p identifier range has from (omega arith) in
    let has_part : (value_of p).segmentation ≡ Some (part_of p identifier) = ap (λ (o : Option ℕ). option_map (part_of p) o) has in
    record {
      value = value;
      within = within;
      body = refl;
      carriable = record {
        pdu = subst (λ (v : PduValue). IsPdu v) (sym value) (segment_is_pdu (value_of p) (part_of p identifier) range has_part h.pdu within);
        from = omega arith;
        to = omega arith;
      };
      unit_is = refl;
      hops_is = refl;
    }

pieces_are : (p : Packet) (identifier : ℕ) (parts : List Range) → p.unit.identifier ≡ Some identifier → IsCarriable p
    → AllByRecursion (λ range. range.from + range.len ≤ length (value_of p).body) parts
    → AreThese p (map (λ range. record { value = segment (value_of p) (part_of p identifier) range; range = range }) parts) (map (piece_of p) parts)
pieces_are p identifier [] has h within = tt
pieces_are p identifier (range ∷ others) has h within =
    (piece_is p identifier range has h within.0, pieces_are p identifier others has h within.1)

pub length-wire : (p : Packet) → length (wire p) ≡ segment_length (value_of p)
length-wire p = length-append (header (value_of p)) (value_of p).body ∙ ap (λ n. n + length (value_of p).body) (length-header (value_of p))

-- a packet is cut just as its PDU
pub cut_both : (p : Packet) (mtu : ℕ) → IsCarriable p → 512 ≤ mtu → AreBoth p (segmenter.cut (value_of p) mtu) (cut p mtu)
cut_both p mtu h m =
    subst (λ n. AreBoth p (segmenter.cut (value_of p) mtu) (if nat_le n mtu then Some (p ∷ []) else option_map (λ identifier. pieces p mtu) p.unit.identifier))
    (sym (length-wire p)) (go (nat_le (segment_length (value_of p)) mtu) p.unit.identifier refl)
  where
    go : (fits : Bool) (o : Option ℕ) → p.unit.identifier ≡ o
        → AreBoth p (if fits then Some (uncut (value_of p) ∷ []) else option_map (segments (value_of p) mtu) (option_map (part_of p) o))
        (if fits then Some (p ∷ []) else option_map (λ identifier. pieces p mtu) o)
    go true o e = (whole_is p h, tt)
    go false None e = tt
    go false (Some identifier) e =
        let room : ℕ = data_room (header_length (value_of p)) mtu in
        let n : ℕ = length (value_of p).body in
        subst (λ places. AreThese p (segments (value_of p) mtu (part_of p identifier)) (map (piece_of p) (ranges room places))) (body_length p h)
        (pieces_are p identifier (ranges room n) e h (tiles_within (ranges room n) 0 n (segments_tile (value_of p) mtu h.pdu m)))

-- ---- what that says of them

values_are : (p : Packet) (pieces : List Piece) (packets : List Packet) → AreThese p pieces packets
    → map value_of packets ≡ map (λ (piece : Piece). piece.value) pieces
values_are p [] [] these = refl
values_are p (piece ∷ others) (packet ∷ packets) these =
    ap (λ (v : PduValue). v ∷ map value_of packets) these.0.value
    ∙ ap (λ (vs : List PduValue). piece.value ∷ vs) (values_are p others packets these.1)
values_are p [] (packet ∷ packets) these = absurd these
values_are p (piece ∷ others) [] these = absurd these

both_values : (p : Packet) (pieces : Option (List Piece)) (packets : Option (List Packet)) → AreBoth p pieces packets
    → option_map (map value_of) packets ≡ option_map (map (λ (piece : Piece). piece.value)) pieces
both_values p None None both = refl
both_values p (Some pieces) (Some packets) both = ap Some (values_are p pieces packets both)
both_values p None (Some packets) both = absurd both
both_values p (Some pieces) None both = absurd both

-- the pieces have the values of the pieces of the value
pub cut_values : (p : Packet) (mtu : ℕ) → IsCarriable p → 512 ≤ mtu
    → option_map (map value_of) (cut p mtu) ≡ option_map (map (λ (piece : Piece). piece.value)) (segmenter.cut (value_of p) mtu)
cut_values p mtu h m = both_values p (segmenter.cut (value_of p) mtu) (cut p mtu) (cut_both p mtu h m)

each_carriable : (p : Packet) (pieces : List Piece) (packets : List Packet) → AreThese p pieces packets → AllByRecursion IsCarriable packets
each_carriable p [] [] these = tt
each_carriable p (piece ∷ others) (packet ∷ packets) these = (these.0.carriable, each_carriable p others packets these.1)
each_carriable p [] (packet ∷ packets) these = absurd these
each_carriable p (piece ∷ others) [] these = absurd these

both_carriable : (p : Packet) (pieces : Option (List Piece)) (packets : Option (List Packet)) → AreBoth p pieces packets → AreCarriable packets
both_carriable p None None both = tt
both_carriable p (Some pieces) (Some packets) both = each_carriable p pieces packets both
both_carriable p None (Some packets) both = absurd both
both_carriable p (Some pieces) None both = absurd both

-- and PDUs can carry them
pub cut_carriable : (p : Packet) (mtu : ℕ) → IsCarriable p → 512 ≤ mtu → AreCarriable (cut p mtu)
cut_carriable p mtu h m = both_carriable p (segmenter.cut (value_of p) mtu) (cut p mtu) (cut_both p mtu h m)
