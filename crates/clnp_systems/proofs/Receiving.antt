-- A PDU that comes: the packet that it spells, whether it is all of its unit, and the segment that it is.
use Rattle.std.proofs.Common.{◌≡◌, ℕ, zero, suc, ◌+◌, ◌-◌, ◌<◌, ◌≤◌, Bool, true, false, not, ◌&&◌, ◌||◌, cond, List, ◌++◌, Option, Some, None, length, take, drop, refl, sym, ap, ◌∙◌, subst, inl, inr, arith, length-append, length-drop}
use Rattle.std.specs.Prelude.{◌==◌, is_none, nat_lt, option_map}
use Rattle.std.proofs.lemmas.Bool.{cases_Bool, ltb-false, ltb-true}
use Rattle.std.proofs.lemmas.List.{length-take-le, take_at}
use Rattle.clnp_machine.specs.ClnpOptions.Parameter.{parameters}
use Rattle.clnp_machine.specs.ClnpViews.Extent.{seen}
use Rattle.clnp_machine.specs.Pdus.declared.pdu_header.pdu.Pdu.{Pdu}
use Rattle.clnp_machine.specs.Pdus.declared.pdu_header.pdu.SegPart.{SegPart}
use Rattle.clnp_machine.specs.PduHeader.Grammar.{BeginsWith, FitsUnit, IsSegment}
use Rattle.clnp_machine.specs.PduHeader.Spelling.{header, header_length, type_code}
use Rattle.clnp_machine.specs.PduHeader.Value.{PduValue, SegmentationPart}
use Rattle.clnp_machine.specs.PduHeader.View.{part_value, pdu_value}
use Rattle.clnp_machine.specs.Reassembly.Arrival.{arrival_of}
use Rattle.clnp_machine.specs.Reassembly.Mapped.{map_arrival}
use Rattle.clnp_machine.specs.Reassembly.Offered.{MayCome}
use Rattle.clnp_machine.specs.Unit.{Packet, IsCarriable, value_of, wire}
use Rattle.clnp_machine.specs.EveryStep.{CarriesOnePacket}
use Rattle.clnp_machine.specs.Content.{Labelled}
use Rattle.clnp_machine.specs.System.{SystemState}
use Rattle.clnp_machine.specs.Local.{hand_up, identifier_in, is_all, offer, offered, receive}
use Rattle.clnp_systems.specs.Receipt.{IsShown, segment_in, segment_part}
use Rattle.clnp_systems.proofs.Parts.{length-header}

-- the PDU at the front of a frame is that of the packet with whose octets the frame begins
pub value_is : CarriesOnePacket → (frame : List ℕ) (v : PduValue) (rest : List ℕ) → BeginsWith frame v rest → (p : Packet) (following : List ℕ) → IsCarriable p
    → frame ≡ wire p ++ following → v ≡ value_of p
value_is one frame v rest begins p following carriable split =
    (one p following v rest carriable (subst (λ (f : List ℕ). BeginsWith f v rest) split begins)).0

-- ---- whether it is all of its unit

part_of : (offset total i : ℕ) → SegmentationPart
part_of offset total i = record { identifier = i; offset = offset; total = total }

kept_part : (b : Bool) (part : SegPart) → b ≡ is_none (cond b None (Some part))
kept_part true part = refl
kept_part false part = refl

all_of : (seg : Option SegPart) (identifier : Option ℕ) (offset total : ℕ) (more : Bool)
    → option_map part_value seg ≡ option_map (λ (i : ℕ). let s : SegmentationPart = record { identifier = i; offset = offset; total = total } in s) identifier
    → (is_none identifier || ((offset == 0) && not more)) ≡ is_none (segment_part seg more)
all_of None None offset total more e = refl
all_of None (Some i) offset total more e = absurd (cc)
all_of (Some part) None offset total more e = absurd (cc)
all_of (Some part) (Some i) offset total more e =
    let same : part.offset ≡ offset = (let f : part_value part ≡ record { identifier = i; offset = offset; total = total } = cc in ap (λ (s : SegmentationPart). s.offset) f) in
    subst (λ (n : ℕ). ((n == 0) && not more) ≡ is_none (segment_part (Some part) more)) same (kept_part ((part.offset == 0) && not more) part)

is_all_by : (pdu : Pdu) (p : Packet) → pdu_value pdu ≡ value_of p → is_all p ≡ is_none (segment_part pdu.seg pdu.more)
is_all_by pdu p e =
    all_of pdu.seg p.unit.identifier p.offset p.unit.total (value_of p).more (ap (λ (v : PduValue). v.segmentation) e)
    ∙ ap (λ (more : Bool). is_none (segment_part pdu.seg more)) (sym (ap (λ (v : PduValue). v.more) e))

-- a whole unit is handed up
pub receives_whole : (pdu : Pdu) (s : SystemState) (p : Packet) (following : List ℕ) → pdu_value pdu ≡ value_of p → segment_part pdu.seg pdu.more ≡ None
    → receive s p following ≡ hand_up s pdu.kind pdu.from pdu.to pdu.body.now (parameters pdu.options.now)
receives_whole pdu s p following e none =
    ap (λ (b : Bool). cond b (hand_up s p.unit.kind p.unit.source p.unit.destination (value_of p).body p.options) (offer s (Labelled p following) (offered p following)))
    (is_all_by pdu p e ∙ ap is_none none)
    ∙ ap (λ (v : PduValue). hand_up s v.kind v.source v.destination v.body v.options) (sym e)

-- a segment is offered
pub receives_segment : (pdu : Pdu) (seg : SegPart) (s : SystemState) (p : Packet) (following : List ℕ) → pdu_value pdu ≡ value_of p
    → segment_part pdu.seg pdu.more ≡ Some seg → receive s p following ≡ offer s (Labelled p following) (offered p following)
receives_segment pdu seg s p following e some =
    ap (λ (b : Bool). cond b (hand_up s p.unit.kind p.unit.source p.unit.destination (value_of p).body p.options) (offer s (Labelled p following) (offered p following)))
    (is_all_by pdu p e ∙ ap is_none some)

-- ---- the segment that it is

there_is : (b : Bool) (part seg : SegPart) → cond b None (Some part) ≡ Some seg → (part ≡ seg) × (b ≡ false)
there_is true part seg e = absurd (cc)
there_is false part seg e = (cc, refl)

has_part : (found : Option SegPart) (more : Bool) (seg : SegPart) → segment_part found more ≡ Some seg
    → (found ≡ Some seg) × (((seg.offset == 0) && not more) ≡ false)
has_part None more seg e = absurd (cc)
has_part (Some part) more seg e =
    let there = there_is ((part.offset == 0) && not more) part seg e in
    (ap (λ (x : SegPart). Some x) there.0, subst (λ (x : SegPart). ((x.offset == 0) && not more) ≡ false) there.0 there.1)

record IsPartOf (seg : SegPart) (p : Packet) : Type 0 where
  id : seg.id ≡ identifier_in p.unit.identifier
  offset : seg.offset ≡ p.offset
  total : seg.total ≡ p.unit.total

part_by : (seg : SegPart) (p : Packet) (identifier : Option ℕ) → p.unit.identifier ≡ identifier
    → Some (part_value seg) ≡ option_map (λ (i : ℕ). let s : SegmentationPart = record { identifier = i; offset = p.offset; total = p.unit.total } in s) identifier
    → IsPartOf seg p
part_by seg p None has e = absurd (cc)
part_by seg p (Some i) has e =
    let f : part_value seg ≡ record { identifier = i; offset = p.offset; total = p.unit.total } = cc in
    record {
      id = ap (λ (s : SegmentationPart). s.identifier) f ∙ sym (ap identifier_in has);
      offset = ap (λ (s : SegmentationPart). s.offset) f;
      total = ap (λ (s : SegmentationPart). s.total) f;
    }

module _ (frame : List ℕ) (pdu : Pdu) (seg : SegPart) (head : pdu.head.now ≡ header (pdu_value pdu)) (some : segment_part pdu.seg pdu.more ≡ Some seg) where
  head_length : length pdu.head.now ≡ header_length (pdu_value pdu)
  head_length = ap length head ∙ length-header (pdu_value pdu)

  module _ (p : Packet) (following : List ℕ) (carriable : IsCarriable p) (split : frame ≡ wire p ++ following) (e : pdu_value pdu ≡ value_of p) where
    body_length : length pdu.body.now ≡ p.length
    body_length =
        ap (λ (v : PduValue). length v.body) e
        ∙ length-take-le p.length (drop (p.offset - p.unit.first_position) p.unit.octets)
        (let d = length-drop (p.offset - p.unit.first_position) p.unit.octets in let from = carriable.from in let to = carriable.to in omega arith)

    is_part : IsPartOf seg p
    is_part =
        part_by seg p p.unit.identifier refl
        (ap (option_map part_value) (sym (has_part pdu.seg pdu.more seg some).0) ∙ ap (λ (v : PduValue). v.segmentation) e)

    octets_seen : seen (arrival_of (segment_in frame pdu seg)).carried ≡ wire p
    octets_seen =
        ap (λ (octets : List ℕ). take (length pdu.head.now + length pdu.body.now) octets) split
        ∙ take_at (wire p) following (length pdu.head.now + length pdu.body.now)
        (length-append (header (value_of p)) (value_of p).body
        ∙ ap (λ (v : PduValue). length (header v) + length v.body) (sym e)
        ∙ ap (λ (h : List ℕ). length h + length pdu.body.now) (sym head))

    segment_shown : map_arrival seen (arrival_of (segment_in frame pdu seg)) ≡ map_arrival wire (offered p following)
    segment_shown =
        let from = ap (λ (v : PduValue). v.source) e in
        let to = ap (λ (v : PduValue). v.destination) e in
        let head_len = head_length ∙ ap header_length e in
        let kind = ap (λ (v : PduValue). type_code v.kind) e in
        let len : length pdu.head.now + length pdu.body.now - length pdu.head.now ≡ p.length = (let b = body_length in omega arith) in
        let size = ap length split in
        let life = ap (λ (v : PduValue). v.lifetime) e in
        let octets = octets_seen in
        let the_part = is_part in
        λ i. record {
          key = record { from = from i; to = to i; id = the_part.id i };
          shape = record { total = the_part.total i; head_len = head_len i; kind = kind i };
          offset = the_part.offset i;
          len = len i;
          size = size i;
          lifetime = life i;
          carried = octets i;
        }

    pub is_shown : IsShown (segment_in frame pdu seg) (offered p following)
    is_shown = record {
      as_offered = record { following = following; is_offered = refl; carriable = carriable };
      shown = segment_shown;
    }

  not_all : (offset : ℕ) (more : Bool) → ((offset == 0) && not more) ≡ false → offset ≡ 0 → more ≡ false → ⊥
  not_all zero true b none last = cc
  not_all zero false b none last = cc
  not_all (suc offset) more b none last = absurd (omega arith)

  less : (offset len room : ℕ) → offset + len ≤ room → (offset ≡ 0 → offset + len ≡ room → ⊥) → len < room
  less offset len room within not_all =
      elim (cases_Bool (nat_lt len room)) [
        | inl t ↦ ltb-true len room t
        | inr f ↦ (let l = ltb-false len room f in absurd (not_all (omega arith) (omega arith)))
      ]

  fits_by : (found : Option SegPart) (v : PduValue) → IsSegment v (option_map part_value found) → found ≡ Some seg → FitsUnit v (part_value seg)
  fits_by found v is e = subst (λ (x : Option SegPart). IsSegment v (option_map part_value x)) e is

  -- it may be offered
  pub may_come : (rest : List ℕ) → BeginsWith frame (pdu_value pdu) rest → length frame ≤ 70000 → 1 ≤ pdu.life → MayCome (segment_in frame pdu seg)
  may_come rest begins few alive =
      let there = has_part pdu.seg pdu.more seg some in
      let fits = fits_by pdu.seg (pdu_value pdu) begins.spells.pdu.segmentation there.0 in
      let h = head_length in
      let within = fits.range.within in
      let holds = fits.range.holds_header in
      record {
        has_header = omega arith;
        few = few;
        holds_header = omega arith;
        within = omega arith;
        is_part = (let l : length pdu.body.now < seg.total - header_length (pdu_value pdu)
            = less seg.offset (length pdu.body.now) (seg.total - header_length (pdu_value pdu)) within
            (λ zero_offset whole. not_all seg.offset pdu.more there.1 zero_offset (fits.range.ends.1 whole)) in omega arith);
        alive = alive;
      }
