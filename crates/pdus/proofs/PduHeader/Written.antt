-- A header as it is written from its parts.
use Rattle.std.proofs.Common.{◌≡◌, ◌∙◌, refl, sym, ap, subst, ℕ, ◌+◌, ◌≤◌, Bool, true, false, is_some, Option, None, Some, List, [], ◌∷◌, ◌++◌, length, arith, length-append, append_assoc}
use Rattle.std.specs.Prelude.{option_map}
use Rattle.pdus.specs.Fletcher.Checksum.{sealed}
use Rattle.pdus.specs.ClnpOptions.Parameter.{parameters, spelled}
use Rattle.pdus.specs.ClnpOptions.Rules.{IsWellFormed}
use Rattle.pdus.specs.declared.pdu_header.pdu.SegPart.{SegPart}
use Rattle.pdus.specs.declared.pdu_header.parts.Parts.{Parts}
use Rattle.pdus.specs.PduHeader.Value.{SegmentationPart, PduValue}
use Rattle.pdus.specs.PduHeader.Spelling.{pair_of, counted, flags_and_type, header, header_length, segment_length, segmentation_octets, spelling, unsealed_header}
use Rattle.pdus.specs.PduHeader.Grammar.{IsSegment, IsPdu, Spells}
use Rattle.pdus.specs.PduHeader.Parts.{AreFit, AreNumbers, AreTyped, FitsSegment, parts_length, parts_value}
use Rattle.pdus.specs.PduHeader.View.{part_value}
use Rattle.pdus.specs.PduHeader.Headers.{IsHeader, SpellsHeader}
use Rattle.pdus.proofs.PduHeader.Shape.{length-sealed}
use Rattle.pdus.proofs.PduHeader.Fields.{forms_of}

pub spelled_again : (options : List ℕ) → IsWellFormed options → spelled (parameters options) ≡ options
spelled_again options h = sym (forms_of options h).octets

-- ---- lengths

pub length-unsealed : (v : PduValue) → length (unsealed_header v) ≡ header_length v
length-unsealed v = omega arith

length-sealed_or : (is_sealed : Bool) (v : PduValue) → v.sealed ≡ is_sealed → length (header v) ≡ header_length v
length-sealed_or true v e = rw e (length-sealed (unsealed_header v) ∙ length-unsealed v)
length-sealed_or false v e = rw e (length-unsealed v)

pub length-header : (v : PduValue) → length (header v) ≡ header_length v
length-header v = length-sealed_or v.sealed v refl

pub nine_at_least : (octets : List ℕ) → IsHeader octets → 9 ≤ length octets
nine_at_least octets h = rw (h.1.octets_are, length-header h.0) (omega arith)

pub at_most_254 : (octets : List ℕ) → IsHeader octets → length octets ≤ 254
at_most_254 octets h = let fits = h.1.pdu.header_fits in rw (h.1.octets_are, length-header h.0) fits

pub part_size : (part : Option SegPart) → (is_some part ≡ true → length (segmentation_octets (option_map part_value part)) ≡ 6) × (is_some part ≡ false → length (segmentation_octets (option_map part_value part)) ≡ 0)
part_size None = ((λ e. cc), (λ e. refl))
part_size (Some s) = ((λ e. refl), (λ e. cc))

pub parts_length-is : (parts : Parts) (to from options : List ℕ) (n : ℕ) → to ≡ parts.to → from ≡ parts.from → options ≡ parts.options → IsWellFormed options → n ≡ length (segmentation_octets (option_map part_value parts.seg)) → 9 + (2 + length to + length from) + n + length options ≡ parts_length parts
parts_length-is parts to from options n t f o w e =
    rw (← t, ← f, ← o, spelled_again options w, e)
    (omega (arith, length-append (counted to) (counted from ++ (segmentation_octets (option_map part_value parts.seg) ++ options)), length-append (counted from) (segmentation_octets (option_map part_value parts.seg) ++ options), length-append (segmentation_octets (option_map part_value parts.seg)) options))

-- ---- octets

-- the pieces of a header, one behind another
pub pieces_join : (v : PduValue) (head_len total flags : ℕ) (options c0 c1 c2 c3 c4 c5 : List ℕ)
    → head_len ≡ header_length v → total ≡ segment_length v → flags ≡ flags_and_type v → options ≡ spelled v.options
    → c0 ≡ [] → c1 ≡ c0 ++ 0x81 ∷ head_len ∷ 1 ∷ v.lifetime ∷ flags ∷ (pair_of total ++ 0 ∷ 0 ∷ [])
    → c2 ≡ c1 ++ counted v.destination → c3 ≡ c2 ++ counted v.source → c4 ≡ c3 ++ segmentation_octets v.segmentation → c5 ≡ c4 ++ options
    → c5 ≡ unsealed_header v
pieces_join v head_len total flags options c0 c1 c2 c3 c4 c5 h t f o e0 e1 e2 e3 e4 e5 =
    let fixed : List ℕ = 0x81 ∷ header_length v ∷ 1 ∷ v.lifetime ∷ flags_and_type v ∷ (pair_of (segment_length v) ++ 0 ∷ 0 ∷ []) in
    let front : c1 ≡ fixed = rw (e1, e0, h, t, f) refl in
    e5
    ∙ ap (λ x. c4 ++ x) o
    ∙ ap (λ x. x ++ spelled v.options) (e4 ∙ ap (λ x. x ++ segmentation_octets v.segmentation) (e3 ∙ ap (λ x. x ++ counted v.source) (e2 ∙ ap (λ x. x ++ counted v.destination) front)))
    ∙ append_assoc (fixed ++ counted v.destination ++ counted v.source) (segmentation_octets v.segmentation) (spelled v.options)
    ∙ append_assoc (fixed ++ counted v.destination) (counted v.source) (segmentation_octets v.segmentation ++ spelled v.options)
    ∙ append_assoc fixed (counted v.destination) (counted v.source ++ (segmentation_octets v.segmentation ++ spelled v.options))

pub pieces_length : (v : PduValue) (options fixed c0 c1 c2 c3 c4 : List ℕ)
    → length fixed ≡ 9 → options ≡ spelled v.options
    → c0 ≡ [] → c1 ≡ c0 ++ fixed
    → c2 ≡ c1 ++ counted v.destination → c3 ≡ c2 ++ counted v.source → c4 ≡ c3 ++ segmentation_octets v.segmentation
    → length c4 + length options ≡ header_length v
pieces_length v options fixed c0 c1 c2 c3 c4 nine o e0 e1 e2 e3 e4 =
    let l0 : length c0 ≡ 0 = ap length e0 in
    let l1 : length c1 ≡ 9 = ap length e1 ∙ length-append c0 fixed ∙ omega arith in
    let l2 : length c2 ≡ 9 + length (counted v.destination) = ap length e2 ∙ length-append c1 (counted v.destination) ∙ omega arith in
    let l3 : length c3 ≡ length c2 + length (counted v.source) = ap length e3 ∙ length-append c2 (counted v.source) in
    let l4 : length c4 ≡ length c3 + length (segmentation_octets v.segmentation) = ap length e4 ∙ length-append c3 (segmentation_octets v.segmentation) in
    omega (arith, ap length o, length-append (counted v.destination) (counted v.source ++ (segmentation_octets v.segmentation ++ spelled v.options)), length-append (counted v.source) (segmentation_octets v.segmentation ++ spelled v.options), length-append (segmentation_octets v.segmentation) (spelled v.options))

pub options_spelled : (octets options : List ℕ) → octets ≡ options → IsWellFormed octets → octets ≡ spelled (parameters options)
options_spelled octets options e w = sym (spelled_again octets w) ∙ ap (λ x. spelled (parameters x)) e

pub header_if_sealed : (v : PduValue) → v.sealed ≡ true → header v ≡ sealed (unsealed_header v)
header_if_sealed v e = rw e refl

pub header_if_unsealed : (v : PduValue) → v.sealed ≡ false → header v ≡ unsealed_header v
header_if_unsealed v e = rw e refl

-- ---- the value

segment_of : (parts : Parts) (body : List ℕ) (part : Option SegmentationPart) → AreNumbers part → FitsSegment (parts_length parts) (length body) parts.more part → IsSegment (parts_value parts body) part
segment_of parts body None n f = f
segment_of parts body (Some part) n f = record {
  identifier = n.0;
  offset = n.1;
  total = n.2;
  range = record { holds_header = f.holds_header; within = f.within; ends = f.ends };
}

pub pdu_of : (parts : Parts) (body : List ℕ) → AreTyped parts → AreFit parts (length body) → parts_length parts ≤ 254 → parts_length parts + length body ≤ 65535 → IsPdu (parts_value parts body)
pdu_of parts body typed fit h t = record {
  lifetime = typed.lifetime;
  destination = typed.destination;
  source = typed.source;
  segmentation = segment_of parts body (option_map part_value parts.seg) typed.numbers fit.segment;
  options = (forms_of parts.options typed.options).formed;
  reason = fit.reason;
  header_fits = h;
  segment_fits = omega arith;
}

pub spells_header : (parts : Parts) (body octets : List ℕ) (body_len : ℕ) → length body ≡ body_len → AreTyped parts → AreFit parts body_len → parts_length parts ≤ 254 → parts_length parts + body_len ≤ 65535 → octets ≡ header (parts_value parts body) → SpellsHeader (parts_value parts body) octets
spells_header parts body octets body_len e typed fit h t o = record {
  pdu = let P : ℕ → Type 0 = AreFit parts in pdu_of parts body typed (subst P (sym e) fit) h (rw e t);
  octets_are = o;
}

pub spells : (parts : Parts) (body : List ℕ) → AreTyped parts → AreFit parts (length body) → parts_length parts ≤ 254 → parts_length parts + length body ≤ 65535 → Spells (parts_value parts body) (spelling (parts_value parts body))
spells parts body typed fit h t = record { pdu = pdu_of parts body typed fit h t; octets_are = refl }
