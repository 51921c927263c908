-- Headers after a change of the lifetime or of the segment.
use Rattle.std.proofs.Common.{◌≡◌, ◌≢◌, ◌∙◌, refl, sym, ap, subst, ℕ, suc, ◌+◌, ◌-◌, ◌^◌, ◌<◌, ◌≤◌, Bool, true, false, Option, None, Some, List, ◌∷◌, ◌++◌, length, get_or, arith, length-append, append_assoc, inl, inr}
use Rattle.std.specs.Prelude.{◌⊎◌, if◌then◌else◌, bit_and, bit_or, slice_set, slice_index}
use Rattle.std.proofs.lemmas.List.{get_or-append-add, get_or-set_other}
use Rattle.clnp_base.proofs.Lists.{set_pair}
use Rattle.pdus.specs.Fletcher.Checksum.{octet}
use Rattle.pdus.specs.ClnpOptions.Parameter.{spelled}
use Rattle.pdus.specs.PduHeader.Value.{SegmentationPart, PduValue}
use Rattle.pdus.specs.PduHeader.Spelling.{pair_of, counted, flags_and_type, header, header_length, segment_length, segmentation_octets, unsealed_header}
use Rattle.pdus.specs.PduHeader.Grammar.{IsSegment, IsPdu}
use Rattle.pdus.specs.PduHeader.Parts.{FitsRange, checked}
use Rattle.pdus.specs.PduHeader.Headers.{SpellsHeader, MayCarry, with_lifetime, with_segment, at_offset, with_pair}
use Rattle.pdus.proofs.PduHeader.Written.{length-header}
use Rattle.pdus.proofs.PduHeader.MoreFlag.{flags_changed}
use Rattle.pdus.proofs.PduHeader.Shape.{sealed_other}

-- a change in the octets but the checksum, which is adjusted
abbrev pub Changes : List ℕ → List ℕ → (List ℕ → List ℕ) → Type 0
Changes old new change = (is_sealed : Bool) (plain : List ℕ) → octet plain 8 ≡ 0 → old ≡ checked is_sealed plain → new ≡ checked is_sealed (change plain)

-- ---- the lifetime

pub segment_kept : (v : PduValue) (life : ℕ) (part : Option SegmentationPart) → IsSegment v part → IsSegment (with_lifetime life v) part
segment_kept v life None h = h
segment_kept v life (Some part) h = record {
  identifier = h.identifier;
  offset = h.offset;
  total = h.total;
  range = record { holds_header = h.range.holds_header; within = h.range.within; ends = h.range.ends };
}

pub life_set : (v : PduValue) (life : ℕ) (old new : List ℕ) → life < 256 → SpellsHeader v old → Changes old new (λ plain. slice_set plain 3 life) → SpellsHeader (with_lifetime life v) new
life_set v life old new small h change = record {
  pdu = record {
    lifetime = small;
    destination = h.pdu.destination;
    source = h.pdu.source;
    segmentation = segment_kept v life v.segmentation h.pdu.segmentation;
    options = h.pdu.options;
    reason = h.pdu.reason;
    header_fits = h.pdu.header_fits;
    segment_fits = h.pdu.segment_fits;
  };
  octets_are = change v.sealed (unsealed_header v) refl h.octets_are;
}

-- ---- places

pub octet_in : (is_sealed : Bool) (plain : List ℕ) (i : ℕ) → i ≢ 7 → i ≢ 8 → get_or (checked is_sealed plain) i 0 ≡ get_or plain i 0
octet_in true plain i a b = sealed_other plain i a b
octet_in false plain i a b = refl

pub octet_of : (v : PduValue) (octets : List ℕ) (i : ℕ) → SpellsHeader v octets → i ≢ 7 → i ≢ 8 → get_or octets i 0 ≡ get_or (unsealed_header v) i 0
octet_of v octets i h a b = ap (λ t. get_or t i 0) h.octets_are ∙ octet_in v.sealed (unsealed_header v) i a b

pub to_length : (v : PduValue) (octets : List ℕ) → SpellsHeader v octets → get_or octets 9 0 ≡ length v.destination
to_length v octets h = octet_of v octets 9 h (omega arith) (omega arith)

-- what stands before the source
front_of : PduValue → List ℕ
front_of v = 0x81 ∷ header_length v ∷ 1 ∷ v.lifetime ∷ flags_and_type v ∷ (pair_of (segment_length v) ++ (0 ∷ 0 ∷ counted v.destination))

pub from_length : (v : PduValue) (octets : List ℕ) (i : ℕ) → SpellsHeader v octets → i ≡ 10 + length v.destination → get_or octets i 0 ≡ length v.source
unfolding front_of
from_length v octets i h e =
    let rest : List ℕ = counted v.source ++ (segmentation_octets v.segmentation ++ spelled v.options) in
    let n : length (front_of v) + 0 ≡ 10 + length v.destination = omega arith in
    octet_of v octets i h (omega arith) (omega arith)
    ∙ ap (λ j. get_or (front_of v ++ rest) j 0) (e ∙ sym n)
    ∙ get_or-append-add (front_of v) rest 0 0

pub header_holds : (v : PduValue) (octets : List ℕ) → SpellsHeader v octets → 11 + length v.destination + length v.source ≤ length octets
header_holds v octets h =
    rw (h.octets_are, length-header v)
    (omega (arith, length-append v.destination (counted v.source ++ (segmentation_octets v.segmentation ++ spelled v.options)), length-append v.source (segmentation_octets v.segmentation ++ spelled v.options)))

pub pair_changes : (old mid new : List ℕ) (place number : ℕ) → (place ≤ 6) ⊎ (10 ≤ place) → Changes old mid (λ plain. slice_set plain (place - 1) (slice_index (pair_of number) 0)) → Changes mid new (λ plain. slice_set plain (place + 1 - 1) (slice_index (pair_of number) 1)) → 1 ≤ place → Changes old new (λ plain. with_pair plain place number)
pair_changes old mid new place number apart first second some is_sealed plain zero e =
    let value = slice_index (pair_of number) 0 in
    let j : place + 1 - 1 ≡ place = omega arith in
    let differs : 7 ≢ place - 1 = elim apart [ inl low ↦ omega arith | inr high ↦ omega arith ] in
    second is_sealed (slice_set plain (place - 1) value) (get_or-set_other plain (place - 1) 7 value 0 differs ∙ zero) (first is_sealed plain zero e)
    ∙ ap (λ t. checked is_sealed (slice_set (slice_set plain (place - 1) value) t (slice_index (pair_of number) 1))) j

pub pair_written : (old mid new octets : List ℕ) (place number : ℕ) → octets ≡ pair_of number → (place ≤ 6) ⊎ (10 ≤ place) → Changes old mid (λ plain. slice_set plain (place - 1) (get_or octets 0 0)) → Changes mid new (λ plain. slice_set plain (place + 1 - 1) (get_or octets 1 0)) → 1 ≤ place → Changes old new (λ plain. with_pair plain place number)
pair_written old mid new octets place number e apart first second some =
    let P : List ℕ → Type 0 = λ o. Changes old mid (λ plain. slice_set plain (place - 1) (get_or o 0 0)) in
    let Q : List ℕ → Type 0 = λ o. Changes mid new (λ plain. slice_set plain (place + 1 - 1) (get_or o 1 0)) in
    pair_changes old mid new place number apart (subst P e first) (subst Q e second) some

-- ---- the segment

pub header_length-is : (v : PduValue) → header_length v ≡ 11 + length v.destination + length v.source + length (segmentation_octets v.segmentation) + length (spelled v.options)
header_length-is v =
    omega (arith, length-append v.destination (counted v.source ++ (segmentation_octets v.segmentation ++ spelled v.options)), length-append v.source (segmentation_octets v.segmentation ++ spelled v.options), length-append (segmentation_octets v.segmentation) (spelled v.options))

-- the octets of a header with a segmentation part
abbrev pub shape : (head_len life flags size : ℕ) (to from : List ℕ) (id offset total : ℕ) (options : List ℕ) → List ℕ
shape head_len life flags size to from id offset total options =
    0x81 ∷ head_len ∷ 1 ∷ life ∷ flags ∷ (pair_of size ++ (0 ∷ 0 ∷ (counted to ++ (counted from ++ ((pair_of id ++ (pair_of offset ++ pair_of total)) ++ options)))))

-- what stands before the offset
abbrev pub before_offset : (head_len life flags size : ℕ) (to from : List ℕ) (id : ℕ) → List ℕ
before_offset head_len life flags size to from id =
    0x81 ∷ head_len ∷ 1 ∷ life ∷ flags ∷ (pair_of size ++ (0 ∷ 0 ∷ (counted to ++ (counted from ++ pair_of id))))

pub split_at_offset : (head_len life flags size : ℕ) (to from : List ℕ) (id offset total : ℕ) (options : List ℕ)
    → before_offset head_len life flags size to from id ++ (pair_of offset ++ (pair_of total ++ options)) ≡ shape head_len life flags size to from id offset total options
split_at_offset head_len life flags size to from id offset total options =
    let rest : List ℕ = pair_of offset ++ (pair_of total ++ options) in
    ap (λ t. 0x81 ∷ head_len ∷ 1 ∷ life ∷ flags ∷ (pair_of size ++ (0 ∷ 0 ∷ t)))
    (append_assoc (counted to) (counted from ++ pair_of id) rest ∙ ap (λ t. counted to ++ t) (append_assoc (counted from) (pair_of id) rest))

pub set_pair_at : (front rest : List ℕ) (old number place : ℕ) → place ≡ length front + 1 → with_pair (front ++ (pair_of old ++ rest)) place number ≡ front ++ (pair_of number ++ rest)
set_pair_at front rest old number place e =
    let i : place - 1 ≡ length front = omega arith in
    let j : place ≡ suc (length front) = omega arith in
    ap (λ t. slice_set (slice_set (front ++ (pair_of old ++ rest)) t (slice_index (pair_of number) 0)) place (slice_index (pair_of number) 1)) i
    ∙ ap (λ t. slice_set (slice_set (front ++ (pair_of old ++ rest)) (length front) (slice_index (pair_of number) 0)) t (slice_index (pair_of number) 1)) j
    ∙ set_pair front rest _ _ _ _

pub offset_set : (head_len life flags size : ℕ) (to from : List ℕ) (id offset total : ℕ) (options : List ℕ) (place number : ℕ)
    → place ≡ 14 + length to + length from
    → with_pair (shape head_len life flags size to from id offset total options) place number ≡ shape head_len life flags size to from id number total options
offset_set head_len life flags size to from id offset total options place number e =
    let front : List ℕ = before_offset head_len life flags size to from id in
    let n : place ≡ length front + 1 = omega (arith, length-append to (counted from ++ pair_of id), length-append from (pair_of id)) in
    ap (λ t. with_pair t place number) (sym (split_at_offset head_len life flags size to from id offset total options))
    ∙ set_pair_at front (pair_of total ++ options) offset number place n
    ∙ split_at_offset head_len life flags size to from id number total options

pub same_length : (v : PduValue) (part : SegmentationPart) (old_more more : Bool) (old_body body : List ℕ) (offset : ℕ)
    → header_length (with_segment part old_more old_body v) ≡ header_length (with_segment (at_offset offset part) more body v)
same_length v part old_more more old_body body offset =
    header_length-is (with_segment part old_more old_body v) ∙ sym (header_length-is (with_segment (at_offset offset part) more body v))

pub segment_pdu : (v : PduValue) (part : SegmentationPart) (old_more more : Bool) (old_body body : List ℕ) (offset : ℕ)
    → IsPdu (with_segment part old_more old_body v)
    → FitsRange (header_length (with_segment part old_more old_body v)) (length body) more (at_offset offset part)
    → offset < 2 ^ 16
    → IsPdu (with_segment (at_offset offset part) more body v)
segment_pdu v part old_more more old_body body offset h fits small =
    let same = same_length v part old_more more old_body body offset in
    let P : ℕ → Type 0 = λ n. FitsRange n (length body) more (at_offset offset part) in
    let range : FitsRange (header_length (with_segment (at_offset offset part) more body v)) (length body) more (at_offset offset part) = subst P same fits in
    let room = range.within in
    let holds = range.holds_header in
    let total = h.segmentation.total in
    record {
      lifetime = h.lifetime;
      destination = h.destination;
      source = h.source;
      segmentation = record {
        identifier = h.segmentation.identifier;
        offset = small;
        total = h.segmentation.total;
        range = range;
      };
      options = h.options;
      reason = h.reason;
      header_fits = let f = h.header_fits in omega (arith, same);
      segment_fits = omega (arith, room, holds, total);
    }

segment_octets : (v : PduValue) (part : SegmentationPart) (old_more more : Bool) (old_body body old one two new : List ℕ) (offset total flags place : ℕ)
    → SpellsHeader (with_segment part old_more old_body v) old
    → flags ≡ (if more then bit_or (get_or old 4 0) 64 else bit_and (get_or old 4 0) 191)
    → total ≡ length old + length body
    → place ≡ 14 + length v.destination + length v.source
    → Changes old one (λ plain. slice_set plain 4 flags)
    → Changes one two (λ plain. with_pair plain 6 total)
    → Changes two new (λ plain. with_pair plain place offset)
    → new ≡ header (with_segment (at_offset offset part) more body v)
segment_octets v part old_more more old_body body old one two new offset total flags place h f t p first second third =
    let w : PduValue = with_segment part old_more old_body v in
    let z : PduValue = with_segment (at_offset offset part) more body v in
    let plain : List ℕ = unsealed_header w in
    let same = same_length v part old_more more old_body body offset in
    let flag : flags ≡ flags_and_type z =
    f ∙ ap (λ o. if more then bit_or o 64 else bit_and o 191) (octet_of w old 4 h (omega arith) (omega arith)) ∙ flags_changed more old_more v.report v.kind in
    let size : total ≡ segment_length z = t ∙ ap (λ n. n + length body) (ap length h.octets_are ∙ length-header w ∙ same) in
    let c1 = first v.sealed plain refl h.octets_are in
    let c2 = second v.sealed (slice_set plain 4 flags) refl c1 in
    let c3 = third v.sealed (with_pair (slice_set plain 4 flags) 6 total) refl c2 in
    c3
    ∙ ap (checked v.sealed)
    (offset_set (header_length w) v.lifetime flags total v.destination v.source part.identifier part.offset part.total (spelled v.options) place offset p
    ∙ ap (λ n. shape n v.lifetime flags total v.destination v.source part.identifier offset part.total (spelled v.options)) same
    ∙ ap (λ n. shape (header_length z) v.lifetime n total v.destination v.source part.identifier offset part.total (spelled v.options)) flag
    ∙ ap (λ n. shape (header_length z) v.lifetime (flags_and_type z) n v.destination v.source part.identifier offset part.total (spelled v.options)) size)

pub segment_set : (v : PduValue) (offset len total flags place : ℕ) (more : Bool) (body old one two new : List ℕ) (carries : MayCarry v offset len more)
    → SpellsHeader v old
    → offset < 2 ^ 16
    → length body ≡ len
    → flags ≡ (if more then bit_or (get_or old 4 0) 64 else bit_and (get_or old 4 0) 191)
    → total ≡ length old + len
    → place ≡ 14 + length v.destination + length v.source
    → Changes old one (λ plain. slice_set plain 4 flags)
    → Changes one two (λ plain. with_pair plain 6 total)
    → Changes two new (λ plain. with_pair plain place offset)
    → SpellsHeader (with_segment (at_offset offset carries.part) more body v) new
segment_set v offset len total flags place more body old one two new carries h small e f t p first second third =
    let part : SegmentationPart = carries.part in
    let w : PduValue = with_segment part v.more v.body v in
    let is : v ≡ w = ap (λ s. let x : PduValue = record v { segmentation = s } in x) carries.has in
    let P : PduValue → Type 0 = λ x. SpellsHeader x old in
    let spelt : SpellsHeader w old = subst P is h in
    let Q : PduValue → Type 0 = λ x. FitsRange (header_length x) len more (at_offset offset part) in
    let range : FitsRange (header_length w) len more (at_offset offset part) = subst Q is carries.fits in
    let R : ℕ → Type 0 = λ n. FitsRange (header_length w) n more (at_offset offset part) in
    record {
      pdu = segment_pdu v part v.more more v.body body offset spelt.pdu (subst R (sym e) range) small;
      octets_are = segment_octets v part v.more more v.body body old one two new offset total flags place spelt f (t ∙ ap (λ n. length old + n) (sym e)) p first second third;
    }

-- ---- room

total_small : (v : PduValue) (part : SegmentationPart) → IsPdu v → v.segmentation ≡ Some part → part.total < 2 ^ 16
total_small v part h has = let P : Option SegmentationPart → Type 0 = IsSegment v in (subst P has h.segmentation).total

pub segment_room : (v : PduValue) (octets : List ℕ) (offset len : ℕ) (more : Bool) → SpellsHeader v octets → MayCarry v offset len more → length octets + len < 2 ^ 16
segment_room v octets offset len more h carries =
    let small = total_small v carries.part h.pdu carries.has in
    let holds = carries.fits.holds_header in
    let room = carries.fits.within in
    omega (arith, ap length h.octets_are, length-header v)

pub segment_holds : (v : PduValue) (octets : List ℕ) (offset len : ℕ) (more : Bool) → SpellsHeader v octets → MayCarry v offset len more → 17 + length v.destination + length v.source ≤ length octets
segment_holds v octets offset len more h carries =
    omega (arith, ap length h.octets_are, length-header v, header_length-is v, ap (λ s. length (segmentation_octets s)) carries.has)
