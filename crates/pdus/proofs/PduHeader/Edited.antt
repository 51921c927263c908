-- Headers after an edit of their options.
use Rattle.std.proofs.Common.{◌≡◌, ◌∙◌, refl, sym, ap, subst, ℕ, ◌+◌, ◌<◌, ◌≤◌, Bool, true, false, Option, None, Some, List, ◌∷◌, ◌++◌, length, take, drop, arith, length-append, append_assoc, is_some, lit<}
use Rattle.std.specs.Prelude.{if◌then◌else◌, IsSome}
use Rattle.std.proofs.lemmas.List.{take_at, drop_at, length-take-le}
use Rattle.pdus.specs.Fletcher.Checksum.{sealed, checksum_x, checksum_y, with_checksum}
use Rattle.pdus.specs.ClnpOptions.Parameter.{Parameter, parameters, spelled}
use Rattle.pdus.specs.ClnpOptions.Grammar.{FitsKind}
use Rattle.pdus.specs.ClnpOptions.Rules.{Accepts, IsWellFormed}
use Rattle.pdus.specs.ClnpOptions.Edits.{target_of}
use Rattle.pdus.proofs.ClnpOptions.Parts.{parameters-of_spelled}
use Rattle.pdus.specs.declared.pdu_header.kind.Kind.{Kind}
use Rattle.pdus.specs.declared.pdu_header.kind.Kind.TheVariants.{Dt, Er, Erq, Erp}
use Rattle.pdus.specs.PduHeader.Value.{SegmentationPart, PduValue}
use Rattle.pdus.specs.PduHeader.Layout.{type_code}
use Rattle.pdus.specs.PduHeader.Spelling.{pair_of, counted, flags_and_type, header_length, segment_length, segmentation_octets, unsealed_header}
use Rattle.pdus.specs.PduHeader.Grammar.{IsSegment, is_report}
use Rattle.pdus.specs.PduHeader.Parts.{checked}
use Rattle.pdus.specs.PduHeader.Headers.{SpellsHeader, IsEdited, with_options}
use Rattle.pdus.proofs.PduHeader.Written.{length-header}
use Rattle.pdus.proofs.PduHeader.Changed.{Changes, header_length-is}
use Rattle.pdus.proofs.PduHeader.Fields.{forms_of, well_formed_from, spells_of, accepts_from}

-- what stands before the options, with these octets as its checksum
abbrev pub before_options : PduValue → ℕ → ℕ → List ℕ
before_options v x y =
    0x81 ∷ header_length v ∷ 1 ∷ v.lifetime ∷ flags_and_type v ∷ (pair_of (segment_length v) ++ (x ∷ y ∷ (counted v.destination ++ (counted v.source ++ segmentation_octets v.segmentation))))

-- a header by what stands before its options
pub record Parted (v : PduValue) (octets : List ℕ) : Type 0 where
  pub x : ℕ
  pub y : ℕ
  pub whole : octets ≡ before_options v x y ++ spelled v.options

unsealed_parted : (v : PduValue) → before_options v 0 0 ++ spelled v.options ≡ unsealed_header v
unsealed_parted v =
    ap (λ t. 0x81 ∷ header_length v ∷ 1 ∷ v.lifetime ∷ flags_and_type v ∷ (pair_of (segment_length v) ++ (0 ∷ 0 ∷ t)))
    (append_assoc (counted v.destination) (counted v.source ++ segmentation_octets v.segmentation) (spelled v.options)
    ∙ ap (λ t. counted v.destination ++ t) (append_assoc (counted v.source) (segmentation_octets v.segmentation) (spelled v.options)))

sealed_parted : (v : PduValue) → sealed (unsealed_header v) ≡ before_options v (checksum_x (unsealed_header v)) (checksum_y (unsealed_header v)) ++ spelled v.options
unfolding sealed
sealed_parted v = ap (λ t. with_checksum t (checksum_x (unsealed_header v)) (checksum_y (unsealed_header v))) (sym (unsealed_parted v))

parted_if : (is_sealed : Bool) (v : PduValue) (octets : List ℕ) → octets ≡ checked is_sealed (unsealed_header v) → Parted v octets
parted_if true v octets e = record { x = checksum_x (unsealed_header v); y = checksum_y (unsealed_header v); whole = e ∙ sealed_parted v }
parted_if false v octets e = record { x = 0; y = 0; whole = e ∙ sym (unsealed_parted v) }

pub parted : (v : PduValue) (octets : List ℕ) → SpellsHeader v octets → Parted v octets
parted v octets h = parted_if v.sealed v octets h.octets_are

pub length-before : (v : PduValue) (x y : ℕ) → length (before_options v x y) ≡ 11 + length v.destination + length v.source + length (segmentation_octets v.segmentation)
length-before v x y =
    omega (arith, length-append v.destination (counted v.source ++ segmentation_octets v.segmentation), length-append v.source (segmentation_octets v.segmentation))

-- where the options begin
abbrev pub StartsAt : PduValue → ℕ → Type 0
StartsAt v start = start ≡ 11 + length v.destination + length v.source + length (segmentation_octets v.segmentation)

pub options_behind : (v : PduValue) (octets : List ℕ) (start : ℕ) → SpellsHeader v octets → StartsAt v start → drop start octets ≡ spelled v.options
options_behind v octets start h s =
    let p = parted v octets h in
    ap (drop start) p.whole ∙ drop_at (before_options v p.x p.y) (spelled v.options) start (length-before v p.x p.y ∙ sym s)

pub start_within : (v : PduValue) (octets : List ℕ) (start : ℕ) → SpellsHeader v octets → StartsAt v start → start ≤ length octets
start_within v octets start h s = omega (arith, s, ap length h.octets_are, length-header v, header_length-is v)

pub options_formed : (v : PduValue) (octets : List ℕ) (start : ℕ) → SpellsHeader v octets → StartsAt v start → IsWellFormed (drop start octets)
options_formed v octets start h s =
    well_formed_from v.options (drop start octets) (record { octets = options_behind v octets start h s; formed = h.pdu.options })

pub options_are : (v : PduValue) (octets : List ℕ) (start : ℕ) → SpellsHeader v octets → StartsAt v start → parameters (drop start octets) ≡ v.options
options_are v octets start h s = ap parameters (options_behind v octets start h s) ∙ parameters-of_spelled v.options

pub options_lead : (v : PduValue) (octets : List ℕ) (start : ℕ) → SpellsHeader v octets → StartsAt v start → IsSome (target_of v.options) → IsSome (target_of (parameters (drop start octets)))
options_lead v octets start h s lead = rw (options_are v octets start h s) lead

-- ---- the edit

-- the value of which the options are others, of the same length
same_front : (v : PduValue) (options : List Parameter) (x y : ℕ) → length (spelled options) ≡ length (spelled v.options) → before_options v x y ≡ before_options (with_options options v) x y
same_front v options x y e =
    let size : header_length v ≡ header_length (with_options options v) = omega (arith, header_length-is v, header_length-is (with_options options v)) in
    let rest : List ℕ = counted v.destination ++ (counted v.source ++ segmentation_octets v.segmentation) in
    ap (λ n. 0x81 ∷ n ∷ 1 ∷ v.lifetime ∷ flags_and_type v ∷ (pair_of (n + length v.body) ++ (x ∷ y ∷ rest))) size

edited_unsealed : (v : PduValue) (options : List Parameter) (start : ℕ) → StartsAt v start → length (spelled options) ≡ length (spelled v.options)
    → take start (unsealed_header v) ++ spelled options ≡ unsealed_header (with_options options v)
edited_unsealed v options start s len =
    let front : take start (unsealed_header v) ≡ before_options v 0 0 =
    ap (take start) (sym (unsealed_parted v)) ∙ take_at (before_options v 0 0) (spelled v.options) start (length-before v 0 0 ∙ sym s) in
    ap (λ t. t ++ spelled options) (front ∙ same_front v options 0 0 len) ∙ unsealed_parted (with_options options v)

pub segment_kept : (v : PduValue) (options : List Parameter) (part : Option SegmentationPart) → header_length v ≡ header_length (with_options options v) → IsSegment v part → IsSegment (with_options options v) part
segment_kept v options None e h = h
segment_kept v options (Some part) e h =
    let total : ℕ = part.total in
    record {
      identifier = h.identifier;
      offset = h.offset;
      total = h.total;
      range = record {
        holds_header = rw (← e) h.range.holds_header;
        within = rw (← e) h.range.within;
        ends = rw (← e) h.range.ends;
      };
    }

pub edit_spells : (v : PduValue) (change : List Parameter → List Parameter) (old mid copy new : List ℕ) (start : ℕ)
    → SpellsHeader v old
    → StartsAt v start
    → IsEdited start change old mid
    → copy ≡ mid
    → Changes old new (λ plain. take start plain ++ drop start copy)
    → SpellsHeader (with_options (change v.options) v) new
edit_spells v change old mid copy new start h s edit same taken =
    let options : List Parameter = change v.options in
    let read = options_are v old start h s in
    let octets : mid ≡ take start old ++ spelled options = edit.octets ∙ ap (λ t. take start old ++ spelled (change t)) read in
    let p = parted v old h in
    let behind = options_behind v old start h s in
    let front : take start old ≡ before_options v p.x p.y = ap (take start) p.whole ∙ take_at (before_options v p.x p.y) (spelled v.options) start (length-before v p.x p.y ∙ sym s) in
    let len : length (spelled options) ≡ length (spelled v.options) =
    omega (arith, ap length octets, edit.len, length-append (take start old) (spelled options), ap length p.whole, length-append (before_options v p.x p.y) (spelled v.options), ap length front) in
    let size : header_length v ≡ header_length (with_options options v) = omega (arith, header_length-is v, header_length-is (with_options options v)) in
    let A : List Parameter → Type 0 = λ t. IsWellFormed (spelled (change t)) in
    let formed : IsWellFormed (spelled options) = subst A read edit.well_formed in
    let B : List Parameter → Type 0 = λ t. Accepts (is_report v.kind) (spelled (change t)) in
    let was : Accepts (is_report v.kind) (drop start old) =
    accepts_from (is_report v.kind) v.options (drop start old) (record { octets = behind; formed = h.pdu.options; kind = h.pdu.reason }) in
    let accepted : Accepts (is_report v.kind) (spelled options) = subst B read (edit.accepted (is_report v.kind) was) in
    let spells = spells_of (is_report v.kind) (spelled options) accepted in
    let again = parameters-of_spelled options in
    let C : List Parameter → Type 0 = λ t. FitsKind (is_report v.kind) t in
    record {
      pdu = record {
        lifetime = h.pdu.lifetime;
        destination = h.pdu.destination;
        source = h.pdu.source;
        segmentation = segment_kept v options v.segmentation size h.pdu.segmentation;
        options = rw again at (forms_of (spelled options) formed).formed;
        reason = subst C again spells.kind;
        header_fits = rw (← size) h.pdu.header_fits;
        segment_fits = rw (← size) h.pdu.segment_fits;
      };
      octets_are =
          taken v.sealed (unsealed_header v) refl h.octets_are
          ∙ ap (λ t. checked v.sealed (take start (unsealed_header v) ++ t)) (ap (drop start) (same ∙ octets) ∙ drop_at (take start old) (spelled options) start (length-take-le start old (start_within v old start h s)))
          ∙ ap (checked v.sealed) (edited_unsealed v options start s len);
    }

-- ---- whether there is a segmentation part

-- the octet of flags and type is at least 128 exactly where SP is set
flags_small : (more report : Bool) (kind : Kind) → (0 + (if more then 64 else 0) + (if report then 32 else 0) + type_code kind) < 128
flags_small true true Dt = lit< tt
flags_small true true Er = lit< tt
flags_small true true Erq = lit< tt
flags_small true true Erp = lit< tt
flags_small true false Dt = lit< tt
flags_small true false Er = lit< tt
flags_small true false Erq = lit< tt
flags_small true false Erp = lit< tt
flags_small false true Dt = lit< tt
flags_small false true Er = lit< tt
flags_small false true Erq = lit< tt
flags_small false true Erp = lit< tt
flags_small false false Dt = lit< tt
flags_small false false Er = lit< tt
flags_small false false Erq = lit< tt
flags_small false false Erp = lit< tt

pub part_size_by_flags : (v : PduValue) (part : Option SegmentationPart) → v.segmentation ≡ part → (128 ≤ flags_and_type v → length (segmentation_octets v.segmentation) ≡ 6) × (flags_and_type v < 128 → length (segmentation_octets v.segmentation) ≡ 0)
part_size_by_flags v None e =
    let flags : flags_and_type v ≡ 0 + (if v.more then 64 else 0) + (if v.report then 32 else 0) + type_code v.kind =
    ap (λ s. (if is_some s then 128 else 0) + (if v.more then 64 else 0) + (if v.report then 32 else 0) + type_code v.kind) e in
    ((λ large. absurd (omega (arith, flags, flags_small v.more v.report v.kind))), (λ small. ap (λ s. length (segmentation_octets s)) e))
part_size_by_flags v (Some part) e =
    let flags : flags_and_type v ≡ 128 + (if v.more then 64 else 0) + (if v.report then 32 else 0) + type_code v.kind =
    ap (λ s. (if is_some s then 128 else 0) + (if v.more then 64 else 0) + (if v.report then 32 else 0) + type_code v.kind) e in
    ((λ large. ap (λ s. length (segmentation_octets s)) e), (λ small. absurd (omega (arith, flags))))
