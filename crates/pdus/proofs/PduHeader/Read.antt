-- A header that a value spells breaks no rule, and the value is read off again.
use Rattle.std.proofs.Common.{◌≡◌, ℕ, ◌+◌, ◌-◌, ◌*◌, ◌^◌, ◌<◌, ◌≤◌, ◌==◌, ◌&&◌, not, Bool, true, false, if◌then◌else◌, List, ◌∷◌, ◌++◌, length, drop, get_or, Option, Some, None, is_some, unwrap_or, refl, sym, ◌∙◌, ap, subst, arith}
use Rattle.std.specs.Prelude.{nat_lt}
use Rattle.pdus.specs.Nsap.Address.{IsAddress}
use Rattle.pdus.specs.Fletcher.Checksum.{IsSealed, sealed}
use Rattle.pdus.specs.ClnpOptions.Parameter.{Parameter, parameters, spelled}
use Rattle.pdus.specs.declared.pdu_header.kind.Kind.{Kind}
use Rattle.pdus.specs.declared.pdu_header.kind.Kind.TheVariants.{Dt}
use Rattle.pdus.specs.ClnpOptions.Rules.{refusal as options_refusal}
use Rattle.pdus.specs.ClnpOptions.Grammar.{FitsKind}
use Rattle.pdus.specs.PduHeader.Value.{SegmentationPart, PduValue}
use Rattle.pdus.specs.PduHeader.Layout.{type_code}
use Rattle.pdus.specs.PduHeader.Spelling.{counted, pair_of, segmentation_octets, variable_part, header_length, segment_length, flags_and_type, unsealed_header, header}
use Rattle.pdus.specs.PduHeader.Grammar.{is_report, IsSegment, IsPdu}
use Rattle.pdus.specs.PduHeader.Rules.{octet, pair_at, type_of, kind_of, is_segmented, has_more, has_right_checksum, wants_report, source_place, part_place, options_place, segment_size, is_bad_address, data_size, is_unfit_range, is_bad_range, options_part}
use Rattle.pdus.specs.PduHeader.Reading.{address_at, segmentation_at, value_of}
use Rattle.pdus.proofs.PduHeader.Fields.{HasAddress, address_here, pair_here, accepts_from, accepted_anywhere, parameters-Forms}
use Rattle.clnp_base.proofs.Choices.{below_not}
use Rattle.pdus.proofs.PduHeader.Accepted.{IsAccepted, within_is, range_is_good}
use Rattle.pdus.proofs.PduHeader.Flags.{kind_read, kind_of_code, code_is_small, report_of_code, AreFlags, flags_read}
use Rattle.pdus.proofs.PduHeader.Shape.{sealed_layout, pair_is_zero, pair_is_used, pair_again, unused_passes, sealed_passes, sealed_is}

-- how the header of a value is laid out
pub record IsLaidOut (head : List ℕ) (v : PduValue) : Type 0 where
  pub x : ℕ
  pub y : ℕ
  pub layout : head ≡ 0x81 ∷ header_length v ∷ 1 ∷ v.lifetime ∷ flags_and_type v ∷ (pair_of (segment_length v) ++ (x ∷ y ∷ variable_part v))
  pub checksum : has_right_checksum head ≡ true
  pub sealed_is : not (pair_at head 8 == 0) ≡ v.sealed

pub laid_out : (v : PduValue) → IsLaidOut (header v) v
laid_out v = by_flag v.sealed refl
  where
    by_flag : (b : Bool) → v.sealed ≡ b → IsLaidOut (header v) v
    by_flag true e =
        let head = sealed (unsealed_header v) in
        let shape = sealed_layout 0x81 (header_length v) 1 v.lifetime (flags_and_type v) (get_or (pair_of (segment_length v)) 0 0) (get_or (pair_of (segment_length v)) 1 0) (variable_part v) in
        let is : IsSealed head = sealed_is (unsealed_header v) (omega arith) in
        let P : Bool → Type 0 = λ b. IsLaidOut (if b then sealed (unsealed_header v) else unsealed_header v) v in
        subst P (sym e) (record {
          x = shape.0;
          y = shape.1;
          layout = shape.2;
          checksum = sealed_passes head is;
          sealed_is = pair_is_used head is.octet_8 ∙ sym e;
        })
    by_flag false e =
        let head = unsealed_header v in
        let P : Bool → Type 0 = λ b. IsLaidOut (if b then sealed (unsealed_header v) else unsealed_header v) v in
        subst P (sym e) (record {
          x = 0;
          y = 0;
          layout = refl;
          checksum = unused_passes head refl refl;
          sealed_is = pair_is_zero head refl refl ∙ sym e;
        })

-- the fields that stand at fixed places
pub record HasFixedPart (head : List ℕ) (v : PduValue) : Type 0 where
  pub protocol : octet head 1 ≡ 0x81
  pub size : octet head 2 ≡ length head
  pub long : 9 ≤ length head
  pub version : octet head 3 ≡ 1
  pub lifetime : octet head 4 ≡ v.lifetime
  pub flags : AreFlags (octet head 5) (is_some v.segmentation) v.more v.report (type_code v.kind)
  pub segment : segment_size head ≡ segment_length v
  pub length_is : length head ≡ header_length v
  pub behind : drop 9 head ≡ variable_part v

pub fixed_part : (head : List ℕ) (v : PduValue) → segment_length v < 2 ^ 16 → IsLaidOut head v → HasFixedPart head v
fixed_part head v fits h =
    let high = get_or (pair_of (segment_length v)) 0 0 in
    let low = get_or (pair_of (segment_length v)) 1 0 in
    let at_6 : octet head 6 ≡ high = ap (λ xs. get_or xs 5 0) h.layout in
    let at_7 : octet head 7 ≡ low = ap (λ xs. get_or xs 6 0) h.layout in
    let size : length head ≡ header_length v = ap length h.layout ∙ omega arith in
    let P : ℕ → Type 0 = λ n. AreFlags n (is_some v.segmentation) v.more v.report (type_code v.kind) in
    let at_5 : octet head 5 ≡ flags_and_type v = ap (λ xs. get_or xs 4 0) h.layout in
    record {
      protocol = ap (λ xs. get_or xs 0 0) h.layout;
      size = ap (λ xs. get_or xs 1 0) h.layout ∙ sym size;
      long = omega arith;
      version = ap (λ xs. get_or xs 2 0) h.layout;
      lifetime = ap (λ xs. get_or xs 3 0) h.layout;
      flags = subst P (sym at_5) (flags_read (is_some v.segmentation) v.more v.report (type_code v.kind) (code_is_small v.kind));
      segment = ap (λ k. 256 * k + octet head 7) at_6 ∙ ap (λ k. 256 * high + k) at_7 ∙ pair_again high low (segment_length v) fits refl;
      length_is = size;
      behind = ap (λ xs. drop 9 xs) h.layout;
    }

-- the addresses, where they stand
pub record HasAddresses (head : List ℕ) (v : PduValue) : Type 0 where
  pub destination : address_at head 10 ≡ v.destination
  pub source : address_at head (source_place head) ≡ v.source
  pub destination_within : is_bad_address head 10 ≡ false
  pub source_within : is_bad_address head (source_place head) ≡ false
  pub last : ℕ
  pub part_is : part_place head ≡ last + 1
  pub behind : drop last head ≡ segmentation_octets v.segmentation ++ spelled v.options

pub within_from : (head : List ℕ) (place : ℕ) (a rest : List ℕ) → IsAddress a → HasAddress head place a rest → is_bad_address head place ≡ false
within_from head place a rest is h =
    within_is head place (record {
      start = omega (arith, h.within);
      some = omega (arith, h.size, is.some);
      few = omega (arith, h.size, is.few);
      end = omega (arith, h.size, h.within);
    })

pub addresses : (head : List ℕ) (v : PduValue) → IsPdu v → HasFixedPart head v → HasAddresses head v
addresses head v pdu fixed =
    let first = address_here head 9 10 v.destination (counted v.source ++ (segmentation_octets v.segmentation ++ spelled v.options)) refl fixed.behind in
    let place : source_place head ≡ 10 + length v.destination + 1 = omega (arith, first.size) in
    let second = address_here head (10 + length v.destination) (source_place head) v.source (segmentation_octets v.segmentation ++ spelled v.options) place first.behind in
    record {
      destination = first.octets;
      source = second.octets;
      destination_within = within_from head 10 v.destination _ pdu.destination first;
      source_within = within_from head (source_place head) v.source _ pdu.source second;
      last = source_place head + length v.source;
      part_is = omega (arith, second.size);
      behind = second.behind;
    }

-- the segmentation part and the options, where they stand
pub record HasRest (head : List ℕ) (v : PduValue) : Type 0 where
  pub segmentation : segmentation_at head ≡ v.segmentation
  pub within : (is_segmented head && nat_lt (length head) (part_place head + 5)) ≡ false
  pub range : (is_segmented head && is_bad_range head) ≡ false
  pub flags : (has_more head && not (is_segmented head)) ≡ false
  pub options : options_part head ≡ spelled v.options

pub rest : (head : List ℕ) (v : PduValue) → HasFixedPart head v → HasAddresses head v
    → (segmentation : Option SegmentationPart) → v.segmentation ≡ segmentation → IsSegment v segmentation → HasRest head v
rest head v fixed addresses None e h =
    let flag : is_segmented head ≡ false = fixed.flags.segmented_is ∙ ap is_some e in
    let more : has_more head ≡ false = fixed.flags.more_is ∙ h in
    record {
      segmentation = rw flag (sym e);
      within = rw flag refl;
      range = rw flag refl;
      flags = rw more refl;
      options = rw flag (ap (λ k. drop k head) (omega (arith, addresses.part_is)) ∙ addresses.behind ∙ ap (λ (s : Option SegmentationPart). segmentation_octets s ++ spelled v.options) e);
    }
rest head v fixed addresses (Some part) e h =
    let place : ℕ = part_place head in
    let flag : is_segmented head ≡ true = fixed.flags.segmented_is ∙ ap is_some e in
    let behind : drop addresses.last head ≡ pair_of part.identifier ++ (pair_of part.offset ++ (pair_of part.total ++ spelled v.options)) =
    addresses.behind ∙ ap (λ (s : Option SegmentationPart). segmentation_octets s ++ spelled v.options) e in
    let first = pair_here head addresses.last place part.identifier (pair_of part.offset ++ (pair_of part.total ++ spelled v.options)) addresses.part_is h.identifier behind in
    let second = pair_here head (place + 1) (place + 2) part.offset (pair_of part.total ++ spelled v.options) (omega arith) h.offset first.behind in
    let third = pair_here head (place + 3) (place + 4) part.total (spelled v.options) (omega arith) h.total
    (ap (λ k. drop k head) (omega arith) ∙ second.behind) in
    let data_is : data_size head ≡ length v.body = omega (arith, fixed.segment, fixed.length_is) in
    let good : is_unfit_range (length head) part.total (part.offset + length v.body) v.more ≡ false =
    range_is_good (length head) part.total (part.offset + length v.body) v.more (record {
      holds_header = omega (arith, fixed.length_is, h.range.holds_header);
      within = omega (arith, fixed.length_is, h.range.within);
      ends = ((λ m. h.range.ends.0 m ∙ ap (λ k. part.total - k) (sym fixed.length_is)), (λ q. h.range.ends.1 (q ∙ ap (λ k. part.total - k) fixed.length_is)));
    }) in
    record {
      segmentation = rw flag (ap (λ k. Some (let s : SegmentationPart = record { identifier = k; offset = pair_at head (place + 2); total = pair_at head (place + 4) } in s)) first.number
          ∙ ap (λ k. Some (let s : SegmentationPart = record { identifier = part.identifier; offset = k; total = pair_at head (place + 4) } in s)) second.number
          ∙ ap (λ k. Some (let s : SegmentationPart = record { identifier = part.identifier; offset = part.offset; total = k } in s)) third.number ∙ sym e);
      within = rw flag (below_not (length head) (place + 5) (omega (arith, third.within)));
      range = rw flag
          (ap (λ k. is_unfit_range (length head) k (pair_at head (place + 2) + data_size head) (has_more head)) third.number
          ∙ ap (λ k. is_unfit_range (length head) part.total (k + data_size head) (has_more head)) second.number
          ∙ ap (λ k. is_unfit_range (length head) part.total (part.offset + k) (has_more head)) data_is
          ∙ ap (λ k. is_unfit_range (length head) part.total (part.offset + length v.body) k) fixed.flags.more_is
          ∙ good);
      flags = rw flag (grind arith);
      options = rw flag (ap (λ k. drop k head) (omega arith) ∙ third.behind);
    }

-- a header that a value spells, read off
pub record IsReadAs (head : List ℕ) (v : PduValue) : Type 0 where
  pub protocol : octet head 1 ≡ 0x81
  pub size : octet head 2 ≡ length head
  pub long : 9 ≤ length head
  pub short : length head ≤ 254
  pub segment : segment_size head ≡ length head + length v.body
  pub accepted : (n : ℕ) → length head + length v.body ≤ n → IsAccepted head n
  pub value : value_of head v.body ≡ v

pub options_pass : (head : List ℕ) (v : PduValue) → IsPdu v → (type_of head == 1) ≡ is_report v.kind → options_part head ≡ spelled v.options
    → options_refusal (options_part head) (options_place head) (type_of head == 1) ≡ None
options_pass head v pdu kind octets =
    let P : Bool → Type 0 = λ b. FitsKind b v.options in
    (accepted_anywhere (type_of head == 1) (options_part head) (options_place head)).1
    (accepts_from (type_of head == 1) v.options (options_part head) (record {
      octets = octets;
      formed = pdu.options;
      kind = subst P (sym kind) pdu.reason;
    }))

pub same_value : (kind : Kind) (lifetime : ℕ) (report sealed more : Bool) (to from : List ℕ) (segmentation : Option SegmentationPart) (options : List Parameter)
    → (v : PduValue) → kind ≡ v.kind → lifetime ≡ v.lifetime → report ≡ v.report → sealed ≡ v.sealed → more ≡ v.more → to ≡ v.destination → from ≡ v.source
    → segmentation ≡ v.segmentation → options ≡ v.options
    → (let w : PduValue = record { kind = kind; lifetime = lifetime; report = report; sealed = sealed; more = more; destination = to; source = from; segmentation = segmentation; options = options; body = v.body } in w) ≡ v
same_value kind lifetime report sealed more to from segmentation options v a b c d e f g h i = rw (a, b, c, d, e, f, g, h, i) refl

pub read_as : (v : PduValue) → IsPdu v → IsReadAs (header v) v
read_as v pdu =
    let head = header v in
    let layout : IsLaidOut head v = laid_out v in
    let fixed : HasFixedPart head v = fixed_part head v pdu.segment_fits layout in
    let both : HasAddresses head v = addresses head v pdu fixed in
    let others : HasRest head v = rest head v fixed both v.segmentation refl pdu.segmentation in
    let kind : kind_of (type_of head) ≡ Some v.kind = ap kind_of fixed.flags.type_is ∙ kind_of_code v.kind in
    let is_kind : (type_of head == 1) ≡ is_report v.kind = ap (λ t. t == 1) fixed.flags.type_is ∙ report_of_code v.kind in
    let segment : segment_size head ≡ length head + length v.body = omega (arith, fixed.segment, fixed.length_is) in
    record {
      protocol = fixed.protocol;
      size = fixed.size;
      long = fixed.long;
      short = omega (arith, fixed.length_is, pdu.header_fits);
      segment = segment;
      accepted = λ n enough. record {
        version = fixed.version;
        checksum = layout.checksum;
        kind = ap is_some kind;
        flags = others.flags;
        destination = both.destination_within;
        source = both.source_within;
        part = others.within;
        low = omega (arith, segment);
        high = omega (arith, segment);
        range = others.range;
        options = options_pass head v pdu is_kind others.options;
      };
      value = same_value (kind_read (type_of head)) (octet head 4) (wants_report head) (not (pair_at head 8 == 0)) (has_more head) (address_at head 10) (address_at head (source_place head)) (segmentation_at head) (parameters (options_part head)) v
          (ap (λ o. unwrap_or o Dt) kind) fixed.lifetime fixed.flags.report_is layout.sealed_is fixed.flags.more_is both.destination both.source others.segmentation (parameters-Forms v.options (options_part head) others.options);
    }
