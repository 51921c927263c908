-- A header that breaks no rule, with its data, is spelled by the value that is read off.
use Rattle.std.proofs.Common.{◌≡◌, ℕ, ◌+◌, ◌-◌, ◌^◌, ◌<◌, ◌≤◌, ◌==◌, ◌&&◌, not, Bool, true, false, if◌then◌else◌, List, [], ◌∷◌, ◌++◌, length, drop, get_or, Some, None, is_some, inl, inr, refl, sym, ◌∙◌, ap, subst, arith, length-drop}
use Rattle.std.specs.Prelude.{nat_lt}
use Rattle.std.proofs.lemmas.Bool.Decides.{nat_tests}
use Rattle.std.proofs.lemmas.Grind.{common_steps}
use Rattle.pdus.specs.Nsap.Address.{IsAddress}
use Rattle.pdus.specs.ClnpOptions.Parameter.{parameters}
use Rattle.pdus.specs.ClnpOptions.Grammar.{FitsKind, Spells as SpellsOptions}
use Rattle.pdus.specs.PduHeader.Spelling.{counted, pair_of, segmentation_octets, variable_part, header_length, segment_length, flags_and_type, unsealed_header, header}
use Rattle.pdus.specs.PduHeader.Grammar.{IsSegment, Spells}
use Rattle.pdus.specs.PduHeader.Rules.{octet, pair_at, type_of, is_segmented, has_more, wants_report, source_place, part_place, options_place, segment_size, data_size, is_bad_range, options_part}
use Rattle.pdus.specs.PduHeader.Reading.{address_at, segmentation_at, value_of}
use Rattle.pdus.proofs.PduHeader.Fields.{AreOctets, address_split, pair_split, spells_of, accepted_anywhere}
use Rattle.pdus.proofs.PduHeader.Accepted.{IsAccepted, IsWithin, within, good_range}
use Rattle.pdus.proofs.PduHeader.Flags.{code_of_kind, report_of_kind, flags_again, flags_octet}
use Rattle.pdus.proofs.PduHeader.Shape.{nine_bare, same_layout, sealing_again, bare_again, pair_is_zero, pair_is_used, pair_of_octets, right_from_test}
use Rattle.clnp_base.proofs.ListSteps.{bytes_of_drop, bytes_of_take}

-- what stands where the addresses end is the segmentation part and the options
pub part_split : (head : List ℕ) → AreOctets head → (i : ℕ) → part_place head ≡ i + 1
    → (is_segmented head && nat_lt (length head) (part_place head + 5)) ≡ false
    → drop i head ≡ segmentation_octets (segmentation_at head) ++ options_part head
part_split head bytes i at fits = by_flag (is_segmented head) refl
  where
    by_flag : (b : Bool) → is_segmented head ≡ b → drop i head ≡ segmentation_octets (segmentation_at head) ++ options_part head
    by_flag true e =
        let place : ℕ = part_place head in
        let within : place + 5 ≤ length head = grind (arith, nat_tests) in
        let first = pair_split head i place bytes at (omega arith) in
        let second = pair_split head (place + 1) (place + 2) bytes (omega arith) (omega arith) in
        let third = pair_split head (place + 3) (place + 4) bytes (omega arith) (omega arith) in
        let second_ends : drop (place + 2 + 1) head ≡ drop (place + 3) head = ap (λ k. drop k head) (omega arith) in
        let third_ends : drop (place + 4 + 1) head ≡ drop (place + 6 - 1) head = ap (λ k. drop k head) (omega arith) in
        rw e
        (first
        ∙ ap (λ (xs : List ℕ). pair_of (pair_at head place) ++ xs)
        (second
        ∙ ap (λ (xs : List ℕ). pair_of (pair_at head (place + 2)) ++ xs)
        (second_ends ∙ third ∙ ap (λ (xs : List ℕ). pair_of (pair_at head (place + 4)) ++ xs) third_ends)))
    by_flag false e = rw e (ap (λ k. drop k head) (omega arith))

-- a header that breaks no rule, in a frame of n octets
pub record IsHeader (head : List ℕ) (n : ℕ) : Type 0 where
  pub bytes : AreOctets head
  pub protocol : octet head 1 ≡ 0x81
  pub size : octet head 2 ≡ length head
  pub long : 9 ≤ length head
  pub short : length head ≤ 254
  pub accepted : IsAccepted head n

pub options_are : (head : List ℕ) (n : ℕ) → IsAccepted head n → SpellsOptions (type_of head == 1) (parameters (options_part head)) (options_part head)
options_are head n h =
    spells_of (type_of head == 1) (options_part head) ((accepted_anywhere (type_of head == 1) (options_part head) (options_place head)).0 h.options)

pub variable_part_is : (head body : List ℕ) (n : ℕ) → IsHeader head n → drop 9 head ≡ variable_part (value_of head body)
variable_part_is head body n h =
    let to = within head 10 h.accepted.destination in
    let from = within head (source_place head) h.accepted.source in
    let first = address_split head 9 10 refl to.start to.end in
    let second = address_split head (10 + octet head 10) (source_place head) (omega arith) from.start from.end in
    let third = part_split head h.bytes (source_place head + octet head (source_place head)) (omega arith) h.accepted.part in
    let fourth = (options_are head n h.accepted).octets in
    first.0
    ∙ ap (λ (xs : List ℕ). counted (address_at head 10) ++ xs)
    (second.0
    ∙ ap (λ (xs : List ℕ). counted (address_at head (source_place head)) ++ xs)
    (third ∙ ap (λ (xs : List ℕ). segmentation_octets (segmentation_at head) ++ xs) fourth))

pub header_length_is : (head body : List ℕ) (n : ℕ) → IsHeader head n → header_length (value_of head body) ≡ length head
header_length_is head body n h =
    omega (arith, ap length (variable_part_is head body n h), length-drop 9 head, h.long)

pub segment_length_is : (head body : List ℕ) (n : ℕ) → IsHeader head n → length body ≡ data_size head → segment_length (value_of head body) ≡ segment_size head
segment_length_is head body n h fills = omega (arith, header_length_is head body n h, h.accepted.low)

pub segmented_is : (head : List ℕ) → is_some (segmentation_at head) ≡ is_segmented head
segmented_is head = by_flag (is_segmented head) refl
  where
    by_flag : (b : Bool) → is_segmented head ≡ b → is_some (segmentation_at head) ≡ is_segmented head
    by_flag true e = rw e refl
    by_flag false e = rw e refl

pub flags_are : (head body : List ℕ) (n : ℕ) → IsHeader head n → octet head 5 ≡ flags_and_type (value_of head body)
flags_are head body n h =
    sym (flags_again (octet head 5) (h.bytes 4))
    ∙ ap (λ s. flags_octet s (has_more head) (wants_report head) (type_of head)) (sym (segmented_is head))
    ∙ ap (λ t. flags_octet (is_some (segmentation_at head)) (has_more head) (wants_report head) t) (sym (code_of_kind (type_of head) h.accepted.kind))

pub bare_is : (head body : List ℕ) (n : ℕ) → IsHeader head n → length body ≡ data_size head
    → unsealed_header (value_of head body)
    ≡ get_or head 0 0 ∷ get_or head 1 0 ∷ get_or head 2 0 ∷ get_or head 3 0 ∷ get_or head 4 0 ∷ get_or head 5 0 ∷ get_or head 6 0 ∷ 0 ∷ 0 ∷ drop 9 head
bare_is head body n h fills =
    let v = value_of head body in
    let pair : pair_of (segment_length v) ≡ get_or head 5 0 ∷ get_or head 6 0 ∷ [] =
    ap (λ k. pair_of k) (segment_length_is head body n h fills) ∙ pair_of_octets (get_or head 5 0) (get_or head 6 0) (h.bytes 5) (h.bytes 6) in
    same_layout 0x81 (header_length v) 1 v.lifetime (flags_and_type v) (get_or head 0 0) (get_or head 1 0) (get_or head 2 0) (get_or head 3 0) (get_or head 4 0) 0 0
    (pair_of (segment_length v)) (get_or head 5 0 ∷ get_or head 6 0 ∷ []) (variable_part v) (drop 9 head)
    (sym h.protocol) (header_length_is head body n h ∙ sym h.size) (sym h.accepted.version) refl (sym (flags_are head body n h)) pair (sym (variable_part_is head body n h))

pub header_is : (head body : List ℕ) (n : ℕ) → IsHeader head n → length body ≡ data_size head → head ≡ header (value_of head body)
header_is head body n h fills =
    let bare = nine_bare head h.long ∙ sym (bare_is head body n h fills) in
    elim (right_from_test head h.accepted.checksum) [
      | inl unused ↦ rw (pair_is_zero head unused.0 unused.1) (bare_again head (unsealed_header (value_of head body)) bare unused.0 unused.1)
      | inr sealed ↦ rw (pair_is_used head sealed.octet_8) (sealing_again head (unsealed_header (value_of head body)) h.long (h.bytes 7) (h.bytes 8) bare sealed)
    ]

pub address_is : (head : List ℕ) (place : ℕ) → AreOctets head → IsWithin head place → IsAddress (address_at head place)
address_is head place bytes h =
    let size : length (address_at head place) ≡ octet head place = grind (arith, common_steps, h.end) in
    record {
      some = omega (arith, h.some);
      few = omega (arith, h.few);
      bytes = bytes_of_take (drop place head) (octet head place) (bytes_of_drop head place bytes);
    }

pub pair_is_small : (head : List ℕ) (place : ℕ) → AreOctets head → pair_at head place < 2 ^ 16
pair_is_small head place bytes = omega (arith, bytes (place - 1), bytes (place + 1 - 1))

pub and_true : (b : Bool) → (b && true) ≡ false → b ≡ false
and_true true h = h
and_true false h = refl

pub segment_is : (head body : List ℕ) (n : ℕ) → IsHeader head n → length body ≡ data_size head → IsSegment (value_of head body) (segmentation_at head)
segment_is head body n h fills = by_flag (is_segmented head) refl
  where
    by_flag : (b : Bool) → is_segmented head ≡ b → IsSegment (value_of head body) (segmentation_at head)
    by_flag true e =
        let place : ℕ = part_place head in
        let range : is_bad_range head ≡ false = grind (arith, h.accepted.range) in
        let good = good_range (length head) (pair_at head (place + 4)) (pair_at head (place + 2) + data_size head) (has_more head) range in
        let size = header_length_is head body n h in
        let ends : pair_at head (place + 2) + length body ≡ pair_at head (place + 2) + data_size head = ap (λ k. pair_at head (place + 2) + k) fills in
        let left : pair_at head (place + 4) - header_length (value_of head body) ≡ pair_at head (place + 4) - length head = ap (λ k. pair_at head (place + 4) - k) size in
        let P : Bool → Type 0 = λ b. IsSegment (value_of head body) (if b then Some (record { identifier = pair_at head (part_place head); offset = pair_at head (part_place head + 2); total = pair_at head (part_place head + 4) }) else None) in
        subst P (sym e)
        (record {
          identifier = pair_is_small head place h.bytes;
          offset = pair_is_small head (place + 2) h.bytes;
          total = pair_is_small head (place + 4) h.bytes;
          range = record {
            holds_header = omega (arith, good.holds_header);
            within = omega (arith, good.within);
            ends = ((λ m. ends ∙ good.ends.0 m ∙ sym left), (λ q. good.ends.1 (sym ends ∙ q ∙ left)));
          };
        })
    by_flag false e =
        let P : Bool → Type 0 = λ b. IsSegment (value_of head body) (if b then Some (record { identifier = pair_at head (part_place head); offset = pair_at head (part_place head + 2); total = pair_at head (part_place head + 4) }) else None) in
        let Q : Bool → Type 0 = λ b. (has_more head && not b) ≡ false in
        subst P (sym e) (and_true (has_more head) (subst Q e h.accepted.flags))

pub spelled_as : (head body : List ℕ) (n : ℕ) → IsHeader head n → length body ≡ data_size head → Spells (value_of head body) (head ++ body)
spelled_as head body n h fills =
    let options = options_are head n h.accepted in
    record {
      pdu = record {
        lifetime = h.bytes 3;
        destination = address_is head 10 h.bytes (within head 10 h.accepted.destination);
        source = address_is head (source_place head) h.bytes (within head (source_place head) h.accepted.source);
        segmentation = segment_is head body n h fills;
        options = options.formed;
        reason = let P : Bool → Type 0 = λ b. FitsKind b (parameters (options_part head)) in subst P (sym (report_of_kind (type_of head))) options.kind;
        header_fits = omega (arith, header_length_is head body n h, h.short);
        segment_fits = omega (arith, segment_length_is head body n h fills, pair_is_small head 6 h.bytes);
      };
      octets_are = ap (λ (xs : List ℕ). xs ++ body) (header_is head body n h fills);
    }
