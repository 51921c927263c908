-- A frame breaks no rule exactly where a PDU stands at its front, and that is one PDU only.
use Rattle.std.proofs.Common.{◌≡◌, ◌≢◌, ℕ, ◌+◌, ◌<◌, ◌≤◌, ◌==◌, ◌||◌, ◌&&◌, not, Bool, true, false, List, ◌++◌, length, take, drop, get_or, Some, None, refl, sym, ◌∙◌, ap, subst, arith, append_assoc, take-append-drop, length-append, length-drop, length-take-le}
use Rattle.std.specs.Prelude.{nat_lt, ◌↔◌}
use Rattle.std.proofs.lemmas.List.{take_at, drop_at, get_or_append_left}
use Rattle.std.proofs.lemmas.Bool.Decides.{nat_tests}
use Rattle.pdus.specs.PduHeader.Value.{PduValue}
use Rattle.pdus.specs.PduHeader.Spelling.{header}
use Rattle.pdus.specs.PduHeader.Grammar.{BeginsWith, is_report}
use Rattle.pdus.specs.declared.clnp_options.judge.OptionRefusal.{OptionRefusal}
use Rattle.pdus.specs.PduHeader.Rules.{octet, header_size, header_of, data_size, extent_refusal, header_refusal, refusal, is_reportable, wants_report, type_of, is_bad_address, source_place}
use Rattle.pdus.specs.PduHeader.Reading.{value_of, body_of, rest_of}
use Rattle.pdus.proofs.PduHeader.Fields.{AreOctets}
use Rattle.clnp_base.proofs.Choices.{below_not, equal_is, if_none, none_if, not_below, not_equal, option_or-none, option_or-parts}
use Rattle.pdus.proofs.PduHeader.Accepted.{accepted, accepting}
use Rattle.pdus.proofs.PduHeader.Flags.{report_of_kind}
use Rattle.pdus.proofs.PduHeader.Shape.{HasHeader, good_size, length_of_header, octet_of_header}
use Rattle.pdus.proofs.PduHeader.Spelled.{IsHeader, header_is, spelled_as}
use Rattle.pdus.proofs.PduHeader.Read.{read_as}
use Rattle.clnp_base.proofs.ListSteps.{bytes_of_take}

pub has_header : (frame : List ℕ) → extent_refusal frame ≡ None → HasHeader frame
unfolding extent_refusal
has_header frame h =
    let g1 = if_none _ _ _ h in
    let g2 = if_none _ _ _ g1.1 in
    let g3 = if_none _ _ _ g2.1 in
    record {
      long = not_below _ _ g1.0;
      size = (good_size _ g2.0).0;
      not_reserved = (good_size _ g2.0).1;
      within = not_below _ _ g3.0;
    }

pub header_here : (frame : List ℕ) → HasHeader frame → extent_refusal frame ≡ None
unfolding extent_refusal
header_here frame h =
    let size : 9 ≤ header_size frame = h.size in
    let not_reserved : header_size frame ≢ 255 = h.not_reserved in
    let reserved : (nat_lt (header_size frame) 9 || header_size frame == 255) ≡ false = grind (arith, nat_tests) in
    none_if _ _ _ (below_not _ _ h.long) (none_if _ _ _ reserved (none_if _ _ _ (below_not _ _ h.within) refl))

-- the header of a frame that breaks no rule
pub header_stands : (frame : List ℕ) → AreOctets frame → octet frame 1 ≡ 0x81 → refusal frame ≡ None → IsHeader (header_of frame) (length frame)
unfolding refusal
header_stands frame bytes protocol h =
    let parts = option_or-parts _ _ h in
    let extent = has_header frame parts.0 in
    let size = length_of_header frame extent in
    record {
      bytes = bytes_of_take frame (header_size frame) bytes;
      protocol = octet_of_header frame 0 extent (omega arith) ∙ protocol;
      size = octet_of_header frame 1 extent (omega arith) ∙ sym size;
      long = omega (arith, extent.size);
      short = omega (arith, extent.not_reserved, bytes 1);
      accepted = accepted (header_of frame) (length frame) parts.1;
    }

pub length_of_body : (frame : List ℕ) → AreOctets frame → octet frame 1 ≡ 0x81 → refusal frame ≡ None → length (body_of frame) ≡ data_size (header_of frame)
unfolding refusal
length_of_body frame bytes protocol h =
    let parts = option_or-parts _ _ h in
    let size = length_of_header frame (has_header frame parts.0) in
    let is = accepted (header_of frame) (length frame) parts.1 in
    length-take-le (data_size (header_of frame)) (drop (header_size frame) frame) (omega (arith, size, is.high, is.low, length-drop (header_size frame) frame))

pub frame_parts : (frame : List ℕ) → frame ≡ (header_of frame ++ body_of frame) ++ rest_of frame
frame_parts frame =
    sym (take-append-drop (header_size frame) frame)
    ∙ ap (λ (xs : List ℕ). header_of frame ++ xs) (sym (take-append-drop (data_size (header_of frame)) (drop (header_size frame) frame)))
    ∙ sym (append_assoc (header_of frame) (body_of frame) (rest_of frame))

-- a frame that breaks no rule begins with the PDU that is read off
pub front : (frame : List ℕ) → AreOctets frame → octet frame 1 ≡ 0x81 → refusal frame ≡ None
    → BeginsWith frame (value_of (header_of frame) (body_of frame)) (rest_of frame)
front frame bytes protocol h = record {
  octets = header_of frame ++ body_of frame;
  spells = spelled_as (header_of frame) (body_of frame) (length frame) (header_stands frame bytes protocol h) (length_of_body frame bytes protocol h);
  split = frame_parts frame;
}

-- what stands at the front of a frame is read off
pub record IsFront (frame : List ℕ) (v : PduValue) (rest : List ℕ) : Type 0 where
  pub protocol : octet frame 1 ≡ 0x81
  pub unbroken : refusal frame ≡ None
  pub value : v ≡ value_of (header_of frame) (body_of frame)
  pub rest_is : rest ≡ rest_of frame

pub is_front : (frame : List ℕ) (v : PduValue) (rest : List ℕ) → BeginsWith frame v rest → IsFront frame v rest
unfolding refusal
is_front frame v rest h =
    let head = header v in
    let read = read_as v h.spells.pdu in
    let parts : frame ≡ head ++ (v.body ++ rest) = h.split ∙ ap (λ (xs : List ℕ). xs ++ rest) h.spells.octets_are ∙ append_assoc head v.body rest in
    let front_octet : (i : ℕ) → i < 9 → get_or frame i 0 ≡ get_or head i 0 =
    λ i low. ap (λ (xs : List ℕ). get_or xs i 0) parts ∙ get_or_append_left head (v.body ++ rest) 0 i (omega (arith, read.long)) in
    let size : header_size frame ≡ length head = front_octet 1 (omega arith) ∙ read.size in
    let head_is : header_of frame ≡ head = ap (λ (xs : List ℕ). take (header_size frame) xs) parts ∙ take_at head (v.body ++ rest) (header_size frame) (sym size) in
    let behind_is : drop (header_size frame) frame ≡ v.body ++ rest = ap (λ (xs : List ℕ). drop (header_size frame) xs) parts ∙ drop_at head (v.body ++ rest) (header_size frame) (sym size) in
    let size_of_data : data_size head ≡ length v.body = omega (arith, read.segment) in
    let data_is : data_size (header_of frame) ≡ length v.body = ap data_size head_is ∙ size_of_data in
    let body_is : body_of frame ≡ v.body = ap (λ (xs : List ℕ). take (data_size (header_of frame)) xs) behind_is ∙ take_at v.body rest (data_size (header_of frame)) (sym data_is) in
    let enough : length head + length v.body ≤ length frame = omega (arith, ap length parts, length-append head (v.body ++ rest), length-append v.body rest) in
    let extent : HasHeader frame = record {
      long = omega (arith, read.long);
      size = omega (arith, read.long);
      not_reserved = λ e. omega (arith, read.short);
      within = omega arith;
    } in
    record {
      protocol = front_octet 0 (omega arith) ∙ read.protocol;
      unbroken = option_or-none _ _ None (header_here frame extent) (ap (λ (xs : List ℕ). header_refusal xs (length frame)) head_is ∙ accepting head (length frame) (read.accepted (length frame) enough));
      value = sym (ap (λ (xs : List ℕ). value_of xs (body_of frame)) head_is ∙ ap (λ (xs : List ℕ). value_of head xs) body_is ∙ read.value);
      rest_is = sym (ap (λ (xs : List ℕ). drop (data_size (header_of frame)) xs) behind_is ∙ drop_at v.body rest (data_size (header_of frame)) (sym data_is));
    }

-- of a frame at most one prefix spells a value, and it spells one value only
pub one_front : (frame : List ℕ) (v w : PduValue) (rest others : List ℕ) → BeginsWith frame v rest → BeginsWith frame w others → (v ≡ w) × (rest ≡ others)
one_front frame v w rest others h k =
    let a = is_front frame v rest h in
    let b = is_front frame w others k in
    (a.value ∙ sym b.value, a.rest_is ∙ sym b.rest_is)

-- a frame breaks no rule exactly where a prefix of it spells a value
pub unbroken_where_spelled : (frame : List ℕ) → AreOctets frame → octet frame 1 ≡ 0x81
    → (refusal frame ≡ None) ↔ ((v : PduValue) × (rest : List ℕ) × BeginsWith frame v rest)
unbroken_where_spelled frame bytes protocol =
    ((λ h. (value_of (header_of frame) (body_of frame), rest_of frame, front frame bytes protocol h)), (λ f. (is_front frame f.0 f.1 f.2).unbroken))

pub same_front : (frame : List ℕ) (v w : PduValue) (rest others : List ℕ) → v ≡ w → rest ≡ others → BeginsWith frame w others → BeginsWith frame v rest
same_front frame v w rest others e k h =
    let P : PduValue → Type 0 = λ x. BeginsWith frame x rest in
    let Q : List ℕ → Type 0 = λ xs. BeginsWith frame w xs in
    subst P (sym e) (subst Q (sym k) h)

-- a value and a rest that are read off a frame stand at its front
pub read_front : (frame : List ℕ) (v : PduValue) (rest : List ℕ) → AreOctets frame → octet frame 1 ≡ 0x81 → refusal frame ≡ None
    → v ≡ value_of (header_of frame) (body_of frame) → rest ≡ rest_of frame → BeginsWith frame v rest
read_front frame v rest bytes protocol h value rest_is =
    same_front frame v (value_of (header_of frame) (body_of frame)) rest (rest_of frame) value rest_is (front frame bytes protocol h)

-- the header of a frame that breaks no rule is what its value spells
pub read_header : (frame head : List ℕ) (v : PduValue) → AreOctets frame → octet frame 1 ≡ 0x81 → refusal frame ≡ None
    → head ≡ header_of frame → v ≡ value_of (header_of frame) (body_of frame) → head ≡ header v
read_header frame head v bytes protocol h head_is value =
    head_is
    ∙ header_is (header_of frame) (body_of frame) (length frame) (header_stands frame bytes protocol h) (length_of_body frame bytes protocol h)
    ∙ ap (λ (w : PduValue). header w) (sym value)

-- of a frame that is refused no prefix spells a value
pub nothing_spelled : (frame : List ℕ) (r : OptionRefusal) → refusal frame ≡ Some r → (v : PduValue) (rest : List ℕ) → BeginsWith frame v rest → ⊥
nothing_spelled frame r h v rest begins = let none = (is_front frame v rest begins).unbroken in cc

pub other_protocol : (frame : List ℕ) → (octet frame 1 == 0x81) ≡ false → (v : PduValue) (rest : List ℕ) → BeginsWith frame v rest → ⊥
other_protocol frame h v rest begins = not_equal (octet frame 1) 0x81 h (is_front frame v rest begins).protocol

pub and_same : (a b : Bool) → (a && (b && true)) ≡ (a && b)
and_same a true = refl
and_same a false = refl

-- a PDU is reportable where it wants a report and is none
pub reportable_front : (frame : List ℕ) (v : PduValue) (rest : List ℕ) → BeginsWith frame v rest → is_reportable frame ≡ (v.report && not (is_report v.kind))
unfolding refusal
reportable_front frame v rest h =
    let is = is_front frame v rest h in
    let parts = option_or-parts _ _ is.unbroken in
    let is_accepted = accepted (header_of frame) (length frame) parts.1 in
    let report : wants_report (header_of frame) ≡ v.report = sym (ap (λ (w : PduValue). w.report) is.value) in
    let kind : (type_of (header_of frame) == 1) ≡ is_report v.kind =
    sym (report_of_kind (type_of (header_of frame))) ∙ ap (λ (w : PduValue). is_report w.kind) (sym is.value) in
    let extent : extent_refusal frame ≡ None = parts.0 in
    let destination : is_bad_address (header_of frame) 10 ≡ false = is_accepted.destination in
    let source : is_bad_address (header_of frame) (source_place (header_of frame)) ≡ false = is_accepted.source in
    rw (equal_is (octet frame 1) 0x81 is.protocol, extent, destination, source, report, kind) (and_same v.report (not (is_report v.kind)))
