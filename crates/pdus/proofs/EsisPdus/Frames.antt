-- A frame breaks no rule exactly where a PDU stands at its front, and that is one PDU only.
use Rattle.std.proofs.Common.{◌≡◌, ◌∙◌, inl, inr, refl, sym, ap, subst, ℕ, ◌+◌, ◌*◌, ◌<◌, ◌≤◌, ◌==◌, not, Bool, true, false, if◌then◌else◌, List, [], ◌∷◌, ◌++◌, length, take, drop, get_or, Some, None, arith, take-append-drop, length-append, length-drop}
use Rattle.std.specs.Prelude.{◌↔◌}
use Rattle.std.proofs.lemmas.Bool.{eqb-false}
use Rattle.std.proofs.lemmas.List.{take_at, drop_at, get_or_append_left}
use Rattle.clnp_base.proofs.Choices.{option_or-parts, option_or-none}
use Rattle.hex.specs.Hex.{IsBytes}
use Rattle.pdus.specs.Fletcher.Checksum.{octet, IsSealed, sealed}
use Rattle.pdus.specs.ClnpOptions.Parameter.{Parameter, parameters, spelled}
use Rattle.pdus.specs.PduHeader.Spelling.{pair_of}
use Rattle.pdus.specs.PduHeader.Rules.{pair_at, header_size, header_of, has_right_checksum}
use Rattle.pdus.specs.declared.esis_pdus.pdu.EsisBody.{EsisBody}
use Rattle.pdus.specs.declared.esis_pdus.pdu.EsisRefusal.{EsisRefusal}
use Rattle.pdus.specs.EsisPdus.Value.{EsisValue}
use Rattle.pdus.specs.EsisPdus.Spelling as esis_spelling
use Rattle.pdus.specs.EsisPdus.Spelling.{type_code, body_octets, header_length, unsealed}
use Rattle.pdus.specs.EsisPdus.Grammar.{IsPdu, Spells, FitsTimer, BeginsWith}
use Rattle.pdus.specs.EsisPdus.Rules.{variable_part, options_part, options_place, header_refusal, refusal}
use Rattle.pdus.specs.EsisPdus.Reading.{body_of, value_of, rest_of}
use Rattle.pdus.proofs.EsisPdus.Options.{options_again, parameters-Forms, options_fill}
use Rattle.pdus.proofs.EsisPdus.Accepted.{IsAccepted, accepted, accepting, has_header, header_here}
use Rattle.pdus.proofs.EsisPdus.Bodies.{has_body, reads_body}
use Rattle.pdus.proofs.EsisPdus.Shape.{nine_bare, same_layout, sealing_again, bare_again, sealed_layout, pair_is_zero, pair_is_used, pair_again, pair_of_octets, right_from_test, unused_passes, sealed_passes, HasHeader, length_of_header, octet_of_header, sealed_is}
use Rattle.clnp_base.proofs.ListSteps.{bytes_of_take}

-- ---- what is spelled breaks no rule, and is read again

-- how the octets of a value are laid out
pub record IsLaidOut (head : List ℕ) (v : EsisValue) : Type 0 where
  pub x : ℕ
  pub y : ℕ
  pub layout : head ≡ 0x82 ∷ header_length v ∷ 1 ∷ 0 ∷ type_code v.body ∷ (pair_of v.holding ++ (x ∷ y ∷ esis_spelling.variable_part v))
  pub checksum : has_right_checksum head ≡ true
  pub sealed_is : not (pair_at head 8 == 0) ≡ v.sealed

pub laid_out : (v : EsisValue) → IsLaidOut (esis_spelling.spelling v) v
laid_out v = by_flag v.sealed refl
  where
    by_flag : (b : Bool) → v.sealed ≡ b → IsLaidOut (esis_spelling.spelling v) v
    by_flag true e =
        let head = sealed (unsealed v) in
        let shape = sealed_layout 0x82 (header_length v) 1 0 (type_code v.body) (get_or (pair_of v.holding) 0 0) (get_or (pair_of v.holding) 1 0) (esis_spelling.variable_part v) in
        let is : IsSealed head = sealed_is (unsealed v) (omega arith) in
        let P : Bool → Type 0 = λ b. IsLaidOut (if b then sealed (unsealed v) else unsealed v) v in
        subst P (sym e) (record {
          x = shape.0;
          y = shape.1;
          layout = shape.2;
          checksum = sealed_passes head is;
          sealed_is = pair_is_used head is.octet_8 ∙ sym e;
        })
    by_flag false e =
        let head = unsealed v in
        let P : Bool → Type 0 = λ b. IsLaidOut (if b then sealed (unsealed v) else unsealed v) v in
        subst P (sym e) (record {
          x = 0;
          y = 0;
          layout = refl;
          checksum = unused_passes head refl refl;
          sealed_is = pair_is_zero head refl refl ∙ sym e;
        })

same_value : (holding : ℕ) (sealed : Bool) (body : EsisBody) (options : List Parameter) (v : EsisValue) → holding ≡ v.holding → sealed ≡ v.sealed → body ≡ v.body → options ≡ v.options
    → (let w : EsisValue = record { holding = holding; sealed = sealed; body = body; options = options } in w) ≡ v
same_value holding sealed body options v a b c d = rw (a, b, c, d) refl

-- the octets of a value, read off
pub record IsReadAs (head : List ℕ) (v : EsisValue) : Type 0 where
  pub protocol : octet head 1 ≡ 0x82
  pub size : octet head 2 ≡ length head
  pub long : 9 ≤ length head
  pub short : length head ≤ 254
  pub accepted : IsAccepted head
  pub value : value_of head ≡ v

pub read_as : (v : EsisValue) → IsPdu v → IsReadAs (esis_spelling.spelling v) v
read_as v pdu =
    let head = esis_spelling.spelling v in
    let l : IsLaidOut head v = laid_out v in
    let high = get_or (pair_of v.holding) 0 0 in
    let low = get_or (pair_of v.holding) 1 0 in
    let at_6 : octet head 6 ≡ high = ap (λ (xs : List ℕ). get_or xs 5 0) l.layout in
    let at_7 : octet head 7 ≡ low = ap (λ (xs : List ℕ). get_or xs 6 0) l.layout in
    let size : length head ≡ header_length v = ap length l.layout ∙ omega arith in
    let body = reads_body head v.body (spelled v.options) (ap (λ (xs : List ℕ). get_or xs 4 0) l.layout) (ap (λ (xs : List ℕ). drop 9 xs) l.layout) pdu.addresses in
    let options_are : parameters (options_part head) ≡ v.options = parameters-Forms v.options (options_part head) body.options_are in
    let P : List Parameter → Type 0 = λ os. FitsTimer v.body os in
    let timer : FitsTimer v.body (parameters (spelled v.options)) = subst P (sym (parameters-Forms v.options (spelled v.options) refl)) pdu.timer in
    record {
      protocol = ap (λ (xs : List ℕ). get_or xs 0 0) l.layout;
      size = ap (λ (xs : List ℕ). get_or xs 1 0) l.layout ∙ sym size;
      long = omega arith;
      short = omega (arith, pdu.header_fits);
      accepted = record {
        version = ap (λ (xs : List ℕ). get_or xs 2 0) l.layout;
        reserved = ap (λ (xs : List ℕ). get_or xs 3 0) l.layout;
        type = body.type;
        checksum = l.checksum;
        esh = body.esh;
        ish = body.ish;
        rd = body.rd;
        fill = options_fill (options_place head) (options_part head) v.options body.options_are;
        timer = body.timer timer;
      };
      value =
          same_value (pair_at head 6) (not (pair_at head 8 == 0)) (body_of head) (parameters (options_part head)) v
          (ap (λ k. 256 * k + octet head 7) at_6 ∙ ap (λ k. 256 * high + k) at_7 ∙ pair_again high low v.holding pdu.holding refl)
          l.sealed_is body.body_is options_are;
    }

-- ---- what breaks no rule is spelled by the value that is read

-- a header that breaks no rule
pub record IsHeader (head : List ℕ) : Type 0 where
  pub bytes : IsBytes head
  pub protocol : octet head 1 ≡ 0x82
  pub size : octet head 2 ≡ length head
  pub long : 9 ≤ length head
  pub short : length head ≤ 254
  pub accepted : IsAccepted head

pub variable_part_is : (head : List ℕ) → IsHeader head → variable_part head ≡ esis_spelling.variable_part (value_of head)
variable_part_is head h =
    (has_body head h.bytes h.accepted).split
    ∙ ap (λ (t : List ℕ). body_octets (body_of head) ++ t) (options_again (options_place head) (options_part head) h.accepted.fill)

pub header_length_is : (head : List ℕ) → IsHeader head → header_length (value_of head) ≡ length head
header_length_is head h = omega (arith, ap length (variable_part_is head h), length-drop 9 head, h.long)

pub bare_is : (head : List ℕ) → IsHeader head
    → unsealed (value_of head)
    ≡ get_or head 0 0 ∷ get_or head 1 0 ∷ get_or head 2 0 ∷ get_or head 3 0 ∷ get_or head 4 0 ∷ get_or head 5 0 ∷ get_or head 6 0 ∷ 0 ∷ 0 ∷ drop 9 head
bare_is head h =
    let v = value_of head in
    let pair : pair_of v.holding ≡ get_or head 5 0 ∷ get_or head 6 0 ∷ [] = pair_of_octets (get_or head 5 0) (get_or head 6 0) (h.bytes 5) (h.bytes 6) in
    same_layout 0x82 (header_length v) 1 0 (type_code v.body) (get_or head 0 0) (get_or head 1 0) (get_or head 2 0) (get_or head 3 0) (get_or head 4 0) 0 0
    (pair_of v.holding) (get_or head 5 0 ∷ get_or head 6 0 ∷ []) (esis_spelling.variable_part v) (drop 9 head)
    (sym h.protocol) (header_length_is head h ∙ sym h.size) (sym h.accepted.version) (sym h.accepted.reserved) (sym (has_body head h.bytes h.accepted).type) pair (sym (variable_part_is head h))

pub header_is : (head : List ℕ) → IsHeader head → head ≡ esis_spelling.spelling (value_of head)
header_is head h =
    let bare = nine_bare head h.long ∙ sym (bare_is head h) in
    elim (right_from_test head h.accepted.checksum) [
      | inl unused ↦ rw (pair_is_zero head unused.0 unused.1) (bare_again head (unsealed (value_of head)) bare unused.0 unused.1)
      | inr sealed ↦ rw (pair_is_used head sealed.octet_8) (sealing_again head (unsealed (value_of head)) h.long (h.bytes 7) (h.bytes 8) bare sealed)
    ]

pub spelled_as : (head : List ℕ) → IsHeader head → Spells (value_of head) head
spelled_as head h =
    let body = has_body head h.bytes h.accepted in
    record {
      pdu = record {
        holding = omega (arith, h.bytes 5, h.bytes 6);
        addresses = body.addresses;
        timer = body.timer;
        header_fits = omega (arith, header_length_is head h, h.short);
      };
      octets_are = header_is head h;
    }

-- ---- frames

pub header_stands : (frame : List ℕ) → IsBytes frame → octet frame 1 ≡ 0x82 → refusal frame ≡ None → IsHeader (header_of frame)
unfolding refusal
header_stands frame bytes protocol h =
    let parts = option_or-parts _ _ h in
    let extent = has_header frame parts.0 in
    let size = length_of_header frame extent in
    record {
      bytes = bytes_of_take frame (header_size frame) bytes;
      protocol = octet_of_header frame 0 extent (omega arith) ∙ protocol;
      size = octet_of_header frame 1 extent (omega arith) ∙ sym size;
      long = omega (arith, extent.size);
      short = omega (arith, extent.not_reserved, bytes 1);
      accepted = accepted (header_of frame) parts.1;
    }

-- a frame that breaks no rule begins with the PDU that is read off
pub front : (frame : List ℕ) → IsBytes frame → octet frame 1 ≡ 0x82 → refusal frame ≡ None → BeginsWith frame (value_of (header_of frame)) (rest_of frame)
front frame bytes protocol h = record {
  octets = header_of frame;
  spells = spelled_as (header_of frame) (header_stands frame bytes protocol h);
  split = sym (take-append-drop (header_size frame) frame);
}

-- what stands at the front of a frame is read off
pub record IsFront (frame : List ℕ) (v : EsisValue) (rest : List ℕ) : Type 0 where
  pub protocol : octet frame 1 ≡ 0x82
  pub unbroken : refusal frame ≡ None
  pub value : v ≡ value_of (header_of frame)
  pub rest_is : rest ≡ rest_of frame

pub is_front : (frame : List ℕ) (v : EsisValue) (rest : List ℕ) → BeginsWith frame v rest → IsFront frame v rest
unfolding refusal
is_front frame v rest h =
    let head = esis_spelling.spelling v in
    let read = read_as v h.spells.pdu in
    let parts : frame ≡ head ++ rest = h.split ∙ ap (λ (xs : List ℕ). xs ++ rest) h.spells.octets_are in
    let front_octet : (i : ℕ) → i < 9 → get_or frame i 0 ≡ get_or head i 0 =
    λ i low. ap (λ (xs : List ℕ). get_or xs i 0) parts ∙ get_or_append_left head rest 0 i (omega (arith, read.long)) in
    let size : header_size frame ≡ length head = front_octet 1 (omega arith) ∙ read.size in
    let head_is : header_of frame ≡ head = ap (λ (xs : List ℕ). take (header_size frame) xs) parts ∙ take_at head rest (header_size frame) (sym size) in
    let extent : HasHeader frame = record {
      long = omega (arith, read.long, ap length parts, length-append head rest);
      size = omega (arith, read.long);
      not_reserved = λ e. omega (arith, read.short);
      within = omega (arith, ap length parts, length-append head rest);
    } in
    record {
      protocol = front_octet 0 (omega arith) ∙ read.protocol;
      unbroken = option_or-none _ _ _ (header_here frame extent) (ap (λ (xs : List ℕ). header_refusal xs) head_is ∙ accepting head read.accepted);
      value = sym (ap (λ (xs : List ℕ). value_of xs) head_is ∙ read.value);
      rest_is = sym (ap (λ (xs : List ℕ). drop (header_size frame) xs) parts ∙ drop_at head rest (header_size frame) (sym size));
    }

-- of a frame at most one prefix spells a value, and it spells one value only
pub one_front : (frame : List ℕ) (v w : EsisValue) (rest others : List ℕ) → BeginsWith frame v rest → BeginsWith frame w others → (v ≡ w) × (rest ≡ others)
one_front frame v w rest others h k =
    let a = is_front frame v rest h in
    let b = is_front frame w others k in
    (a.value ∙ sym b.value, a.rest_is ∙ sym b.rest_is)

-- a frame breaks no rule exactly where a prefix of it spells a value
pub unbroken_where_spelled : (frame : List ℕ) → IsBytes frame → octet frame 1 ≡ 0x82
    → (refusal frame ≡ None) ↔ ((v : EsisValue) × (rest : List ℕ) × BeginsWith frame v rest)
unbroken_where_spelled frame bytes protocol =
    ((λ h. (value_of (header_of frame), rest_of frame, front frame bytes protocol h)), (λ f. (is_front frame f.0 f.1 f.2).unbroken))

-- a value and a rest that are read off a frame stand at its front
pub read_front : (frame : List ℕ) (v : EsisValue) (rest : List ℕ) → IsBytes frame → octet frame 1 ≡ 0x82 → refusal frame ≡ None
    → v ≡ value_of (header_of frame) → rest ≡ rest_of frame → BeginsWith frame v rest
read_front frame v rest bytes protocol h value rest_is =
    let P : EsisValue → Type 0 = λ x. BeginsWith frame x rest in
    let Q : List ℕ → Type 0 = λ xs. BeginsWith frame (value_of (header_of frame)) xs in
    subst P (sym value) (subst Q (sym rest_is) (front frame bytes protocol h))

-- of a frame that is refused no prefix spells a value
pub nothing_spelled : (frame : List ℕ) (r : EsisRefusal) → refusal frame ≡ Some r → (v : EsisValue) (rest : List ℕ) → BeginsWith frame v rest → ⊥
nothing_spelled frame r h v rest begins = let none = (is_front frame v rest begins).unbroken in cc

pub other_protocol : (frame : List ℕ) → (octet frame 1 == 0x82) ≡ false → (v : EsisValue) (rest : List ℕ) → BeginsWith frame v rest → ⊥
other_protocol frame h v rest begins = eqb-false (octet frame 1) 0x82 h (is_front frame v rest begins).protocol
