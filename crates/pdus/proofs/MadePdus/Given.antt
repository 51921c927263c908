-- The pieces that the iterator has left are those that the definition of cutting gives.
use Rattle.std.proofs.Common.{◌≡◌, ◌≢◌, ◌∙◌, refl, sym, ap, subst, ℕ, suc, zero, ◌+◌, ◌-◌, ◌*◌, ◌/◌, ◌^◌, ◌<◌, ◌≤◌, true, false, Option, None, Some, List, [], ◌∷◌, length, map, arith, min, inl, inr}
use Rattle.std.specs.Prelude.{nat_le, ◌⊎◌, option_map}
use Rattle.std.specs.List.{range_with_len, AllByRecursion}
use Rattle.std.specs.Int.{div_ceil}
use Rattle.std.proofs.lemmas.Bool.{cases_lt}
use Rattle.std.proofs.lemmas.Bool.Decides.{nat_tests}
use Rattle.std.proofs.lemmas.Grind.{div_ceil_times}
use Rattle.std.proofs.Math.Nat.{le-div_iff_mul-le, mul-le-mul_right}
use Rattle.pdus.specs.declared.pdu_header.pdu.SegPart.{SegPart}
use Rattle.pdus.specs.PduHeader.Value.{PduValue}
use Rattle.pdus.specs.PduHeader.View.{part_value}
use Rattle.pdus.specs.PduHeader.Spelling.{header, header_length, segment_length}
use Rattle.pdus.specs.PduHeader.Headers.{SpellsHeader}
use Rattle.pdus.specs.declared.made_pdus.cuts.Cut.{Cut}
use Rattle.pdus.specs.declared.made_pdus.cuts.Cuts.TheInside.{Inside}
use Rattle.pdus.specs.MadePdus.Range.{Range}
use Rattle.pdus.specs.MadePdus.Cut.{Piece, cut, data_room, given, nth_range, ranges, segment, segments, uncut}
use Rattle.pdus.specs.MadePdus.Left.{IsCutOf, IsCutting, IsPartOf, cuts_left, nth_cut, of_zeros, piece_header}
use Rattle.pdus.proofs.MadePdus.Cutting.{Tells, length-zeros, part_of_zeros, segment_header_is, zeros_spelled}
use Rattle.clnp_base.proofs.Lists.{length_part}
use Rattle.pdus.proofs.MadePdus.Segments.{segment_is_pdu}

-- ---- numbers

pub ceil_begins : (len room number : ℕ) → 0 < room → number < div_ceil len room → number * room ≤ len
ceil_begins len room number some h =
    let more : number + 1 ≤ div_ceil len room = omega arith in
    omega (arith, mul-le-mul_right room more, (div_ceil_times len room some).1)

pub ceil_is : (len room : ℕ) → 0 < room → div_ceil len room ≡ (len + room - 1) / room
ceil_is len room some = by_order (cases_lt (div_ceil len room) ((len + room - 1) / room))
  where
    low : div_ceil len room ≤ (len + room - 1) / room
    low = (le-div_iff_mul-le some).1 (omega (arith, (div_ceil_times len room some).1))

    by_order : (div_ceil len room < (len + room - 1) / room) ⊎ ((len + room - 1) / room ≤ div_ceil len room) → div_ceil len room ≡ (len + room - 1) / room
    by_order (inl h) =
        let more : div_ceil len room + 1 ≤ (len + room - 1) / room = omega arith in
        absurd (omega (arith, (le-div_iff_mul-le {x = div_ceil len room + 1} {y = len + room - 1} some).0 more, (div_ceil_times len room some).0))
    by_order (inr h) = omega (arith, low)

-- data with more octets than a piece has room for are in more than one piece
ceil_several : (len room : ℕ) → 0 < room → room < len → 1 < div_ceil len room
ceil_several len room some more = by_order (cases_lt 1 (div_ceil len room))
  where
    by_order : (1 < div_ceil len room) ⊎ (div_ceil len room ≤ 1) → 1 < div_ceil len room
    by_order (inl h) = h
    by_order (inr h) =
        let few : div_ceil len room * room ≤ 1 * room = mul-le-mul_right room h in
        absurd (omega (arith, few, (div_ceil_times len room some).0))

-- ---- what the iterator holds at first

one_begins : (room number : ℕ) → number < 0 + 1 → number * room ≤ room
one_begins room zero h = omega arith
one_begins room (suc number) h = absurd (omega arith)

pub whole_cutting : Tells → (v : PduValue) (octets : List ℕ) (len : ℕ) → SpellsHeader v octets → length v.body ≡ len
    → IsCutting (record { head = octets; part = None; body_len = len; room = len; number = 0; left = 1 })
whole_cutting tells v octets len h e = record {
  spells = zeros_spelled tells v octets len h e;
  part = tt;
  begins = one_begins len;
  few = omega arith;
  single = λ none. (refl, refl);
  several = λ part has. absurd (cc);
}

pub parts_cutting : Tells → (v : PduValue) (octets : List ℕ) (len room left : ℕ) (part : SegPart) → SpellsHeader v octets → length v.body ≡ len
    → Some (part_value part) ≡ v.segmentation → 0 < room → room < len → left ≡ div_ceil len room → left < 2 ^ 64
    → IsCutting (record { head = octets; part = Some part; body_len = len; room = room; number = 0; left = left })
parts_cutting tells v octets len room left part h e has some more count few = record {
  spells = zeros_spelled tells v octets len h e;
  part = part_of_zeros tells v octets len h ∙ sym has;
  begins = λ number below. ceil_begins len room number some (omega (arith, count));
  few = omega arith;
  single = λ none. absurd (cc);
  several = λ other has. (some, omega (arith, count, ceil_several len room some more));
}

-- ---- the pieces at first

same_cut : (head other : List ℕ) (from from_2 len len_2 : ℕ) → head ≡ other → from ≡ from_2 → len ≡ len_2
    → (let a : Cut = record { head = head; from = from; len = len } in a) ≡ record { head = other; from = from_2; len = len_2 }
same_cut head other from from_2 len len_2 a b c = rw (a, b, c) refl

pub piece_is : Tells → (v : PduValue) (octets : List ℕ) (len : ℕ) (part : SegPart) (range : Range) → SpellsHeader v octets → length v.body ≡ len
    → piece_header octets len (Some part) range ≡ header (segment v (part_value part) range)
unfolding piece_header
piece_is tells v octets len part range h e = sym (segment_header_is tells v octets len (part_value part) range h e)

pub whole_is : (v : PduValue) (octets : List ℕ) (len : ℕ) → SpellsHeader v octets → length v.body ≡ len
    → cuts_left (record { head = octets; part = None; body_len = len; room = len; number = 0; left = 1 }) ≡ map given (uncut v ∷ [])
unfolding piece_header
whole_is v octets len h e =
    ap (λ (x : Cut). x ∷ []) (same_cut octets (header v) (0 * len) 0 (min len (len - 0 * len)) (length v.body) h.octets_are (omega arith) (omega (arith, e)))

each_given : Tells → (v : PduValue) (part : SegPart) (s : Inside) → SpellsHeader v s.head → length v.body ≡ s.body_len → s.part ≡ Some part → (numbers : List ℕ)
    → map (nth_cut s) numbers ≡ map given (map (λ range. record { value = segment v (part_value part) range; range = range }) (map (nth_range s.room s.body_len) numbers))
each_given tells v part s h e p [] = refl
each_given tells v part s h e p (number ∷ numbers) =
    let range : Range = nth_range s.room s.body_len number in
    let head : piece_header s.head s.body_len s.part range ≡ header (segment v (part_value part) range) =
    ap (λ x. piece_header s.head s.body_len x range) p ∙ piece_is tells v s.head s.body_len part range h e in
    let others = each_given tells v part s h e p numbers in
    ap (λ (x : Cut). x ∷ map (nth_cut s) numbers) (same_cut _ _ range.from range.from range.len range.len head refl refl)
    ∙ ap (λ (xs : List Cut). given (record { value = segment v (part_value part) range; range = range }) ∷ xs) others

pub segments_are : Tells → (v : PduValue) (octets : List ℕ) (len room left mtu : ℕ) (part : SegPart) → SpellsHeader v octets → length v.body ≡ len
    → 0 < room → room ≡ data_room (header_length v) mtu → left ≡ div_ceil len room
    → cuts_left (record { head = octets; part = Some part; body_len = len; room = room; number = 0; left = left }) ≡ map given (segments v mtu (part_value part))
segments_are tells v octets len room left mtu part h e some at count =
    let s : Inside = record { head = octets; part = Some part; body_len = len; room = room; number = 0; left = left } in
    let pieces : List Range → List Piece = λ rs. map (λ range. record { value = segment v (part_value part) range; range = range }) rs in
    ap (λ n. map (nth_cut s) (range_with_len 0 n)) (count ∙ ceil_is len room some)
    ∙ each_given tells v part s h e refl (range_with_len 0 ((len + room - 1) / room))
    ∙ ap (λ r. map given (pieces (ranges r len))) at
    ∙ ap (λ n. map given (pieces (ranges (data_room (header_length v) mtu) n))) (sym e)

-- ---- the definition, by cases

pub cut_fits : (v : PduValue) (mtu : ℕ) → segment_length v ≤ mtu → cut v mtu ≡ Some (uncut v ∷ [])
cut_fits v mtu h =
    let test : nat_le (segment_length v) mtu ≡ true = grind (arith, nat_tests) in
    rw test refl

pub cut_refused : (v : PduValue) (mtu : ℕ) → mtu < segment_length v → None ≡ v.segmentation → cut v mtu ≡ None
cut_refused v mtu h e =
    let test : nat_le (segment_length v) mtu ≡ false = grind (arith, nat_tests) in
    rw (test, ← e) refl

pub cut_parts : (v : PduValue) (mtu : ℕ) (part : SegPart) → mtu < segment_length v → Some (part_value part) ≡ v.segmentation → cut v mtu ≡ Some (segments v mtu (part_value part))
cut_parts v mtu part h e =
    let test : nat_le (segment_length v) mtu ≡ false = grind (arith, nat_tests) in
    rw test (ap (option_map (segments v mtu)) (sym e))

-- ---- a piece

-- the range of a piece that is left lies in the data
pub range_within : (s : Inside) (number : ℕ) → IsCutting s → number < s.number + s.left → number * s.room + min s.room (s.body_len - number * s.room) ≤ s.body_len
range_within s number h below = omega (arith, h.begins number below)

pub piece_spelled : (s : Inside) (part : Option SegPart) (range : Range) → SpellsHeader (of_zeros s.head s.body_len) s.head → IsPartOf (of_zeros s.head s.body_len) part → range.from + range.len ≤ s.body_len
    → (part ≡ None → range.len ≡ s.body_len)
    → (v : PduValue) × SpellsHeader v (piece_header s.head s.body_len part range) × (length v.body ≡ range.len)
unfolding piece_header
piece_spelled s None range h is within whole =
    (of_zeros s.head s.body_len, h, length-zeros s.head s.body_len ∙ sym (whole refl))
piece_spelled s (Some part) range h is within whole =
    let w : PduValue = of_zeros s.head s.body_len in
    let inside : range.from + range.len ≤ length w.body = omega (arith, length-zeros s.head s.body_len) in
    (segment w (part_value part) range, record { pdu = segment_is_pdu w (part_value part) range is h.pdu inside; octets_are = refl }, length_part w.body range.from range.len inside)

pub all_cut : (s : Inside) → IsCutting s → (s.part ≡ None → (number : ℕ) → number < s.number + s.left → min s.room (s.body_len - number * s.room) ≡ s.body_len)
    → (number left : ℕ) → number + left ≤ s.number + s.left → AllByRecursion (IsCutOf s.body_len) (map (nth_cut s) (range_with_len number left))
all_cut s h whole number zero fits = tt
all_cut s h whole number (suc left) fits =
    let within = range_within s number h (omega arith) in (
      record {
        within = within;
        spells = piece_spelled s s.part (nth_range s.room s.body_len number) h.spells h.part within (λ e. whole e number (omega arith));
      },
      all_cut s h whole (number + 1) left (omega arith),
    )

one_more : (f : ℕ → Cut) (number left : ℕ) → left ≢ 0 → map f (range_with_len number left) ≡ f number ∷ map f (range_with_len (number + 1) (left - 1))
one_more f number zero some = absurd (some refl)
one_more f number (suc left) some = let e : suc left - 1 ≡ left = omega arith in rw e refl

pub next_is : (s : Inside) (head : List ℕ) (from len : ℕ) → s.left ≢ 0 → from ≡ s.number * s.room → len ≡ min s.room (s.body_len - from)
    → head ≡ piece_header s.head s.body_len s.part (record { from = from; len = len })
    → cuts_left s ≡ (let x : Cut = record { head = head; from = from; len = len } in x) ∷ cuts_left (record s { number = s.number + 1; left = s.left - 1 })
next_is s head from len some at size e =
    one_more (nth_cut s) s.number s.left some
    ∙ ap (λ (x : Cut). x ∷ cuts_left (record s { number = s.number + 1; left = s.left - 1 })) (rw (e, size, at) refl)

pub part_here : (v : PduValue) (held : Option SegPart) (part : SegPart) → held ≡ Some part → IsPartOf v held → v.segmentation ≡ Some (part_value part)
part_here v held part e h = subst (IsPartOf v) e h

pub none_header : (head : List ℕ) (len : ℕ) (held : Option SegPart) (range : Range) → held ≡ None → head ≡ piece_header head len held range
unfolding piece_header
none_header head len held range e = rw e refl

pub some_header : (head : List ℕ) (len : ℕ) (held : Option SegPart) (part : SegPart) (range : Range) → held ≡ Some part
    → header (segment (of_zeros head len) (part_value part) range) ≡ piece_header head len held range
unfolding piece_header
some_header head len held part range e = rw e refl

pub whole_size : (len number : ℕ) → number < 0 + 1 → min len (len - number * len) ≡ len
whole_size len zero h = omega arith
whole_size len (suc number) h = absurd (omega arith)

-- ---- a single piece

-- the PDU uncut
pub single_is : (s : Inside) → IsCutting s → s.part ≡ None → s.left ≡ 1
    → cuts_left s ≡ (let x : Cut = record { head = s.head; from = 0; len = s.body_len } in x) ∷ []
unfolding piece_header
single_is s h none one =
    let first : s.number ≡ 0 = omega (arith, (h.single none).0) in
    ap (λ k. map (nth_cut s) (range_with_len s.number k)) one
    ∙ ap (λ (x : Cut). x ∷ [])
    (same_cut (piece_header s.head s.body_len s.part (nth_range s.room s.body_len s.number)) s.head (s.number * s.room) 0
    (min s.room (s.body_len - s.number * s.room)) s.body_len (rw none refl) (rw first (omega arith)) (rw (first, (h.single none).1) (omega arith)))

single_piece : (f : ℕ → Cut) (number left : ℕ) (x : Cut) → map f (range_with_len number left) ≡ x ∷ [] → (left ≡ 1) × (f number ≡ x)
single_piece f number zero x e = absurd (cc)
single_piece f number (suc zero) x e = (refl, cc)
single_piece f number (suc (suc left)) x e = absurd (cc)

-- a PDU that is cut has no single piece that begins where its data do
pub not_single : (s : Inside) → IsCutting s → (s.part ≡ None → s.left ≢ 1) → (head : List ℕ) (len : ℕ)
    → cuts_left s ≢ (let x : Cut = record { head = head; from = 0; len = len } in x) ∷ []
not_single s h cut head len e = by_part s.part refl
  where
    one : (s.left ≡ 1) × (nth_cut s s.number ≡ (let x : Cut = record { head = head; from = 0; len = len } in x))
    one = single_piece (nth_cut s) s.number s.left _ e

    by_part : (part : Option SegPart) → s.part ≡ part → ⊥
    by_part None none = cut none one.0
    by_part (Some part) has =
        let from : s.number * s.room ≡ 0 = ap (λ (x : Cut). x.from) one.1 in
        let several = h.several part has in
        let least : 1 * s.room ≤ s.number * s.room = mul-le-mul_right s.room (omega (arith, several.1, one.0)) in
        omega (arith, several.0, from, least)
