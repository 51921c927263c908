-- What is claimed of the pieces of one cutting.
use Rattle.std.proofs.Common.{◌≡◌, ◌∙◌, refl, sym, ap, subst, ℕ, zero, suc, ◌+◌, ◌-◌, ◌*◌, ◌/◌, ◌%◌, ◌<◌, ◌≤◌, min, Bool, true, false, Option, None, Some, List, [], ◌∷◌, map, length, take, drop, arith}
use Rattle.std.specs.Prelude.{if◌then◌else◌, nat_le, nat_lt, option_map, IfSome}
use Rattle.std.specs.List.{AllByRecursion, range_with_len}
use Rattle.std.proofs.lemmas.Bool.{leb-true, lt-ltb}
use Rattle.std.proofs.lemmas.List.{length-take}
use Rattle.pdus.specs.PduHeader.Value.{SegmentationPart, PduValue}
use Rattle.pdus.specs.PduHeader.Spelling.{header_length, segment_length}
use Rattle.pdus.specs.PduHeader.Grammar.{IsPdu}
use Rattle.pdus.specs.MadePdus.Range.{Range, Partition, Tiles}
use Rattle.pdus.specs.MadePdus.Cut.{Piece, cut, data_room, nth_range, ranges, segment, segments, uncut, whole_range}
use Rattle.pdus.specs.MadePdus.Pieces.{FillUp, Fits, KeepsUnit, marks, ranges_of}
use Rattle.clnp_base.proofs.Lists.{AllByRecursion-map_any, AllByRecursion-mapped, length_part}
use Rattle.pdus.proofs.MadePdus.Quotients.{Ends, ends_all, ends_begins, ends_full, ends_next, ranges_tile, room_is_eights, room_is_full, room_fits}
use Rattle.pdus.proofs.MadePdus.Segments.{header_length-segment, segment_is_pdu, unit_fits}
use Rattle.pdus.proofs.MadePdus.Tiles.{tiles_partition, tiles_within}
use Rattle.clnp_base.proofs.Choices.{flag_is}

pub cut_gives : (v : PduValue) (mtu : ℕ) (Q : List Piece → Type 0) → (segment_length v ≤ mtu → Q (uncut v ∷ [])) → ((part : SegmentationPart) → v.segmentation ≡ Some part → Q (segments v mtu part)) → IfSome (cut v mtu) Q
cut_gives v mtu Q one many = go (nat_le (segment_length v) mtu) v.segmentation refl refl
  where
    go : (b : Bool) (o : Option SegmentationPart) → nat_le (segment_length v) mtu ≡ b → v.segmentation ≡ o → IfSome (if b then Some (uncut v ∷ []) else option_map (segments v mtu) o) Q
    go true o e f = one (leb-true (segment_length v) mtu e)
    go false None e f = tt
    go false (Some part) e f = many part f

abbrev pub piece_of : PduValue → SegmentationPart → Range → Piece
piece_of v part range = record { value = segment v part range; range = range }

pub ranges_of_pieces : (v : PduValue) (part : SegmentationPart) (ranges : List Range) → ranges_of (map (piece_of v part) ranges) ≡ ranges
ranges_of_pieces v part [] = refl
ranges_of_pieces v part (range ∷ others) = ap (λ t. range ∷ t) (ranges_of_pieces v part others)

pub room_for_data : (v : PduValue) (mtu : ℕ) → IsPdu v → 512 ≤ mtu → (8 ≤ data_room (header_length v) mtu) × (header_length v + data_room (header_length v) mtu ≤ mtu)
room_for_data v mtu h m = room_fits (header_length v) mtu h.header_fits m

pub segments_tile : (v : PduValue) (mtu : ℕ) → IsPdu v → 512 ≤ mtu → Tiles 0 (ranges (data_room (header_length v) mtu) (length v.body)) (length v.body)
segments_tile v mtu h m =
    let room = (room_for_data v mtu h m).0 in
    ranges_tile (data_room (header_length v) mtu) (length v.body) (omega arith)

pub pieces_partition : (v : PduValue) (mtu : ℕ) → IsPdu v → 512 ≤ mtu → IfSome (cut v mtu) (λ pieces. Partition (ranges_of pieces) (whole_range v))
pieces_partition v mtu h m =
    cut_gives v mtu (λ pieces. Partition (ranges_of pieces) (whole_range v))
    (λ fits place. refl)
    (λ part has. tiles_partition (ranges_of (segments v mtu part)) (length v.body)
    (subst (λ t. Tiles 0 t (length v.body)) (sym (ranges_of_pieces v part (ranges (data_room (header_length v) mtu) (length v.body)))) (segments_tile v mtu h m)))

pub pieces_are_pdus : (v : PduValue) (mtu : ℕ) → IsPdu v → 512 ≤ mtu → IfSome (cut v mtu) (AllByRecursion (λ piece. IsPdu piece.value))
pieces_are_pdus v mtu h m =
    cut_gives v mtu (AllByRecursion (λ piece. IsPdu piece.value))
    (λ fits. (h, tt))
    (λ part has. AllByRecursion-mapped (λ range. range.from + range.len ≤ length v.body) (λ piece. IsPdu piece.value) (piece_of v part)
    (ranges (data_room (header_length v) mtu) (length v.body)) (λ range within. segment_is_pdu v part range has h within)
    (tiles_within (ranges (data_room (header_length v) mtu) (length v.body)) 0 (length v.body) (segments_tile v mtu h m)))

part_fits : (xs : List ℕ) (a room rest before most : ℕ) → before + room ≤ most → before + length (take (min room rest) (drop a xs)) ≤ most
part_fits xs a room rest before most h = let e = length-take (min room rest) (drop a xs) in omega arith

numbered_fits : (v : PduValue) (mtu : ℕ) (part : SegmentationPart) (number : ℕ) → v.segmentation ≡ Some part → IsPdu v → 512 ≤ mtu → Fits mtu (piece_of v part (nth_range (data_room (header_length v) mtu) (length v.body) number))
numbered_fits v mtu part number has h m =
    let room : ℕ = data_room (header_length v) mtu in
    let same = header_length-segment v part (nth_range room (length v.body) number) has in
    rw same (part_fits v.body (number * room) room (length v.body - number * room) (header_length v) mtu (room_for_data v mtu h m).1)

pub pieces_fit : (v : PduValue) (mtu : ℕ) → IsPdu v → 512 ≤ mtu → IfSome (cut v mtu) (AllByRecursion (Fits mtu))
pieces_fit v mtu h m =
    let room : ℕ = data_room (header_length v) mtu in
    cut_gives v mtu (AllByRecursion (Fits mtu))
    (λ fits. (fits, tt))
    (λ part has. AllByRecursion-mapped (λ range. Fits mtu (piece_of v part range)) (Fits mtu) (piece_of v part) (ranges room (length v.body)) (λ range fits. fits)
    (AllByRecursion-map_any (λ range. Fits mtu (piece_of v part range)) (nth_range room (length v.body)) (range_with_len 0 ((length v.body + room - 1) / room))
    (λ number. numbered_fits v mtu part number has h m)))

pub pieces_keep_unit : (v : PduValue) (mtu : ℕ) → IfSome (cut v mtu) (AllByRecursion (KeepsUnit v))
pieces_keep_unit v mtu =
    cut_gives v mtu (AllByRecursion (KeepsUnit v))
    (λ fits. (refl, tt))
    (λ part has. AllByRecursion-map_any (KeepsUnit v) (piece_of v part) (ranges (data_room (header_length v) mtu) (length v.body))
    (λ range. rw has refl))

-- ---- all but the last are full, and more follows them

-- a segment with so many octets of data has that many behind its header
long_segment : (v : PduValue) (part : SegmentationPart) (range : Range) (mtu room : ℕ) → v.segmentation ≡ Some part → range.from + range.len ≤ length v.body
    → range.len ≡ room → mtu < header_length v + room + 8 → mtu < segment_length (segment v part range) + 8
long_segment v part range mtu room has within full most =
    omega (arith, header_length-segment v part range has, length_part v.body range.from range.len within)

fill_from : (v : PduValue) (part : SegmentationPart) (mtu room first count : ℕ) → v.segmentation ≡ Some part → mtu < header_length v + room + 8 → room % 8 ≡ 0 → 8 ≤ room → Ends room (length v.body) first count
    → FillUp mtu (map (piece_of v part) (map (nth_range room (length v.body)) (range_with_len first count)))
fill_from v part mtu room first zero has most eights some h = tt
fill_from v part mtu room first (suc zero) has most eights some h = tt
fill_from v part mtu room first (suc (suc count)) has most eights some h =
    let full = ends_full room (length v.body) first count h in
    let all : min room (length v.body - first * room) ≡ room = omega arith in
    let range : Range = nth_range room (length v.body) first in
    (rw all eights, rw all some, long_segment v part range mtu room has (omega arith) all most, fill_from v part mtu room (first + 1) (suc count) has most eights some (ends_next room (length v.body) first (suc count) h))

pub pieces_fill_up : (v : PduValue) (mtu : ℕ) → IsPdu v → 512 ≤ mtu → IfSome (cut v mtu) (FillUp mtu)
pieces_fill_up v mtu h m =
    let room : ℕ = data_room (header_length v) mtu in
    let fits = (room_for_data v mtu h m).0 in
    cut_gives v mtu (FillUp mtu)
    (λ fits. tt)
    (λ part has. fill_from v part mtu room 0 ((length v.body + room - 1) / room) has (room_is_full (header_length v) mtu) (room_is_eights (header_length v) mtu) fits
    (ends_all room (length v.body) (omega arith)))

marks_from : (v : PduValue) (part : SegmentationPart) (room len first count : ℕ) → part.offset + len ≤ part.total - header_length v → v.more ≡ nat_lt (part.offset + len) (part.total - header_length v) → Ends room len first count
    → map (λ piece. piece.value.more) (map (piece_of v part) (map (nth_range room len) (range_with_len first count))) ≡ marks v.more (map (piece_of v part) (map (nth_range room len) (range_with_len first count)))
marks_from v part room len first zero within more h = refl
marks_from v part room len first (suc zero) within more h =
    let begins = ends_begins room len first 0 h in
    let reaches = h.reaches in
    let end : part.offset + first * room + min room (len - first * room) ≡ part.offset + len = omega arith in
    ap (λ t. nat_lt t (part.total - header_length v) ∷ []) end ∙ ap (λ t. t ∷ []) (sym more)
marks_from v part room len first (suc (suc count)) within more h =
    let full = ends_full room len first count h in
    let before : part.offset + first * room + min room (len - first * room) < part.total - header_length v = omega arith in
    ap (λ t. t ∷ map (λ piece. piece.value.more) (map (piece_of v part) (map (nth_range room len) (range_with_len (first + 1) (suc count)))))
    (lt-ltb (part.offset + first * room + min room (len - first * room)) (part.total - header_length v) before)
    ∙ ap (λ t. true ∷ t) (marks_from v part room len (first + 1) (suc count) within more (ends_next room len first (suc count) h))

pub pieces_say_more : (v : PduValue) (mtu : ℕ) → IsPdu v → 512 ≤ mtu → IfSome (cut v mtu) (λ pieces. map (λ piece. piece.value.more) pieces ≡ marks v.more pieces)
pieces_say_more v mtu h m =
    let room : ℕ = data_room (header_length v) mtu in
    let some = (room_for_data v mtu h m).0 in
    cut_gives v mtu (λ pieces. map (λ piece. piece.value.more) pieces ≡ marks v.more pieces)
    (λ fits. refl)
    (λ part has.
    let fits = unit_fits v part has h in
    marks_from v part room (length v.body) 0 ((length v.body + room - 1) / room) fits.range.within
    (flag_is v.more (part.offset + length v.body) (part.total - header_length v) fits.range.within fits.range.ends)
    (ends_all room (length v.body) (omega arith)))
