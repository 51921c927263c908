-- Pieces cut again, for one MTU after another.
use Rattle.std.proofs.Common.{◌≡◌, ◌∙◌, refl, sym, ap, subst, ℕ, ◌+◌, ◌≤◌, Option, None, Some, List, [], ◌∷◌, map, length, arith}
use Rattle.std.specs.Prelude.{option_map, IfSome}
use Rattle.std.specs.List.{AllByRecursion}
use Rattle.std.proofs.lemmas.List.{map-append}
use Rattle.std.proofs.lemmas.Option.{IfSome_then}
use Rattle.pdus.specs.PduHeader.Value.{SegmentationPart, PduValue}
use Rattle.pdus.specs.PduHeader.Spelling.{header_length}
use Rattle.pdus.specs.PduHeader.Grammar.{IsPdu}
use Rattle.pdus.specs.PduHeader.Headers.{at_offset}
use Rattle.pdus.specs.MadePdus.Range.{Range, Partition, Tiles}
use Rattle.pdus.specs.MadePdus.Cut.{Piece, both, cut, cut_each, cut_through, data_room, ranges, segment, uncut, whole_range, within}
use Rattle.pdus.specs.MadePdus.Pieces.{AreMtus, IsSegmentOf, ranges_of, segment_at}
use Rattle.pdus.proofs.MadePdus.Claims.{cut_gives, piece_of, segments_tile}
use Rattle.clnp_base.proofs.Lists.{AllByRecursion-append, AllByRecursion-implies, AllByRecursion-mapped, length_part}
use Rattle.pdus.proofs.MadePdus.Segments.{segment_is_pdu, segment_of_segment, whole_is_segment}
use Rattle.pdus.proofs.MadePdus.Tiles.{tiles_append, tiles_at, tiles_partition, tiles_within}

-- the piece is a PDU, and the segment that its range is of the data of another
pub record IsPieceOf (v : PduValue) (piece : Piece) : Type 0 where
  pub pdu : IsPdu piece.value
  pub value : IsSegmentOf v piece
  pub len : length piece.value.body ≡ piece.range.len
  pub inside : piece.range.from + piece.range.len ≤ length v.body

-- the pieces are such ones, and their ranges stand one behind another
pub record ArePiecesOf (v : PduValue) (start end : ℕ) (pieces : List Piece) : Type 0 where
  pub each : AllByRecursion (IsPieceOf v) pieces
  pub tile : Tiles start (ranges_of pieces) end

-- ---- a PDU is its own piece

whole_at : (v : PduValue) (o : Option SegmentationPart) → v.segmentation ≡ o → IsPdu v → v ≡ segment_at v o (whole_range v)
whole_at v None has h = refl
whole_at v (Some part) has h = whole_is_segment v part has h

pub uncut_is_piece : (v : PduValue) → IsPdu v → IsPieceOf v (uncut v)
uncut_is_piece v h = record { pdu = h; value = whole_at v v.segmentation refl h; len = refl; inside = omega arith }

-- ---- a piece of a piece

segment_within : (v : PduValue) (o : Option SegmentationPart) → v.segmentation ≡ o → (w : PduValue) (part : SegmentationPart) (outer inner : Range)
    → w ≡ segment_at v o outer → w.segmentation ≡ Some part → inner.from + inner.len ≤ outer.len
    → segment w part inner ≡ segment_at v o (record { from = outer.from + inner.from; len = inner.len })
segment_within v None e w part outer inner is has within = let none : w.segmentation ≡ None = ap (λ t. t.segmentation) is ∙ e in cc
segment_within v (Some first) e w part outer inner is has within =
    let own : at_offset (first.offset + outer.from) first ≡ part = let s = ap (λ t. t.segmentation) is in cc in
    ap (λ t. segment w t inner) (sym own) ∙ ap (λ t. segment t (at_offset (first.offset + outer.from) first) inner) is ∙ segment_of_segment v first outer inner e within

within_is_piece : (v : PduValue) (piece : Piece) (part : SegmentationPart) (inner : Range) → IsPieceOf v piece → piece.value.segmentation ≡ Some part
    → inner.from + inner.len ≤ length piece.value.body → IsPieceOf v (within piece.range (piece_of piece.value part inner))
within_is_piece v piece part inner h has inside =
    let len = h.len in
    let outer = h.inside in
    record {
      pdu = segment_is_pdu piece.value part inner has h.pdu inside;
      value = segment_within v v.segmentation refl piece.value part piece.range inner h.value has (omega arith);
      len = length_part piece.value.body inner.from inner.len inside;
      inside = omega arith;
    }

uncut_within : (v : PduValue) (piece : Piece) → IsPieceOf v piece → within piece.range (uncut piece.value) ≡ piece
uncut_within v piece h =
    let from : piece.range.from + 0 ≡ piece.range.from = omega arith in
    ap (λ t. record { value = piece.value; range = record { from = t; len = length piece.value.body } }) from
    ∙ ap (λ t. record { value = piece.value; range = record { from = piece.range.from; len = t } }) h.len

tiles_moved : (outer : Range) (w : PduValue) (part : SegmentationPart) (ranges : List Range) (start end : ℕ) → Tiles start ranges end
    → Tiles (outer.from + start) (ranges_of (map (within outer) (map (piece_of w part) ranges))) (outer.from + end)
tiles_moved outer w part [] start end h = ap (λ t. outer.from + t) h
tiles_moved outer w part (range ∷ others) start end h =
    let behind : outer.from + (start + range.len) ≡ outer.from + start + range.len = omega arith in (
      ap (λ t. outer.from + t) h.0,
      subst (λ t. Tiles t (ranges_of (map (within outer) (map (piece_of w part) others))) (outer.from + end)) behind
          (tiles_moved outer w part others (start + range.len) end h.1),
    )

some_mapped : {X Y : Type 0} (f : X → Y) (Q : Y → Type 0) (o : Option X) → IfSome o (λ x. Q (f x)) → IfSome (option_map f o) Q
some_mapped f Q None h = h
some_mapped f Q (Some x) h = h

cut_piece : (v : PduValue) (piece : Piece) (mtu start end : ℕ) → IsPieceOf v piece → 512 ≤ mtu → piece.range.from ≡ start → start + piece.range.len ≡ end
    → IfSome (option_map (map (within piece.range)) (cut piece.value mtu)) (ArePiecesOf v start end)
cut_piece v piece mtu start end h m begins ends =
    let len = h.len in
    let w : PduValue = piece.value in
    let parts : List Range = ranges (data_room (header_length w) mtu) (length w.body) in
    let tile : Tiles 0 parts (length w.body) = segments_tile w mtu h.pdu m in
    let moved : List Piece → List Piece = map (within piece.range) in
    some_mapped moved (ArePiecesOf v start end) (cut w mtu)
    (cut_gives w mtu (λ pieces. ArePiecesOf v start end (moved pieces))
    (λ fits. subst (λ t. ArePiecesOf v start end (t ∷ [])) (sym (uncut_within v piece h)) (record { each = (h, tt); tile = (begins, ends) }))
    (λ part has. record {
      each = AllByRecursion-mapped (λ inner. IsPieceOf v (within piece.range inner)) (IsPieceOf v) (within piece.range) (map (piece_of w part) parts) (λ inner is. is)
          (AllByRecursion-mapped (λ inner. inner.from + inner.len ≤ length w.body) (λ inner. IsPieceOf v (within piece.range inner)) (piece_of w part) parts
          (λ inner inside. within_is_piece v piece part inner h has inside) (tiles_within parts 0 (length w.body) tile));
      tile = tiles_at (ranges_of (moved (map (piece_of w part) parts))) (piece.range.from + 0) start (piece.range.from + length w.body) end
          (omega arith) (omega arith) (tiles_moved piece.range w part parts 0 (length w.body) tile);
    }))

-- ---- pieces cut again

both_pieces : (v : PduValue) (first others : Option (List Piece)) (start mid end : ℕ) → IfSome first (ArePiecesOf v start mid) → IfSome others (ArePiecesOf v mid end) → IfSome (both first others) (ArePiecesOf v start end)
both_pieces v None others start mid end h k = tt
both_pieces v (Some first) None start mid end h k = tt
both_pieces v (Some first) (Some others) start mid end h k = record {
  each = AllByRecursion-append (IsPieceOf v) first others h.each k.each;
  tile = subst (λ t. Tiles start t end) (sym (map-append (λ (piece : Piece). piece.range) first others)) (tiles_append (ranges_of first) (ranges_of others) start mid end h.tile k.tile);
}

cut_pieces : (v : PduValue) (mtu : ℕ) (pieces : List Piece) (start end : ℕ) → 512 ≤ mtu → ArePiecesOf v start end pieces → IfSome (cut_each mtu pieces) (ArePiecesOf v start end)
cut_pieces v mtu [] start end m h = h
cut_pieces v mtu (piece ∷ others) start end m h =
    let mid : ℕ = start + piece.range.len in
    both_pieces v (option_map (map (within piece.range)) (cut piece.value mtu)) (cut_each mtu others) start mid end
    (cut_piece v piece mtu start mid h.each.0 m h.tile.0 refl)
    (cut_pieces v mtu others mid end m (record { each = h.each.1; tile = h.tile.1 }))

cut_often : (v : PduValue) (mtus : List ℕ) (pieces : Option (List Piece)) (start end : ℕ) → AreMtus mtus → IfSome pieces (ArePiecesOf v start end) → IfSome (cut_through mtus pieces) (ArePiecesOf v start end)
cut_often v [] pieces start end m h = h
cut_often v (mtu ∷ mtus) None start end m h = tt
cut_often v (mtu ∷ mtus) (Some pieces) start end m h = cut_often v mtus (cut_each mtu pieces) start end m.1 (cut_pieces v mtu pieces start end m.0 h)

cut_whole : (v : PduValue) (mtus : List ℕ) → IsPdu v → AreMtus mtus → IfSome (cut_through mtus (Some (uncut v ∷ []))) (ArePiecesOf v 0 (length v.body))
cut_whole v mtus h m = cut_often v mtus (Some (uncut v ∷ [])) 0 (length v.body) m (record { each = (uncut_is_piece v h, tt); tile = (refl, omega arith) })

pub partition_again : (v : PduValue) (mtus : List ℕ) → IsPdu v → AreMtus mtus → IfSome (cut_through mtus (Some (uncut v ∷ []))) (λ pieces. Partition (ranges_of pieces) (whole_range v))
partition_again v mtus h m =
    IfSome_then (cut_through mtus (Some (uncut v ∷ []))) (cut_whole v mtus h m) (λ pieces is. tiles_partition (ranges_of pieces) (length v.body) is.tile)

pub segments_again : (v : PduValue) (mtus : List ℕ) → IsPdu v → AreMtus mtus → IfSome (cut_through mtus (Some (uncut v ∷ []))) (AllByRecursion (IsSegmentOf v))
segments_again v mtus h m =
    IfSome_then (cut_through mtus (Some (uncut v ∷ []))) (cut_whole v mtus h m) (λ pieces is. AllByRecursion-implies (IsPieceOf v) (IsSegmentOf v) (λ piece p. p.value) pieces is.each)

pub order_again : (v : PduValue) (mtus : List ℕ) → IsPdu v → AreMtus mtus → IfSome (cut_through mtus (Some (uncut v ∷ []))) (λ pieces. Tiles 0 (ranges_of pieces) (length v.body))
order_again v mtus h m =
    IfSome_then (cut_through mtus (Some (uncut v ∷ []))) (cut_whole v mtus h m) (λ pieces is. is.tile)
