-- Octets laid over cells.
use Rattle.std.proofs.Common.{◌≡◌, ℕ, ◌+◌, ◌-◌, ◌≤◌, ◌++◌, List, length, take, drop, replicate, arith, ap, sym, ◌∙◌}
use Rattle.std.proofs.Math.Seq.{drop-append_seam}
use Rattle.std.proofs.lemmas.List.{append_assoc, drop-drop, drop-replicate, drop_at, length-append, length-drop, length-take-le}
use Rattle.std.proofs.lemmas.Slice.{drop-put_mid, take-put_mid}
use borrow.Rule.Slice.PartMut.{put_mid}
use Rattle.clnp_base.specs.Inline.{IsInline}

-- cells with a piece laid over them from an index on
abbrev pub laid : List ℕ → ℕ → List ℕ → List ℕ
laid cells at piece = take at cells ++ (piece ++ drop (at + length piece) cells)

pub length-laid : (cells : List ℕ) (at : ℕ) (piece : List ℕ) → at + length piece ≤ length cells → length (laid cells at piece) ≡ length cells
length-laid cells at piece h =
    omega (
      arith,
      length-append (take at cells) (piece ++ drop (at + length piece) cells),
      length-append piece (drop (at + length piece) cells),
      length-drop (at + length piece) cells,
      length-take-le at cells (omega arith),
    )

drop-laid : (cells : List ℕ) (at : ℕ) (piece : List ℕ) → at + length piece ≤ length cells → drop (at + length piece) (laid cells at piece) ≡ drop (at + length piece) cells
drop-laid cells at piece h =
    let front : length (take at cells ++ piece) ≡ at + length piece = omega (arith, length-append (take at cells) piece, length-take-le at cells (omega arith)) in
    ap (λ (xs : List ℕ). drop (at + length piece) xs) (sym (append_assoc (take at cells) piece (drop (at + length piece) cells)))
    ∙ ap (λ (k : ℕ). drop k ((take at cells ++ piece) ++ drop (at + length piece) cells)) (sym front)
    ∙ drop-append_seam (take at cells ++ piece) (drop (at + length piece) cells)

pub inline-laid : (most len : ℕ) (cells piece : List ℕ) → IsInline most len cells → len + length piece ≤ most
    → IsInline most (len + length piece) (laid cells len piece)
inline-laid most len cells piece h room =
    let r = h.room in
    let w = h.within in
    record {
      within = room;
      few = h.few;
      room = length-laid cells len piece (omega arith) ∙ r;
      zeros =
          drop-laid cells len piece (omega arith)
          ∙ sym (drop-drop (length piece) len cells)
          ∙ ap (drop (length piece)) h.zeros
          ∙ drop-replicate (length piece) (most - len) 0
          ∙ ap (λ k. replicate k 0) (omega arith);
    }

-- ---- a part that begins at an index was written by as many octets

-- a part written by as many octets keeps the number of cells
pub length-put : (at : ℕ) (cells piece : List ℕ) → at + length piece ≤ length cells → length (put_mid at (length piece) cells piece) ≡ length cells
length-put at cells piece h =
    omega (arith, length-append (take at cells) (piece ++ drop (length piece) (drop at cells)), length-append piece (drop (length piece) (drop at cells)), length-drop (length piece) (drop at cells), length-drop at cells, length-take-le at cells (omega arith))

pub inline-put : (most len start : ℕ) (cells part : List ℕ) → IsInline most len cells → start ≤ len → length part ≡ len - start
    → IsInline most len (put_mid start (len - start) cells part)
inline-put most len start cells part h within size =
    let w = h.within in
    let r = h.room in
    record {
      within = h.within;
      few = h.few;
      room = ap (λ k. length (put_mid start k cells part)) (sym size) ∙ length-put start cells part (omega arith) ∙ h.room;
      zeros = drop-put_mid start (len - start) cells part len (omega arith) (omega arith) size ∙ h.zeros;
    }

-- as many octets as there were
pub part_size : (most len start : ℕ) (cells part : List ℕ) → IsInline most len cells → start ≤ len
    → length part ≡ length (take (len - start) (drop start cells)) → length part ≡ len - start
part_size most len start cells part h within e =
    let w = h.within in
    let r = h.room in
    e ∙ length-take-le (len - start) (drop start cells) (omega (arith, length-drop start cells))

pub behind_front : (most len start : ℕ) (cells part : List ℕ) → IsInline most len cells → start ≤ len → length part ≡ len - start
    → drop start (take len (put_mid start (len - start) cells part)) ≡ part
behind_front most len start cells part h within size =
    let w = h.within in
    let r = h.room in
    ap (drop start) (take-put_mid start (len - start) cells part len (omega arith) (omega arith))
    ∙ drop_at (take start cells) part start (length-take-le start cells (omega arith))
