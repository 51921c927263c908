-- A look at a link in memory that sees a frame.
use Rattle.std.proofs.Common.{◌≡◌, ℕ, zero, suc, ◌+◌, ◌<◌, ◌≤◌, min, List, [], ◌∷◌, ◌++◌, length, map, take, drop, get_or, Some, refl, sym, ap, ◌∙◌, arith, append-nil, inl, inr}
use Rattle.std.proofs.lemmas.Bool.{cases_lt}
use Rattle.std.proofs.lemmas.List.{drop_all, drop_more, length-take-le, map-append, take_all, take_more}
use Rattle.pdus.specs.ClnpBase.Streams.{count_up}
use Rattle.frame_links.specs.LinkBoard.Links.{CameFrame, Grows}
use Rattle.frame_links.specs.LinkBoard.Memory.{Traffic, after_look, frame_of, look_at, told_looks}
use Rattle.frame_links.specs.declared.link_board.memory.MemFrame.{MemFrame}
use Rattle.frame_links.proofs.LinkBoard.Sending.{take_front}

-- the front of the buffer is what comes of the frame
pub laid : (octets copied buf : List ℕ) (len : ℕ) → len ≡ min (length octets) 70000 → copied ≡ take len octets
    → take len (copied ++ drop len buf) ≡ take 70000 octets
laid octets copied buf len l e =
    let long : length copied ≡ len = ap length e ∙ length-take-le len octets (omega arith) in
    let front : take len (copied ++ drop len buf) ≡ copied =
    take_front len copied (drop len buf) (omega arith) ∙ take_all len copied (omega arith) in
    front ∙ (e ∙ elim (cases_lt (length octets) 70000) [
      | inl few ↦ take_all len octets (omega arith) ∙ sym (take_all 70000 octets (omega arith))
      | inr many ↦ let full : len ≡ 70000 = omega arith in ap (λ n. take n octets) full
    ])

-- the next frame of those that are still to come
pub next_frame : (frames : List MemFrame) (at : ℕ) (frame : MemFrame) → frame ≡ get_or frames at frame → at < length frames
    → look_at (map frame_of (drop at frames)) ≡ Some (frame_of frame)
next_frame frames at frame e h = rw (drop_more frames at frame h, ← e) refl

pub left_more : (frames : List MemFrame) (at : ℕ) (frame : MemFrame) → frame ≡ get_or frames at frame → at < length frames
    → map frame_of (drop at frames) ≡ frame_of frame ∷ map frame_of (drop (at + 1) frames)
left_more frames at frame e h = rw (drop_more frames at frame h, ← e) refl

pub came_more : (frames : List MemFrame) (at : ℕ) (frame : MemFrame) → frame ≡ get_or frames at frame → at < length frames
    → map frame_of (take (at + 1) frames) ≡ map frame_of (take at frames) ++ frame_of frame ∷ []
came_more frames at frame e h = rw (take_more frames at frame h, ← e) (simp map-append)

-- no frame is still to come
pub none_left : (frames : List MemFrame) (at : ℕ) → length frames ≤ at → map frame_of (drop at frames) ≡ []
none_left frames at h = rw (drop_all at frames h) refl

-- what is kept after a look
pub looked_empty : (before told : Traffic) (calls empties : ℕ) → before ≡ told → calls ≡ count_up before.calls
    → empties ≡ count_up before.empties → before.left ≡ [] → record before { calls = calls; empties = empties } ≡ after_look told told.left
looked_empty before told calls empties v e f g =
    ap (λ (n : ℕ). record before { calls = n; empties = empties }) e
    ∙ ap (λ (n : ℕ). record before { calls = count_up before.calls; empties = n }) f
    ∙ sym (ap (after_look before) g)
    ∙ ap (λ (t : Traffic). after_look t t.left) v

pub looked_one : (before told : Traffic) (calls : ℕ) (frame : CameFrame) (left came : List CameFrame) → before ≡ told
    → calls ≡ count_up before.calls → before.left ≡ frame ∷ left → came ≡ before.came ++ frame ∷ []
    → record before { calls = calls; left = left; came = came } ≡ after_look told told.left
looked_one before told calls frame left came v e f g =
    ap (λ (n : ℕ). record before { calls = n; left = left; came = came }) e
    ∙ ap (λ (c : List CameFrame). record before { calls = count_up before.calls; left = left; came = c }) g
    ∙ sym (ap (after_look before) f)
    ∙ ap (λ (t : Traffic). after_look t t.left) v

-- it is the next of the looks that are told
pub looks_more : (frames : List MemFrame) (at empties : ℕ) (frame : MemFrame) → frame ≡ get_or frames at frame → at < length frames
    → empties ≡ 0
    → Grows (told_looks (map frame_of (take at frames)) empties) (told_looks (map frame_of (take (at + 1) frames)) empties) (Some (frame_of frame) ∷ [])
looks_more frames at empties frame e h z = rw (z, take_more frames at frame h, ← e) (simp (map-append, append-nil))

-- no look was empty before the last frame
pub none_empty : (empties at count : ℕ) → (0 < empties → at ≡ count) → at < count → empties ≡ 0
none_empty zero at count h lt = refl
none_empty (suc empties) at count h lt = let last = h (omega arith) in absurd (omega arith)
