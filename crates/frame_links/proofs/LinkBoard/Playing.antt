-- The frames of a text, those that came and those that are still to come.
use Rattle.std.proofs.Common.{◌≡◌, ◌∙◌, ℕ, zero, suc, ◌+◌, ◌-◌, ◌≤◌, List, [], ◌∷◌, ◌++◌, length, take, drop, None, Some, refl, sym, ap, arith, length-append, append_assoc, append-nil}
use Rattle.std.specs.Option.{option_to_list}
use Rattle.std.proofs.Math.Seq.{take-append_seam}
use Rattle.std.proofs.lemmas.List.{drop-drop, length-drop, map-append}
use Rattle.pdus.specs.ClnpBase.Text.{lines_of}
use Rattle.frame_links.specs.LinkBoard.Links.{CameFrame, Grows}
use Rattle.frame_links.specs.LinkBoard.Memory.{told_looks}
use Rattle.frame_links.specs.LinkBoard.Recording.{IsPlaying, Playing, after_look, came_of, frame_on, frames_in}

-- ---- the first line

pub no_frames : (text : List ℕ) → lines_of text ≡ [] → frames_in text ≡ []
unfolding frames_in
no_frames text e = rw e refl

frames_step : (text line rest : List ℕ) → lines_of text ≡ line ∷ lines_of rest → frames_in text ≡ option_to_list (frame_on line) ++ frames_in rest
unfolding frames_in
frames_step text line rest e = rw e refl

pub line_passed : (text line rest : List ℕ) → lines_of text ≡ line ∷ lines_of rest → frame_on line ≡ None → frames_in text ≡ frames_in rest
line_passed text line rest e f = frames_step text line rest e ∙ ap (λ o. option_to_list o ++ frames_in rest) f

pub line_comes : (text line rest : List ℕ) (frame : CameFrame) → lines_of text ≡ line ∷ lines_of rest → frame_on line ≡ Some frame → frames_in text ≡ frame ∷ frames_in rest
line_comes text line rest frame e f = frames_step text line rest e ∙ ap (λ o. option_to_list o ++ frames_in rest) f

-- the end of an end of a text
pub end_of_end : (text left rest : List ℕ) → left ≡ drop (length text - length left) text → length left ≤ length text
    → rest ≡ drop (length left - length rest) left → length rest ≤ length left
    → rest ≡ drop (length text - length rest) text
end_of_end text left rest l few r fewer =
    let on : length text - length left + (length left - length rest) ≡ length text - length rest = omega arith in
    r ∙ (ap (λ xs. drop (length left - length rest) xs) l
    ∙ (drop-drop (length left - length rest) (length text - length left) text ∙ ap (λ n. drop n text) on))

-- ---- what came

-- of all frames those came that stand before the ones that are still to come
came_before : (all came left : List CameFrame) → all ≡ came ++ left → came_of all left ≡ came
came_before all came left e =
    let long : length all - length left ≡ length came = omega (arith, ap length e, length-append came left) in
    ap (λ n. take n all) long ∙ (ap (λ xs. take (length came) xs) e ∙ take-append_seam came left)

-- with one frame more
more : (all came left : List CameFrame) (frame : CameFrame) → all ≡ came ++ (frame ∷ left) → all ≡ (came ++ frame ∷ []) ++ left
more all came left frame e = e ∙ sym (append_assoc came (frame ∷ []) left)

pub came_more : (all left later : List CameFrame) (frame : CameFrame) → all ≡ came_of all left ++ left → left ≡ frame ∷ later
    → came_of all later ≡ came_of all left ++ frame ∷ []
came_more all left later frame e f =
    came_before all (came_of all left ++ frame ∷ []) later (more all (came_of all left) later frame (e ∙ ap (λ xs. came_of all left ++ xs) f))

pub still_whole : (all left later : List CameFrame) (frame : CameFrame) → all ≡ came_of all left ++ left → left ≡ frame ∷ later
    → all ≡ came_of all later ++ later
still_whole all left later frame e f =
    more all (came_of all left) later frame (e ∙ ap (λ xs. came_of all left ++ xs) f) ∙ ap (λ xs. xs ++ later) (sym (came_more all left later frame e f))

-- ---- a look that sees a frame

pub rest_is : (text left rest : List ℕ) (at next : ℕ) → at ≤ length text → left ≡ drop at text → rest ≡ drop (length left - length rest) left
    → next ≡ length text - length rest → drop next text ≡ rest
rest_is text left rest at next within l r n =
    let long : length left ≡ length text - at = ap length l ∙ length-drop at text in
    let short : length rest ≤ length left = omega (arith, ap length r, length-drop (length left - length rest) left) in
    let same : at ≡ length text - length left = omega (arith, long) in
    sym (end_of_end text left rest (l ∙ ap (λ k. drop k text) same) (omega (arith, long)) r short ∙ ap (λ k. drop k text) (sym n))

pub plays_on : (text left rest : List ℕ) (at next empties : ℕ) (frame : CameFrame) → IsPlaying text at empties → drop next text ≡ rest
    → left ≡ drop at text → frames_in left ≡ frame ∷ frames_in rest → next ≤ length text → IsPlaying text next empties
plays_on text left rest at next empties frame p d l f few =
    let comes : frames_in (drop at text) ≡ frame ∷ frames_in rest = ap frames_in (sym l) ∙ f in record {
      within = few;
      whole = rw d (still_whole (frames_in text) (frames_in (drop at text)) (frames_in rest) frame p.whole comes);
      last = λ some. let none = p.last some in absurd (cc);
    }

pub no_empties : (text left rest : List ℕ) (at empties : ℕ) (frame : CameFrame) → IsPlaying text at empties
    → left ≡ drop at text → frames_in left ≡ frame ∷ frames_in rest → empties ≡ 0
no_empties text left rest at zero frame p l f = refl
no_empties text left rest at (suc empties) frame p l f =
    let none = p.last (omega arith) in
    let comes : frames_in (drop at text) ≡ frame ∷ frames_in rest = ap frames_in (sym l) ∙ f in
    absurd (cc)

-- it is the next of the looks that are told
pub looks_more : (came more : List CameFrame) (empties : ℕ) (frame : CameFrame) → more ≡ came ++ frame ∷ [] → empties ≡ 0
    → Grows (told_looks came empties) (told_looks more empties) (Some frame ∷ [])
looks_more came more empties frame e z = rw (z, e) (simp (map-append, append-nil))

pub looked : (all left later next : List CameFrame) (frame : CameFrame) (empties : ℕ) → all ≡ came_of all left ++ left → left ≡ frame ∷ later → next ≡ later
    → record { left = next; came = came_of all next; empties = empties }
    ≡ after_look (record { left = left; came = came_of all left; empties = empties }) left
looked all left later next frame empties w e n =
    let now : Playing = record { left = left; came = came_of all left; empties = empties } in
    rw (n, came_more all left later frame w e) (sym (ap (after_look now) e))
