-- Looks at a link that plays a file.
use Rattle.std.proofs.Common.{◌≡◌, ℕ, zero, suc, ◌-◌, ◌<◌, ◌≤◌, List, [], ◌∷◌, ◌++◌, length, take, Option, Some, refl, sym, ap, ◌∙◌, subst, arith, length-append, append-nil}
use Rattle.std.proofs.lemmas.List.{append_assoc, map-append, take_at}
use Rattle.pdus.specs.ClnpBase.Streams.{count_up}
use Rattle.frame_links.specs.LinkBoard.Links.{CameFrame, Grows, Looked}
use Rattle.frame_links.specs.LinkBoard.Memory.{told_looks}
use Rattle.frame_links.specs.PcapFrames.Playing.{Playing, after_look, at_first, state_of}
use Rattle.frame_links.specs.PcapFrames.Walk.{IsPlaying, gone}

abbrev pub playing : (left came : List CameFrame) → ℕ → Playing
playing left came empties = record { left = left; came = came; empties = empties }

pub gone_is : (all before left : List CameFrame) → all ≡ before ++ left → gone all left ≡ before
gone_is all before left e =
    let size : length all - length left ≡ length before = omega (arith, ap length e, length-append before left) in
    ap (λ (n : ℕ). take n all) size ∙ ap (take (length before)) e ∙ take_at before left (length before) refl

-- ---- the first look is still to come

pub begins_so : (all left frames : List CameFrame) → left ≡ all → all ≡ frames → playing left (gone all left) 0 ≡ at_first frames
begins_so all left frames e f =
    subst (λ (xs : List CameFrame). playing xs (gone all xs) 0 ≡ at_first frames) (sym e)
    (ap (λ (came : List CameFrame). playing all came 0) (gone_is all [] all refl) ∙ ap at_first f)

-- ---- a look that sees a frame

moved : (all before left later : List CameFrame) (f : CameFrame) → all ≡ before ++ left → left ≡ f ∷ later
    → all ≡ (before ++ f ∷ []) ++ later
moved all before left later f whole next =
    whole ∙ ap (λ (xs : List CameFrame). before ++ xs) next ∙ sym (append_assoc before (f ∷ []) later)

pub gone_more : (all before left later : List CameFrame) (f : CameFrame) → all ≡ before ++ left → left ≡ f ∷ later
    → gone all later ≡ gone all left ++ f ∷ []
gone_more all before left later f whole next =
    gone_is all (before ++ f ∷ []) later (moved all before left later f whole next)
    ∙ ap (λ (xs : List CameFrame). xs ++ f ∷ []) (sym (gone_is all before left whole))

pub after_found : (all before left later : List CameFrame) (f : CameFrame) (empties : ℕ) → all ≡ before ++ left → left ≡ f ∷ later
    → playing later (gone all later) empties ≡ after_look (playing left (gone all left) empties) left
after_found all before left later f empties whole next =
    subst (λ (xs : List CameFrame). playing later (gone all later) empties ≡ after_look (playing left (gone all left) empties) xs) (sym next)
    (ap (λ (came : List CameFrame). playing later came empties) (gone_more all before left later f whole next))

-- the octets of the frame stand at the front of the buffer
pub laid : (pdu copied rest : List ℕ) → copied ≡ pdu → take (length pdu) (copied ++ rest) ≡ pdu
laid pdu copied rest e = take_at copied rest (length pdu) (ap length e) ∙ e

-- no look was empty before the last frame came
pub none_empty : (empties : ℕ) (left later : List CameFrame) (f : CameFrame) → (0 < empties → left ≡ []) → left ≡ f ∷ later → empties ≡ 0
none_empty zero left later f last next = refl
none_empty (suc empties) left later f last next = let none = last (omega arith) in absurd (cc)

pub looks_more : (all before left later : List CameFrame) (f : CameFrame) (empties : ℕ) → all ≡ before ++ left → left ≡ f ∷ later
    → empties ≡ 0 → Grows (told_looks (gone all left) empties) (told_looks (gone all later) empties) (Some f ∷ [])
looks_more all before left later f empties whole next none =
    rw (none, gone_more all before left later f whole next) (simp (map-append, append-nil))

pub looked : (all left later : List CameFrame) (f : CameFrame) (look : Option CameFrame) (at size empties : ℕ) → IsPlaying all left at size empties
    → left ≡ f ∷ later → look ≡ Some f
    → Looked (state_of (playing left (gone all left) empties)) (state_of (playing later (gone all later) empties)) look
looked all left later f look at size empties p next saw =
    rw saw (record {
      looks = looks_more all p.before left later f empties p.whole next (none_empty empties left later f p.last next);
      sent = tt;
      faults = omega arith;
      empties = omega arith;
      empty = λ e. absurd (cc);
    })

pub still_playing : (all left later : List CameFrame) (f : CameFrame) (at next size empties : ℕ) → IsPlaying all left at size empties
    → left ≡ f ∷ later → next ≤ size → IsPlaying all later next size empties
still_playing all left later f at next size empties p first within =
    record {
      within = within;
      before = p.before ++ f ∷ [];
      whole = moved all p.before left later f p.whole first;
      last = λ some. let none = none_empty empties left later f p.last first in absurd (omega arith);
    }

-- ---- a look that sees nothing

pub after_nothing : (all left later : List CameFrame) (empties : ℕ) → left ≡ [] → later ≡ []
    → playing later (gone all later) (count_up empties) ≡ after_look (playing left (gone all left) empties) left
after_nothing all left later empties e f = rw (e, f) refl

pub ended : (all left later : List CameFrame) (at next size empties more : ℕ) → IsPlaying all left at size empties
    → left ≡ [] → later ≡ [] → next ≤ size → IsPlaying all later next size more
ended all left later at next size empties more p e f within =
    record { within = within; before = p.before; whole = p.whole ∙ ap (λ (xs : List CameFrame). p.before ++ xs) (e ∙ sym f); last = λ _. f }
