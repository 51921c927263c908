-- What an answer tells of a line, it tells exactly.
use Rattle.std.proofs.Common.{◌≡◌, ◌≢◌, ◌↔◌, ℕ, Bool, true, false, List, [], ◌∷◌, length, Option, Some, None, Result, Ok, Err, refl, sym, ap, subst, arith}
use Rattle.std.proofs.lemmas.Bool.{true≢false, eqb-true}
use Rattle.hex.specs.Hex.{IsBytes}
use Rattle.pdus.specs.ClnpBase.Text.{words_of}
use Rattle.captures.specs.Captures.{is_skipped}
use Rattle.captures.specs.Shown.{Shows}
use Rattle.captures.specs.declared.capture_text.refusal.PackRefusal.{PackRefusal}
use Rattle.captures.specs.declared.capture_text.refusal.PackRefusal.TheVariants.{NotPackable, NotShown, Count, NoMemory}
use Rattle.captures.specs.CaptureText.Packing.{IsAsked, IsNotShown, Lacks, Packs, PacksTooMuch, PacksWithin, Tells, is_unpackable}
use Rattle.captures.specs.CaptureText.Laid.{frame_of}
use Rattle.captures.specs.CaptureText.View.{Misses}
use Rattle.captures.proofs.CaptureText.Packed.{accepted, asked, one_frame, one_some, read_back}

-- a skipped line is none of a refused frame
pub skipped_packable : (line : List ℕ) → is_skipped line ≡ true → is_unpackable line ≡ true → ⊥
skipped_packable [] skipped unpackable = cc
skipped_packable (c ∷ cs) skipped unpackable =
    let P : ℕ → Type 0 = λ n. is_unpackable (n ∷ cs) ≡ true in
    let f : is_unpackable (35 ∷ cs) ≡ true = subst P (eqb-true c 35 skipped) unpackable in
    absurd (true≢false (sym f))

pub not_both : (line : List ℕ) → PacksTooMuch line → (frame : List ℕ) → PacksWithin line frame → ⊥
not_both line many frame within =
    let same : many.frame ≡ frame = one_frame line many.frame frame many.packs within.packs in
    let e : length many.frame ≡ length frame = ap length same in
    absurd (omega (arith, e, many.many, within.few))

pub not_skipped : (line : List ℕ) → is_skipped line ≡ true → IsAsked line → ⊥
not_skipped line skipped is = let f = is.unskipped in cc

pub not_unpackable : (line : List ℕ) → is_unpackable line ≡ true → IsAsked line → ⊥
not_unpackable line unpackable is = let f = is.packable in cc

pub skipped : (r : Result Bool PackRefusal) (line : List ℕ) → Tells r line → (r ≡ Ok false) ↔ (is_skipped line ≡ true)
skipped (Ok true) line told = (λ h. cc, λ h. absurd (not_skipped line h (asked line told.0 told.1.packs)))
skipped (Ok false) line told = (λ h. told, λ h. refl)
skipped (Err NotPackable) line told = (λ h. cc, λ h. absurd (skipped_packable line h told))
skipped (Err NotShown) line told = (λ h. cc, λ h. absurd (not_skipped line h told.asked))
skipped (Err Count) line told = (λ h. cc, λ h. absurd (not_skipped line h (asked line told.frame told.packs)))
skipped (Err NoMemory) line told = (λ h. cc, λ h. absurd (not_skipped line h told))

pub not_packable : (r : Result Bool PackRefusal) (line : List ℕ) → Tells r line → (r ≡ Err NotPackable) ↔ (is_unpackable line ≡ true)
not_packable (Ok true) line told = (λ h. cc, λ h. absurd (not_unpackable line h (asked line told.0 told.1.packs)))
not_packable (Ok false) line told = (λ h. cc, λ h. absurd (skipped_packable line told h))
not_packable (Err NotPackable) line told = (λ h. told, λ h. refl)
not_packable (Err NotShown) line told = (λ h. cc, λ h. absurd (not_unpackable line h told.asked))
not_packable (Err Count) line told = (λ h. cc, λ h. absurd (not_unpackable line h (asked line told.frame told.packs)))
not_packable (Err NoMemory) line told = (λ h. cc, λ h. absurd (not_unpackable line h told))

pub not_shown : (r : Result Bool PackRefusal) (line : List ℕ) → Tells r line → r ≢ Err NoMemory → (r ≡ Err NotShown) ↔ IsNotShown line
not_shown (Ok true) line told free = (λ h. cc, λ h. absurd (h.none told.0 told.1.packs))
not_shown (Ok false) line told free = (λ h. cc, λ h. absurd (not_skipped line told h.asked))
not_shown (Err NotPackable) line told free = (λ h. cc, λ h. absurd (not_unpackable line told h.asked))
not_shown (Err NotShown) line told free = (λ h. told, λ h. refl)
not_shown (Err Count) line told free = (λ h. cc, λ h. absurd (h.none told.frame told.packs))
not_shown (Err NoMemory) line told free = absurd (free refl)

pub counted : (r : Result Bool PackRefusal) (line : List ℕ) → Tells r line → r ≢ Err NoMemory → (r ≡ Err Count) ↔ PacksTooMuch line
counted (Ok true) line told free = (λ h. cc, λ h. absurd (not_both line h told.0 told.1))
counted (Ok false) line told free = (λ h. cc, λ h. absurd (not_skipped line told (asked line h.frame h.packs)))
counted (Err NotPackable) line told free = (λ h. cc, λ h. absurd (not_unpackable line told (asked line h.frame h.packs)))
counted (Err NotShown) line told free = (λ h. cc, λ h. absurd (told.none h.frame h.packs))
counted (Err Count) line told free = (λ h. told, λ h. refl)
counted (Err NoMemory) line told free = absurd (free refl)

pub packed : (r : Result Bool PackRefusal) (line : List ℕ) → Tells r line → r ≢ Err NoMemory → (r ≡ Ok true) ↔ ((frame : List ℕ) × PacksWithin line frame)
packed (Ok true) line told free = (λ h. told, λ h. refl)
packed (Ok false) line told free = (λ h. cc, λ h. absurd (not_skipped line told (asked line h.0 h.1.packs)))
packed (Err NotPackable) line told free = (λ h. cc, λ h. absurd (not_unpackable line told (asked line h.0 h.1.packs)))
packed (Err NotShown) line told free = (λ h. cc, λ h. absurd (told.none h.0 h.1.packs))
packed (Err Count) line told free = (λ h. cc, λ h. absurd (not_both line told h.0 h.1))
packed (Err NoMemory) line told free = absurd (free refl)

-- ---- the frame that is read, and asked

-- the law that each frame has one shown line
abbrev pub OneLine : Type 0
OneLine = (frame line other : List ℕ) → Shows frame line → Shows frame other → line ≡ other

none_some : (found : Option (List ℕ)) (frame : List ℕ) → found ≡ None → found ≡ Some frame → ⊥
none_some None frame e f = cc f
none_some (Some x) frame e f = cc e

-- where no frame is read, none is shown by the line
pub unread : (refusal : PackRefusal) (line : List ℕ) → Misses refusal (frame_of (words_of line)) → Lacks refusal line
unread NotShown line none = λ frame packs. none_some (frame_of (words_of line)) frame none (read_back line frame packs)
unread NoMemory line none = tt
unread NotPackable line none = absurd none
unread Count line none = absurd none

-- where the frame that is read is shown by the line, the line packs to it
pub packs : (line frame shown : List ℕ) → IsBytes frame → is_unpackable line ≡ false → Shows frame shown → shown ≡ line → Packs line frame
packs line frame shown bytes packable shows same =
    let P : List ℕ → Type 0 = λ t. Shows frame t in
    let is : Shows frame line = subst P same shows in
    record { octets = bytes; accepted = accepted frame line packable is; shown = is }

-- where it is shown by another, no frame is shown by the line
pub shown_otherwise : OneLine → (line frame shown : List ℕ) → frame_of (words_of line) ≡ Some frame → Shows frame shown → (shown ≡ line → ⊥)
    → (other : List ℕ) → Packs line other → ⊥
shown_otherwise law line frame shown is shows differs other other_packs =
    let same : other ≡ frame = one_some (frame_of (words_of line)) other frame (read_back line other other_packs) is in
    let P : List ℕ → Type 0 = λ t. Shows t line in
    differs (law frame shown line shows (subst P same other_packs.shown))
