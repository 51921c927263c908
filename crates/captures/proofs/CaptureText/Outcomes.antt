-- One thing comes of packing a line.
use Rattle.std.proofs.Common.{◌≡◌, ℕ, zero, suc, ◌<◌, ◌==◌, Bool, true, false, List, [], ◌∷◌, length, ◌⊎◌, Option, Some, None, MatchBool, inl, inr, refl, sym, ap, subst, ◌∙◌, arith}
use Rattle.std.specs.Str.{bytes_eq}
use Rattle.std.proofs.lemmas.Bool.{cases_lt, true≢false}
use Rattle.hex.specs.Hex.{IsBytes}
use Rattle.pdus.specs.ClnpBase.Text.{words_of}
use Rattle.pdus.specs.declared.clnp_options.judge.OptionRefusal.{OptionRefusal}
use Rattle.pdus.specs.declared.esis_pdus.pdu.EsisRefusal.{EsisRefusal}
use Rattle.pdus.specs.EsisPdus.Rules.{why_refused}
use Rattle.pdus.specs.PduHeader.Rules.{octet, refusal}
use Rattle.captures.specs.Captures.{is_skipped, most_octets}
use Rattle.captures.specs.Shown.{Shows}
use Rattle.pdus.proofs.ClnpBase.SameOctets.{same_from, same_from_equal}
use Rattle.captures.specs.CaptureText.Packing.{IsAccepted, IsAsked, IsNotShown, Packs, PacksTooMuch, PacksWithin, is_unpackable}
use Rattle.captures.specs.CaptureText.Laid.{frame_of}
use Rattle.captures.specs.CaptureText.Outcome.{Outcome, Skipped, NotPackable, NotShown, TooLong, Frame, ComesOf}
use Rattle.captures.proofs.CaptureText.Packed.{asked, one_frame, one_some, read_back}
use Rattle.captures.proofs.CaptureText.Answered.{OneLine, not_both, not_skipped, not_unpackable, skipped_packable}

-- the law that each frame of octets has a line that shows it
abbrev pub SomeLine : Type 0
SomeLine = (frame : List ℕ) → IsBytes frame → (line : List ℕ) × Shows frame line

-- ---- whether a line packs to a frame

bytes_more : (x : ℕ) (xs : List ℕ) → x < 256 → IsBytes xs → IsBytes (x ∷ xs)
bytes_more x xs small h zero = small
bytes_more x xs small h (suc i) = h i

are_bytes : (xs : List ℕ) → IsBytes xs ⊎ (IsBytes xs → ⊥)
are_bytes [] = inl (λ i. omega arith)
are_bytes (x ∷ xs) =
    elim (cases_lt x 256) [
      | inl small ↦ elim (are_bytes xs) [
        | inl rest ↦ inl (bytes_more x xs small rest)
        | inr not ↦ inr (λ h. not (λ i. h (suc i)))
      ]
      | inr large ↦ inr (λ h. let first : x < 256 = h 0 in omega (arith, first, large))
    ]

by_kind : (clnp : Bool) (a : Option OptionRefusal) (b : Option EsisRefusal) → MatchBool clnp (a ≡ None) (b ≡ None) ⊎ (MatchBool clnp (a ≡ None) (b ≡ None) → ⊥)
by_kind true None b = inl refl
by_kind true (Some r) b = inr (λ h. cc h)
by_kind false a None = inl refl
by_kind false a (Some r) = inr (λ h. cc h)

-- the line that shows the frame is this one or another
by_line : OneLine → (line frame other : List ℕ) → IsBytes frame → IsAccepted frame → Shows frame other → (b : Bool) → bytes_eq other line ≡ b
    → Packs line frame ⊎ (Packs line frame → ⊥)
by_line one line frame other bytes accepted shows true e =
    inl (record { octets = bytes; accepted = accepted; shown = subst (Shows frame) (same_from other line e) shows })
by_line one line frame other bytes accepted shows false e =
    inr (λ p. true≢false (sym (same_from_equal other line (one frame other line shows p.shown)) ∙ e))

packs_or_not : SomeLine → OneLine → (line frame : List ℕ) → Packs line frame ⊎ (Packs line frame → ⊥)
packs_or_not some one line frame =
    elim (are_bytes frame) [
      | inl bytes ↦ elim (by_kind (octet frame 1 == 0x81) (refusal frame) (why_refused frame)) [
        | inl accepted ↦
            let shown = some frame bytes in
            by_line one line frame shown.0 bytes accepted shown.1 (bytes_eq shown.0 line) refl
        | inr not ↦ inr (λ p. not p.accepted)
      ]
      | inr not ↦ inr (λ p. not p.octets)
    ]

-- ---- something comes of a line

of_size : (line frame : List ℕ) → Packs line frame → (outcome : Outcome) × ComesOf outcome line
of_size line frame is =
    elim (cases_lt most_octets (length frame)) [
      | inl many ↦ (TooLong, record { frame = frame; packs = is; many = many })
      | inr few ↦ (Frame frame, record { packs = is; few = few })
    ]

-- the words of the line can say this frame alone
of_frame : (line frame : List ℕ) → IsAsked line → frame_of (words_of line) ≡ Some frame → Packs line frame ⊎ (Packs line frame → ⊥)
    → (outcome : Outcome) × ComesOf outcome line
of_frame line frame asks is (inl packs) = of_size line frame packs
of_frame line frame asks is (inr not) = (
  NotShown,
  record {
    asked = asks;
    none = λ other is_other.
        let same : other ≡ frame = one_some (frame_of (words_of line)) other frame (read_back line other is_other) is in
        not (subst (Packs line) same is_other);
  },
)

of_asked : SomeLine → OneLine → (line : List ℕ) → IsAsked line → (found : Option (List ℕ)) → frame_of (words_of line) ≡ found
    → (outcome : Outcome) × ComesOf outcome line
of_asked some one line asks (Some frame) is = of_frame line frame asks is (packs_or_not some one line frame)
of_asked some one line asks None is = (
  NotShown,
  record { asked = asks; none = λ frame packs. let e : Some frame ≡ None = sym (read_back line frame packs) ∙ is in cc e },
)

of_line : SomeLine → OneLine → (line : List ℕ) (skipped unpackable : Bool) → is_skipped line ≡ skipped → is_unpackable line ≡ unpackable
    → (outcome : Outcome) × ComesOf outcome line
of_line some one line true unpackable e f = (Skipped, e)
of_line some one line false true e f = (NotPackable, f)
of_line some one line false false e f = of_asked some one line (record { unskipped = e; packable = f }) (frame_of (words_of line)) refl

pub some_outcome : SomeLine → OneLine → (line : List ℕ) → (outcome : Outcome) × ComesOf outcome line
some_outcome some one line = of_line some one line (is_skipped line) (is_unpackable line) refl refl

-- ---- one thing alone comes of a line

skipped_alone : (other : Outcome) (line : List ℕ) → is_skipped line ≡ true → ComesOf other line → Skipped ≡ other
skipped_alone Skipped line h is = refl
skipped_alone NotPackable line h is = absurd (skipped_packable line h is)
skipped_alone NotShown line h is = absurd (not_skipped line h is.asked)
skipped_alone TooLong line h is = absurd (not_skipped line h (asked line is.frame is.packs))
skipped_alone (Frame octets) line h is = absurd (not_skipped line h (asked line octets is.packs))

not_packable_alone : (other : Outcome) (line : List ℕ) → is_unpackable line ≡ true → ComesOf other line → NotPackable ≡ other
not_packable_alone Skipped line h is = absurd (skipped_packable line is h)
not_packable_alone NotPackable line h is = refl
not_packable_alone NotShown line h is = absurd (not_unpackable line h is.asked)
not_packable_alone TooLong line h is = absurd (not_unpackable line h (asked line is.frame is.packs))
not_packable_alone (Frame octets) line h is = absurd (not_unpackable line h (asked line octets is.packs))

not_shown_alone : (other : Outcome) (line : List ℕ) → IsNotShown line → ComesOf other line → NotShown ≡ other
not_shown_alone Skipped line h is = absurd (not_skipped line is h.asked)
not_shown_alone NotPackable line h is = absurd (not_unpackable line is h.asked)
not_shown_alone NotShown line h is = refl
not_shown_alone TooLong line h is = absurd (h.none is.frame is.packs)
not_shown_alone (Frame octets) line h is = absurd (h.none octets is.packs)

too_long_alone : (other : Outcome) (line : List ℕ) → PacksTooMuch line → ComesOf other line → TooLong ≡ other
too_long_alone Skipped line h is = absurd (not_skipped line is (asked line h.frame h.packs))
too_long_alone NotPackable line h is = absurd (not_unpackable line is (asked line h.frame h.packs))
too_long_alone NotShown line h is = absurd (is.none h.frame h.packs)
too_long_alone TooLong line h is = refl
too_long_alone (Frame octets) line h is = absurd (not_both line h octets is)

frame_alone : (other : Outcome) (line frame : List ℕ) → PacksWithin line frame → ComesOf other line → Frame frame ≡ other
frame_alone Skipped line frame h is = absurd (not_skipped line is (asked line frame h.packs))
frame_alone NotPackable line frame h is = absurd (not_unpackable line is (asked line frame h.packs))
frame_alone NotShown line frame h is = absurd (is.none frame h.packs)
frame_alone TooLong line frame h is = absurd (not_both line is frame h)
frame_alone (Frame octets) line frame h is = ap Frame (one_frame line frame octets h.packs is.packs)

pub alone : (one other : Outcome) (line : List ℕ) → ComesOf one line → ComesOf other line → one ≡ other
alone Skipped other line h is = skipped_alone other line h is
alone NotPackable other line h is = not_packable_alone other line h is
alone NotShown other line h is = not_shown_alone other line h is
alone TooLong other line h is = too_long_alone other line h is
alone (Frame octets) other line h is = frame_alone other line octets h is
