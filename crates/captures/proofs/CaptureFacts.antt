-- What a line of a capture is, by its first character, its digits and its length.
use Rattle.std.proofs.Common.{arith, ◌≡◌, ◌↔◌, ℕ, ◌*◌, ◌/◌, ◌%◌, ◌<◌, ◌≤◌, Bool, MatchBool, true, false, List, length, Result, Ok, Err, is_ok, IsTrue, refl, sym, ap, ◌∙◌}
use Rattle.std.proofs.lemmas.Grind.{common_steps}
use Rattle.std.specs.List.{AllPass}
use Rattle.hex.specs.Hex.{decode_of, is_hex_digit}
use Rattle.hex.specs.declared.error.FromHexError.{FromHexError}
use Rattle.hex.specs.declared.error.FromHexError.TheVariants.{InvalidHexCharacter}
use Rattle.hex.proofs.HexLemmas.{decode_of-ok, decode_of-digits}
use Rattle.captures.specs.declared.capture.LineRefusal.{LineRefusal}
use Rattle.captures.specs.declared.capture.LineRefusal.TheVariants.{Syntax, Count, NoMemory}
use Rattle.captures.specs.Captures.{Capture, Tells, most_octets, Skipped, Malformed, TooLong, Frame, is_skipped, spelled_capture, capture_of}

abbrev pub Spelled : Type 0
Spelled = Result (List ℕ) FromHexError

pub skipped : (line : List ℕ) → is_skipped line ≡ true → capture_of line ≡ Skipped
unfolding capture_of
skipped line front = rw front refl

pub unskipped : (line : List ℕ) (spelled : Spelled) → is_skipped line ≡ false → decode_of line ≡ spelled
    → capture_of line ≡ spelled_capture spelled
unfolding capture_of
unskipped line spelled front is = rw front (ap spelled_capture is)

of_none : (spelled : Spelled) → is_ok spelled ≡ false → spelled_capture spelled ≡ Malformed
of_none (Ok octets) none = cc
of_none (Err e) none = refl

pub malformed : (line : List ℕ) → is_skipped line ≡ false → is_ok (decode_of line) ≡ false → capture_of line ≡ Malformed
malformed line front none = unskipped line (decode_of line) front refl ∙ of_none (decode_of line) none

of_few : (octets : List ℕ) → length octets ≤ most_octets → spelled_capture (Ok octets) ≡ Frame octets
of_few octets few = grind (arith, common_steps)

of_many : (octets : List ℕ) → most_octets < length octets → spelled_capture (Ok octets) ≡ TooLong
of_many octets many = grind (arith, common_steps)

pub frame : (line octets : List ℕ) → is_skipped line ≡ false → decode_of line ≡ Ok octets → length line / 2 ≤ most_octets
    → capture_of line ≡ Frame octets
frame line octets front is few =
    let sized : length line ≡ 2 * length octets = (decode_of-ok line octets is).2 in
    unskipped line (Ok octets) front is ∙ of_few octets (omega arith)

many_of : (line : List ℕ) (spelled : Spelled) → decode_of line ≡ spelled → is_ok spelled ≡ true → most_octets < length line / 2
    → spelled_capture spelled ≡ TooLong
many_of line (Ok octets) is some many =
    let sized : length line ≡ 2 * length octets = (decode_of-ok line octets is).2 in
    of_many octets (omega arith)
many_of line (Err e) is some many = cc

pub too_long : (line : List ℕ) → is_skipped line ≡ false → is_ok (decode_of line) ≡ true → most_octets < length line / 2
    → capture_of line ≡ TooLong
too_long line front some many =
    unskipped line (decode_of line) front refl ∙ many_of line (decode_of line) refl some many

frame_of : (line : List ℕ) (spelled : Spelled) → is_skipped line ≡ false → decode_of line ≡ spelled → is_ok spelled ≡ true
    → length line / 2 ≤ most_octets → (octets : List ℕ) × (capture_of line ≡ Frame octets)
frame_of line (Ok octets) front is some few = (octets, frame line octets front is few)
frame_of line (Err e) front is some few = cc

pub is_frame : (line : List ℕ) → is_skipped line ≡ false → is_ok (decode_of line) ≡ true → length line / 2 ≤ most_octets
    → (octets : List ℕ) × (capture_of line ≡ Frame octets)
is_frame line front some few = frame_of line (decode_of line) front refl some few

-- a text is decoded where it has two digits for each octet
pub decodes : (line : List ℕ) → length line % 2 ≡ 0 → AllPass is_hex_digit line → is_ok (decode_of line) ≡ true
decodes line even digits = let d = decode_of-digits line even digits in ap is_ok d.1

decoded_as : (line : List ℕ) (spelled : Spelled) → decode_of line ≡ spelled → is_ok spelled ≡ true
    → (length line % 2 ≡ 0) × AllPass is_hex_digit line
decoded_as line (Ok octets) is some = let d = decode_of-ok line octets is in (d.0, d.1)
decoded_as line (Err e) is some = cc

pub decoded : (line : List ℕ) → is_ok (decode_of line) ≡ true → (length line % 2 ≡ 0) × AllPass is_hex_digit line
decoded line some = decoded_as line (decode_of line) refl some

not_true : (b : Bool) → (b ≡ true → false ≡ true) → false ≡ b
not_true true never = never refl
not_true false never = refl

-- a test of the digits of an even number of characters tells whether the text is decoded
pub tells : (test : Bool) (line : List ℕ) → IsTrue test ↔ AllPass is_hex_digit line → length line % 2 ≡ 0
    → test ≡ is_ok (decode_of line)
tells true line digits even = sym (decodes line even (digits.0 refl))
tells false line digits even = not_true (is_ok (decode_of line)) (λ some. digits.1 (decoded line some).1)

not_decoded : (line : List ℕ) (spelled : Spelled) → decode_of line ≡ spelled → length line % 2 ≡ 1 → is_ok spelled ≡ false
not_decoded line (Ok octets) is odd = let d = decode_of-ok line octets is in absurd (omega (arith, d.0))
not_decoded line (Err e) is odd = refl

told_malformed : Tells (Err Syntax) Malformed
told_malformed = ((λ h. cc, λ h. cc), (λ h. refl, λ h. refl), (λ h. cc, λ h. cc))

pub told_skipped : (line : List ℕ) → is_skipped line ≡ true → Tells (Ok false) (capture_of line)
told_skipped line front = rw (skipped line front) ((λ h. refl, λ h. refl), (λ h. cc, λ h. cc), (λ h. cc, λ h. cc))

pub told_frame : (line octets : List ℕ) → is_skipped line ≡ false → decode_of line ≡ Ok octets → length line / 2 ≤ most_octets
    → Tells (Ok true) (capture_of line)
told_frame line octets front is few = rw (frame line octets front is few) ((λ h. cc, λ h. cc), (λ h. cc, λ h. cc), (λ h. cc, λ h. cc))

pub told_odd : (line : List ℕ) → is_skipped line ≡ false → length line % 2 ≡ 1 → Tells (Err Syntax) (capture_of line)
told_odd line front odd = rw (malformed line front (not_decoded line (decode_of line) refl odd)) told_malformed

pub told_bad : (line : List ℕ) (character place : ℕ) → is_skipped line ≡ false → decode_of line ≡ Err (InvalidHexCharacter character place)
    → Tells (Err Syntax) (capture_of line)
told_bad line character place front is = rw (malformed line front (ap is_ok is)) told_malformed

-- what an answer tells that is this one where the line has the form of a capture
told_unless : (test : Bool) (answer other : LineRefusal) (found : Capture) → MatchBool test (answer ≡ other) (answer ≡ Syntax)
    → (test ≡ true → Tells (Err other) found) → (test ≡ false → found ≡ Malformed) → Tells (Err answer) found
told_unless true answer other found is some none = rw is (some refl)
told_unless false answer other found is some none = rw (is, none refl) told_malformed

pub told_long : (line : List ℕ) (answer : LineRefusal) → is_skipped line ≡ false → most_octets < length line / 2
    → MatchBool (is_ok (decode_of line)) (answer ≡ Count) (answer ≡ Syntax) → Tells (Err answer) (capture_of line)
told_long line answer front many is =
    told_unless (is_ok (decode_of line)) answer Count (capture_of line) is
    (λ some. rw (too_long line front some many) ((λ h. cc, λ h. cc), (λ h. cc, λ h. cc), (λ h. refl, λ h. refl)))
    (λ none. malformed line front none)

pub told_unread : (line : List ℕ) (answer : LineRefusal) → is_skipped line ≡ false → length line / 2 ≤ most_octets
    → MatchBool (is_ok (decode_of line)) (answer ≡ NoMemory) (answer ≡ Syntax) → Tells (Err answer) (capture_of line)
told_unread line answer front few is =
    told_unless (is_ok (decode_of line)) answer NoMemory (capture_of line) is
    (λ some. let e = is_frame line front some few in rw e.1 ((λ h. cc, λ h. cc), (λ h. cc, λ h. cc), (λ h. cc, λ h. cc)))
    (λ none. malformed line front none)
