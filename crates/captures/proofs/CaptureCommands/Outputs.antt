-- All lines call for some output: each frame has a shown line.
use Rattle.std.proofs.Common.{◌≡◌, ℕ, ◌+◌, Bool, true, false, if◌then◌else◌, List, [], ◌∷◌, ◌++◌, length, Option, Some, None, Result, Ok, Err, refl}
use Rattle.std.specs.Prelude.{nat_lt}
use Rattle.hex.specs.Hex.{IsBytes, decode_of}
use Rattle.hex.specs.declared.error.FromHexError.{FromHexError}
use Rattle.hex.proofs.HexLemmas.{decode_of-ok}
use Rattle.captures.specs.declared.vector.Verdict.{Verdict}
use Rattle.captures.specs.declared.vector.Verdict.TheVariants.{Skip}
use Rattle.captures.specs.Captures as capture
use Rattle.clnp_base.specs.Text.{is_skipped}
use Rattle.captures.specs.Captures.{most_octets, Capture, spelled_capture, capture_of}
use Rattle.captures.specs.Vectors as vector
use Rattle.captures.specs.Vectors.{Vector, vector_of, before_space, from_space, behind_arrow, spelled_vector, Judges}
use Rattle.captures.specs.Shown.{Shows}
use Rattle.captures.specs.declared.capture_commands.check.Tally.{Tally}
use Rattle.captures.specs.CaptureCommands.Show.{ShowsLines, ShowsLine}
use Rattle.captures.specs.CaptureCommands.Check.{ChecksFrom, ChecksLine, tally_text, counting}

-- octets that a text is decoded to are octets
decoded_bytes : (text octets : List ℕ) → decode_of text ≡ Ok octets → IsBytes octets
decoded_bytes text octets is = (decode_of-ok text octets is).3

frame_spelled : (text octets : List ℕ) (spelled : Result (List ℕ) FromHexError) → decode_of text ≡ spelled
    → spelled_capture spelled ≡ capture.Frame octets → IsBytes octets
frame_spelled text octets (Err e) is frame = cc
frame_spelled text octets (Ok found) is frame =
    elim (nat_lt most_octets (length found)) as (λ (many : Bool). (if many then capture.TooLong else capture.Frame found) ≡ capture.Frame octets → IsBytes octets) [
      | true ↦ λ h. cc
      | false ↦ λ h. let e : found ≡ octets = cc in decoded_bytes text octets (rw e at is)
    ] frame

frame_bytes : (line octets : List ℕ) → capture_of line ≡ capture.Frame octets → IsBytes octets
unfolding capture_of
frame_bytes line octets frame =
    elim (is_skipped line) as (λ (skip : Bool). (if skip then capture.Skipped else spelled_capture (decode_of line)) ≡ capture.Frame octets → IsBytes octets) [
      | true ↦ λ h. cc
      | false ↦ λ h. frame_spelled line octets (decode_of line) refl h
    ] frame

vector_spelled : (digits octets expected : List ℕ) (spelled : Result (List ℕ) FromHexError) (arrow : Option (List ℕ)) → decode_of digits ≡ spelled
    → spelled_vector spelled arrow ≡ vector.Expects octets expected → IsBytes octets
vector_spelled digits octets expected (Err e) arrow is expects = cc
vector_spelled digits octets expected (Ok found) None is expects = cc
vector_spelled digits octets expected (Ok []) (Some other) is expects = cc
vector_spelled digits octets expected (Ok (octet ∷ others)) (Some other) is expects =
    elim (nat_lt most_octets (length (octet ∷ others))) as (λ (many : Bool). (if many then vector.TooLong else vector.Expects (octet ∷ others) other) ≡ vector.Expects octets expected → IsBytes octets) [
      | true ↦ λ h. cc
      | false ↦ λ h. let e : octet ∷ others ≡ octets = cc in decoded_bytes digits octets (rw e at is)
    ] expects

vector_bytes : (line octets expected : List ℕ) → vector_of line ≡ vector.Expects octets expected → IsBytes octets
unfolding vector_of
vector_bytes line octets expected expects =
    elim (is_skipped line) as (λ (skip : Bool). (if skip then vector.Skipped else spelled_vector (decode_of (before_space line)) (behind_arrow (from_space line))) ≡ vector.Expects octets expected → IsBytes octets) [
      | true ↦ λ h. cc
      | false ↦ λ h. vector_spelled (before_space line) octets expected (decode_of (before_space line)) (behind_arrow (from_space line)) refl h
    ] expects

-- the law that each frame of octets has a shown line
abbrev pub SomeLine : Type 0
SomeLine = (frame : List ℕ) → IsBytes frame → (line : List ℕ) × Shows frame line

shown_line : SomeLine → (line : List ℕ) (found : Capture) (later : List ℕ → Type 0) → capture_of line ≡ found
    → (rest : List ℕ) × later rest → (output : List ℕ) × ShowsLine found later output
shown_line law line capture.Skipped later is rest = rest
shown_line law line capture.Malformed later is rest = ([], refl)
shown_line law line capture.TooLong later is rest = ([], refl)
shown_line law line (capture.Frame octets) later is rest =
    let shown = law octets (frame_bytes line octets is) in (
      shown.0 ++ (10 ∷ rest.0),
      record { line = shown.0; rest = rest.0; shows = shown.1; goes_on = rest.1; text = refl },
    )

pub some_shown : SomeLine → (lines : List (List ℕ)) → (output : List ℕ) × ShowsLines lines output
some_shown law [] = ([], refl)
some_shown law (line ∷ others) = shown_line law line (capture_of line) (ShowsLines others) refl (some_shown law others)

-- the law that each vector whose frame is of octets has a verdict
abbrev pub SomeVerdict : Type 0
SomeVerdict = (number : ℕ) (octets expected : List ℕ) → IsBytes octets → (verdict : Verdict) × ((text : List ℕ) × Judges number octets expected verdict text)

checked_line : SomeVerdict → (line : List ℕ) (number : ℕ) (found : Vector) (later : Verdict → List ℕ → Type 0) → vector_of line ≡ found
    → ((verdict : Verdict) → (rest : List ℕ) × later verdict rest) → (output : List ℕ) × ChecksLine number found later output
checked_line law line number vector.Skipped later is rest = rest Skip
checked_line law line number vector.Malformed later is rest = ([], refl)
checked_line law line number vector.TooLong later is rest = ([], refl)
checked_line law line number (vector.Expects octets expected) later is rest =
    let judged = law number octets expected (vector_bytes line octets expected is) in
    let others = rest judged.0 in (
      judged.1.0 ++ (10 ∷ others.0),
      record { verdict = judged.0; line = judged.1.0; rest = others.0; judges = judged.1.1; goes_on = others.1; text = refl },
    )

pub some_checked : SomeVerdict → (lines : List (List ℕ)) (number : ℕ) (tally : Tally) → (output : List ℕ) × ChecksFrom tally_text lines number tally output
some_checked law [] number tally = (tally_text tally, refl)
some_checked law (line ∷ others) number tally =
    checked_line law line number (vector_of line) (λ verdict rest. ChecksFrom tally_text others (number + 1) (counting verdict tally) rest) refl
    (λ verdict. some_checked law others (number + 1) (counting verdict tally))
