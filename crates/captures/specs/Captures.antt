-- The lines of a capture: frames in hexadecimal digits, and lines to skip.
use Rattle.std.specs.Prelude.{◌≡◌, ◌↔◌, ℕ, nat_lt, Bool, false, if◌then◌else◌, List, length, Result, Ok, Err}
use Rattle.hex.specs.Hex.{decode_of}
use Rattle.hex.specs.declared.error.FromHexError.{FromHexError}
pub use Rattle.pdus.specs.ClnpBase.Text.{is_skipped}
use Rattle.captures.specs.declared.capture.LineRefusal.{LineRefusal}
use Rattle.captures.specs.declared.capture.LineRefusal.TheVariants.{Syntax, Count}

-- the most octets of a frame
abbrev pub most_octets : ℕ
most_octets = 70000

-- What a line is: one to skip, one of another form, a frame of too many octets, or a frame.
pub data Capture : Type 0 where
  Skipped : Capture
  Malformed : Capture
  TooLong : Capture
  Frame : (octets : List ℕ) → Capture

-- the octets that hexadecimal digits spell, two digits each, in either case; an odd number of digits and any
-- other character spell none
abbrev pub spelled_capture : Result (List ℕ) FromHexError → Capture
spelled_capture (Err e) = Malformed
spelled_capture (Ok octets) = if nat_lt most_octets (length octets) then TooLong else Frame octets

-- what a line of a capture is
unfoldable pub capture_of : List ℕ → Capture
capture_of line = if is_skipped line then Skipped else spelled_capture (decode_of line)

-- the answer to a line tells what it is: to be skipped, of another form, or of too many octets
abbrev pub Tells : Result Bool LineRefusal → Capture → Type 0
Tells answer line =
    ((answer ≡ Ok false) ↔ (line ≡ Skipped)) × ((answer ≡ Err Syntax) ↔ (line ≡ Malformed)) × ((answer ≡ Err Count) ↔ (line ≡ TooLong))
