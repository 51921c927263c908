-- What comes of packing a line. By a law one thing comes of it (`laws::the_outcome_of_a_line`).
use Rattle.std.specs.Prelude.{◌≡◌, ℕ, true, List}
use Rattle.captures.specs.Captures.{is_skipped}
use Rattle.captures.specs.CaptureText.Packing.{IsNotShown, PacksTooMuch, PacksWithin, is_unpackable}

-- What comes of a line: it is skipped; it is that of a refused frame or of one of neither protocol; it shows no accepted
-- frame; its frame has more octets than a line of a capture may have; or it packs to a frame.
pub data Outcome : Type 0 where
  Skipped : Outcome
  NotPackable : Outcome
  NotShown : Outcome
  TooLong : Outcome
  Frame : (octets : List ℕ) → Outcome

-- what it means of a line that this comes of it
abbrev pub ComesOf : Outcome → List ℕ → Type 0
ComesOf Skipped line = is_skipped line ≡ true
ComesOf NotPackable line = is_unpackable line ≡ true
ComesOf NotShown line = IsNotShown line
ComesOf TooLong line = PacksTooMuch line
ComesOf (Frame octets) line = PacksWithin line octets
