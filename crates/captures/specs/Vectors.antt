-- The lines of a file of vectors: a frame in hexadecimal digits, ` => `, and the line that is expected to show it.
use Rattle.std.specs.Prelude.{◌≡◌, ℕ, ◌==◌, nat_lt, if◌then◌else◌, List, [], ◌∷◌, ◌++◌, codes, length, take, drop, Option, None, Some, Result, Ok, Err}
use Rattle.std.specs.Fmt.{decimal}
use Rattle.std.specs.Str.{bytes_eq}
use Rattle.hex.specs.Hex.{decode_of}
use Rattle.hex.specs.declared.error.FromHexError.{FromHexError}
use Rattle.captures.specs.declared.vector.Verdict.{Verdict}
use Rattle.captures.specs.declared.vector.Verdict.TheVariants.{Skip, Pass, Fail}
use Rattle.captures.specs.Captures.{is_skipped, most_octets}
use Rattle.captures.specs.Shown.{Shows}

-- What a line is: one to skip, one of another form, a frame of too many octets, or a frame and the line that is expected.
pub data Vector : Type 0 where
  Skipped : Vector
  Malformed : Vector
  TooLong : Vector
  Expects : (octets expected : List ℕ) → Vector

-- what stands before the first space (32)
abbrev pub before_space : List ℕ → List ℕ
before_space [] = []
before_space (c ∷ cs) = if c == 32 then [] else c ∷ before_space cs

-- what stands from the first space on
abbrev pub from_space : List ℕ → List ℕ
from_space [] = []
from_space (c ∷ cs) = if c == 32 then c ∷ cs else from_space cs

-- what follows ` => ` (32, 61, 62, 32) at the front
abbrev pub behind_arrow : List ℕ → Option (List ℕ)
behind_arrow text = if bytes_eq (take 4 text) (codes " => ") then Some (drop 4 text) else None

-- a frame has one octet at least, and 70,000 at most
abbrev pub expecting : List ℕ → List ℕ → Vector
expecting [] expected = Malformed
expecting (octet ∷ octets) expected =
    if nat_lt most_octets (length (octet ∷ octets)) then TooLong else Expects (octet ∷ octets) expected

-- what digits and what follows them are
abbrev pub spelled_vector : Result (List ℕ) FromHexError → Option (List ℕ) → Vector
spelled_vector (Err e) _ = Malformed
spelled_vector (Ok octets) None = Malformed
spelled_vector (Ok octets) (Some expected) = expecting octets expected

-- what a line of a file of vectors is
unfoldable pub vector_of : List ℕ → Vector
vector_of line =
    if is_skipped line then Skipped
    else spelled_vector (decode_of (before_space line)) (behind_arrow (from_space line))

-- a vector passes where the frame's shown line is the expected one
abbrev pub verdict_of : List ℕ → List ℕ → Verdict
verdict_of shown expected = if bytes_eq shown expected then Pass else Fail

-- the verdict on the vector of the line with this number, as text
abbrev pub verdict_text : ℕ → Verdict → List ℕ → List ℕ
verdict_text number Pass shown = decimal number ++ codes " pass"
verdict_text number Fail shown = decimal number ++ (codes " fail " ++ shown)
verdict_text number Skip shown = []

-- the verdict on a vector, and its text
pub record Judges (number : ℕ) (octets expected : List ℕ) (verdict : Verdict) (text : List ℕ) : Type 0 where
  pub shown : List ℕ
  pub shows : Shows octets shown
  pub verdict_is : verdict ≡ verdict_of shown expected
  pub text_is : text ≡ verdict_text number verdict shown

-- the line is a vector, and the text of this verdict on it was appended
pub record JudgesLine (line : List ℕ) (number : ℕ) (verdict : Verdict) (before after : List ℕ) : Type 0 where
  pub octets : List ℕ
  pub expected : List ℕ
  pub is : vector_of line ≡ Expects octets expected
  pub text : List ℕ
  pub judges : Judges number octets expected verdict text
  pub appended : after ≡ before ++ text
