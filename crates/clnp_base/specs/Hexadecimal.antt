-- What reading hexadecimal digits gives and refuses.
use Rattle.std.specs.Prelude.{◌≡◌, ℕ, ◌<◌, Bool, true, false, List, ◌++◌, length, slice_index, unwrap_or, Result, Ok, Err}
use Rattle.hex.specs.Hex.{decode_of, decode_pairs, hex_digit_value}
use Rattle.hex.specs.declared.error.FromHexError.{FromHexError}
use Rattle.hex.specs.declared.error.FromHexError.TheVariants.{InvalidHexCharacter}

-- the octets that the digits spell were appended
pub record AppendsSpelled (digits old new : List ℕ) : Type 0 where
  pub octets : List ℕ
  pub spelled : decode_of digits ≡ Ok octets
  pub appended : new ≡ old ++ octets

-- digits are refused because of a character that is none, at some place
abbrev pub IsDigitRefusal : Result (List ℕ) FromHexError → Type 0
IsDigitRefusal answer = (character place : ℕ) × (answer ≡ Err (InvalidHexCharacter character place))

-- the octets are those that pairs of digits spell; or not all characters are digits
abbrev pub Spells : Bool → (digits octets : List ℕ) → Type 0
Spells true digits octets = decode_pairs 0 digits ≡ Ok octets
Spells false digits octets = IsDigitRefusal (decode_pairs 0 digits)

-- what a character is worth as a digit, and 255 where it is none
abbrev pub worth : ℕ → ℕ
worth character = unwrap_or (hex_digit_value character) 255

-- under each character of a text stands what it is worth
abbrev pub AreTold : (values text : List ℕ) → Type 0
AreTold values text = (i : ℕ) → i < length text → slice_index values (slice_index text i) ≡ worth (slice_index text i)

-- at the place of each character stands what it is worth, and 255 where it is no digit
abbrev pub AreWorths : List ℕ → Type 0
AreWorths values = (character : ℕ) → character < 256 → slice_index values character ≡ worth character
