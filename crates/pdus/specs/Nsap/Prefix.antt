-- Prefixes of NSAP addresses: hexadecimal digits, as the numbers 0 to 15.
use Rattle.std.specs.Prelude.{ℕ, ◌/◌, ◌%◌, ◌<◌, ◌≤◌, nat_eq, nat_le, Bool, if◌then◌else◌, List, [], ◌∷◌, codes, length, map, slice_index, unwrap_or, Option, Some, None, Result, Ok, Err}
use Rattle.std.specs.List.{flat_map, starts_with}
use Rattle.std.specs.Str.{bytes_eq}
use Rattle.hex.specs.Hex.{hex_digit_value, lower_digits}
use Rattle.pdus.specs.Nsap.Text.{bad_digit, without_dots}
use Rattle.pdus.specs.declared.nsap.fault.NsapFault.{NsapFault}
use Rattle.pdus.specs.declared.nsap.fault.NsapFault.TheVariants.{BadDigit, TooManyDigits}

-- a prefix is 0 to 40 digits
pub record IsPrefix (digits : List ℕ) : Type 0 where
  pub few : length digits ≤ 40
  pub small : (i : ℕ) → slice_index digits i < 16

-- the two digits of an octet, the high one first
abbrev pub digits_of_octet : ℕ → List ℕ
digits_of_octet octet = octet / 16 ∷ octet % 16 ∷ []

-- the digits of an address
abbrev pub digits_of : List ℕ → List ℕ
digits_of octets = flat_map digits_of_octet octets

-- a prefix covers the addresses whose digits begin with its own
abbrev pub covers : List ℕ → List ℕ → Bool
covers digits octets = starts_with nat_eq (digits_of octets) digits

-- ---- how a text is read

-- the text of the prefix of no digits, which covers every address
abbrev pub is_star : List ℕ → Bool
is_star text = bytes_eq text (codes "*")

-- what a hexadecimal digit in either case is worth
abbrev pub digit_value : ℕ → ℕ
digit_value c = unwrap_or (hex_digit_value c) 0

-- the prefix of these hexadecimal digits, unless they are too many
abbrev pub prefix_spelled : List ℕ → Result (List ℕ) NsapFault
prefix_spelled digits = if nat_le (length digits) 40 then Ok (map digit_value digits) else Err TooManyDigits

-- the first bad character's place, or else what the digits spell
abbrev pub prefix_or_fault : Option ℕ → List ℕ → Result (List ℕ) NsapFault
prefix_or_fault (Some place) digits = Err (BadDigit place)
prefix_or_fault None digits = prefix_spelled digits

-- What a text is read as: `*` alone is the prefix of no digits, and every other text is read as an address is, its dots skipped.
abbrev pub prefix_of : List ℕ → Result (List ℕ) NsapFault
prefix_of text = if is_star text then Ok [] else prefix_or_fault (bad_digit text) (without_dots text)

-- ---- how a text is written

-- each digit in lower case, without dots; the prefix of no digits is `*`
abbrev pub prefix_text : (digits : List ℕ) → List ℕ
prefix_text [] = codes "*"
prefix_text (digit ∷ digits) = map (λ d. slice_index lower_digits d) (digit ∷ digits)
