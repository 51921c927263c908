-- The text of an address: two hexadecimal digits an octet, the high one first, in either case.
-- Dots may stand anywhere in it, and mean nothing.
use Rattle.std.specs.Prelude.{ℕ, ◌==◌, ◌||◌, Bool, not, List, filter, Option, Some, None, Result, Ok, Err}
use Rattle.std.specs.List.{position_from}
use Rattle.hex.specs.Hex.{decode_of, encode_lower, is_hex_digit}
use Rattle.hex.specs.declared.error.FromHexError.{FromHexError}
use Rattle.pdus.specs.Nsap.Address.{address_of}
use Rattle.pdus.specs.declared.nsap.fault.NsapFault.{NsapFault}
use Rattle.pdus.specs.declared.nsap.fault.NsapFault.TheVariants.{Length, BadDigit}

abbrev pub is_dot : ℕ → Bool
is_dot c = c == 46

-- the characters of a text that aren't dots
abbrev pub without_dots : List ℕ → List ℕ
without_dots text = filter (λ c. not (is_dot c)) text

-- whether a character may stand in a text
abbrev pub may_stand : ℕ → Bool
may_stand c = is_dot c || is_hex_digit c

-- the place, from 0, of the first character that is neither a dot nor a hexadecimal digit
abbrev pub bad_digit : List ℕ → Option ℕ
bad_digit text = position_from (λ c. not (may_stand c)) 0 text

-- the address of octets that hexadecimal digits spell; an odd number of digits spells none
abbrev pub address_spelled : Result (List ℕ) FromHexError → Result (List ℕ) NsapFault
address_spelled (Ok octets) = address_of octets
address_spelled (Err e) = Err Length

-- the first bad character's place, or else what the digits spell
abbrev pub octets_or_fault : Option ℕ → List ℕ → Result (List ℕ) NsapFault
octets_or_fault (Some place) digits = Err (BadDigit place)
octets_or_fault None digits = address_spelled (decode_of digits)

-- what a text is read as: the octets of its address, or the fault
unfoldable pub octets_of : List ℕ → Result (List ℕ) NsapFault
octets_of text = octets_or_fault (bad_digit text) (without_dots text)

-- how the octets of an address are written: in lower case, without dots
abbrev pub hex_text : List ℕ → List ℕ
hex_text octets = encode_lower octets
