-- What the words of a shown line say of a frame, piece by piece in octets. Nothing is judged here but what octets can't
-- hold: the frame that is put together of the pieces is shown again, and packed only where that is the line.
use Rattle.std.specs.Prelude.{ℕ, ◌+◌, ◌/◌, nat_le, nat_lt, if◌then◌else◌, List, [], ◌∷◌, ◌++◌, length, take, drop, Option, None, Some, option_map, option_and_then, Result, Ok, Err}
use Rattle.hex.specs.Hex.{decode_of, decode_sized}
use Rattle.hex.specs.declared.error.FromHexError.{FromHexError}
use Rattle.pdus.specs.ClnpBase.Text.{decimal_of}
use Rattle.pdus.specs.PduHeader.Spelling.{pair_of}

pub record Said : Type 0 where
  -- the lifetime, or the holding time
  pub number : ℕ
  -- the two octets of the checksum
  pub sum : List ℕ
  -- how many addresses of an end system hello
  pub addresses : ℕ
  -- the header's octets behind its fixed part: addresses, segmentation part, options
  pub part : List ℕ
  -- how many octets of data
  pub size : ℕ
  -- the data, and what follows the PDU in its frame
  pub behind : List ℕ

-- what no word says
abbrev pub nothing : Said
nothing = record { number = 0; sum = 0 ∷ 0 ∷ []; addresses = 0; part = []; size = 0; behind = [] }

-- the octets that hexadecimal digits spell, if they do
abbrev pub octets_in : Result (List ℕ) FromHexError → Option (List ℕ)
octets_in (Ok octets) = Some octets
octets_in (Err e) = None

-- octets, and behind them those that digits spell
abbrev pub with_octets : List ℕ → List ℕ → Option (List ℕ)
with_octets front digits = option_map (λ octets. front ++ octets) (octets_in (decode_of digits))

-- the same with their number before them
abbrev pub with_counted : List ℕ → List ℕ → Option (List ℕ)
with_counted front digits =
    if nat_lt 255 (length digits / 2) then None else with_octets (front ++ (length digits / 2) ∷ []) digits

-- the same of an option: two digits are its code, then comes a character, and then its value
abbrev pub with_option : List ℕ → List ℕ → Option (List ℕ)
with_option front text =
    if nat_lt (length text) 3 then None
    else option_and_then (λ coded. with_counted coded (drop 3 text)) (with_octets front (take 2 text))

-- a number that two octets hold
abbrev pub within_pair : Option ℕ → Option ℕ
within_pair None = None
within_pair (Some n) = if nat_le n 65535 then Some n else None

abbrev pub number_in : List ℕ → Option ℕ
number_in digits = within_pair (decimal_of digits)

-- octets, and behind them the two of a number
abbrev pub with_number : List ℕ → List ℕ → Option (List ℕ)
with_number front digits = option_map (λ n. front ++ pair_of n) (number_in digits)

-- Each kind of word, and what is said with it.

abbrev pub says_number : Said → List ℕ → Option Said
says_number said digits = option_map (λ n. record said { number = n }) (number_in digits)

abbrev pub says_sum : Said → List ℕ → Option Said
says_sum said digits = option_map (λ octets. record said { sum = octets }) (octets_in (decode_sized digits 2))

abbrev pub says_data : Said → List ℕ → Option Said
says_data said digits = option_map (λ octets. record said { size = length digits / 2; behind = octets }) (with_octets said.behind digits)

abbrev pub says_rest : Said → List ℕ → Option Said
says_rest said digits = option_map (λ octets. record said { behind = octets }) (with_octets said.behind digits)

abbrev pub says_part : Said → Option (List ℕ) → Option Said
says_part said part = option_map (λ octets. record said { part = octets }) part

abbrev pub says_listed : Said → List ℕ → Option Said
says_listed said digits =
    if nat_lt 254 said.addresses then None
    else option_map (λ octets. record said { part = octets; addresses = said.addresses + 1 }) (with_counted said.part digits)
