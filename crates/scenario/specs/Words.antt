-- The words of a scenario text: each gives its value, or the code of what is wrong with it.
use Rattle.std.specs.Prelude.{ℕ, ◌+◌, ◌==◌, ◌&&◌, not, nat_le, Bool, true, false, if◌then◌else◌, List, [], ◌∷◌, take, drop, length, codes, Option, None, Some, is_some, option_map, Result, Ok, Err}
use Rattle.std.specs.List.{list_all, list_any, position}
use Rattle.std.specs.Str.{bytes_eq}
use Rattle.hex.specs.Hex.{decode_of}
use Rattle.hex.specs.declared.error.FromHexError.{FromHexError}
use Rattle.clnp_plan.specs.ClnpBase.Text.{decimal_of, is_digit}
use Rattle.clnp_plan.specs.ClnpOptions.Rules.{refusal}
use Rattle.clnp_plan.specs.Nsap.Prefix.{prefix_of}
use Rattle.clnp_plan.specs.Pdus.declared.nsap.target.Target.{Target}
use Rattle.clnp_plan.specs.Pdus.declared.nsap.target.Target.TheVariants.{System, EndSystems, Routers}
use Rattle.clnp_plan.specs.Nsap.Text.{octets_of}
use Rattle.clnp_plan.specs.Pdus.declared.nsap.fault.NsapFault.{NsapFault}
pub use Rattle.clnp_plan.specs.ScenarioPlan.Names.{is_letter, is_letter_or_digit, begins_with_letter, is_name}
use Rattle.scenario.specs.declared.code.Code.{Code}
use Rattle.scenario.specs.declared.code.Code.TheVariants as bad
use Rattle.clnp_plan.specs.declared.scenario_plan.event.Body.{Body}
use Rattle.clnp_plan.specs.declared.scenario_plan.event.Body.TheVariants.{Hex, Pattern}

infixl 10 ◌>>=◌
abbrev pub ◌>>=◌ : {A B E : Type 0} → Result A E → (A → Result B E) → Result B E
(Ok x) >>= f = f x
(Err e) >>= f = Err e

-- the word stands, or the code
abbrev pub wanted : Bool → Code → Result (Unit {0}) Code
wanted true code = Ok tt
wanted false code = Err code

-- the value, or the code where there is none
abbrev pub found : {A : Type 0} → Option A → Code → Result A Code
found None code = Err code
found (Some x) code = Ok x

-- this very word
abbrev pub literal : List ℕ → List ℕ → Result (Unit {0}) Code
literal text word = wanted (bytes_eq word text) bad.Syntax

abbrev pub name_word : List ℕ → Result (List ℕ) Code
name_word word = wanted (is_name word) bad.Syntax >>= λ _. Ok word

-- the place of a name among the declared ones
abbrev pub declared_word : List (List ℕ) → List ℕ → Result ℕ Code
declared_word names word = wanted (is_name word) bad.Syntax >>= λ _. found (position (λ name. bytes_eq name word) names) bad.UnknownName

abbrev pub number_within : ℕ → ℕ → Option ℕ → Option ℕ
number_within low high None = None
number_within low high (Some n) = if nat_le low n && nat_le n high then Some n else None

-- a decimal from low to high
abbrev pub number_word : ℕ → ℕ → List ℕ → Result ℕ Code
number_word low high word = found (number_within low high (decimal_of word)) bad.Number

-- one or more digits
abbrev pub is_digits : List ℕ → Bool
is_digits word = not (length word == 0) && list_all is_digit word

abbrev pub address_read : Result (List ℕ) NsapFault → Result (List ℕ) Code
address_read (Ok octets) = Ok octets
address_read (Err fault) = Err bad.Address

-- an NSAP address, or the address of a port on its subnetwork
abbrev pub address_word : List ℕ → Result (List ℕ) Code
address_word word = address_read (octets_of word)

-- a prefix of NSAP addresses
abbrev pub prefix_word : List ℕ → Result (List ℕ) Code
prefix_word word = address_read (prefix_of word)

-- what follows a prefix that ends in `:` or `=`
abbrev pub after_prefix : List ℕ → List ℕ → Result (List ℕ) Code
after_prefix prefix word = wanted (bytes_eq (take (length prefix) word) prefix) bad.Syntax >>= λ _. Ok (drop (length prefix) word)

abbrev pub digits_read : Result (List ℕ) FromHexError → Result (List ℕ) Code
digits_read (Ok octets) = Ok octets
digits_read (Err e) = Err bad.Address

-- whether a word begins so
abbrev pub has_prefix : List ℕ → List ℕ → Bool
has_prefix prefix word = bytes_eq (take (length prefix) word) prefix

-- `es`, all end systems, or `is`, all intermediate systems, or else an address on the subnetwork
abbrev pub target_word : List ℕ → Result Target Code
target_word word =
    if bytes_eq word (codes "es") then Ok EndSystems
    else if bytes_eq word (codes "is") then Ok Routers
    else (address_word word >>= λ snpa. Ok (System snpa))

-- an even number of hexadecimal digits
abbrev pub frame_word : List ℕ → Result (List ℕ) Code
frame_word word = digits_read (decode_of word)

-- an even number of hexadecimal digits behind a prefix
abbrev pub octets_behind : List ℕ → List ℕ → Result (List ℕ) Code
octets_behind prefix word = after_prefix prefix word >>= λ digits. digits_read (decode_of digits)

-- a number behind a prefix, from low to high
abbrev pub number_behind : List ℕ → ℕ → ℕ → List ℕ → Result ℕ Code
number_behind prefix low high word = after_prefix prefix word >>= number_word low high

abbrev pub is_colon : ℕ → Bool
is_colon c = c == 58

-- what stands before a place and behind it, unless a `:` stands behind it
abbrev pub fields_at : List ℕ → Option ℕ → Option (List ℕ × List ℕ)
fields_at text None = None
fields_at text (Some at) = if list_any is_colon (drop (at + 1) text) then None else Some (take at text, drop (at + 1) text)

-- the two fields into which a text is cut by its only `:`
abbrev pub two_fields : List ℕ → Option (List ℕ × List ℕ)
two_fields text = fields_at text (position is_colon text)

-- how many octets of a pattern, and where it starts
abbrev pub pattern_word : List ℕ → Result Body Code
pattern_word word = do
  text ← after_prefix (codes "pat:") word
  fields ← found (two_fields text) bad.Syntax
  len ← number_word 0 70000 fields.0
  start ← number_word 0 255 fields.1
  Ok (Pattern len start)

-- `pat:`, a length, `:` and a start, or `hex:` and the octets
abbrev pub data_word : List ℕ → Result Body Code
data_word word =
    if has_prefix (codes "pat:") word then pattern_word word
    else (octets_behind (codes "hex:") word >>= λ octets. Ok (Hex octets))

-- `life=` and 1 to 255
abbrev pub life_word : List ℕ → Result ℕ Code
life_word word = number_behind (codes "life=") 1 255 word

-- octets that spell options as the header of a data unit may have them
abbrev pub options_read : List ℕ → Result (List ℕ) Code
options_read octets = wanted (nat_le (length octets) 254 && not (is_some (refusal octets 1 false))) bad.Address >>= λ _. Ok octets

-- `opt=` and the octets of options
abbrev pub options_word : List ℕ → Result (List ℕ) Code
options_word word = octets_behind (codes "opt=") word >>= options_read

-- How many words a line has.

-- exactly one word
abbrev pub one_word : List (List ℕ) → Option (List ℕ)
one_word (word ∷ []) = Some word
one_word _ = None

-- exactly two words
abbrev pub two_words : List (List ℕ) → Option (List ℕ × List ℕ)
two_words (a ∷ words) = option_map (λ b. (a, b)) (one_word words)
two_words [] = None

-- exactly three words
abbrev pub three_words : List (List ℕ) → Option (List ℕ × List ℕ × List ℕ)
three_words (a ∷ words) = option_map (λ w. (a, w.0, w.1)) (two_words words)
three_words [] = None

-- exactly four words
abbrev pub four_words : List (List ℕ) → Option (List ℕ × List ℕ × List ℕ × List ℕ)
four_words (a ∷ words) = option_map (λ w. (a, w.0, w.1, w.2)) (three_words words)
four_words [] = None

-- exactly five words
abbrev pub five_words : List (List ℕ) → Option (List ℕ × List ℕ × List ℕ × List ℕ × List ℕ)
five_words (a ∷ words) = option_map (λ w. (a, w.0, w.1, w.2, w.3)) (four_words words)
five_words [] = None

-- no word or one
abbrev pub is_one_at_most : List (List ℕ) → Bool
is_one_at_most (a ∷ b ∷ words) = false
is_one_at_most _ = true

-- the first two words, and those behind them
abbrev pub first_two : List (List ℕ) → Option (List ℕ × List ℕ × List (List ℕ))
first_two (a ∷ b ∷ words) = Some (a, b, words)
first_two _ = None

-- the first four words, and those behind them
abbrev pub first_four : List (List ℕ) → Option (List ℕ × List ℕ × List ℕ × List ℕ × List (List ℕ))
first_four (a ∷ b ∷ c ∷ d ∷ words) = Some (a, b, c, d, words)
first_four _ = None

-- whether a name is among some
abbrev pub is_taken : List (List ℕ) → List ℕ → Bool
is_taken names name = is_some (position (λ other. bytes_eq other name) names)

-- whether no two of a list have the same key
abbrev pub each_once : {X : Type 0} → (X → List ℕ) → List X → Bool
each_once key [] = true
each_once key (x ∷ xs) = not (list_any (λ y. bytes_eq (key y) (key x)) xs) && each_once key xs
