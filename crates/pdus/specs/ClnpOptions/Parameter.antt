-- The options part of a CLNP header as a list of options (ISO/IEC 8473, section 7.5).
use Rattle.std.specs.Prelude.{ℕ, zero, suc, ◌+◌, List, [], ◌∷◌, ◌++◌, length, take, nat_le, if◌then◌else◌}

-- an option, which the standard calls a parameter: its code, and the octets of its value
pub record Parameter : Type 0 where
  pub code : ℕ
  pub value : List ℕ

abbrev pub padding : ℕ
padding = 0xcc

abbrev pub security : ℕ
security = 0xc5

abbrev pub source_route : ℕ
source_route = 0xc8

abbrev pub recording : ℕ
recording = 0xcb

abbrev pub quality : ℕ
quality = 0xc3

abbrev pub priority : ℕ
priority = 0xcd

abbrev pub reason : ℕ
reason = 0xc1

-- the codes that the table of options has
abbrev pub known_codes : List ℕ
known_codes = padding ∷ security ∷ source_route ∷ recording ∷ quality ∷ priority ∷ reason ∷ []

-- the octets that spell an option: its code, the length of its value, its value
abbrev pub spelling : Parameter → List ℕ
spelling option = option.code ∷ length option.value ∷ option.value

-- the octets that spell a list of options, in order
unfoldable pub spelled : List Parameter → List ℕ
spelled [] = []
spelled (option ∷ others) = spelling option ++ spelled others

-- the number of octets that spell an option
abbrev pub size_of : Parameter → ℕ
size_of option = 2 + length option.value

-- the options that stand whole in these octets, one after another, after the first `skipped` octets
unfoldable pub parameters_after : ℕ → List ℕ → List Parameter
parameters_after skipped [] = []
parameters_after zero (code ∷ []) = []
parameters_after zero (code ∷ size ∷ rest) =
    if nat_le size (length rest)
    then record { code = code; value = take size rest } ∷ parameters_after size rest
    else []
parameters_after (suc skipped) (octet ∷ rest) = parameters_after skipped rest

-- the options that stand whole in a part of a header, from its first octet on
abbrev pub parameters : List ℕ → List Parameter
parameters part = parameters_after 0 part
