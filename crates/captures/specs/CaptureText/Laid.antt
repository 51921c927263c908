-- The one frame that a line can be of: what its words say, laid out as the standards say (ISO 8473, section 7; ISO 9542,
-- section 7), with the checksum that is shown. The lengths alone are computed.
use Rattle.std.specs.Prelude.{ℕ, ◌+◌, ◌-◌, ◌==◌, ◌||◌, nat_lt, if◌then◌else◌, List, [], ◌∷◌, ◌++◌, length, codes, Option, None, Some, option_and_then}
use Rattle.std.specs.List.{list_any}
use Rattle.std.specs.Str.{bytes_eq}
use Rattle.pdus.specs.PduHeader.Spelling.{pair_of}
use Rattle.captures.specs.CaptureText.Said.{Said, nothing}
use Rattle.captures.specs.CaptureText.Words.{says_words}

-- five octets of the fixed part, a number, the checksum, and what follows the fixed part
abbrev pub laid : List ℕ → ℕ → List ℕ → Said → List ℕ
laid start number counts said = start ++ pair_of number ++ said.sum ++ counts ++ said.part ++ said.behind

-- the type of the kind that a word names (ISO 8473, section 7.2.7; RFC 1575, section 4)
abbrev pub type_of : List ℕ → Option ℕ
type_of word =
    if bytes_eq word (codes "dt") then Some 28
    else if bytes_eq word (codes "er") then Some 1
    else if bytes_eq word (codes "erq") then Some 30
    else if bytes_eq word (codes "erp") then Some 31
    else None

-- what a flag is worth in octet 5, where its letter is shown
abbrev pub flag : ℕ → ℕ → List ℕ → ℕ
flag letter worth letters = if list_any (λ c. c == letter) letters then worth else 0

-- octet 5: the flags s, m and e, and the type
abbrev pub octet_5 : List ℕ → ℕ → ℕ
octet_5 letters type = flag 115 128 letters + flag 109 64 letters + flag 101 32 letters + type

-- the frame of a CLNP PDU with this octet 5
abbrev pub clnp_frame : ℕ → Said → Option (List ℕ)
clnp_frame flags said =
    if nat_lt 254 (9 + length said.part) || (nat_lt 255 said.number || nat_lt (65535 - (9 + length said.part)) said.size) then None
    else Some (laid (0x81 ∷ (9 + length said.part) ∷ 1 ∷ said.number ∷ flags ∷ []) (9 + length said.part + said.size) [] said)

-- the frame of an ES-IS PDU of this type, with a number of addresses before them or none
abbrev pub esis_frame : ℕ → List ℕ → Said → Option (List ℕ)
esis_frame type counts said =
    if nat_lt 254 (9 + length counts + length said.part) then None
    else Some (laid (0x82 ∷ (9 + length counts + length said.part) ∷ 1 ∷ 0 ∷ type ∷ []) said.number counts said)

-- what follows the word `clnp`: a kind, flags, and what is said
abbrev pub clnp_words : List (List ℕ) → Option (List ℕ)
clnp_words (kind ∷ letters ∷ words) =
    option_and_then (λ type. option_and_then (clnp_frame (octet_5 letters type)) (says_words nothing words)) (type_of kind)
clnp_words _ = None

-- the frame of a line of these words
unfoldable pub frame_of : List (List ℕ) → Option (List ℕ)
frame_of [] = None
frame_of (first ∷ words) =
    if bytes_eq first (codes "clnp") then clnp_words words
    else if bytes_eq first (codes "esh") then option_and_then (λ said. esis_frame 2 (said.addresses ∷ []) said) (says_words nothing words)
    else if bytes_eq first (codes "ish") then option_and_then (esis_frame 4 []) (says_words nothing words)
    else if bytes_eq first (codes "rd") then option_and_then (esis_frame 6 []) (says_words nothing words)
    else None
