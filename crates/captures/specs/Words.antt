-- Words of shown lines, of both protocols.
use Rattle.std.specs.Prelude.{ℕ, List, [], ◌∷◌, ◌++◌, codes}
use Rattle.pdus.specs.Nsap.Text.{hex_text}
use Rattle.pdus.specs.ClnpOptions.Parameter.{Parameter}
use Rattle.pdus.specs.PduHeader.Spelling.{pair_of}
use Rattle.pdus.specs.PduHeader.Rules.{pair_at, header_of}

-- an octet in two hexadecimal digits
abbrev pub octet_word : ℕ → List ℕ
octet_word octet = hex_text (octet ∷ [])

-- a number of two octets in four hexadecimal digits
abbrev pub pair_word : ℕ → List ℕ
pair_word number = hex_text (pair_of number)

abbrev pub option_text : Parameter → List ℕ
option_text option = codes " opt=" ++ (octet_word option.code ++ (codes ":" ++ hex_text option.value))

-- the options in order
unfoldable pub options_text : List Parameter → List ℕ
options_text [] = []
options_text (option ∷ others) = option_text option ++ options_text others

-- the number that the checksum's octets are (ISO 8473, section 7.2.9; ISO 9542, section 7.2)
abbrev pub checksum_of : List ℕ → ℕ
checksum_of frame = pair_at (header_of frame) 8
