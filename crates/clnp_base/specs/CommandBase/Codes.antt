-- The codes of what an input that is no scenario text breaks.
use Rattle.std.specs.Prelude.{ℕ}

-- a line of another form, or of another number of words
abbrev pub syntax_code : ℕ
syntax_code = 2

-- a number that isn't decimal, or is out of its range
abbrev pub number_code : ℕ
number_code = 3

-- an address or hexadecimal digits that are none
abbrev pub address_code : ℕ
address_code = 4

-- too many octets of a frame or a PDU
abbrev pub count_code : ℕ
count_code = 10

-- a file that doesn't begin with a magic number
abbrev pub magic_code : ℕ
magic_code = 11

-- another version of a file
abbrev pub version_code : ℕ
version_code = 12

-- another kind of link
abbrev pub link_type_code : ℕ
link_type_code = 13

-- too many octets of a record
abbrev pub record_length_code : ℕ
record_length_code = 14

-- a file that ends within its header or within a record
abbrev pub cut_file_code : ℕ
cut_file_code = 15

-- the shown line of a refused frame, or of one of neither protocol
abbrev pub not_packable_code : ℕ
not_packable_code = 16
