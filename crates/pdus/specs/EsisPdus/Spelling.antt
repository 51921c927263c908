-- The octets that spell an ES-IS value (ISO 9542, section 7).
use Rattle.std.specs.Prelude.{ℕ, ◌+◌, if◌then◌else◌, List, [], ◌∷◌, ◌++◌, length, Option, None, Some}
use Rattle.pdus.specs.Fletcher.Checksum.{sealed}
use Rattle.pdus.specs.ClnpOptions.Parameter.{spelled}
use Rattle.pdus.specs.ClnpOptions.Grammar.{joined}
use Rattle.pdus.specs.PduHeader.Spelling.{counted, pair_of}
use Rattle.pdus.specs.declared.esis_pdus.pdu.EsisBody.{EsisBody}
use Rattle.pdus.specs.declared.esis_pdus.pdu.EsisBody.TheVariants.{Esh, Ish, Rd}
use Rattle.pdus.specs.EsisPdus.Value.{EsisValue}

-- the type of an end system hello, an intermediate system hello, a redirect (section 7.2)
abbrev pub type_code : EsisBody → ℕ
type_code (Esh addresses) = 2
type_code (Ish title) = 4
type_code (Rd to via title) = 6

-- a redirect's network entity title, none where the better hop is the destination itself
abbrev pub title_octets : Option (List ℕ) → List ℕ
title_octets None = []
title_octets (Some title) = title

-- the address parts: each address, the subnetwork address and the title behind its length (sections 7.3, 7.4, 7.6 to 7.8)
abbrev pub body_octets : EsisBody → List ℕ
body_octets (Esh addresses) = length addresses ∷ joined addresses
body_octets (Ish title) = counted title
body_octets (Rd to via title) = counted to ++ (counted via ++ counted (title_octets title))

-- what follows the fixed part: address parts and options (section 7.5)
abbrev pub variable_part : EsisValue → List ℕ
variable_part v = body_octets v.body ++ spelled v.options

-- the fixed part has nine octets
abbrev pub header_length : EsisValue → ℕ
header_length v = 9 + length (variable_part v)

-- the fixed part of a header of this length, type and holding time, with 0 in both checksum octets (section 7.2)
abbrev pub fixed_part : ℕ → ℕ → ℕ → List ℕ
fixed_part size type holding = 0x82 ∷ size ∷ 1 ∷ 0 ∷ type ∷ (pair_of holding ++ (0 ∷ 0 ∷ []))

-- the PDU with 0 in both checksum octets
abbrev pub unsealed : EsisValue → List ℕ
unsealed v = fixed_part (header_length v) (type_code v.body) v.holding ++ variable_part v

-- an ES-IS PDU is a header with no data
abbrev pub spelling : EsisValue → List ℕ
spelling v = if v.sealed then sealed (unsealed v) else unsealed v
