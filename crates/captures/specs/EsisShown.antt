-- The line of text that shows an ES-IS frame (ISO 9542), and every frame that is neither CLNP nor ES-IS.
use Rattle.std.specs.Prelude.{◌≡◌, ℕ, List, [], ◌∷◌, ◌++◌, codes, MatchOption}
use Rattle.std.specs.Fmt.{decimal}
use Rattle.pdus.specs.Nsap.Text.{hex_text}
use Rattle.pdus.specs.declared.esis_pdus.pdu.EsisBody.{EsisBody}
use Rattle.pdus.specs.declared.esis_pdus.pdu.EsisBody.TheVariants.{Esh, Ish, Rd}
use Rattle.pdus.specs.declared.esis_pdus.pdu.EsisRefusal.{EsisRefusal}
use Rattle.pdus.specs.declared.esis_pdus.pdu.EsisRefusal.TheVariants.{NotEsis, Broken}
use Rattle.pdus.specs.EsisPdus.Value.{EsisValue}
use Rattle.pdus.specs.EsisPdus.Spelling.{title_octets}
use Rattle.pdus.specs.EsisPdus.Grammar.{BeginsWith}
use Rattle.pdus.specs.EsisPdus.Rules.{why_refused}
use Rattle.captures.specs.Words.{octet_word, pair_word, options_text, checksum_of}

-- an end system hello, an intermediate system hello, a redirect
abbrev pub esis_word : EsisBody → List ℕ
esis_word (Esh addresses) = codes "esh"
esis_word (Ish title) = codes "ish"
esis_word (Rd to via title) = codes "rd"

abbrev pub address_text : List ℕ → List ℕ
address_text address = codes " addr=" ++ hex_text address

-- the addresses in order
unfoldable pub addresses_text : List (List ℕ) → List ℕ
addresses_text [] = []
addresses_text (address ∷ others) = address_text address ++ addresses_text others

-- the addresses of an end system hello; the title of an intermediate system hello; the destination, the subnetwork
-- address and the title of a redirect, empty where there is none
unfoldable pub body_text : EsisBody → List ℕ
body_text (Esh addresses) = addresses_text addresses
body_text (Ish title) = codes " title=" ++ hex_text title
body_text (Rd to via title) =
    codes " to=" ++ (hex_text to ++ (codes " via=" ++ (hex_text via ++ (codes " title=" ++ hex_text (title_octets title)))))

-- the line of an ES-IS PDU with this checksum, and of what follows it in its frame
abbrev pub esis_text : EsisValue → ℕ → List ℕ → List ℕ
esis_text v sum rest =
    esis_word v.body ++ (codes " hold=" ++ (decimal v.holding ++ (codes " sum=" ++ (pair_word sum
    ++ (body_text v.body ++ (options_text v.options ++ (codes " rest=" ++ hex_text rest)))))))

-- the line of a frame that is no ES-IS PDU: of another protocol, or with the rule that it breaks and the place
abbrev pub esis_refusal_text : EsisRefusal → List ℕ
esis_refusal_text NotEsis = codes "alien"
esis_refusal_text (Broken rule place) = codes "refused E" ++ (decimal rule ++ (codes " " ++ octet_word place))

-- the line of the ES-IS PDU with which the frame begins
pub record ShowsEsis (frame line : List ℕ) : Type 0 where
  pub value : EsisValue
  pub rest : List ℕ
  pub begins : BeginsWith frame value rest
  pub text : line ≡ esis_text value (checksum_of frame) rest

-- the line of a frame that doesn't begin with 0x81: of its refusal, or else of its PDU
abbrev pub ShowsOther : List ℕ → List ℕ → Type 0
ShowsOther frame line = MatchOption (why_refused frame) (ShowsEsis frame line) (λ refused. line ≡ esis_refusal_text refused)
