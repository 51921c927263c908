-- Which data of an echo reply answer an echo request (RFC 1575): the request's data, or the whole request as a PDU.
use Rattle.std.specs.Prelude.{◌≡◌, ◌⊎◌, ℕ, ◌==◌, ◌&&◌, ◌||◌, Bool, List, [], is_none}
use Rattle.std.specs.Str.{bytes_eq}
use Rattle.pdus.specs.declared.pdu_header.kind.Kind.TheVariants.{Erq}
use Rattle.pdus.specs.PduHeader.Grammar.{Spells}
use Rattle.pdus.specs.PduHeader.Layout.{protocol, type_code}
use Rattle.pdus.specs.PduHeader.Reading.{body_of, rest_of}
use Rattle.pdus.specs.PduHeader.Rules.{header_of, octet, refusal, type_of}
use Rattle.pdus.specs.PduHeader.Value.{PduValue}

-- the octets are an echo request with these data, and nothing behind it
pub record AreRequest (request_data octets : List ℕ) : Type 0 where
  pub value : PduValue
  pub spells : Spells value octets
  pub kind : value.kind ≡ Erq
  pub data_are : value.body ≡ request_data

-- the same as a test, by the rules of PDUs
abbrev pub are_request : (request_data octets : List ℕ) → Bool
are_request request_data octets =
    octet octets 1 == protocol
    && (is_none (refusal octets)
    && (type_of (header_of octets) == type_code Erq
    && (bytes_eq (body_of octets) request_data && bytes_eq (rest_of octets) [])))

-- the data of a reply answer a request with these data
abbrev pub Echoes : (request_data reply_data : List ℕ) → Type 0
Echoes request_data reply_data = (reply_data ≡ request_data) ⊎ AreRequest request_data reply_data

-- the same as a test
abbrev pub echoes : (request_data reply_data : List ℕ) → Bool
echoes request_data reply_data = bytes_eq reply_data request_data || are_request request_data reply_data
