-- What an error report tells (ISO 8473, sections 7.9.5 and 7.9.6).
use Rattle.std.specs.Prelude.{◌≡◌, ℕ, List, [], Contains, unwrap_or}
use Rattle.pdus.specs.ClnpOptions.Parameter.{Parameter, reason}
use Rattle.pdus.specs.ClnpOptions.Edits.{value_of}
use Rattle.pdus.specs.PduHeader.Rules.{octet}
use Rattle.pdus.specs.declared.pdu_header.kind.Kind.TheVariants.{Er}
use Rattle.pdus.specs.PduHeader.Value.{PduValue}
use Rattle.pdus.specs.MadePdus.Report.{reason_option}

-- a PDU is an error report of the discard of a PDU with this header, for a reason and with a place
pub record Tells (v : PduValue) (cause place : ℕ) (discarded : List ℕ) : Type 0 where
  pub kind : v.kind ≡ Er
  pub reason : Contains v.options (reason_option cause place)
  pub data_are : v.body ≡ discarded

-- the octets of the reason for discard among options
abbrev pub reason_octets : List Parameter → List ℕ
reason_octets options = unwrap_or (value_of reason options) []

-- the reason's code, and the place, as a report with these options tells them
abbrev pub cause_in : List Parameter → ℕ
cause_in options = octet (reason_octets options) 1

abbrev pub place_in : List Parameter → ℕ
place_in options = octet (reason_octets options) 2
