-- The error report of a PDU's discard (ISO 8473, sections 6.10 and 7.9).
use Rattle.std.specs.Prelude.{ℕ, Bool, false, List, [], ◌∷◌, None}
use Rattle.pdus.specs.ClnpOptions.Parameter.{Parameter, reason}
use Rattle.pdus.specs.declared.pdu_header.kind.Kind.TheVariants.{Er}
use Rattle.pdus.specs.PduHeader.Value.{PduValue}
use Rattle.pdus.specs.PduHeader.Rules.{header_of, source_place}
use Rattle.pdus.specs.PduHeader.Reading.{address_at}

-- the reason for discard, with the place in the discarded header of the octet at fault (section 7.9.5)
abbrev pub reason_option : (cause place : ℕ) → Parameter
reason_option cause place = record { code = reason; value = cause ∷ place ∷ [] }

-- A report from one address to another, with a discarded header for its data. No report of itself is wanted, it may not
-- be segmented, and the reason for discard is its one option.
abbrev pub report_between : (own source : List ℕ) → (cause place life : ℕ) → (is_sealed : Bool)
    → (discarded : List ℕ) → PduValue
report_between own source cause place life is_sealed discarded =
    record {
      kind = Er;
      lifetime = life;
      report = false;
      sealed = is_sealed;
      more = false;
      destination = source;
      source = own;
      segmentation = None;
      options = reason_option cause place ∷ [];
      body = discarded;
    }

-- the source that a frame's header names
abbrev pub source_of : List ℕ → List ℕ
source_of frame = address_at (header_of frame) (source_place (header_of frame))

-- The report of a frame's discard goes to the source of the PDU, and its data are the PDU's header as it was received.
abbrev pub report_of : (frame own : List ℕ) → (cause place life : ℕ) → (is_sealed : Bool) → PduValue
report_of frame own cause place life is_sealed =
    report_between own (source_of frame) cause place life is_sealed (header_of frame)
