-- The value that a CLNP PDU carries (ISO 8473, section 7).
use Rattle.std.specs.Prelude.{ℕ, Bool, List, Option}
use Rattle.pdus.specs.ClnpOptions.Parameter.{Parameter}
use Rattle.pdus.specs.declared.pdu_header.kind.Kind.{Kind}

-- the segmentation part (section 7.4)
pub record SegmentationPart : Type 0 where
  pub identifier : ℕ
  pub offset : ℕ
  pub total : ℕ

pub record PduValue : Type 0 where
  pub kind : Kind
  pub lifetime : ℕ
  -- an error report is wanted where the PDU is discarded
  pub report : Bool
  -- its header has a checksum
  pub sealed : Bool
  -- data of the same unit follows behind this PDU's
  pub more : Bool
  pub destination : List ℕ
  pub source : List ℕ
  pub segmentation : Option SegmentationPart
  pub options : List Parameter
  pub body : List ℕ
