-- Which octets are a header, and what a router may change in one.
use Rattle.std.specs.Prelude.{◌≡◌, ℕ, ◌-◌, Bool, List, ◌++◌, length, take, drop, slice_index, slice_set, Some, IsSome}
use Rattle.pdus.specs.ClnpOptions.Parameter.{Parameter, parameters, spelled}
use Rattle.pdus.specs.ClnpOptions.Rules.{Accepts, IsWellFormed}
use Rattle.pdus.specs.ClnpOptions.Edits.{target_of}
use Rattle.pdus.specs.PduHeader.Value.{SegmentationPart, PduValue}
use Rattle.pdus.specs.PduHeader.Spelling.{header, header_length, pair_of}
use Rattle.pdus.specs.PduHeader.Grammar.{IsPdu}
use Rattle.pdus.specs.PduHeader.Parts.{FitsRange}

-- the octets are the header of the PDU that has this value
pub record SpellsHeader (v : PduValue) (octets : List ℕ) : Type 0 where
  pub pdu : IsPdu v
  pub octets_are : octets ≡ header v

-- the octets are a header
abbrev pub IsHeader : List ℕ → Type 0
IsHeader octets = (v : PduValue) × SpellsHeader v octets

abbrev pub with_lifetime : ℕ → PduValue → PduValue
with_lifetime life v = record v { lifetime = life }

abbrev pub at_offset : ℕ → SegmentationPart → SegmentationPart
at_offset offset part = record part { offset = offset }

-- the value of another segment of the same unit
abbrev pub with_segment : SegmentationPart → Bool → List ℕ → PduValue → PduValue
with_segment part more body v = record v { segmentation = Some part; more = more; body = body }

abbrev pub with_options : List Parameter → PduValue → PduValue
with_options options v = record v { options = options }

-- the value has a segmentation part, and so many octets of data from this offset lie in its unit
pub record MayCarry (v : PduValue) (offset data_len : ℕ) (more : Bool) : Type 0 where
  pub part : SegmentationPart
  pub has : v.segmentation ≡ Some part
  pub fits : FitsRange (header_length v) data_len more (at_offset offset part)

-- the header has a segmentation part, and so many octets of data from this offset lie in its unit
abbrev pub TakesSegment : List ℕ → ℕ → ℕ → Bool → Type 0
TakesSegment octets offset data_len more = (v : PduValue) × SpellsHeader v octets × MayCarry v offset data_len more

-- a title stands at the pointer of the header's source route
abbrev pub LeadsOn : List ℕ → Type 0
LeadsOn octets = (v : PduValue) × SpellsHeader v octets × IsSome (target_of v.options)

-- the octets with a number of two octets at a place, counted from 1
abbrev pub with_pair : List ℕ → ℕ → ℕ → List ℕ
with_pair octets place number =
    slice_set (slice_set octets (place - 1) (slice_index (pair_of number) 0)) place (slice_index (pair_of number) 1)

-- the options behind the first `start` octets of a header were changed, to options that a PDU of the same kind may have
pub record IsEdited (start : ℕ) (change : List Parameter → List Parameter) (old new : List ℕ) : Type 0 where
  pub octets : new ≡ take start old ++ spelled (change (parameters (drop start old)))
  pub len : length new ≡ length old
  pub well_formed : IsWellFormed (spelled (change (parameters (drop start old))))
  pub accepted : (is_report : Bool) → Accepts is_report (drop start old)
      → Accepts is_report (spelled (change (parameters (drop start old))))
