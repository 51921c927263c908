-- The echo reply that answers an echo request (RFC 1575), and which echo PDUs may be segmented.
use Rattle.std.specs.Prelude.{ℕ, ◌+◌, nat_lt, Bool, false, List, [], ◌++◌, length, Option, option_map}
use Rattle.pdus.specs.declared.pdu_header.kind.Kind.TheVariants.{Erp}
use Rattle.pdus.specs.PduHeader.Layout.{fixed_size, part_size}
use Rattle.pdus.specs.PduHeader.Spelling.{counted}
use Rattle.pdus.specs.PduHeader.Value.{SegmentationPart, PduValue}

-- the octets of a PDU that every subnetwork takes in one piece
abbrev pub most_unsegmented : ℕ
most_unsegmented = 512

-- the length of a header without segmentation part and options (ISO 8473, sections 7.2 and 7.3)
abbrev pub plain_length : (from to : List ℕ) → ℕ
plain_length from to = fixed_size + length (counted to ++ counted from)

-- An echo PDU is longer than every subnetwork takes, with so many octets of data and neither segmentation part nor
-- options: so it is made such that it may be segmented, and needs a data unit identifier (ISO 8473, section 7.4.1).
abbrev pub needs_identifier : (from to : List ℕ) → (body_len : ℕ) → Bool
needs_identifier from to body_len = nat_lt most_unsegmented (plain_length from to + body_len)

-- the segmentation part of a reply, where it has an identifier: the whole of its unit (ISO 8473, section 7.4)
abbrev pub part_of : (request : PduValue) → (identifier : Option ℕ) → Option SegmentationPart
part_of request identifier =
    option_map (λ i. record {
      identifier = i;
      offset = 0;
      total = plain_length request.destination request.source + part_size + length request.body;
    }) identifier

-- The reply goes back to the request's source with the request's data. No report of it is wanted, it has no options,
-- and it may be segmented exactly where it has an identifier.
abbrev pub reply_of : (request : PduValue) → (identifier : Option ℕ) → (life : ℕ) → (is_sealed : Bool) → PduValue
reply_of request identifier life is_sealed =
    record {
      kind = Erp;
      lifetime = life;
      report = false;
      sealed = is_sealed;
      more = false;
      destination = request.source;
      source = request.destination;
      segmentation = part_of request identifier;
      options = [];
      body = request.body;
    }
