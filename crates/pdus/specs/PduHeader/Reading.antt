-- The value that a header and the data behind it carry, read off by places.
use Rattle.std.specs.Prelude.{ℕ, ◌+◌, ◌==◌, not, if◌then◌else◌, List, take, drop, Option, None, Some, unwrap_or}
use Rattle.pdus.specs.ClnpOptions.Parameter.{parameters}
use Rattle.pdus.specs.declared.pdu_header.kind.Kind.TheVariants.{Dt}
use Rattle.pdus.specs.PduHeader.Value.{SegmentationPart, PduValue}
use Rattle.pdus.specs.PduHeader.Rules.{octet, pair_at, type_of, kind_of, is_segmented, has_more, wants_report, source_place, part_place, options_part, header_of, header_size, data_size}

-- the address whose length octet stands at a place
abbrev pub address_at : List ℕ → ℕ → List ℕ
address_at head place = take (octet head place) (drop place head)

-- identifier, offset and total length
abbrev pub segmentation_at : List ℕ → Option SegmentationPart
segmentation_at head =
    if is_segmented head
    then Some (record {
      identifier = pair_at head (part_place head);
      offset = pair_at head (part_place head + 2);
      total = pair_at head (part_place head + 4);
    })
    else None

-- the value that a header and a body carry
abbrev pub value_of : List ℕ → List ℕ → PduValue
value_of head body =
    record {
      kind = unwrap_or (kind_of (type_of head)) Dt;
      lifetime = octet head 4;
      report = wants_report head;
      sealed = not (pair_at head 8 == 0);
      more = has_more head;
      destination = address_at head 10;
      source = address_at head (source_place head);
      segmentation = segmentation_at head;
      options = parameters (options_part head);
      body = body;
    }

-- the data behind a frame's header
abbrev pub body_of : List ℕ → List ℕ
body_of frame = take (data_size (header_of frame)) (drop (header_size frame) frame)

-- what follows the PDU in its frame
abbrev pub rest_of : List ℕ → List ℕ
rest_of frame = drop (data_size (header_of frame)) (drop (header_size frame) frame)
