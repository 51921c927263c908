use Rattle.std.proofs.Common.{ℕ, List, take, drop, arith}
use Rattle.pdus.specs.PduHeader.Value.{SegmentationPart, PduValue}
use Rattle.pdus.specs.PduHeader.View.{part_value}
use Rattle.pdus.proofs.MadePdus.Cutting.{as_segment, carried, roomy}
use Rattle.clnp_base.proofs.Lists.{length_part}
use Rattle.pdus.proofs.made_pdus.cuts.segment_header.Goals as goal

pub overflow_sub-unit_len : goal.overflow_sub-unit_len
overflow_sub-unit_len c =
    let v : PduValue = c.requires.0 in
    let room = roomy v (part_value c.args.part) c.args.from c.args.len c.requires.1.pdu c.requires.2 c.requires.3 in
    omega (arith, room.holds_header, c.as_bytes.ensures.size v c.requires.1)

pub set_segment-requires : goal.set_segment-requires
set_segment-requires c =
    let v : PduValue = c.requires.0 in (
      v,
      c.requires.1,
      record {
        part = part_value c.args.part;
        has = c.requires.2;
        fits = carried v (part_value c.args.part) c.args.from c.args.len _ _ _ c.requires.1.pdu c.requires.2 c.requires.3 c.from.ensures c.from-2.ensures (c.as_bytes.ensures.size v c.requires.1);
      },
    )

pub returns : goal.returns
returns c v h has within =
    let part : SegmentationPart = part_value c.args.part in
    let head_len = c.as_bytes.ensures.size v h in
    let body : List ℕ = take c.args.len (drop c.args.from v.body) in
    as_segment v part c.args.from c.args.len c.from.result c.from-2.result _ c.set_segment.new.self c.from.ensures c.from-2.ensures head_len
    (c.set_segment.ensures.spells v (record { part = part; has = has; fits = carried v part c.args.from c.args.len _ _ _ h.pdu has within c.from.ensures c.from-2.ensures head_len }) h body
    (length_part v.body c.args.from c.args.len within))
