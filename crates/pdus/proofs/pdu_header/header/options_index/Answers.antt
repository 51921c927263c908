use Rattle.std.proofs.Common.{arith, refl}
use Rattle.pdus.proofs.PduHeader.Changed.{octet_of}
use Rattle.pdus.proofs.PduHeader.Edited.{part_size_by_flags}
use Rattle.pdus.proofs.pdu_header.header.options_index.Goals as goal

pub returns-then-octets-ge-SEGMENTATION_PERMITTED : goal.returns-then-octets-ge-SEGMENTATION_PERMITTED
returns-then-octets-ge-SEGMENTATION_PERMITTED c v h =
    let flags = octet_of v c.args.octets.now 4 h (omega arith) (omega arith) in
    omega (arith, c.part_index-part.ensures.place v h, (part_size_by_flags v v.segmentation refl).0 (omega (arith, flags)))

pub returns-else-octets-ge-SEGMENTATION_PERMITTED : goal.returns-else-octets-ge-SEGMENTATION_PERMITTED
returns-else-octets-ge-SEGMENTATION_PERMITTED c v h =
    let flags = octet_of v c.args.octets.now 4 h (omega arith) (omega arith) in
    omega (arith, c.part_index-part.ensures.place v h, (part_size_by_flags v v.segmentation refl).1 (omega (arith, flags)))
