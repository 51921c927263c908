use Rattle.std.proofs.Common.{◌≡◌, ◌∙◌, sym, length}
use Rattle.std.specs.Prelude.{option_map}
use Rattle.pdus.specs.PduHeader.Spelling.{segmentation_octets}
use Rattle.pdus.specs.PduHeader.View.{part_value}
use Rattle.pdus.proofs.PduHeader.Written.{part_size, parts_length-is}
use Rattle.pdus.proofs.pdu_header.write.header_len.Goals.{then-is_some, else-is_some}
use Rattle.pdus.proofs.pdu_header.write.header_len.Goals as goal

pub returns-clause-value : goal.returns-clause-value
returns-clause-value c =
    let size : c.if-is_some.seg ≡ length (segmentation_octets (option_map part_value c.args.parts.now.seg)) =
    elim c.if-is_some.branch [
      | then-is_some w ↦ w.seg-is ∙ sym ((part_size c.args.parts.now.seg).0 (sym c.is_some.ensures ∙ w.if-is_some.true))
      | else-is_some w ↦ w.seg-is ∙ sym ((part_size c.args.parts.now.seg).1 (sym c.is_some.ensures ∙ w.if-is_some.false))
    ] in
    parts_length-is c.args.parts.now _ _ _ c.if-is_some.seg c.as_bytes.ensures.octets c.as_bytes-2.ensures.octets c.as_bytes-3.ensures.value c.as_bytes-3.ensures.well_formed size
