use Rattle.std.proofs.Common.{◌∙◌, ◌+◌, sym, arith}
use Rattle.pdus.specs.PduHeader.Headers.{IsHeader, SpellsHeader}
use Rattle.pdus.proofs.PduHeader.Written.{nine_at_least}
use Rattle.pdus.proofs.PduHeader.Told.{tells_none, tells_part, part_within}
use Rattle.pdus.proofs.pdu_header.header.Header.segmentation.Goals as goal

pub is_segmented-requires : goal.is_segmented-requires
is_segmented-requires c = rw c.as_bytes-octets.ensures.octets (nine_at_least c.self.inside.cells c.self.invariant)

pub returns-then-not-is_segmented : goal.returns-then-not-is_segmented
returns-then-not-is_segmented c v h =
    let read : SpellsHeader v c.as_bytes-octets.result.now = rw (c.as_bytes-octets.ensures.octets, c.self.view_is) h in
    tells_none v c.as_bytes-octets.result.now read (sym c.is_segmented.ensures ∙ c.if-not-is_segmented.true)

pub segmentation_part-requires-clause-last : goal.segmentation_part-requires-clause-last
segmentation_part-requires-clause-last c =
    let is : IsHeader c.as_bytes-octets.result.now = rw c.as_bytes-octets.ensures.octets c.self.invariant in
    omega (arith, c.part_index-place.ensures.part, part_within c.as_bytes-octets.result.now is (sym c.is_segmented.ensures ∙ c.if-not-is_segmented.false))

pub returns : goal.returns
returns c v h =
    let read : SpellsHeader v c.as_bytes-octets.result.now = rw (c.as_bytes-octets.ensures.octets, c.self.view_is) h in
    let part = c.segmentation_part.ensures in
    tells_part v c.as_bytes-octets.result.now (c.part_index-place.result + 1) c.segmentation_part.result read (sym c.is_segmented.ensures ∙ c.if-not-is_segmented.false) c.part_index-place.ensures.part part.id part.offset part.total
