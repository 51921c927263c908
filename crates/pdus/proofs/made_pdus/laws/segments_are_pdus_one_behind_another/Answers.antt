use Rattle.std.proofs.Common.{length}
use Rattle.pdus.specs.PduHeader.Spelling.{header_length}
use Rattle.pdus.specs.MadePdus.Cut.{data_room, ranges}
use Rattle.pdus.proofs.MadePdus.Claims.{segments_tile}
use Rattle.pdus.proofs.MadePdus.Segments.{segment_is_pdu}
use Rattle.pdus.proofs.MadePdus.Tiles.{tiles_within}
use Rattle.pdus.proofs.made_pdus.laws.segments_are_pdus_one_behind_another.Goals as goal

pub returns-clause-pdu : goal.returns-clause-pdu
returns-clause-pdu c = segment_is_pdu

pub returns-clause-tile : goal.returns-clause-tile
returns-clause-tile c = segments_tile

pub returns-clause-within : goal.returns-clause-within
returns-clause-within c v mtu h m =
    tiles_within (ranges (data_room (header_length v) mtu) (length v.body)) 0 (length v.body) (segments_tile v mtu h m)
