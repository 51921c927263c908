-- Which octets a value spells, told a second time: by what the checksum of a header must be, and not by how it is made.
use Rattle.std.specs.Prelude.{◌≡◌, ℕ, ◌<◌, List, ◌++◌}
use Rattle.pdus.specs.Fletcher.Checksum.{octet}
use Rattle.pdus.specs.Fletcher.Laws.{HasChecksum, SharesOthers}
use Rattle.pdus.specs.PduHeader.Value.{PduValue}
use Rattle.pdus.specs.PduHeader.Spelling.{unsealed_header}
use Rattle.pdus.specs.PduHeader.Grammar.{IsPdu}

-- a header with every octet of the layout but the checksum, whatever that is, and the body behind it
pub record IsLaidOut (v : PduValue) (octets : List ℕ) : Type 0 where
  pub pdu : IsPdu v
  pub head : List ℕ
  pub split : octets ≡ head ++ v.body
  pub layout : SharesOthers (unsealed_header v) head
  pub octet_8 : octet head 8 < 256
  pub octet_9 : octet head 9 < 256
  -- the header is right, and its checksum is in use where the value wants one
  pub checksum : HasChecksum v.sealed head
