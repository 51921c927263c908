-- Ends of links over UDP, and their SNPAs.
use Rattle.std.specs.Prelude.{◌≡◌, ℕ, ◌^◌, ◌<◌, ◌==◌, if◌then◌else◌, List, ◌++◌, drop, length, take, Option, None, Some}
use Rattle.byteorder.specs.Endian.{big_bytes, big_number}
use Rattle.frame_links.specs.declared.link_board.end.End.{End}
use Rattle.frame_links.specs.declared.link_board.ends.Peer.{Peer}

-- four octets of an address, and a port of two octets that isn't 0
pub record IsEnd (end : End) : Type 0 where
  pub four : length end.address ≡ 4
  pub some : 0 < end.port
  pub within : end.port < 2 ^ 16

-- the SNPA of an end: the octets of its address, and its port in two, the high one first
abbrev pub snpa_of : End → List ℕ
snpa_of end = end.address ++ big_bytes 2 end.port

-- the end of this address and this port; the port 0 is that of no end
abbrev pub end_named : List ℕ → ℕ → Option End
end_named address port = if port == 0 then None else Some (record { address = address; port = port })

-- the end with this SNPA, if there is one
abbrev pub end_at : List ℕ → Option End
end_at snpa = if length snpa == 6 then end_named (take 4 snpa) (big_number 2 (drop 4 snpa)) else None

-- the ends that a link word names: the local one, and the peers
pub record Ends : Type 0 where
  pub local : End
  pub peers : List Peer
