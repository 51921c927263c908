-- What is wrong with a header or with a record.
use Rattle.std.specs.Prelude.{◌≡◌, ◌≢◌, ℕ, ◌^◌, ◌%◌, ◌<◌, Bool, List, ◌++◌}
use Rattle.frame_links.specs.declared.pcap_frames.fault.PcapFault.{PcapFault}
use Rattle.frame_links.specs.declared.pcap_frames.fault.PcapFault.TheVariants.{Magic, Version, LinkType, RecordLength}
use Rattle.frame_links.specs.declared.pcap_frames.order.Order.{Order}
use Rattle.frame_links.specs.PcapFrames.Numbers.{number}
use Rattle.frame_links.specs.PcapFrames.File.{Header, FitsHeader, header_octets, magic, most_captured}

-- no magic number stands in front, in neither order
abbrev pub HasNoMagic : List ℕ → Type 0
HasNoMagic octets =
    (order : Order) (nanoseconds : Bool) (rest : List ℕ) → octets ≢ number order 4 (magic nanoseconds) ++ rest

-- behind the magic number stands another version than 2.4
pub record HasOtherVersion (octets : List ℕ) (major minor : ℕ) : Type 0 where
  pub order : Order
  pub nanoseconds : Bool
  pub rest : List ℕ
  pub spelled : octets ≡ number order 4 (magic nanoseconds) ++ (number order 2 major ++ (number order 2 minor ++ rest))
  pub major_fits : major < 2 ^ 16
  pub minor_fits : minor < 2 ^ 16
  pub other : ¬ ((major ≡ 2) × (minor ≡ 4))

-- it is a header but for its link type, which isn't that of an Ethernet
pub record HasOtherLink (octets : List ℕ) (link : ℕ) : Type 0 where
  pub order : Order
  pub header : Header
  pub fits : FitsHeader header
  pub spelled : octets ≡ header_octets order header
  pub told : link ≡ header.link
  pub other : link % 2 ^ 16 ≢ 1

-- what is wrong with the 24 octets of a header
abbrev pub IsHeaderFault : List ℕ → PcapFault → Type 0
IsHeaderFault octets Magic = HasNoMagic octets
IsHeaderFault octets (Version major minor) = HasOtherVersion octets major minor
IsHeaderFault octets (LinkType link) = HasOtherLink octets link
IsHeaderFault octets (RecordLength captured) = ⊥

-- a record begins with these twelve octets, and says that it has too many
pub record HasOtherLength (order : Order) (octets : List ℕ) (captured : ℕ) : Type 0 where
  pub seconds : ℕ
  pub fraction : ℕ
  pub spelled : octets ≡ number order 4 seconds ++ (number order 4 fraction ++ number order 4 captured)
  pub fits : captured < 2 ^ 32
  pub many : most_captured < captured
