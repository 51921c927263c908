-- In which order the first four octets of a file are a magic number.
use Rattle.std.specs.Prelude.{ℕ, ◌==◌, ◌||◌, Bool, true, false, if◌then◌else◌, List, Option, Some, None}
use Rattle.frame_links.specs.declared.pcap_frames.order.Order.{Order}
use Rattle.frame_links.specs.declared.pcap_frames.order.Order.TheVariants.{HighFirst, LowFirst}
use Rattle.frame_links.specs.PcapFrames.File.{magic}
use Rattle.frame_links.specs.PcapFrames.Numbers.{value}

-- whether a number is one of the two
abbrev pub is_magic : ℕ → Bool
is_magic x = (x == magic false) || (x == magic true)

-- the order in which the first four octets are one of the two, if they are in one
abbrev pub order_told : List ℕ → Option Order
order_told octets =
    if is_magic (value HighFirst 4 octets) then Some HighFirst
    else if is_magic (value LowFirst 4 octets) then Some LowFirst else None
