-- The numbers of a file, in either order of their octets.
use Rattle.std.specs.Prelude.{ℕ, List}
use Rattle.byteorder.specs.Endian.{big_bytes, big_number, little_bytes, little_number}
use Rattle.frame_links.specs.declared.pcap_frames.order.Order.{Order}
use Rattle.frame_links.specs.declared.pcap_frames.order.Order.TheVariants.{HighFirst, LowFirst}

-- a number as so many octets
unfoldable pub number : Order → (count x : ℕ) → List ℕ
number HighFirst count x = big_bytes count x
number LowFirst count x = little_bytes count x

-- the number in so many first octets
unfoldable pub value : Order → (count : ℕ) → List ℕ → ℕ
value HighFirst count octets = big_number count octets
value LowFirst count octets = little_number count octets
