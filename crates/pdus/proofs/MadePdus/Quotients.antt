-- The ranges of segments: each but the last has as many places as the room.
use Rattle.pdus.specs.MadePdus.Range.{Tiles}
use Rattle.std.proofs.Common.{◌≡◌, ℕ, zero, suc, ◌+◌, ◌-◌, ◌*◌, ◌/◌, ◌%◌, ◌<◌, ◌≤◌, map, min, arith}
use Rattle.std.specs.List.{range_with_len}
use Rattle.pdus.specs.MadePdus.Cut.{data_room, nth_range, ranges}

-- so many ranges from number `first` on reach the end, and the last of them is not empty
pub record Ends (room len first count : ℕ) : Type 0 where
  pub reaches : len ≤ (first + count) * room
  pub needed : (first + count) * room < len + room

pub ends_all : (room len : ℕ) → 0 < room → Ends room len 0 ((len + room - 1) / room)
ends_all room len some = record { reaches = omega arith; needed = omega arith }

pub ends_next : (room len first count : ℕ) → Ends room len first (suc count) → Ends room len (first + 1) count
ends_next room len first count h = record { reaches = let r = h.reaches in omega arith; needed = let n = h.needed in omega arith }

-- the first of them begins before the end
pub ends_begins : (room len first count : ℕ) → Ends room len first (suc count) → first * room < len
ends_begins room len first count h = let n = h.needed in omega arith

-- the first of two is full
pub ends_full : (room len first count : ℕ) → Ends room len first (suc (suc count)) → (first + 1) * room < len
ends_full room len first count h = ends_begins room len (first + 1) count (ends_next room len first (suc count) h)

pub tiles_from : (room len first count start : ℕ) → Ends room len first count → start ≡ min len (first * room) → Tiles start (map (nth_range room len) (range_with_len first count)) len
tiles_from room len first zero start h e = let r = h.reaches in omega arith
tiles_from room len first (suc count) start h e =
    let b = ends_begins room len first count h in
    ((omega arith), tiles_from room len (first + 1) count (start + min room (len - first * room)) (ends_next room len first count h) (omega arith))

pub ranges_tile : (room len : ℕ) → 0 < room → Tiles 0 (ranges room len) len
ranges_tile room len some = tiles_from room len 0 ((len + room - 1) / room) 0 (ends_all room len some) (omega arith)

pub room_is_eights : (header_len mtu : ℕ) → data_room header_len mtu % 8 ≡ 0
room_is_eights header_len mtu = omega arith

pub room_fits : (header_len mtu : ℕ) → header_len ≤ 254 → 512 ≤ mtu → (8 ≤ data_room header_len mtu) × (header_len + data_room header_len mtu ≤ mtu)
room_fits header_len mtu h m = ((omega arith), (omega arith))

pub room_is_full : (header_len mtu : ℕ) → mtu < header_len + data_room header_len mtu + 8
room_is_full header_len mtu = omega arith
