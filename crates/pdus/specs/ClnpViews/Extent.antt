-- Views: ranges of a frame's octets.
use Rattle.std.specs.Prelude.{ℕ, ◌+◌, ◌≤◌, List, length, take, drop}

-- a frame's octets, and which of them are seen
pub record Extent : Type 0 where
  pub frame : List ℕ
  pub from : ℕ
  pub len : ℕ

-- the range lies in the frame
abbrev pub LiesWithin : Extent → Type 0
LiesWithin extent = extent.from + extent.len ≤ length extent.frame

-- the octets that are seen
abbrev pub seen : Extent → List ℕ
seen extent = take extent.len (drop extent.from extent.frame)

-- the whole of a frame
abbrev pub whole : List ℕ → Extent
whole frame = record { frame = frame; from = 0; len = length frame }

-- the part that has `len` of the octets that are seen, from place `from` of them
abbrev pub part : ℕ → ℕ → Extent → Extent
part from len extent = record { frame = extent.frame; from = extent.from + from; len = len }
