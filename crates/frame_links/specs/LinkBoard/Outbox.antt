-- Room for frames that are sent.
use Rattle.std.specs.Prelude.{◌≡◌, ℕ, ◌+◌, ◌≤◌, ◌&&◌, nat_le, nat_lt, Bool, List, [], ◌∷◌, length, take, drop}
use Rattle.frame_links.specs.LinkBoard.Links.{SentFrame}
use Rattle.frame_links.specs.declared.link_board.outbox.Entry.{Entry}

-- the frames sent, for how many of them there is room, and for how many octets of theirs together
pub record Frames : Type 0 where
  pub sent : List SentFrame
  pub sends : ℕ
  pub room : ℕ

-- how many octets frames have together
abbrev pub octets_in : List SentFrame → ℕ
octets_in [] = 0
octets_in (frame ∷ frames) = length frame.octets + octets_in frames

-- whether there is room for a frame of these octets
abbrev pub has_room : Frames → List ℕ → Bool
has_room f octets = nat_lt (length f.sent) f.sends && nat_le (octets_in f.sent + length octets) f.room

-- ---- how they are kept

-- the frames, whose octets stand one behind the other
abbrev pub frames_in : List Entry → List ℕ → List SentFrame
frames_in [] octets = []
frames_in (entry ∷ entries) octets =
    record { target = entry.to; octets = take entry.len octets } ∷ frames_in entries (drop entry.len octets)

-- how many octets the frames have together, by their entries
abbrev pub lens_of : List Entry → ℕ
lens_of [] = 0
lens_of (entry ∷ entries) = entry.len + lens_of entries

-- The octets kept are those of the frames, and there is room for as many frames and octets as may be sent.
pub record IsKept (entries : List Entry) (octets : List ℕ) (sends room entry_room octet_room : ℕ) : Type 0 where
  pub whole : lens_of entries ≡ length octets
  pub few : length entries ≤ sends
  pub fits : length octets ≤ room
  pub entries_fit : sends ≤ entry_room
  pub octets_fit : room ≤ octet_room
