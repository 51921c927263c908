-- What is seen of a link in memory, and what a call of its does.
use Rattle.std.specs.Prelude.{◌≡◌, ℕ, ◌-◌, ◌^◌, ◌<◌, ◌≤◌, ◌==◌, ◌||◌, nat_lt, not, Bool, if◌then◌else◌, List, [], ◌∷◌, ◌++◌, map, replicate, take, Option, None, Some}
use Rattle.std.specs.List.{list_any}
use Rattle.pdus.specs.ClnpBase.Streams.{count_up}
use Rattle.frame_links.specs.LinkBoard.Links.{CameFrame, SentFrame, LinkState}
use Rattle.frame_links.specs.LinkBoard.Outbox.{Frames, has_room}
use Rattle.frame_links.specs.declared.link_board.memory.MemFrame.{MemFrame}

-- the frames that are still to come and those that came; the frames sent and the room for them; the numbers of the calls
-- that fail; the calls made, the faults and the empty looks so far
pub record Traffic : Type 0 where
  pub left : List CameFrame
  pub came : List CameFrame
  pub frames : Frames
  pub fails : List ℕ
  pub calls : ℕ
  pub faults : ℕ
  pub empties : ℕ

-- the looks so far: each saw a frame, and then so many were empty; they are told while the empty ones are counted exactly
abbrev pub told_looks : List CameFrame → ℕ → Option (List (Option CameFrame))
told_looks came empties = if nat_lt empties (2 ^ 64 - 1) then Some (map Some came ++ replicate empties None) else None

-- what is seen of it as of any link
abbrev pub state_of : Traffic → LinkState
state_of t = record { looks = told_looks t.came t.empties; sent = Some t.frames.sent; faults = t.faults; empties = t.empties }

-- whether the next call has a number of those that fail
abbrev pub call_fails : Traffic → Bool
call_fails t = list_any (λ number. number == count_up t.calls) t.fails

-- whether the next call fails, if it sends a frame of these octets: its number is among those that do, or there is no room
abbrev pub send_fails : Traffic → List ℕ → Bool
send_fails t octets = call_fails t || not (has_room t.frames octets)

-- after a call that fails
abbrev pub after_fault : Traffic → Traffic
after_fault t = record t { calls = count_up t.calls; faults = count_up t.faults }

-- what a look sees, while these frames are still to come
abbrev pub look_at : List CameFrame → Option CameFrame
look_at [] = None
look_at (frame ∷ left) = Some frame

-- after a look, while these frames are still to come
abbrev pub after_look : Traffic → List CameFrame → Traffic
after_look t [] = record t { calls = count_up t.calls; empties = count_up t.empties }
after_look t (frame ∷ left) = record t { calls = count_up t.calls; left = left; came = t.came ++ frame ∷ [] }

-- after this frame was sent
abbrev pub after_send : Traffic → SentFrame → Traffic
after_send t frame = record t { calls = count_up t.calls; frames = record t.frames { sent = t.frames.sent ++ frame ∷ [] } }

-- ---- what a link in memory keeps

-- the frame that comes of one that is kept: its first 70,000 octets
abbrev pub frame_of : MemFrame → CameFrame
frame_of frame = record { from = frame.from; to_group = frame.group; octets = take 70000 frame.octets }

-- So many frames came of those that it was given, and looks were empty only behind the last one.
pub record IsGiving (frames at empties : ℕ) : Type 0 where
  pub within : at ≤ frames
  pub last : 0 < empties → at ≡ frames
