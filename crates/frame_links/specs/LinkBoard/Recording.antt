-- What is seen of a link that gives the frames of a text of capture lines.
use Rattle.std.specs.Prelude.{◌≡◌, ℕ, ◌-◌, ◌<◌, ◌≤◌, false, List, [], ◌∷◌, ◌++◌, drop, length, take, Option, None, Some, Result, Ok, Err}
use Rattle.std.specs.List.{flat_map}
use Rattle.std.specs.Option.{option_to_list}
use Rattle.hex.specs.Hex.{decode_of}
use Rattle.hex.specs.declared.error.FromHexError.{FromHexError}
use Rattle.pdus.specs.ClnpBase.Streams.{count_up}
use Rattle.pdus.specs.ClnpBase.Text.{lines_of}
use Rattle.frame_links.specs.LinkBoard.Links.{CameFrame, LinkState}
use Rattle.frame_links.specs.LinkBoard.Memory.{told_looks}

-- the frame that comes of octets: the first 70,000, from the SNPA 00, through no group
abbrev pub frame_of : List ℕ → CameFrame
frame_of octets = record { from = 0 ∷ []; to_group = false; octets = take 70000 octets }

-- the frame of the octets that digits spell, where there is an octet
abbrev pub frame_spelled : Result (List ℕ) FromHexError → Option CameFrame
frame_spelled (Ok []) = None
frame_spelled (Ok (octet ∷ octets)) = Some (frame_of (octet ∷ octets))
frame_spelled (Err e) = None

-- the frame of a capture line: an even number of hexadecimal digits, at least two, and nothing else
unfoldable pub frame_on : List ℕ → Option CameFrame
frame_on line = frame_spelled (decode_of line)

-- the frames of the capture lines of a text, in order
unfoldable pub frames_in : List ℕ → List CameFrame
frames_in text = flat_map (λ line. option_to_list (frame_on line)) (lines_of text)

-- the frames that are still to come, those that came, and how many looks were empty
pub record Playing : Type 0 where
  pub left : List CameFrame
  pub came : List CameFrame
  pub empties : ℕ

-- what is seen of it as of any link: it keeps nothing that is sent, and never fails
abbrev pub state_of : Playing → LinkState
state_of p = record { looks = told_looks p.came p.empties; sent = None; faults = 0; empties = p.empties }

-- after a look, while these frames are still to come
abbrev pub after_look : Playing → List CameFrame → Playing
after_look p [] = record p { empties = count_up p.empties }
after_look p (frame ∷ left) = record p { left = left; came = p.came ++ frame ∷ [] }

-- ---- what is kept

-- those that came of all frames, where these are still to come
abbrev pub came_of : List CameFrame → List CameFrame → List CameFrame
came_of all left = take (length all - length left) all

-- So many octets of the text are behind, whose frames came; and looks were empty only behind the last frame.
pub record IsPlaying (text : List ℕ) (at empties : ℕ) : Type 0 where
  pub within : at ≤ length text
  pub whole : frames_in text ≡ came_of (frames_in text) (frames_in (drop at text)) ++ frames_in (drop at text)
  pub last : 0 < empties → frames_in (drop at text) ≡ []
