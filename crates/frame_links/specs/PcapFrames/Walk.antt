-- What a link that plays a file keeps, and how it goes over the records.
use Rattle.std.specs.Prelude.{◌≡◌, ℕ, zero, suc, ◌+◌, ◌-◌, ◌<◌, ◌≤◌, ◌⊎◌, if◌then◌else◌, List, [], ◌∷◌, ◌++◌, length, take, Option, Some, None}
use Rattle.frame_links.specs.LinkBoard.Links.{CameFrame}
use Rattle.frame_links.specs.declared.pcap_frames.fault.PcapFault.{PcapFault}
use Rattle.frame_links.specs.declared.pcap_frames.order.Order.{Order}
use Rattle.frame_links.specs.PcapFrames.Faults.{IsHeaderFault}
use Rattle.frame_links.specs.PcapFrames.File.{Captured, IsHeaderOf}
use Rattle.frame_links.specs.PcapFrames.InPlace.{front_record, has_record}
use Rattle.frame_links.specs.PcapFrames.Reading.{captured_length}
use Rattle.frame_links.specs.PcapFrames.PlayedFrames.{frames_of}
use Rattle.frame_links.specs.declared.pcap_frames.walk.Frame.{Frame}

-- what the first 24 octets of a file tell: the order of its numbers, or nothing, as they are too few or wrong
abbrev pub HeaderTells : List ℕ → Option Order → Type 0
HeaderTells file None = (length file < 24) ⊎ ((fault : PcapFault) × IsHeaderFault (take 24 file) fault)
HeaderTells file (Some order) = IsHeaderOf order (take 24 file)

-- the records that stand whole in octets, one behind the other, after the first `skipped` octets
unfoldable pub records_after : Order → ℕ → List ℕ → List Captured
records_after order skipped [] = []
records_after order zero (octet ∷ rest) =
    if has_record order (octet ∷ rest)
    then front_record order (octet ∷ rest) ∷ records_after order (15 + captured_length order (octet ∷ rest)) rest
    else []
records_after order (suc skipped) (octet ∷ rest) = records_after order skipped rest

-- the frames that come of the records at the front of octets; none where the file has no header
abbrev pub frames_from : Option Order → List ℕ → List CameFrame
frames_from None octets = []
frames_from (Some order) octets = frames_of (records_after order 0 octets)

-- those of all frames that are no longer left
abbrev pub gone : (all left : List CameFrame) → List CameFrame
gone all left = take (length all - length left) all

-- what is left are the last of all frames, and looks were empty only where none was left
pub record IsPlaying (all left : List CameFrame) (at size empties : ℕ) : Type 0 where
  pub within : at ≤ size
  pub before : List CameFrame
  pub whole : all ≡ before ++ left
  pub last : 0 < empties → left ≡ []

-- what comes of a frame that was found
abbrev pub came_found : Frame → CameFrame
came_found f = record { from = f.from; to_group = f.group; octets = f.pdu.now }
