-- The frames that come of a file that is made of frames.
use Rattle.std.proofs.Common.{◌≡◌, List, [], ◌∷◌, map, Option, Some, refl, ap, ◌∙◌}
use Rattle.std.specs.List.{AllByRecursion, cons_option}
use Rattle.frame_links.specs.LinkBoard.Links.{CameFrame}
use Rattle.frame_links.specs.declared.pcap_frames.order.Order.TheVariants.{HighFirst}
use Rattle.frame_links.specs.PcapFrames.Frames.{frame_octets, seen_in}
use Rattle.frame_links.specs.PcapFrames.Making.{Frame, IsFrame, made_file, made_record, padded}
use Rattle.frame_links.specs.PcapFrames.Reading.{Entire, IsReadAs}
use Rattle.frame_links.proofs.PcapFrames.FrameFacts.{laid_out_is_seen}
use Rattle.frame_links.proofs.PcapFrames.MadeFiles.{made_is_file}
use Rattle.frame_links.specs.PcapFrames.PlayedFrames.{came_made, came_of, frames_of}

pub made_is_read : (frames : List Frame) → AllByRecursion IsFrame frames → IsReadAs (made_file frames) (map made_record frames) Entire
made_is_read frames are = (HighFirst, made_is_file frames are)

made_comes : (f : Frame) → IsFrame f → came_of (seen_in (padded (frame_octets f.to f.from f.pdu))) ≡ Some (came_made f)
made_comes f is = ap came_of (laid_out_is_seen (padded (frame_octets f.to f.from f.pdu)) f.to f.from f.pdu _ is.osi refl)

pub made_frames_come : (frames : List Frame) → AllByRecursion IsFrame frames → frames_of (map made_record frames) ≡ map came_made frames
made_frames_come [] are = refl
made_frames_come (f ∷ fs) are =
    ap (λ (o : Option CameFrame). cons_option o (frames_of (map made_record fs))) (made_comes f are.0)
    ∙ ap (λ (rest : List CameFrame). came_made f ∷ rest) (made_frames_come fs are.1)
