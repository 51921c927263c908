use Rattle.std.proofs.Common.{◌≡◌, ◌-◌, ◌≤◌, length, drop, Some}
use Rattle.frame_links.specs.PcapFrames.Walk.{frames_from}
use Rattle.frame_links.proofs.pcap_frames.walk.find_frame.Given as goal

abbrev pub invariant-loop-record : goal.invariant-loop-record
invariant-loop-record l = record {
  within : l.at ≤ length l.file;
  same : frames_from (Some l.order) (drop l.start l.file) ≡ frames_from (Some l.order) (drop l.at l.file);
}

abbrev pub decreases-loop-record : goal.decreases-loop-record
decreases-loop-record l = length l.file - l.at
