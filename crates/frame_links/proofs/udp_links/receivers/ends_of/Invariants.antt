use Rattle.std.proofs.Common.{◌≡◌, ◌≤◌, length, take}
use Rattle.std.specs.List.{filter_map}
use Rattle.frame_links.specs.UdpLinks.Receivers.{end_of}
use Rattle.frame_links.proofs.udp_links.receivers.ends_of.Given as goal

abbrev pub invariant-loop-peer : goal.invariant-loop-peer
invariant-loop-peer l = record {
  found : l.found.items ≡ filter_map (end_of l.role) (take l.peer-index l.peer-items);
  few : length l.found.items ≤ l.peer-index;
}
