-- To which ends a frame goes.
use Rattle.std.specs.Prelude.{Bool, true, false, if◌then◌else◌, List, Option, None, Some}
use Rattle.std.specs.List.{filter_map}
use Rattle.std.specs.Option.{option_to_list}
use Rattle.pdus.specs.declared.nsap.target.Target.{Target}
use Rattle.pdus.specs.declared.nsap.target.Target.TheVariants.{System, EndSystems, Routers}
use Rattle.frame_links.specs.LinkBoard.Ends.{Ends, end_at}
use Rattle.frame_links.specs.declared.link_board.end.End.{End}
use Rattle.frame_links.specs.declared.link_board.ends.Peer.{Peer}
use Rattle.frame_links.specs.declared.link_board.ends.Role.{Role}
use Rattle.frame_links.specs.declared.link_board.ends.Role.TheVariants.{EndSystem, IntermediateSystem}

abbrev pub is_same : Role → Role → Bool
is_same EndSystem EndSystem = true
is_same IntermediateSystem IntermediateSystem = true
is_same _ _ = false

-- the end of a peer of this role
abbrev pub end_of : Role → Peer → Option End
end_of role peer = if is_same role peer.role then Some peer.end else None

-- To which ends a frame for a target goes: for one system, to the end that has its SNPA, if there is one; for a group, to
-- each peer of that role, in their order.
abbrev pub receivers : Ends → Target → List End
receivers ends (System snpa) = option_to_list (end_at snpa)
receivers ends EndSystems = filter_map (end_of EndSystem) ends.peers
receivers ends Routers = filter_map (end_of IntermediateSystem) ends.peers
