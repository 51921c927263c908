-- The ends of the peers of a role, found one behind another.
use Rattle.std.proofs.Common.{◌≡◌, ℕ, ◌+◌, ◌<◌, ◌≤◌, List, [], ◌∷◌, ◌++◌, length, take, get_or, Option, None, Some, refl, ap, ◌∙◌, arith, length-append}
use Rattle.std.proofs.lemmas.List.{take_more}
use Rattle.std.proofs.lemmas.List.Elements.{filter_map-append}
use Rattle.std.specs.List.{filter_map}
use Rattle.std.specs.Option.{option_to_list}
use Rattle.frame_links.specs.UdpLinks.Receivers.{end_of}
use Rattle.frame_links.specs.declared.link_board.end.End.{End}
use Rattle.frame_links.specs.declared.link_board.ends.Peer.{Peer}
use Rattle.frame_links.specs.declared.link_board.ends.Role.{Role}

one_peer : (role : Role) (peer : Peer) (end : Option End) → end_of role peer ≡ end → option_to_list end ≡ filter_map (end_of role) (peer ∷ [])
one_peer role peer None e = rw e refl
one_peer role peer (Some end) e = rw e refl

-- behind one more peer
pub ends_more : (role : Role) (peers : List Peer) (at : ℕ) (peer : Peer) (found more : List End)
    → found ≡ filter_map (end_of role) (take at peers) → at < length peers
    → more ≡ found ++ option_to_list (end_of role (get_or peers at peer)) → more ≡ filter_map (end_of role) (take (at + 1) peers)
ends_more role peers at peer found more e h m =
    rw (m, take_more peers at peer h, filter_map-append (end_of role) (take at peers) (get_or peers at peer ∷ []), e)
    (ap (λ xs. filter_map (end_of role) (take at peers) ++ xs) (one_peer role (get_or peers at peer) _ refl))

-- they are no more than the peers
pub one_at_most : (end : Option End) (found more : List End) (at : ℕ) → length found ≤ at → more ≡ found ++ option_to_list end
    → length more ≤ at + 1
one_at_most None found more at h e = omega (arith, ap length e ∙ length-append found [])
one_at_most (Some x) found more at h e = omega (arith, ap length e ∙ length-append found (x ∷ []))
