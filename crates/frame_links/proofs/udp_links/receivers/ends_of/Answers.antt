use Rattle.frame_links.proofs.UdpLinks.Receiving.{ends_more, one_at_most}
use Rattle.frame_links.proofs.udp_links.receivers.ends_of.Goals as goal

pub loop-peer-preserved : goal.loop-peer-preserved
loop-peer-preserved c =
    let at = c.loop-peer.peer-index in
    record {
      found = ends_more c.args.role c.as_slice-peer-items.result.now at _ c.loop-peer.found.items c.push_end.new.found.items
          c.loop-peer.invariant.found c.loop-peer-test.true c.push_end.ensures;
      few = one_at_most _ c.loop-peer.found.items c.push_end.new.found.items at c.loop-peer.invariant.few c.push_end.ensures;
    }
