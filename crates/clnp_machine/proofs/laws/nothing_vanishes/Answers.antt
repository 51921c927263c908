use Rattle.clnp_machine.proofs.laws.nothing_vanishes.Goals as goal

pub returns : goal.returns
returns c =
    let packets = c.each_packet_has_one_fate.ensures in
    let units = c.each_unit_is_sent_or_dropped.ensures in
    let kept = c.what_is_kept_stays_or_is_told.ensures in
    record {
      packets = packets.frame;
      octets = packets.octets;
      asked = units.asked;
      echo = units.echo;
      made = units.each;
      kept = kept.buffers;
      segments = kept.segments;
      one_of_a_key = kept.one_of_a_key;
      keys = kept.keys;
    }
