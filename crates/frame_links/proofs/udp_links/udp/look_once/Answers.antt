use Rattle.std.proofs.Common.{◌≡◌, ◌++◌, length, drop, ap, ◌∙◌, arith}
use Rattle.std.proofs.lemmas.List.{length-take-le}
use Rattle.frame_links.specs.UdpLinks.Sockets.{datagram_in, seen_of}
use Rattle.frame_links.proofs.UdpLinks.Repeating.{few_octets, front_of}
use Rattle.frame_links.proofs.udp_links.udp.look_once.Goals as goal

pub returns-clause-few : goal.returns-clause-few
returns-clause-few g c =
    let room : length c.receive.new.buf ≡ 70000 = c.receive.auto.buf ∙ length-take-le 70000 c.args.buf.now c.requires in
    few_octets c.receive.result c.told_of.result (length c.receive.new.buf) (omega (arith, room)) c.receive.ensures.within c.told_of.ensures.len

pub returns-clause-looked : goal.returns-clause-looked
returns-clause-looked g c = record {
  look = datagram_in c.receive.result c.receive.new.buf;
  looked = c.receive.ensures.looked;
  seen = c.told_of.ensures.told (c.receive.new.buf ++ drop 70000 c.args.buf.now)
      ∙ ap seen_of (front_of c.receive.result c.receive.new.buf (drop 70000 c.args.buf.now) c.receive.ensures.within);
}
