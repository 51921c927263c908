use Rattle.clnp_machine.proofs.Deeds.{discard_is, make_is, octets_are, packet_is, receive_is, tick_is}
use Rattle.clnp_machine.proofs.laws.deeds_are_of_their_moment.Goals as goal

pub returns : goal.returns
returns c = record { make = make_is; receive = receive_is; discard = discard_is; packet = packet_is; octets = octets_are; tick = tick_is }
