use Rattle.std.proofs.Common.{refl, ◌++◌}
use Rattle.clnp_machine.specs.Unit.{value_of, wire}
use Rattle.clnp_machine.proofs.laws.a_frame_carries_one_packet.Goals as goal

pub returns : goal.returns
returns c p following v rest carriable begins =
    c.one_value.ensures (wire p ++ following) v (value_of p) rest following begins
    (record { octets = wire p; spells = record { pdu = carriable.pdu; octets_are = refl }; split = refl })
