use Rattle.std.proofs.Common.{refl, ◌++◌}
use Rattle.pdus.specs.EsisPdus.Spelling.{spelling}
use Rattle.clnp_machine.proofs.laws.a_frame_carries_one_esis_value.Goals as goal

pub returns : goal.returns
returns c v following w rest pdu begins =
    c.one_value.ensures (spelling v ++ following) w v rest following begins
    (record { octets = spelling v; spells = record { pdu = pdu; octets_are = refl }; split = refl })
