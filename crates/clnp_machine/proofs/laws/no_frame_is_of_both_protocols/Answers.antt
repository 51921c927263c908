use Rattle.std.proofs.Common.{refl, ◌++◌}
use Rattle.pdus.specs.EsisPdus.Spelling.{spelling}
use Rattle.clnp_machine.specs.Unit.{value_of, wire}
use Rattle.clnp_machine.proofs.laws.no_frame_is_of_both_protocols.Goals as goal

pub returns-clause-packet : goal.returns-clause-packet
returns-clause-packet c p following carriable =
    c.spelled_where_no_rule_is_broken.ensures.protocol (wire p ++ following) (value_of p) following
    (record { octets = wire p; spells = record { pdu = carriable.pdu; octets_are = refl }; split = refl })

pub returns-clause-esis : goal.returns-clause-esis
returns-clause-esis c value following pdu =
    c.spelled_where_no_rule_is_broken-2.ensures.protocol (spelling value ++ following) value following
    (record { octets = spelling value; spells = record { pdu = pdu; octets_are = refl }; split = refl })
