use Rattle.clnp_machine.proofs.Fates.{frame_fate, none_silent, octets_told, packet_fate}
use Rattle.clnp_machine.proofs.laws.each_packet_has_one_fate.Goals as goal

pub returns-clause-packet : goal.returns-clause-packet
returns-clause-packet c = λ s came p following each h. packet_fate c.laws_of_edits.ensures s each p following came h

pub returns-clause-frame : goal.returns-clause-frame
returns-clause-frame c = λ s port sender to_group p following each h.
    frame_fate c.laws_of_edits.ensures s each p following (record { port = port; snpa = sender }) h to_group

pub returns-clause-octets : goal.returns-clause-octets
returns-clause-octets c = λ s port sender to_group octets. octets_told s octets

pub returns-clause-told : goal.returns-clause-told
returns-clause-told c = λ s p following effect is none. none_silent s p following effect is none
