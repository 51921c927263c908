-- A frame that carries a packet or an ES-IS value that a PDU can carry breaks no rule.
use Rattle.std.proofs.Common.{refl, ℕ, List, ◌++◌}
use Rattle.pdus.specs.EsisPdus.Grammar as esis
use Rattle.pdus.specs.EsisPdus.Spelling.{spelling}
use Rattle.pdus.specs.EsisPdus.Value.{EsisValue}
use Rattle.pdus.proofs.EsisPdus.Frames as esis_frames
use Rattle.clnp_machine.specs.Unit.{Packet, IsCarriable, value_of, wire}
use Rattle.clnp_machine.specs.EveryStep.{BreaksNoEsisRule, BreaksNoRule}
use Rattle.clnp_machine.proofs.Headers.{is_front}

-- a frame of such a packet breaks no rule
pub carriable_unbroken : (p : Packet) (following : List ℕ) → IsCarriable p → BreaksNoRule (wire p ++ following)
carriable_unbroken p following h =
    let front = is_front (wire p ++ following) (value_of p) following
    (record { octets = wire p; spells = record { pdu = h.pdu; octets_are = refl }; split = refl }) in
    record { protocol = front.protocol; rules = front.unbroken }

pub esis_unbroken : (value : EsisValue) (following : List ℕ) → esis.IsPdu value → BreaksNoEsisRule (spelling value ++ following)
esis_unbroken value following h =
    let front = esis_frames.is_front (spelling value ++ following) value following
    (record { octets = spelling value; spells = record { pdu = h; octets_are = refl }; split = refl }) in
    record { protocol = front.protocol; rules = front.unbroken }
