use Rattle.std.proofs.Common.{[], arith}
use Rattle.pdus.specs.declared.esis_pdus.pdu.EsisBody.TheVariants.{Esh}
use Rattle.pdus.specs.EsisPdus.Making.{value}
use Rattle.pdus.proofs.EsisPdus.FieldFacts.{joined_long}
use Rattle.pdus.proofs.EsisPdus.Made.{spelled_header, esh_pdu, esh_front, esh_size, unbroken}
use Rattle.pdus.proofs.esis_pdus.hello.esh.Goals as goal

pub overflow_cast-addresses : goal.overflow_cast-addresses
overflow_cast-addresses c =
    omega (arith, c.esh_len-octets.ensures.value, esh_size c.args.addresses.now, joined_long c.args.addresses.now)

made : goal.returns-clause-made
made c =
    spelled_header (value c.args.hold c.args.sealed (Esh c.args.addresses.now) []) _ _
    (esh_pdu c.args.hold c.args.sealed c.args.addresses.now (omega arith) c.esh_len-octets.ensures.each (rw (← c.esh_len-octets.ensures.value) (omega arith)))
    (esh_front c.args.hold c.args.addresses.now _ _ _ c.begun-plain.ensures c.push.ensures c.push_addresses.ensures)
    c.finished.ensures

pub returns-clause-made : goal.returns-clause-made
returns-clause-made c = made c

pub returns-clause-accepted : goal.returns-clause-accepted
returns-clause-accepted c = unbroken (value c.args.hold c.args.sealed (Esh c.args.addresses.now) []) _ (made c)
