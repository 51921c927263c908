use Rattle.std.proofs.Common.{[], arith}
use Rattle.std.specs.Option.{option_copied}
use Rattle.pdus.specs.declared.esis_pdus.pdu.EsisBody.TheVariants.{Rd}
use Rattle.pdus.specs.EsisPdus.Making.{value}
use Rattle.pdus.proofs.EsisPdus.Made.{spelled_header, rd_pdu, rd_front, unbroken}
use Rattle.pdus.proofs.esis_pdus.hello.rd.Goals as goal

made : goal.returns-clause-made
made c =
    spelled_header (value c.args.hold c.args.sealed (Rd c.args.to.now c.args.via.now (option_copied c.args.title)) []) _ _
    (rd_pdu c.args.hold c.args.sealed c.args.to.now c.args.via.now (option_copied c.args.title) (omega arith) c.as_bytes.ensures.bounds c.as_bytes-2.ensures.bounds c.push_title.ensures.title)
    (rd_front c.args.hold c.args.to.now c.args.via.now _ _ _ _ _ _ _ c.as_bytes.ensures.octets c.as_bytes-2.ensures.octets c.begun-plain.ensures c.push_counted.ensures c.push_counted-2.ensures c.push_title.ensures.octets)
    c.finished.ensures

pub returns-clause-made : goal.returns-clause-made
returns-clause-made c = made c

pub returns-clause-accepted : goal.returns-clause-accepted
returns-clause-accepted c = unbroken (value c.args.hold c.args.sealed (Rd c.args.to.now c.args.via.now (option_copied c.args.title)) []) _ (made c)
