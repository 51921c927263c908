use Rattle.std.proofs.Common.{arith}
use Rattle.pdus.specs.declared.esis_pdus.pdu.EsisBody.TheVariants.{Ish}
use Rattle.pdus.specs.EsisPdus.Making.{value, timer_options}
use Rattle.pdus.proofs.EsisPdus.Made.{spelled_header, ish_pdu, ish_front, unbroken}
use Rattle.pdus.proofs.esis_pdus.hello.ish.Goals as goal

made : goal.returns-clause-made
made c =
    spelled_header (value c.args.hold c.args.sealed (Ish c.args.title.now) (timer_options c.args.suggested)) _ _
    (ish_pdu c.args.hold c.args.sealed c.args.title.now c.args.suggested (omega arith) c.as_bytes.ensures.bounds)
    (ish_front c.args.hold c.args.title.now _ _ _ _ _ c.as_bytes.ensures.octets c.begun-plain.ensures c.push_counted.ensures c.push_timer.ensures)
    c.finished.ensures

pub returns-clause-made : goal.returns-clause-made
returns-clause-made c = made c

pub returns-clause-accepted : goal.returns-clause-accepted
returns-clause-accepted c = unbroken (value c.args.hold c.args.sealed (Ish c.args.title.now) (timer_options c.args.suggested)) _ (made c)
