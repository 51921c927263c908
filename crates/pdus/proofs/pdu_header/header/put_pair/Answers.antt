use Rattle.pdus.proofs.PduHeader.Changed.{pair_written}
use Rattle.pdus.proofs.pdu_header.header.put_pair.Goals as goal

pub returns-clause-changed : goal.returns-clause-changed
returns-clause-changed c =
    pair_written c.args.cells.now c.adjust.new.cells c.adjust-2.new.cells c.write_u16.new.buf c.args.place c.args.number c.write_u16.ensures c.requires.apart c.adjust.ensures.changed c.adjust-2.ensures.changed c.requires.first
