use Rattle.std.proofs.Common.{◌∙◌, ap, length, refl, sym, take}
use Rattle.pdus.specs.PduHeader.Rules.{header_of}
use Rattle.pdus.proofs.made_pdus.report_making.report.Goals as goal

pub header-requires-clause-fit : goal.header-requires-clause-fit
header-requires-clause-fit c = record { segment = refl; reason = c.reason_alone.ensures.fits }

pub returns-clause-to : goal.returns-clause-to
returns-clause-to c = c.in_ok-from.ensures.from

pub returns-clause-len : goal.returns-clause-len
returns-clause-len c = c.in_ok-from.ensures.head

pub returns-clause-data : goal.returns-clause-data
returns-clause-data c = ap (λ len. take len c.args.frame.now) c.in_ok-from.ensures.head_len

pub returns-clause-head : goal.returns-clause-head
returns-clause-head c =
    rw (sym c.in_ok-from.ensures.from, sym c.reason_alone.ensures.options)
    (c.header.ensures.spells (header_of c.args.frame.now) (sym c.in_ok-from.ensures.head))

pub returns-clause-spells : goal.returns-clause-spells
returns-clause-spells c =
    let spelt = returns-clause-head c in
    record { pdu = spelt.pdu; octets_are = rw (spelt.octets_are, returns-clause-data c) refl }

pub returns-clause-accepted : goal.returns-clause-accepted
returns-clause-accepted c = c.header.ensures.accepted _ (ap length (returns-clause-data c) ∙ sym c.in_ok-from.ensures.head)
