-- What `encode` refuses.
use Rattle.std.specs.Prelude.{Option, None, Some}
use Rattle.pdus.specs.declared.pdu_header.header.HeaderRefusal.{HeaderRefusal}
use Rattle.pdus.specs.declared.pdu_header.header.HeaderRefusal.TheVariants as header_refusal
use Rattle.pdus.specs.declared.pdu_header.encoding.EncodeRefusal.{EncodeRefusal}
use Rattle.pdus.specs.declared.pdu_header.encoding.EncodeRefusal.TheVariants.{HeaderTooLong, TotalTooLong, NoMemory}

-- the length that is refused; want of memory refuses none
abbrev pub length_refused : EncodeRefusal → Option HeaderRefusal
length_refused (HeaderTooLong octets) = Some (header_refusal.HeaderTooLong octets)
length_refused (TotalTooLong octets) = Some (header_refusal.TotalTooLong octets)
length_refused NoMemory = None
