-- The words by which lines of text name the kinds of PDU.
use Rattle.std.specs.Prelude.{ℕ, List, codes}
use Rattle.pdus.specs.declared.pdu_header.kind.Kind.{Kind}
use Rattle.pdus.specs.declared.pdu_header.kind.Kind.TheVariants.{Dt, Er, Erq, Erp}

abbrev pub kind_word : Kind → List ℕ
kind_word Dt = codes "dt"
kind_word Er = codes "er"
kind_word Erq = codes "erq"
kind_word Erp = codes "erp"
