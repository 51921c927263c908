-- The types of the kinds of PDUs.
use Rattle.std.specs.Prelude.{ℕ}
use Rattle.pdus.specs.declared.esis_pdus.kind.Kind.{Kind}
use Rattle.pdus.specs.declared.esis_pdus.kind.Kind.TheVariants.{EndSystemHello, IntermediateSystemHello, Redirect}

abbrev pub code_of : Kind → ℕ
code_of EndSystemHello = 2
code_of IntermediateSystemHello = 4
code_of Redirect = 6
