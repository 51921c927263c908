use Rattle.std.proofs.Common.{refl}
use Rattle.pdus.specs.ClnpOptions.Edits.{value_of}
use Rattle.pdus.proofs.made_pdus.report_laws.a_made_report_is_read_again.Goals as goal

pub returns-clause-cause : goal.returns-clause-cause
unfolding value_of
returns-clause-cause c frame own cause place life is_sealed = refl

pub returns-clause-place : goal.returns-clause-place
unfolding value_of
returns-clause-place c frame own cause place life is_sealed = refl
