use Rattle.pdus.proofs.ClnpOptions.Agree.{fits_kind_of, reason_fits}
use Rattle.pdus.proofs.clnp_options.laws.reasons_stand_in_reports.Goals as goal

pub returns : goal.returns
returns c = λ is_report options. (fits_kind_of is_report options, reason_fits is_report options)
