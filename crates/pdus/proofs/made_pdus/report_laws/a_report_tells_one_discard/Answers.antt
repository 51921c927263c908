use Rattle.std.proofs.Common.{rules, refl, sym, ap, ◌∷◌, [], unwrap_or}
use Rattle.pdus.specs.ClnpOptions.Parameter.{reason}
use Rattle.pdus.specs.Fletcher.Checksum.{octet}
use Rattle.pdus.proofs.MadePdus.Reason.{its_reason, only}
use Rattle.pdus.proofs.made_pdus.report_laws.a_report_tells_one_discard.Goals as goal

pub returns-clause-some : goal.returns-clause-some
returns-clause-some c v pdu is_er = record { kind = is_er; reason = its_reason v.kind v.options is_er pdu.options.formed pdu.reason; data_are = refl }

pub returns-clause-only : goal.returns-clause-only
returns-clause-only c v cause place discarded pdu told =
    let e = only v.options reason (cause ∷ place ∷ []) pdu.options.distinct (search rules) told.reason in
    (ap (λ o. octet (unwrap_or o []) 1) (sym e), ap (λ o. octet (unwrap_or o []) 2) (sym e), sym told.data_are)
