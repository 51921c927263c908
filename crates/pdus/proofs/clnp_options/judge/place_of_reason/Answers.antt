use Rattle.std.proofs.Common.{sym}
use Rattle.pdus.proofs.ClnpOptions.Places.{place_of_reason-found, place_of_reason-none}
use Rattle.pdus.proofs.clnp_options.judge.place_of_reason.Goals as goal

pub returns-in-Some : goal.returns-in-Some
returns-in-Some c = rw c.if-not-is_report.false (sym (place_of_reason-found _ _ _ c.in-Some.ensures))

pub returns-in-None : goal.returns-in-None
returns-in-None c = rw c.if-not-is_report.false (sym (place_of_reason-none _ _ c.in-None.ensures))
