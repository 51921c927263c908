use Rattle.std.proofs.Common.{◌∙◌, ap, Bool, not, ◌++◌}
use Rattle.std.specs.Prelude.{◌&&◌}
use Rattle.clnp_machine.specs.Unit.{value_of, wire}
use Rattle.clnp_machine.proofs.Reporting.{begins, report_kind}
use Rattle.clnp_machine.proofs.laws.discards_are_reported_as_wanted.Goals as goal

pub returns-clause-wanted : goal.returns-clause-wanted
returns-clause-wanted c p following carriable =
    c.reportable_where_wanted.ensures (wire p ++ following) (value_of p) following (begins p following carriable)
    ∙ ap (λ (test : Bool). p.unit.report && not test) (report_kind p.unit.kind)
