use Rattle.pdus.proofs.made_pdus.report_laws.no_report_of_a_report.Goals as goal

pub returns-clause-made : goal.returns-clause-made
returns-clause-made c frame own cause place life is_sealed octets rest begins =
    c.reportable_where_wanted.ensures octets _ rest begins
