use Rattle.system_tables.proofs.ReassemblyFacts.LawKept.{kept_within, without_within, undone_within}
use Rattle.system_tables.proofs.reassembly.laws.limits_are_never_passed.Goals as goal

pub returns-clause-after : goal.returns-clause-after
returns-clause-after g c = λ limits now arrival buffers within. kept_within limits now arrival buffers within

pub returns-clause-without : goal.returns-clause-without
returns-clause-without g c = λ limits key buffers within. without_within limits key buffers within

pub returns-clause-undone : goal.returns-clause-undone
returns-clause-undone g c = λ limits key buffers within. undone_within limits key buffers within
