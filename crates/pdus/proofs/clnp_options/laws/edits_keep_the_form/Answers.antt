use Rattle.pdus.proofs.ClnpOptions.Kept.{advanced-one_form, recorded-one_form, marked-one_form, HaveOneForm-same, HaveOneForm-chained, length-one_form}
use Rattle.pdus.proofs.clnp_options.laws.edits_keep_the_form.Goals as goal

pub returns-clause-advanced : goal.returns-clause-advanced
returns-clause-advanced c = advanced-one_form

pub returns-clause-recorded : goal.returns-clause-recorded
returns-clause-recorded c = recorded-one_form

pub returns-clause-marked : goal.returns-clause-marked
returns-clause-marked c = marked-one_form

pub returns-clause-same : goal.returns-clause-same
returns-clause-same c = HaveOneForm-same

pub returns-clause-chained : goal.returns-clause-chained
returns-clause-chained c = HaveOneForm-chained

pub returns-clause-len : goal.returns-clause-len
returns-clause-len c = length-one_form
