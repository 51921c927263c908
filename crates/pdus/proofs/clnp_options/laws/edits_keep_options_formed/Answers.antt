use Rattle.pdus.proofs.ClnpOptions.Kept.{advanced-formed, recorded-formed, marked-formed, edited-kind}
use Rattle.pdus.proofs.clnp_options.laws.edits_keep_options_formed.Goals as goal

pub returns-clause-advanced : goal.returns-clause-advanced
returns-clause-advanced c = advanced-formed

pub returns-clause-recorded : goal.returns-clause-recorded
returns-clause-recorded c = recorded-formed

pub returns-clause-marked : goal.returns-clause-marked
returns-clause-marked c = marked-formed

pub returns-clause-kind : goal.returns-clause-kind
returns-clause-kind c = edited-kind
