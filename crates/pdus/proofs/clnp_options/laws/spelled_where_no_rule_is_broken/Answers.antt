use Rattle.std.proofs.Common.{sym, ◌∙◌}
use Rattle.pdus.specs.ClnpOptions.Parameter.{parameters}
use Rattle.pdus.proofs.ClnpOptions.Agree.{spells_of, accepts_from, accepted_anywhere, parameters-Forms}
use Rattle.pdus.proofs.clnp_options.laws.spelled_where_no_rule_is_broken.Goals as goal

pub returns-clause-spelled : goal.returns-clause-spelled
returns-clause-spelled c =
    λ is_report part first. (
      (λ e. (parameters part, spells_of is_report part ((accepted_anywhere is_report part first).0 e))),
      (λ s. (accepted_anywhere is_report part first).1 (accepts_from is_report s.0 part s.1)),
    )

pub returns-clause-accepts : goal.returns-clause-accepts
returns-clause-accepts c =
    λ is_report part. ((λ h. spells_of is_report part h), (λ s. accepts_from is_report (parameters part) part s))

pub returns-clause-one_list : goal.returns-clause-one_list
returns-clause-one_list c =
    λ kind other_kind part options others s t. sym (parameters-Forms options part s.octets) ∙ parameters-Forms others part t.octets

pub returns-clause-from_spelling : goal.returns-clause-from_spelling
returns-clause-from_spelling c = accepts_from

pub returns-clause-anywhere : goal.returns-clause-anywhere
returns-clause-anywhere c = accepted_anywhere
