use Rattle.pdus.specs.ClnpOptions.Parameter.{parameters}
use Rattle.pdus.proofs.ClnpOptions.Agree.{are_formed, are_well_formed, forms_of, well_formed_from, well_formed_anywhere}
use Rattle.pdus.proofs.clnp_options.laws.formed_where_no_form_rule_is_broken.Goals as goal

pub returns-clause-part : goal.returns-clause-part
returns-clause-part c =
    λ part first. (
      (λ e. (parameters part, forms_of part ((well_formed_anywhere part first).0 e))),
      (λ s. (well_formed_anywhere part first).1 (well_formed_from s.0 part s.1)),
    )

pub returns-clause-well_formed : goal.returns-clause-well_formed
returns-clause-well_formed c = λ part. ((λ h. forms_of part h), (λ f. well_formed_from (parameters part) part f))

pub returns-clause-list : goal.returns-clause-list
returns-clause-list c = λ options. ((λ h. are_formed options h), (λ f. are_well_formed options f))

pub returns-clause-from_forms : goal.returns-clause-from_forms
returns-clause-from_forms c = well_formed_from
