use Rattle.pdus.proofs.ClnpOptions.Kept.{target_is_title, route_value_form, value_moved, moved_further, moved_within, less_left}
use Rattle.pdus.proofs.clnp_options.laws.a_source_route_leads_on.Goals as goal

pub returns-clause-title : goal.returns-clause-title
returns-clause-title c = target_is_title

pub returns-clause-form : goal.returns-clause-form
returns-clause-form c = route_value_form

pub returns-clause-moved : goal.returns-clause-moved
returns-clause-moved c = value_moved

pub returns-clause-further : goal.returns-clause-further
returns-clause-further c = moved_further

pub returns-clause-within : goal.returns-clause-within
returns-clause-within c = moved_within

pub returns-clause-left : goal.returns-clause-left
returns-clause-left c = less_left
