use Rattle.pdus.proofs.ClnpOptions.Kept.{recording_leaves, quality_leaves, target_by_value, complete_by_value, complete-advanced}
use Rattle.pdus.proofs.clnp_options.laws.edits_leave_the_source_route.Goals as goal

pub returns-clause-target_recorded : goal.returns-clause-target_recorded
returns-clause-target_recorded c = λ change options. target_by_value _ _ (recording_leaves change options)

pub returns-clause-target_marked : goal.returns-clause-target_marked
returns-clause-target_marked c = λ change options. target_by_value _ _ (quality_leaves change options)

pub returns-clause-complete_recorded : goal.returns-clause-complete_recorded
returns-clause-complete_recorded c = λ change options. complete_by_value _ _ (recording_leaves change options)

pub returns-clause-complete_marked : goal.returns-clause-complete_marked
returns-clause-complete_marked c = λ change options. complete_by_value _ _ (quality_leaves change options)

pub returns-clause-complete_advanced : goal.returns-clause-complete_advanced
returns-clause-complete_advanced c = complete-advanced
