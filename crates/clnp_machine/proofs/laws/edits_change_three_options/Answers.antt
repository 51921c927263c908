use Rattle.clnp_machine.proofs.Editing.{behind_edited, edits_keep}
use Rattle.clnp_machine.proofs.laws.edits_change_three_options.Goals as goal

pub returns-clause-others : goal.returns-clause-others
returns-clause-others c = edits_keep

pub returns-clause-behind : goal.returns-clause-behind
returns-clause-behind c = behind_edited
