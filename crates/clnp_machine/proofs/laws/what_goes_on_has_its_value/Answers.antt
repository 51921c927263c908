use Rattle.clnp_machine.proofs.Behind.{behind_carriable, behind_value}
use Rattle.clnp_machine.proofs.laws.what_goes_on_has_its_value.Goals as goal

pub returns-clause-value : goal.returns-clause-value
returns-clause-value c = behind_value c.laws_of_edits.ensures

pub returns-clause-carriable : goal.returns-clause-carriable
returns-clause-carriable c = behind_carriable c.laws_of_edits.ensures
