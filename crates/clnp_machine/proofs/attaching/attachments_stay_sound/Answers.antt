use Rattle.clnp_machine.proofs.Keeping.{changed_soundly, declared_soundly}
use Rattle.clnp_machine.proofs.attaching.attachments_stay_sound.Goals as goal

pub returns-clause-declared : goal.returns-clause-declared
returns-clause-declared c = declared_soundly

pub returns-clause-changed : goal.returns-clause-changed
returns-clause-changed c = changed_soundly (c.changed_routes_differ.ensures.set, c.changed_routes_differ.ensures.removed)
