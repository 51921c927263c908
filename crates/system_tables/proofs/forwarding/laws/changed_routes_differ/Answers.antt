use Rattle.system_tables.proofs.ForwardingFacts.Setting.{AreDistinct-set_in, AreDistinct-without}
use Rattle.system_tables.proofs.forwarding.laws.changed_routes_differ.Goals as goal

pub returns-clause-set : goal.returns-clause-set
returns-clause-set c = AreDistinct-set_in

pub returns-clause-removed : goal.returns-clause-removed
returns-clause-removed c = AreDistinct-without
