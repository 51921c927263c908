use Rattle.system_tables.proofs.ForwardingFacts.Choosing.{longest_from, longest_one}
use Rattle.system_tables.proofs.forwarding.laws.one_alone_is_longest.Goals as goal

pub returns-clause-one : goal.returns-clause-one
returns-clause-one c = longest_one

pub returns-clause-that : goal.returns-clause-that
returns-clause-that c = longest_from
