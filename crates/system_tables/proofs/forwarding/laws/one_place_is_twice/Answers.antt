use Rattle.system_tables.proofs.ForwardingFacts.Prefixes.{twice_none, twice_one}
use Rattle.system_tables.proofs.forwarding.laws.one_place_is_twice.Goals as goal

pub returns-clause-one : goal.returns-clause-one
returns-clause-one c = twice_one

pub returns-clause-none : goal.returns-clause-none
returns-clause-none c = twice_none
