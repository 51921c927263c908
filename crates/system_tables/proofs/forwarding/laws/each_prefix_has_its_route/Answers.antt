use Rattle.pdus.proofs.ClnpBase.SameOctets.{other_from}
use Rattle.system_tables.proofs.ForwardingFacts.Setting.{find_other, find_other_set, find_own, find_set}
use Rattle.system_tables.proofs.forwarding.laws.each_prefix_has_its_route.Goals as goal

pub returns-clause-set : goal.returns-clause-set
returns-clause-set c = find_set

pub returns-clause-removed : goal.returns-clause-removed
returns-clause-removed c = find_own

pub returns-clause-others_set : goal.returns-clause-others_set
returns-clause-others_set c = λ route other routes differ. find_other_set route other routes (other_from route.prefix other differ)

pub returns-clause-others_removed : goal.returns-clause-others_removed
returns-clause-others_removed c = λ prefix other routes differ. find_other prefix other routes (other_from prefix other differ)
