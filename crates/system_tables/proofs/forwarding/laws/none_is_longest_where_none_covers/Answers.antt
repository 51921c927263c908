use Rattle.system_tables.proofs.ForwardingFacts.Choosing.{covers_none}
use Rattle.system_tables.proofs.forwarding.laws.none_is_longest_where_none_covers.Goals as goal

pub returns : goal.returns
returns c = covers_none
