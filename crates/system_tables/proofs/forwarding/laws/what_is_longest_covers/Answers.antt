use Rattle.system_tables.proofs.ForwardingFacts.Choosing.{longest_is}
use Rattle.system_tables.proofs.forwarding.laws.what_is_longest_covers.Goals as goal

pub returns : goal.returns
returns c = longest_is
