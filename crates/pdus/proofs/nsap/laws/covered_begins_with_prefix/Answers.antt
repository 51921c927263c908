use Rattle.pdus.proofs.NsapFacts.PrefixTexts.{covering}
use Rattle.pdus.proofs.nsap.laws.covered_begins_with_prefix.Goals as goal

pub returns : goal.returns
returns c = covering
