use Rattle.pdus.proofs.NsapFacts.PrefixTexts.{prefix_of-prefix_text}
use Rattle.pdus.proofs.nsap.laws.prefix_text_reads_back.Goals as goal

pub returns : goal.returns
returns c = prefix_of-prefix_text
