use Rattle.pdus.proofs.NsapFacts.PrefixTexts.{prefix_of-hex_text}
use Rattle.pdus.proofs.nsap.laws.text_reads_as_prefix.Goals as goal

pub returns : goal.returns
returns c = prefix_of-hex_text
