use Rattle.pdus.proofs.NsapFacts.HexTextFacts.{octets_of-hex_text}
use Rattle.pdus.proofs.nsap.laws.text_reads_back.Goals as goal

pub returns : goal.returns
returns c = octets_of-hex_text
