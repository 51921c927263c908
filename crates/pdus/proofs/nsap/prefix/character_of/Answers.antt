use Rattle.pdus.proofs.NsapFacts.Digits.{written_digit}
use Rattle.pdus.proofs.nsap.prefix.character_of.Goals as goal

pub returns : goal.returns
returns c = written_digit c.args.value c.encode_to_slice.new.output c.requires c.in-Ok.ensures.written
