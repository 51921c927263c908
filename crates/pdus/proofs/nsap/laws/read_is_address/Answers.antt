use Rattle.pdus.proofs.NsapFacts.HexTextFacts.{IsAddress-octets_of}
use Rattle.pdus.proofs.nsap.laws.read_is_address.Goals as goal

pub returns : goal.returns
returns c = IsAddress-octets_of
