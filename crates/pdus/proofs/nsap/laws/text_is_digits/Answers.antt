use Rattle.hex.proofs.HexLemmas.{length-encode_with}
use Rattle.hex.specs.Hex.{lower_digits}
use Rattle.pdus.proofs.NsapFacts.HexTextFacts.{AllPass-hex_text}
use Rattle.pdus.proofs.nsap.laws.text_is_digits.Goals as goal

pub returns-clause-digits : goal.returns-clause-digits
returns-clause-digits c = AllPass-hex_text

pub returns-clause-two : goal.returns-clause-two
returns-clause-two c = length-encode_with lower_digits
