use Rattle.std.proofs.Common.{◌≡◌, map, take}
use Rattle.pdus.proofs.NsapFacts.PrefixTexts.{shown}
use Rattle.pdus.proofs.nsap.prefix.Prefix.characters.Given as goal

abbrev pub invariant-loop-digit : goal.invariant-loop-digit
invariant-loop-digit l = l.characters ≡ map shown (take l.digit-index l.digit-items)
