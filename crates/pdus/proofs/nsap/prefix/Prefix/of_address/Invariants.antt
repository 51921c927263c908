use Rattle.std.proofs.Common.{◌≡◌, take}
use Rattle.pdus.specs.Nsap.Prefix.{digits_of}
use Rattle.pdus.proofs.nsap.prefix.Prefix.of_address.Given as goal

abbrev pub invariant-loop-octet : goal.invariant-loop-octet
invariant-loop-octet l = l.digits ≡ digits_of (take l.octet-index l.octet-items)
