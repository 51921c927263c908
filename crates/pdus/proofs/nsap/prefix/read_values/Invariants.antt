use Rattle.std.proofs.Common.{◌≡◌, ◌++◌, map, take, drop}
use Rattle.pdus.specs.Nsap.Prefix.{digit_value}
use Rattle.pdus.proofs.nsap.prefix.read_values.Given as goal

abbrev pub invariant-loop-at : goal.invariant-loop-at
invariant-loop-at l = l.digits ≡ map digit_value (take l.at l.initial.digits) ++ drop l.at l.initial.digits
