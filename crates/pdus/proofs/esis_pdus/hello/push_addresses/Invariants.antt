use Rattle.std.proofs.Common.{◌≡◌, ◌++◌, take}
use Rattle.pdus.specs.ClnpOptions.Grammar.{joined}
use Rattle.pdus.proofs.esis_pdus.hello.push_addresses.Given as goal

abbrev pub invariant-loop-address : goal.invariant-loop-address
invariant-loop-address l = l.plain ≡ l.initial.plain ++ joined (take l.address-index l.addresses)
