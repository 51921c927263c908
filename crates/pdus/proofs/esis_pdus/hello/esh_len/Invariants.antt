use Rattle.std.proofs.Common.{◌≡◌, ◌+◌, ◌*◌, ◌≤◌, take, length}
use Rattle.std.specs.Prelude.{All}
use Rattle.pdus.specs.ClnpOptions.Grammar.{joined}
use Rattle.pdus.specs.Nsap.Address.{IsAddress}
use Rattle.pdus.proofs.esis_pdus.hello.esh_len.Given as goal

abbrev pub invariant-loop-address : goal.invariant-loop-address
invariant-loop-address l = record {
  size : l.octets ≡ 10 + length (joined (take l.address-index l.addresses));
  few : l.octets ≤ 10 + 21 * l.address-index;
  each : All IsAddress (take l.address-index l.addresses);
}
