use Rattle.std.proofs.Common.{◌≡◌, ◌-◌, ◌≤◌, length}
use Rattle.pdus.specs.EsisPdus.Fields.{are_addresses, behind_addresses}
use Rattle.pdus.proofs.esis_pdus.addresses.addresses_size.Given as goal

abbrev pub invariant-loop : goal.invariant-loop
invariant-loop l = record {
  whole : are_addresses l.count l.octets ≡ are_addresses (l.count - l.counter) l.rest;
  behind : behind_addresses l.count l.octets ≡ behind_addresses (l.count - l.counter) l.rest;
  size : length l.rest ≤ length l.octets;
}
