-- Addresses: NSAP addresses, and the addresses of the points where systems are attached to a subnetwork.
use Rattle.std.specs.Prelude.{ℕ, ◌≤◌, ◌&&◌, nat_le, if◌then◌else◌, List, length, Result, Ok, Err}
use Rattle.hex.specs.Hex.{IsBytes}
use Rattle.pdus.specs.declared.nsap.fault.NsapFault.{NsapFault}
use Rattle.pdus.specs.declared.nsap.fault.NsapFault.TheVariants.{Length}

-- an address is 1 to 20 octets
pub record IsAddress (octets : List ℕ) : Type 0 where
  pub some : 1 ≤ length octets
  pub few : length octets ≤ 20
  pub bytes : IsBytes octets

-- these octets as an address, or the fault where they are none or more than 20
abbrev pub address_of : List ℕ → Result (List ℕ) NsapFault
address_of octets =
    if nat_le 1 (length octets) && nat_le (length octets) 20 then Ok octets else Err Length
