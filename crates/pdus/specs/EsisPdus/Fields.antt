-- The fields of a header's address parts (ISO 9542, sections 7.3 and 7.4): a length octet, and then so many octets.
use Rattle.std.specs.Prelude.{ℕ, zero, suc, ◌&&◌, nat_le, nat_lt, Bool, true, List, [], ◌∷◌, length, take, drop}
use Rattle.pdus.specs.Fletcher.Checksum.{octet}

-- a field lies whole at the front of these octets, and has at least so many octets, and 20 at most
abbrev pub is_field : ℕ → List ℕ → Bool
is_field least octets =
    nat_le least (octet octets 1) && (nat_le (octet octets 1) 20 && nat_lt (octet octets 1) (length octets))

-- the octets of the field at the front
abbrev pub field : List ℕ → List ℕ
field octets = take (octet octets 1) (drop 1 octets)

-- what follows it
abbrev pub behind : List ℕ → List ℕ
behind octets = drop (octet octets 1) (drop 1 octets)

-- so many addresses lie whole at the front
unfoldable pub are_addresses : ℕ → List ℕ → Bool
are_addresses zero octets = true
are_addresses (suc others) octets = is_field 1 octets && are_addresses others (behind octets)

-- the addresses, in order
unfoldable pub addresses : ℕ → List ℕ → List (List ℕ)
addresses zero octets = []
addresses (suc others) octets = field octets ∷ addresses others (behind octets)

-- what follows them
unfoldable pub behind_addresses : ℕ → List ℕ → List ℕ
behind_addresses zero octets = octets
behind_addresses (suc others) octets = behind_addresses others (behind octets)

-- a number of addresses in one octet, and then the addresses
abbrev pub is_address_list : List ℕ → Bool
is_address_list octets = nat_le 1 (length octets) && are_addresses (octet octets 1) (drop 1 octets)

abbrev pub address_list : List ℕ → List (List ℕ)
address_list octets = addresses (octet octets 1) (drop 1 octets)

abbrev pub behind_address_list : List ℕ → List ℕ
behind_address_list octets = behind_addresses (octet octets 1) (drop 1 octets)
