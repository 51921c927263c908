-- What a table keeps, and where a key is in it.
use Rattle.std.specs.Prelude.{◌≡◌, ℕ, ◌≤◌, true, Bool, ◌&&◌, nat_lt, fold, if◌then◌else◌, List, length, Option, None, Some, slice_get, take}
use Rattle.std.specs.List.{AllByRecursion, AllWithin}
use Rattle.std.specs.Str.{bytes_eq}
use Rattle.system_tables.specs.declared.esis_tables.fact.Neighbour.{Neighbour}
use Rattle.system_tables.specs.declared.esis_tables.table.Entry.{Entry}
use Rattle.system_tables.specs.EsisTables.Fact.{Fact, end_of}
use Rattle.system_tables.specs.EsisTables.Order.{is_before}

-- how many keys it may keep, and its entries
pub record TableState : Type 0 where
  pub limit : ℕ
  pub entries : List Entry

-- the entry of a fact, by the number of its hearing
abbrev pub entry_for : Fact → ℕ → Entry
entry_for fact number = record { key = fact.key; neighbour = fact.neighbour; until = end_of fact; number = number }

abbrev pub key_in : Entry → List ℕ
key_in entry = entry.key

abbrev pub is_of : List ℕ → Entry → Bool
is_of key entry = bytes_eq entry.key key

-- whether the time of an entry hasn't ended
abbrev pub is_kept : ℕ → Entry → Bool
is_kept now entry = nat_lt now entry.until

-- the entry at a place is that of a key
pub record IsAt (entries : List Entry) (key : List ℕ) (place : ℕ) : Type 0 where
  pub entry : Entry
  pub stands_at : slice_get entries place ≡ Some entry
  pub is_its : is_of key entry ≡ true

-- an entry of this key would go to this place
pub record IsGap (entries : List Entry) (key : List ℕ) (place : ℕ) : Type 0 where
  pub within : place ≤ length entries
  pub before : AllWithin (λ entry. is_before entry.key key ≡ true) entries 0 place
  pub behind : AllWithin (λ entry. is_before key entry.key ≡ true) entries place (length entries)

-- no time of an entry ends before a moment, and none was heard after a number
pub record AreBounded (soonest last : ℕ) (entries : List Entry) : Type 0 where
  pub end : AllByRecursion (λ entry. soonest ≤ entry.until) entries
  pub heard : AllByRecursion (λ entry. entry.number ≤ last) entries

-- of so many first entries no time ends before a moment
abbrev pub AreWalked : (number soonest : ℕ) → List Entry → Type 0
AreWalked number soonest entries = AllByRecursion (λ entry. soonest ≤ entry.until) (take number entries)

abbrev pub neighbour_in : Entry → Neighbour
neighbour_in entry = entry.neighbour

-- where the system of an entry is reached, while what was heard of it holds
abbrev pub neighbour_while_kept : ℕ → Option Entry → Option Neighbour
neighbour_while_kept now None = None
neighbour_while_kept now (Some entry) = if is_kept now entry then Some entry.neighbour else None

-- whether an entry holds and its system is at this address on its subnetwork
abbrev pub is_kept_at : ℕ → List ℕ → Entry → Bool
is_kept_at now snpa entry = is_kept now entry && bytes_eq entry.neighbour.snpa snpa

-- whether an entry was heard after another, if there is one
abbrev pub is_later_than : Entry → Option Entry → Bool
is_later_than entry None = true
is_later_than entry (Some other) = nat_lt other.number entry.number

-- the one that was heard last of those that hold, and of one found before
abbrev pub latest_kept : ℕ → Option Entry → List Entry → Option Entry
latest_kept now found entries =
    fold (λ latest entry. if is_kept now entry && is_later_than entry latest then Some entry else latest) found entries
