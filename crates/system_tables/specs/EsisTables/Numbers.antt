-- The numbers under which entries were heard, where the gaps between them are closed.
use Rattle.std.specs.Prelude.{◌≡◌, ℕ, ◌-◌, ◌≤◌, true, Bool, ◌&&◌, nat_lt, fold, if◌then◌else◌, List, length, filter, Option, None, Some}
use Rattle.std.specs.List.{AllByRecursion}
use Rattle.system_tables.specs.declared.esis_tables.table.Entry.{Entry}
use Rattle.system_tables.specs.EsisTables.Fact.{Fact}
use Rattle.system_tables.specs.EsisTables.Keeps.{Keeps}

-- whether an entry was heard after a number
abbrev pub is_above : ℕ → Entry → Bool
is_above number entry = nat_lt number entry.number

-- how many were
abbrev pub count_above : ℕ → List Entry → ℕ
count_above number entries = length (filter (is_above number) entries)

abbrev pub is_less_than : ℕ → Option ℕ → Bool
is_less_than number None = true
is_less_than number (Some other) = nat_lt number other

-- the least one of the numbers above this one, and of one found before
abbrev pub least_above : ℕ → Option ℕ → List Entry → Option ℕ
least_above number found entries =
    fold (λ least entry. if is_above number entry && is_less_than entry.number least then Some entry.number else least) found entries

-- a number, which goes down by so much where it is above another
abbrev pub down : (above by : ℕ) → ℕ → ℕ
down above by number = if nat_lt above number then number - by else number

abbrev pub lowered : (above by : ℕ) → Entry → Entry
lowered above by entry = record entry { number = down above by entry.number }

-- entries that keep what others keep, whose times end no earlier, and which are as many
pub record KeepTheSame (before after : List Entry) : Type 0 where
  pub keeps : (limit : ℕ) (kept : List Fact) → Keeps (record { limit = limit; entries = before }) kept
      → Keeps (record { limit = limit; entries = after }) kept
  pub ends : (moment : ℕ) → AllByRecursion (λ entry. moment ≤ entry.until) before
      → AllByRecursion (λ entry. moment ≤ entry.until) after
  pub number : length after ≡ length before
