-- What is seen of a source and a sink in memory, and what a call of theirs does.
use Rattle.std.specs.Prelude.{ℕ, ◌-◌, ◌==◌, ◌&&◌, ◌||◌, nat_le, nat_lt, min, Bool, List, ◌++◌, length, drop}
use Rattle.std.specs.List.{list_any}
use Rattle.clnp_base.specs.Streams.{count_up}

-- the octets left, the most that a call gives, the numbers of the calls that fail, the calls made and the faults so far
pub record Supply : Type 0 where
  pub left : List ℕ
  pub most : ℕ
  pub fails : List ℕ
  pub calls : ℕ
  pub faults : ℕ

-- whether the next call fails
abbrev pub read_fails : Supply → Bool
read_fails s = list_any (λ number. number == count_up s.calls) s.fails

-- after a call that fails
abbrev pub after_failed_read : Supply → Supply
after_failed_read s = record s { calls = count_up s.calls; faults = count_up s.faults }

-- how many octets a call gives that doesn't fail
abbrev pub read_amount : Supply → ℕ → ℕ
read_amount s room = min s.most (min room (length s.left))

-- after a call that gives so many octets
abbrev pub after_read : Supply → ℕ → Supply
after_read s amount = record s { calls = count_up s.calls; left = drop amount s.left }

-- the octets written, the octets that there is room for in all, the most that a call takes, the numbers of the calls that fail, the calls made and the faults so far
pub record Store : Type 0 where
  pub written : List ℕ
  pub room : ℕ
  pub most : ℕ
  pub fails : List ℕ
  pub calls : ℕ
  pub faults : ℕ

-- whether the next call fails: its number is among those that do, or the piece has octets and there is no room
abbrev pub write_fails : Store → List ℕ → Bool
write_fails s piece = list_any (λ number. number == count_up s.calls) s.fails || (nat_lt 0 (length piece) && nat_le s.room (length s.written))

-- after a call that fails
abbrev pub after_failed_write : Store → Store
after_failed_write s = record s { calls = count_up s.calls; faults = count_up s.faults }

-- how many octets a call takes that doesn't fail
abbrev pub write_amount : Store → List ℕ → ℕ
write_amount s piece = min s.most (min (length piece) (s.room - length s.written))

-- after a call that takes these octets
abbrev pub after_write : Store → List ℕ → Store
after_write s taken = record s { calls = count_up s.calls; written = s.written ++ taken }
