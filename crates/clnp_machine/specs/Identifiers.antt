-- Data unit identifiers: when one may be used again (ISO 8473, section 6.8: not while segments of the unit that had it may
-- still be on their way).
use Rattle.std.specs.Prelude.{ℕ, ◌+◌, ◌%◌, ◌^◌, ◌==◌, nat_lt, if◌then◌else◌, List, [], ◌∷◌, ◌++◌, length, Option, None, Some}
use Rattle.std.specs.Option.{option_or}

-- an identifier that was given to a unit, and the moment
pub record Use : Type 0 where
  pub identifier : ℕ
  pub moment : ℕ

-- A system's identifiers: how many ticks must pass before one is used again, the moment at which its quiet time ends, and
-- the uses since its start or its last restart, the newest last.
pub record Identifiers : Type 0 where
  pub reuse : ℕ
  pub quiet : ℕ
  pub uses : List Use

-- Why no identifier is drawn: the system is quiet until a moment, or the next one was used at a moment that isn't long ago.
pub data NotDrawn : Type 0 where
  IsQuiet : (until : ℕ) → NotDrawn
  IsBusy : (used : ℕ) → NotDrawn

-- they go round: 0, 1, up to 65,535, and 0 again
abbrev pub next : Identifiers → ℕ
next ids = length ids.uses % 2 ^ 16

-- the moment at which an identifier was used last
abbrev pub last_use : ℕ → List Use → Option ℕ
last_use identifier [] = None
last_use identifier (given ∷ later) =
    option_or (last_use identifier later) (if given.identifier == identifier then Some given.moment else None)

-- an identifier that was used at a moment is busy until `reuse` ticks later
abbrev pub busy : (now reuse : ℕ) → Option ℕ → Option NotDrawn
busy now reuse None = None
busy now reuse (Some used) = if nat_lt now (used + reuse) then Some (IsBusy used) else None

-- why no identifier is drawn at a moment, where none is
abbrev pub not_drawn : ℕ → Identifiers → Option NotDrawn
not_drawn now ids =
    if nat_lt now ids.quiet then Some (IsQuiet ids.quiet) else busy now ids.reuse (last_use (next ids) ids.uses)

-- the identifiers after the next one was given to a unit
abbrev pub after_use : ℕ → Identifiers → Identifiers
after_use now ids = record ids { uses = ids.uses ++ record { identifier = next ids; moment = now } ∷ [] }

abbrev pub after_drawing : Option NotDrawn → ℕ → Identifiers → Identifiers
after_drawing None now ids = after_use now ids
after_drawing (Some refused) now ids = ids

-- the identifiers after one was asked for at a moment
abbrev pub drawn : ℕ → Identifiers → Identifiers
drawn now ids = after_drawing (not_drawn now ids) now ids

-- at the start of a system there are no uses
abbrev pub opening : (reuse quiet : ℕ) → Identifiers
opening reuse quiet = record { reuse = reuse; quiet = quiet; uses = [] }

-- After a restart the uses are forgotten, so the system is quiet as long as one of them might matter.
abbrev pub restarted : ℕ → Identifiers → Identifiers
restarted now ids = opening ids.reuse (now + ids.reuse)
