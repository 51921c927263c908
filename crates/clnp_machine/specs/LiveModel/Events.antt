-- Which events are done in turns, and when.
use Rattle.std.specs.Prelude.{ℕ, ◌<◌, ◌≤◌, List, [], ◌∷◌, ◌++◌}
use Rattle.std.specs.List.{AllByRecursion}
use Rattle.clnp_machine.specs.LiveModel.Turn.{Due, due_behind, due_by}

-- the events that are done in turns at these moments, in order
abbrev pub done_in : (moments : List ℕ) → List Due → List Due
done_in [] dues = []
done_in (now ∷ moments) dues = due_by now dues ++ done_in moments (due_behind now dues)

-- those that are still to be done behind them
abbrev pub waiting_behind : (moments : List ℕ) → List Due → List Due
waiting_behind [] dues = dues
waiting_behind (now ∷ moments) dues = waiting_behind moments (due_behind now dues)

-- due later than at each of these moments
abbrev pub IsLaterThan : List ℕ → Due → Type 0
IsLaterThan moments due = AllByRecursion (λ (moment : ℕ). moment < due.moment) moments

-- due by a moment, and by none of those before it
pub record IsFirstDue (before : List ℕ) (now : ℕ) (due : Due) : Type 0 where
  pub reached : due.moment ≤ now
  pub later : IsLaterThan before due
