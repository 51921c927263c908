-- What it says that an identifier may be drawn, and when it was used.
use Rattle.std.proofs.Common.{◌≡◌, ℕ, ◌+◌, ◌≤◌, ◌==◌, cond, Option, Some, None, nat_lt, arith, if◌then◌else◌}
use Rattle.std.proofs.lemmas.Bool.Decides.{eqb_tells, nat_tests}
use Rattle.clnp_machine.specs.Identifiers.{Use, NotDrawn, IsQuiet, busy}

pub busy_rested : (now reuse used : ℕ) → busy now reuse (Some used) ≡ None → used + reuse ≤ now
busy_rested now reuse used idle = grind (arith, nat_tests)

pub past_quiet : (now quiet : ℕ) (later : Option NotDrawn) → cond (nat_lt now quiet) (Some (IsQuiet quiet)) later ≡ None → (quiet ≤ now) × (later ≡ None)
past_quiet now quiet later idle = grind (arith, nat_tests)

-- the moment of a use, where it is one of this identifier
abbrev pub moment_for : ℕ → Use → Option ℕ
moment_for identifier given = if given.identifier == identifier then Some given.moment else None

pub moment_there : (identifier : ℕ) (given : Use) → given.identifier ≡ identifier → moment_for identifier given ≡ Some given.moment
moment_there identifier given same = grind (arith, eqb_tells given.identifier identifier)
