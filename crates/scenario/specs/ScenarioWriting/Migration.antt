-- Scenario texts of version 1 in version 2.
use Rattle.std.specs.Prelude.{List, ℕ, Result, Ok}
use Rattle.scenario.specs.ScenarioWriting.Canonical.{text_of}
use Rattle.scenario.specs.Grammar.{BadLine, plan_of_version_1}
use Rattle.scenario.specs.Words.{◌>>=◌}
pub use Rattle.clnp_plan.specs.ScenarioPlan.Migrated.{migrated}

-- the text that a text of version 1 becomes in version 2, or its first bad line
abbrev pub migration_of : List ℕ → Result (List ℕ) BadLine
migration_of text = plan_of_version_1 text >>= λ plan. Ok (text_of (migrated plan))
