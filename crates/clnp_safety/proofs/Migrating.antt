-- What becomes of texts of version 1 in version 2.
use Rattle.std.proofs.Common.{◌≡◌, ℕ, List, Result, Ok, Err, IfOk, ap}
use Rattle.clnp_machine.specs.ScenarioPlan.Migrated.{migrated}
use Rattle.clnp_machine.specs.ScenarioPlan.Plan.{Plan}
use Rattle.scenario.specs.ScenarioWriting.Canonical as canonical
use Rattle.scenario.specs.ScenarioWriting.Migration.{migration_of}
use Rattle.scenario.specs.Grammar.{BadLine, plan_of_version_1}
use Rattle.scenario.specs.Words.{◌>>=◌}
use Rattle.clnp_safety.specs.Migrated.{IsMigrated}

-- what is so of each plan that a text says
pub of_each : (text : List ℕ) (reading : Result Plan BadLine) → plan_of_version_1 text ≡ reading
    → ((plan : Plan) → plan_of_version_1 text ≡ Ok plan → IsMigrated text plan) → IfOk reading (IsMigrated text)
of_each text (Ok plan) is so = so plan is
of_each text (Err bad) is so = tt

pub text_migrates : (text : List ℕ) (plan : Plan) → plan_of_version_1 text ≡ Ok plan → migration_of text ≡ Ok (canonical.text_of (migrated plan))
text_migrates text plan is = ap (λ (r : Result Plan BadLine). r >>= λ p. Ok (canonical.text_of (migrated p))) is
