-- What is written of scenarios of version 1 in version 2.
use Rattle.std.proofs.Common.{◌≡◌, Result, Ok, ap}
use Rattle.scenario.specs.Grammar.{BadLine, plan_of}
use Rattle.clnp_plan.specs.ScenarioPlan.Plan.{Plan}
use Rattle.scenario.specs.Words.{◌>>=◌}
use Rattle.scenario.specs.ScenarioWriting.Canonical.{text_of}
use Rattle.scenario.specs.ScenarioWriting.Migration.{migrated, migration_of}
use Rattle.scenario.proofs.Versions.{taken_alike}

-- what is written of a scenario of version 1 becomes what is written of it in version 2
pub text_migrates : (plan : Plan) → plan_of (text_of plan) ≡ Ok plan → plan.version ≡ 1 → migration_of (text_of plan) ≡ Ok (text_of (migrated plan))
text_migrates plan read one =
    ap (λ (r : Result Plan BadLine). r >>= λ p. Ok (text_of (migrated p))) ((taken_alike (text_of plan) plan).1 (read, one))
