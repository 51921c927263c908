-- Scenario texts of version 1 in version 2.
use Rattle.std.specs.Prelude.{◌≡◌, ℕ, List, Ok}
use Rattle.scenario.specs.ScenarioWriting.Canonical as canonical
use Rattle.scenario.specs.Grammar.{plan_of}
use Rattle.scenario.specs.ScenarioWriting.Migration.{migrated, migration_of}
use Rattle.clnp_machine.specs.ScenarioPlan.Plan.{Plan}
use Rattle.clnp_machine.specs.ClnpNetwork.Run as network_run

-- A text of version 1 becomes the canonical text of its scenario in version 2, in which all clocks tick together; that text is
-- read as this scenario, and its run and its journal are the same.
pub record IsMigrated (text : List ℕ) (plan : Plan) : Type 0 where
  pub written : migration_of text ≡ Ok (canonical.text_of (migrated plan))
  pub read : plan_of (canonical.text_of (migrated plan)) ≡ Ok (migrated plan)
  pub together : (migrated plan).limits.skew ≡ 0
  pub run : network_run.run (migrated plan) ≡ network_run.run plan
  pub journal : network_run.journal (migrated plan) ≡ network_run.journal plan
