-- Scenarios of version 1 in version 2.
use Rattle.clnp_plan.specs.ScenarioPlan.Plan.{Plan}

-- the same scenario in version 2
abbrev pub migrated : Plan → Plan
migrated plan = record plan { version = 2 }
