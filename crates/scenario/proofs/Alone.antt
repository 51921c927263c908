-- What is read as a text of version 1 alone.
use Rattle.std.proofs.Common.{◌≡◌, ℕ, List, Result, Ok, Err, IfOk}
use Rattle.std.specs.Prelude.{◌↔◌, MatchResult}
use Rattle.clnp_plan.specs.ScenarioPlan.Plan.{Plan}
use Rattle.scenario.specs.Grammar.{plan_of, plan_of_version_1}
use Rattle.scenario.specs.Refusal.{Refuses}
use Rattle.scenario.specs.declared.fault.ScenarioRefusal.{ScenarioRefusal}

pub says_version_1 : (text : List ℕ) (read : Result Plan ScenarioRefusal)
    → ((plan : Plan) → (plan_of_version_1 text ≡ Ok plan) ↔ ((plan_of text ≡ Ok plan) × (plan.version ≡ 1)))
    → MatchResult read (λ plan. plan_of_version_1 text ≡ Ok plan) (λ refusal. Refuses refusal (plan_of_version_1 text))
    → IfOk read (λ plan. plan.version ≡ 1)
says_version_1 text (Ok plan) alike is = ((alike plan).0 is).1
says_version_1 text (Err refusal) alike is = tt
