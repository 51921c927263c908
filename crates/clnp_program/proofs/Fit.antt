-- What holds of each scenario that is fit to be run holds of each text that is a scenario.
use Rattle.std.proofs.Common.{◌≡◌, ℕ, List, Result, Ok, Err, IfOk, refl}
use Rattle.clnp_machine.specs.ScenarioPlan.Plan.{Plan, IsFit}
use Rattle.scenario.specs.Grammar.{BadLine, plan_of}

read_fit : (read : Result Plan BadLine) (Holds : Plan → Type 0) → ((plan : Plan) → read ≡ Ok plan → IsFit plan)
    → ((plan : Plan) → IsFit plan → Holds plan) → IfOk read Holds
read_fit (Ok plan) Holds fit holds = holds plan (fit plan refl)
read_fit (Err bad) Holds fit holds = tt

pub of_fit : (Holds : Plan → Type 0) → ((text : List ℕ) (plan : Plan) → plan_of text ≡ Ok plan → IsFit plan)
    → ((plan : Plan) → IsFit plan → Holds plan) → (text : List ℕ) → IfOk (plan_of text) Holds
of_fit Holds fit holds text = read_fit (plan_of text) Holds (fit text) holds
