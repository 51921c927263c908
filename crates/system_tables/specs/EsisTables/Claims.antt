-- What is claimed of histories.
use Rattle.std.specs.Prelude.{ℕ, ◌≤◌, List, [], ◌∷◌, fold}
use Rattle.system_tables.specs.declared.esis_tables.fact.EsisLimits.{EsisLimits}
use Rattle.system_tables.specs.EsisTables.Fact.{Fact, after}

-- the facts after these hearings, in their order
abbrev pub heard_all : EsisLimits → List Fact → List Fact
heard_all limits hearings = fold (λ facts fact. after limits fact facts) [] hearings

-- the moments of these hearings never fall, from a first moment to a last one
abbrev pub NeverFall : ℕ → List Fact → ℕ → Type 0
NeverFall first [] last = first ≤ last
NeverFall first (fact ∷ later) last = (first ≤ fact.moment) × NeverFall fact.moment later last
