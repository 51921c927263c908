-- Worked hearings, by computation.
use Rattle.std.proofs.Common.{◌≡◌, ℕ, true, List, [], ◌∷◌, None, Some, refl}
use Rattle.system_tables.specs.declared.esis_tables.fact.EsisLimits.{EsisLimits}
use Rattle.system_tables.specs.declared.esis_tables.fact.Neighbour.{Neighbour}
use Rattle.system_tables.specs.declared.esis_tables.fact.Heard.TheVariants.{New, Again, Zero, Full}
use Rattle.system_tables.specs.declared.esis_tables.fact.TableKind.TheVariants.{Is, Rd}
use Rattle.system_tables.specs.EsisTables.Fact.{Fact, answer, current, hearing}
use Rattle.system_tables.specs.EsisTables.Gone.{gone, gone_from}
use Rattle.system_tables.specs.EsisTables.NextHop.{is_router, last_router, next_hop}

abbrev limits : EsisLimits
limits = record { neighbours = 2; routers = 2; redirects = 1 }

abbrev at : ℕ → Neighbour
at snpa = record { port = 0; snpa = snpa ∷ [] }

abbrev router : List ℕ
router = 71 ∷ 0 ∷ 39 ∷ 255 ∷ []

abbrev other_router : List ℕ
other_router = 71 ∷ 0 ∷ 39 ∷ 254 ∷ []

abbrev host : List ℕ
host = 71 ∷ 0 ∷ 39 ∷ 1 ∷ []

abbrev other_host : List ℕ
other_host = 71 ∷ 0 ∷ 39 ∷ 4 ∷ []

-- an intermediate system is heard, then another, then the first again, and a redirect towards the host
abbrev facts : List Fact
facts = hearing 0 Is router (at 10) 120 ∷ hearing 3 Is other_router (at 12) 120 ∷ hearing 4 Is router (at 10) 60
    ∷ hearing 5 Rd host (at 2) 120 ∷ []

new : answer limits (hearing 0 Is router (at 10) 120) [] ≡ New
new = refl

again : answer limits (hearing 1 Is router (at 10) 120) (hearing 0 Is router (at 10) 120 ∷ []) ≡ Again
again = refl

zero : answer limits (hearing 1 Is router (at 10) 0) [] ≡ Zero
zero = refl

-- a full table refuses another key, and hears a known one again
full : answer limits (hearing 6 Rd other_host (at 2) 120) facts ≡ Full 1
full = refl

again_where_full : answer limits (hearing 6 Rd host (at 3) 120) facts ≡ Again
again_where_full = refl

-- a holding time of 120 seconds ends at tick 240
held_until : current 239 Is router (hearing 0 Is router (at 10) 120 ∷ []) ≡ Some (hearing 0 Is router (at 10) 120)
held_until = refl

ended_at : current 240 Is router (hearing 0 Is router (at 10) 120 ∷ []) ≡ None
ended_at = refl

-- the one heard last, also where the other was heard first and holds longer
latest_router : last_router 5 facts ≡ Some (at 10)
latest_router = refl

longest_router : last_router 200 facts ≡ Some (at 12)
longest_router = refl

there : is_router 5 (12 ∷ []) facts ≡ true
there = refl

-- the redirect is for its destination alone
hop_of_host : next_hop 5 host facts ≡ Some (at 2)
hop_of_host = refl

hop_of_other : next_hop 5 other_host facts ≡ Some (at 10)
hop_of_other = refl

-- what ends by tick 246, by table and key
gone_by : gone 5 246 facts ≡ gone_from Is other_router ∷ gone_from Is router ∷ gone_from Rd host ∷ []
gone_by = refl
