-- Series of moves, one after another: their text, the world after them, and the moves of events.
use Rattle.std.proofs.Common.{◌≡◌, ℕ, ◌+◌, ◌-◌, ◌<◌, Bool, true, false, if◌then◌else◌, Option, None, Some, List, [], ◌∷◌, ◌++◌, length, take, drop, get_or, refl, sym, ap, ◌∙◌, append_assoc, append-nil, add-one, arith, length-take, take-append-drop}
use Rattle.std.specs.Prelude.{replicate}
use Rattle.std.proofs.lemmas.List.{replicate_more, replicate-append-replicate}
use Rattle.std.proofs.Math.Seq.{take-suc}
use Rattle.clnp_machine.specs.ScenarioPlan.Plan.{Plan, moves_of, moves_from}
use Rattle.clnp_machine.specs.ClnpPlan.declared.scenario_plan.event.Event.{Event}
use Rattle.clnp_machine.specs.ClnpPlan.declared.scenario_plan.event.Move.{Move}
use Rattle.clnp_machine.specs.ClnpNetwork.LabelledNetwork.{LabelledNetwork, after, is_full, weight}
use Rattle.clnp_machine.specs.ClnpNetwork.Run.{full_weight, until_full, world_after}
pub use Rattle.clnp_safety.proofs.Stops.{all_are_made, told_of_more}
use Rattle.clnp_machine.proofs.ClnpBase.Choices.{if_none}

pub world_after-append : (plan : Plan) (w : LabelledNetwork) (made more : List Move) → world_after plan w (made ++ more) ≡ world_after plan (world_after plan w made) more
world_after-append plan w [] more = refl
world_after-append plan w (move ∷ made) more = world_after-append plan (after plan w move).world made more

-- the network isn't full before any of the first moves, so what is made of those behind them comes behind them
pub until_full-behind : (plan : Plan) (w : LabelledNetwork) (made more : List Move) → full_weight plan w made ≡ None
    → until_full plan w (made ++ more) ≡ made ++ until_full plan (world_after plan w made) more
until_full-behind plan w [] more h = refl
until_full-behind plan w (move ∷ made) more h =
    let room = if_none (is_full w) (weight w) (full_weight plan (after plan w move).world made) h in
    ap (λ (full : Bool). if full then [] else move ∷ until_full plan (after plan w move).world (made ++ more)) room.0
    ∙ ap (λ (t : List Move). move ∷ t) (until_full-behind plan (after plan w move).world made more room.1)

pub full_weight-behind : (plan : Plan) (w : LabelledNetwork) (made more : List Move) → full_weight plan w made ≡ None
    → full_weight plan w (made ++ more) ≡ full_weight plan (world_after plan w made) more
full_weight-behind plan w [] more h = refl
full_weight-behind plan w (move ∷ made) more h =
    let room = if_none (is_full w) (weight w) (full_weight plan (after plan w move).world made) h in
    ap (λ (full : Bool). if full then Some (weight w) else full_weight plan (after plan w move).world (made ++ more)) room.0
    ∙ full_weight-behind plan (after plan w move).world made more room.1

longer_by_one : (full : Bool) (move : Move) (made all : List Move) → (rest : List Move) × (all ≡ made ++ rest)
    → (rest : List Move) × ((if full then [] else move ∷ all) ≡ (if full then [] else move ∷ made) ++ rest)
longer_by_one true move made all h = ([], refl)
longer_by_one false move made all h = (h.0, ap (λ (t : List Move). move ∷ t) h.1)

-- of more moves as many are made, or more
pub until_full-longer : (plan : Plan) (w : LabelledNetwork) (moves later : List Move)
    → (rest : List Move) × (until_full plan w (moves ++ later) ≡ until_full plan w moves ++ rest)
until_full-longer plan w [] later = (until_full plan w later, refl)
until_full-longer plan w (move ∷ moves) later =
    longer_by_one (is_full w) move (until_full plan (after plan w move).world moves) (until_full plan (after plan w move).world (moves ++ later))
    (until_full-longer plan (after plan w move).world moves later)

full_by_one : (full : Bool) (weighs octets : ℕ) (move : Move) (made all : List Move) (rest more : Option ℕ)
    → (rest ≡ Some octets → (more ≡ Some octets) × (all ≡ made)) → (if full then Some weighs else rest) ≡ Some octets
    → ((if full then Some weighs else more) ≡ Some octets) × ((if full then [] else move ∷ all) ≡ (if full then [] else move ∷ made))
full_by_one true weighs octets move made all rest more h is = (is, refl)
full_by_one false weighs octets move made all rest more h is =
    let both = h is in (both.0, ap (λ (t : List Move). move ∷ t) both.1)

-- where the network was full before a move, moves behind it change nothing
pub full_stays : (plan : Plan) (w : LabelledNetwork) (moves later : List Move) (octets : ℕ) → full_weight plan w moves ≡ Some octets
    → (full_weight plan w (moves ++ later) ≡ Some octets) × (until_full plan w (moves ++ later) ≡ until_full plan w moves)
full_stays plan w [] later octets h = absurd (cc)
full_stays plan w (move ∷ moves) later octets h =
    full_by_one (is_full w) (weight w) octets move (until_full plan (after plan w move).world moves) (until_full plan (after plan w move).world (moves ++ later))
    (full_weight plan (after plan w move).world moves) (full_weight plan (after plan w move).world (moves ++ later))
    (full_stays plan (after plan w move).world moves later octets) h

pub moves_from-append : (place : ℕ) (made more : List Event) → moves_from place (made ++ more) ≡ moves_from place made ++ moves_from (place + length made) more
moves_from-append place [] more = ap (λ (n : ℕ). moves_from n more) (omega arith)
moves_from-append place (event ∷ made) more =
    ap (λ (t : List Move). moves_of place event ++ t) (moves_from-append (place + 1) made more ∙ ap (λ (n : ℕ). moves_from (place + 1) made ++ moves_from n more) (omega arith))
    ∙ sym (append_assoc (moves_of place event) (moves_from (place + 1) made) (moves_from (place + length (event ∷ made)) more))

-- of so many equal moves, the next one and those after it
pub replicate_next : (m n : ℕ) (move : Move) → m < n → replicate n move ≡ (replicate m move ++ move ∷ []) ++ replicate (n - (m + 1)) move
replicate_next m n move h =
    rw (replicate_more m move, replicate-append-replicate (m + 1) (n - (m + 1)) move) (ap (λ (k : ℕ). replicate k move) (omega arith))

-- the moves of the first events, and of one event more
pub moves_from_more : (events : List Event) (place : ℕ) (event : Event) → place < length events → event ≡ get_or events place event
    → moves_from 0 (take (place + 1) events) ≡ moves_from 0 (take place events) ++ moves_of place event
moves_from_more events place event h e =
    let front : take (place + 1) events ≡ take place events ++ (event ∷ []) =
    rw add-one (take-suc events place event h ∙ ap (λ (x : Event). take place events ++ (x ∷ [])) (sym e)) in
    let len : 0 + length (take place events) ≡ place = omega (arith, length-take place events) in
    ap (λ (t : List Event). moves_from 0 t) front
    ∙ (moves_from-append 0 (take place events) (event ∷ []) ∙ rw (len, append-nil) refl)

-- all moves: those of the first events, of one event more, and of the others
pub moves_from_next : (events : List Event) (place : ℕ) (event : Event) → place < length events → event ≡ get_or events place event
    → moves_from 0 events ≡ (moves_from 0 (take place events) ++ moves_of place event) ++ moves_from (0 + length (take (place + 1) events)) (drop (place + 1) events)
moves_from_next events place event h e =
    ap (λ (t : List Event). moves_from 0 t) (sym (take-append-drop (place + 1) events))
    ∙ (moves_from-append 0 (take (place + 1) events) (drop (place + 1) events)
    ∙ ap (λ (t : List Move). t ++ moves_from (0 + length (take (place + 1) events)) (drop (place + 1) events)) (moves_from_more events place event h e))
