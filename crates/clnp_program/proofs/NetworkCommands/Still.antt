-- Moves that settle a copy where none is left: they change nothing, however many they are.
use Rattle.std.proofs.Common.{◌≡◌, ℕ, zero, suc, ◌+◌, ◌-◌, ◌<◌, ◌≤◌, nat_le, Bool, false, true, if◌then◌else◌, Option, None, Some, List, [], ◌∷◌, ◌++◌, length, refl, subst, sym, ap, ◌∙◌, append-nil, append_assoc}
use Rattle.std.specs.Prelude.{replicate}
use Rattle.std.proofs.lemmas.Bool.{leb-true}
use Rattle.std.proofs.lemmas.Option.{slice_get_past}
use Rattle.clnp_machine.specs.ClnpPlan.declared.journal.Telling.{Telling}
use Rattle.clnp_machine.specs.ScenarioPlan.Plan.{Plan}
use Rattle.clnp_machine.specs.ClnpPlan.declared.scenario_plan.event.Move.{Move}
use Rattle.clnp_machine.specs.ClnpPlan.declared.scenario_plan.event.Move.TheVariants.{SettleOne}
use Rattle.clnp_machine.specs.ClnpNetwork.LabelledNetwork.{Copy, Step, LabelledNetwork, after, is_full, nothing, settle_copy, weight}
use Rattle.clnp_machine.specs.ClnpNetwork.Run.{full_weight, told_lines, told_of, world_after}
use Rattle.clnp_program.specs.ClnpWorld.Lines.{both, no_lines, risen, tally}
use Rattle.clnp_program.specs.ClnpWorld.State.{WorldState}
use Rattle.clnp_program.specs.ClnpWorld.Stands.{Stands}
use Rattle.clnp_program.specs.declared.clnp_world.lines.Counts.{Counts}
use Rattle.clnp_program.specs.NetworkCommands.Counting.{Counted, tally_of}
use Rattle.clnp_program.specs.NetworkCommands.Play.{UnderWay}
use Rattle.clnp_program.proofs.NetworkCommands.Runs.{full_weight-behind, replicate_next, told_of_more, world_after-append}
use Rattle.clnp_program.proofs.NetworkCommands.Counting.{both-none, none-both, tally_of-append}
use Rattle.clnp_machine.proofs.ClnpBase.Choices.{if_none}

-- to settle a copy where none is left changes nothing
pub settled_after : (plan : Plan) (w : LabelledNetwork) → length w.copies ≤ w.cursor → after plan w SettleOne ≡ nothing w
settled_after plan w past = ap (λ (copy : Option Copy). settle_copy plan.limits w copy) (slice_get_past w.copies w.cursor past)

-- however often
pub record IsStill (plan : Plan) (w : LabelledNetwork) (moves : List Move) : Type 0 where
  pub world : world_after plan w moves ≡ w
  pub text : (form : Telling) → told_of form plan w moves ≡ []
  pub counted : tally_of plan w moves ≡ no_lines
  -- nor does the network get full
  pub room : is_full w ≡ false → full_weight plan w moves ≡ None

still_settled : (plan : Plan) (w : LabelledNetwork) (times : ℕ) → length w.copies ≤ w.cursor → IsStill plan w (replicate times SettleOne)
still_settled plan w zero past = record { world = refl; text = λ form. refl; counted = refl; room = λ _. refl }
still_settled plan w (suc times) past =
    let h = still_settled plan w times past in
    let same = settled_after plan w past in
    record {
      world = ap (λ (s : Step). world_after plan s.world (replicate times SettleOne)) same ∙ h.world;
      text = λ form. ap (λ (s : Step). told_lines form s.lines ++ told_of form plan s.world (replicate times SettleOne)) same ∙ h.text form;
      counted = ap (λ (s : Step). both (tally s.lines) (tally_of plan s.world (replicate times SettleOne))) same
          ∙ (ap (λ (c : Counts). both no_lines c) h.counted ∙ none-both no_lines);
      room = λ not_full.
          ap (λ (full : Bool). if full then Some (weight w) else full_weight plan (after plan w SettleOne).world (replicate times SettleOne)) not_full
          ∙ (ap (λ (s : Step). full_weight plan s.world (replicate times SettleOne)) same ∙ h.room not_full);
    }

-- The same move is made some times, and once more, and no copy was left to settle before that: the world is as it was, and
-- the others are still.
pub record Rests (plan : Plan) (model : LabelledNetwork) (front : List Move) (move : Move) (times : ℕ) : Type 0 where
  pub same : world_after plan model (front ++ move ∷ []) ≡ world_after plan model front
  pub still : IsStill plan (world_after plan model (front ++ move ∷ [])) (replicate times move)

pub rests : (plan : Plan) (model : LabelledNetwork) (front : List Move) (move : Move) (times : ℕ) → move ≡ SettleOne
    → nat_le (length (world_after plan model front).copies) (world_after plan model front).cursor ≡ true → Rests plan model front move times
rests plan model front move times is settled =
    let w : LabelledNetwork = world_after plan model front in
    let past : length w.copies ≤ w.cursor = leb-true (length w.copies) w.cursor settled in
    let same : world_after plan model (front ++ move ∷ []) ≡ w
    = world_after-append plan model front (move ∷ [])
    ∙ (ap (λ (m : Move). (after plan w m).world) is ∙ ap (λ (s : Step). s.world) (settled_after plan w past)) in
    record {
      same = same;
      still = subst (λ (m : Move). IsStill plan (world_after plan model (front ++ move ∷ [])) (replicate times m)) (sym is)
          (subst (λ (v : LabelledNetwork). IsStill plan v (replicate times SettleOne)) (sym same) (still_settled plan w times past));
    }

-- where the network wasn't full before any of the moves so far, it isn't before the others
pub rests_room : (plan : Plan) (model : LabelledNetwork) (front : List Move) (move : Move) (times : ℕ) (r : Rests plan model front move times)
    → full_weight plan model front ≡ None → full_weight plan model (front ++ move ∷ []) ≡ None
    → full_weight plan (world_after plan model (front ++ move ∷ [])) (replicate times move) ≡ None
rests_room plan model front move times r before room =
    let w : LabelledNetwork = world_after plan model front in
    let here : full_weight plan w (move ∷ []) ≡ None = sym (full_weight-behind plan model front (move ∷ []) before) ∙ room in
    let not : is_full w ≡ false = (if_none (is_full w) (weight w) None here).0 in
    r.still.room (ap is_full r.same ∙ not)

-- moves that are played

pub stands_rest : (plan : Plan) (model : LabelledNetwork) (move : Move) (made times : ℕ) (code : WorldState) → made < times → move ≡ SettleOne
    → nat_le (length (world_after plan model (replicate made move)).copies) (world_after plan model (replicate made move)).cursor ≡ true
    → Stands code (world_after plan (world_after plan model (replicate made move)) (move ∷ []))
    → Stands code (world_after plan model (replicate times move))
stands_rest plan model move made times code within is settled stands =
    let front : List Move = replicate made move in
    let r = rests plan model front move (times - (made + 1)) is settled in
    subst (λ (w : LabelledNetwork). Stands code w)
    (sym (ap (world_after plan model) (replicate_next made times move within)
    ∙ (world_after-append plan model (front ++ move ∷ []) (replicate (times - (made + 1)) move)
    ∙ (r.still.world ∙ world_after-append plan model front (move ∷ [])))))
    stands

-- some moves, the same move some times, once more, and as often as is left
all_of_it : (past : List Move) (move : Move) (made times : ℕ) → made < times
    → ((past ++ replicate made move) ++ move ∷ []) ++ replicate (times - (made + 1)) move ≡ past ++ replicate times move
all_of_it past move made times within =
    let rest : List Move = replicate (times - (made + 1)) move in
    ap (λ (t : List Move). t ++ rest) (append_assoc past (replicate made move) (move ∷ []))
    ∙ (append_assoc past (replicate made move ++ move ∷ []) rest
    ∙ ap (λ (t : List Move). past ++ t) (sym (replicate_next made times move within)))

pub plays_rest : (form : Telling) (plan : Plan) (model : LabelledNetwork) (past : List Move) (move : Move) (made times : ℕ) (between code : WorldState) (a b c : Option (List ℕ)) (block new : List ℕ)
    → made < times → move ≡ SettleOne
    → nat_le (length (world_after plan model (past ++ replicate made move)).copies) (world_after plan model (past ++ replicate made move)).cursor ≡ true
    → UnderWay form plan model (past ++ replicate made move) between a b block
    → UnderWay form plan model ((past ++ replicate made move) ++ move ∷ []) code a c new
    → UnderWay form plan model (past ++ replicate times move) code a c new
plays_rest form plan model past move made times between code a b c block new within is settled before u =
    let front : List Move = past ++ replicate made move in
    let so_far : List Move = front ++ move ∷ [] in
    let rest : List Move = replicate (times - (made + 1)) move in
    let r = rests plan model front move (times - (made + 1)) is settled in
    let here : world_after plan (world_after plan model u.made) u.waiting ≡ world_after plan model so_far
    = sym (ap (world_after plan model) u.split ∙ world_after-append plan model u.made u.waiting) in
    let none : told_of form plan (world_after plan (world_after plan model u.made) u.waiting) rest ≡ []
    = ap (λ (w : LabelledNetwork). told_of form plan w rest) here ∙ r.still.text form in
    subst (λ (moves : List Move). UnderWay form plan model moves code a c new) (all_of_it past move made times within)
    record {
      made = u.made;
      waiting = u.waiting ++ rest;
      split = ap (λ (t : List Move). t ++ rest) u.split ∙ append_assoc u.made u.waiting rest;
      room = full_weight-behind plan model so_far rest u.room ∙ rests_room plan model front move (times - (made + 1)) r before.room u.room;
      stands = subst (λ (w : LabelledNetwork). Stands code w) (sym (world_after-append plan model so_far rest ∙ r.still.world)) u.stands;
      appended = u.appended;
      waits = u.waits
          ∙ sym (told_of_more form plan (world_after plan model u.made) u.waiting rest
          ∙ (ap (λ (t : List ℕ). told_of form plan (world_after plan model u.made) u.waiting ++ t) none
          ∙ append-nil (told_of form plan (world_after plan model u.made) u.waiting)));
    }

-- moves that are counted
pub counts_rest : (plan : Plan) (model : LabelledNetwork) (past : List Move) (move : Move) (made times : ℕ) (between code : WorldState) (old new : Counts)
    → made < times → move ≡ SettleOne
    → nat_le (length (world_after plan model (past ++ replicate made move)).copies) (world_after plan model (past ++ replicate made move)).cursor ≡ true
    → Counted plan model (past ++ replicate made move) between old
    → Counted plan model ((past ++ replicate made move) ++ move ∷ []) code new
    → Counted plan model (past ++ replicate times move) code new
counts_rest plan model past move made times between code old new within is settled before u =
    let front : List Move = past ++ replicate made move in
    let so_far : List Move = front ++ move ∷ [] in
    let rest : List Move = replicate (times - (made + 1)) move in
    let r = rests plan model front move (times - (made + 1)) is settled in
    subst (λ (moves : List Move). Counted plan model moves code new) (all_of_it past move made times within)
    record {
      room = full_weight-behind plan model so_far rest u.room ∙ rests_room plan model front move (times - (made + 1)) r before.room u.room;
      stands = subst (λ (w : LabelledNetwork). Stands code w) (sym (world_after-append plan model so_far rest ∙ r.still.world)) u.stands;
      counted = u.counted
          ∙ ap (λ (c : Counts). risen no_lines c) (sym (tally_of-append plan model so_far rest
          ∙ (ap (λ (c : Counts). both (tally_of plan model so_far) c) r.still.counted ∙ both-none (tally_of plan model so_far))));
    }
