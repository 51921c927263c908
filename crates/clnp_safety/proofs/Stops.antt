-- Which moves of a list are made, and what some of them write.
use Rattle.std.proofs.Common.{◌≡◌, ℕ, List, [], ◌∷◌, ◌++◌, Bool, true, false, refl, sym, ap, ◌∙◌, append_assoc}
use Rattle.std.specs.Prelude.{if◌then◌else◌, Option, None, Some}
use Rattle.clnp_machine.specs.ClnpPlan.declared.journal.Telling.{Telling}
use Rattle.clnp_machine.specs.ClnpPlan.declared.journal.Telling.TheVariants as telling
use Rattle.clnp_machine.specs.ScenarioPlan.Plan.{Plan}
use Rattle.clnp_machine.specs.ClnpPlan.declared.scenario_plan.event.Move.{Move}
use Rattle.clnp_machine.specs.ClnpNetwork.LabelledNetwork.{LabelledNetwork, after, is_full, weight}
use Rattle.clnp_machine.specs.ClnpNetwork.Run.{world_after, told_lines, told_of, text_of, until_full, full_weight}
use Rattle.clnp_safety.specs.Growth.{IsFront, IsFullAt}

front_one_more : (move : Move) (made moves : List Move) (full : Bool) → IsFront made moves → IsFront (if full then [] else move ∷ made) (move ∷ moves)
front_one_more move made moves true h = (move ∷ moves, refl)
front_one_more move made moves false h = (h.0, ap (λ rest. move ∷ rest) h.1)

pub made_are_first : (plan : Plan) (w : LabelledNetwork) (moves : List Move) → IsFront (until_full plan w moves) moves
made_are_first plan w [] = ([], refl)
made_are_first plan w (move ∷ moves) =
    front_one_more move (until_full plan (after plan w move).world moves) moves (is_full w) (made_are_first plan (after plan w move).world moves)

all_one_more : (w : LabelledNetwork) (move : Move) (made moves : List Move) (rest : Option ℕ) (full : Bool) → (rest ≡ None → made ≡ moves)
    → (if full then Some (weight w) else rest) ≡ None
    → (if full then [] else move ∷ made) ≡ move ∷ moves
all_one_more w move made moves rest true h e = absurd (cc)
all_one_more w move made moves rest false h e = ap (λ more. move ∷ more) (h e)

pub all_are_made : (plan : Plan) (w : LabelledNetwork) (moves : List Move) → full_weight plan w moves ≡ None → until_full plan w moves ≡ moves
all_are_made plan w [] e = refl
all_are_made plan w (move ∷ moves) e =
    all_one_more w move (until_full plan (after plan w move).world moves) moves (full_weight plan (after plan w move).world moves) (is_full w)
    (all_are_made plan (after plan w move).world moves) e

full_one_more : (plan : Plan) (w : LabelledNetwork) (move : Move) (made : List Move) (rest : Option ℕ) (weighs : ℕ) (full : Bool) → is_full w ≡ full
    → (rest ≡ Some weighs → IsFullAt (world_after plan (after plan w move).world made) weighs) → (if full then Some (weight w) else rest) ≡ Some weighs
    → IsFullAt (world_after plan w (if full then [] else move ∷ made)) weighs
full_one_more plan w move made rest weighs true is h e = record { full = is; weight = cc }
full_one_more plan w move made rest weighs false is h e = h e

pub stops_where_full : (plan : Plan) (w : LabelledNetwork) (moves : List Move) (weighs : ℕ) → full_weight plan w moves ≡ Some weighs
    → IsFullAt (world_after plan w (until_full plan w moves)) weighs
stops_where_full plan w [] weighs e = absurd (cc)
stops_where_full plan w (move ∷ moves) weighs e =
    full_one_more plan w move (until_full plan (after plan w move).world moves) (full_weight plan (after plan w move).world moves) weighs (is_full w) refl
    (stops_where_full plan (after plan w move).world moves weighs) e

pub told_of_more : (form : Telling) (plan : Plan) (w : LabelledNetwork) (moves more : List Move)
    → told_of form plan w (moves ++ more) ≡ told_of form plan w moves ++ told_of form plan (world_after plan w moves) more
told_of_more form plan w [] more = refl
told_of_more form plan w (move ∷ moves) more =
    ap (λ text. told_lines form (after plan w move).lines ++ text) (told_of_more form plan (after plan w move).world moves more)
    ∙ sym (append_assoc (told_lines form (after plan w move).lines) (told_of form plan (after plan w move).world moves)
    (told_of form plan (world_after plan (after plan w move).world moves) more))

pub text_grows : (plan : Plan) (w : LabelledNetwork) (moves later : List Move) → IsFront moves later → IsFront (text_of plan w moves) (text_of plan w later)
text_grows plan w moves later h =
    (text_of plan (world_after plan w moves) h.0, ap (text_of plan w) h.1 ∙ told_of_more telling.Journal plan w moves h.0)
