-- A scenario runs in version 2 as it does in version 1.
use Rattle.std.proofs.Common.{◌≡◌, ℕ, if◌then◌else◌, List, [], ◌∷◌, ◌++◌, Option, Some, refl, ap, ◌∙◌}
use Rattle.clnp_plan.specs.ScenarioPlan.Migrated.{migrated}
use Rattle.clnp_plan.specs.ScenarioPlan.Plan.{Plan}
use Rattle.clnp_plan.specs.declared.scenario_plan.event.Move.{Move}
use Rattle.clnp_plan.specs.declared.scenario_plan.event.Move.TheVariants.{One, SettleOne, LoseOne, TickOne, TickSystem}
use Rattle.clnp_machine.specs.ClnpNetwork.LabelledNetwork.{Step, LabelledNetwork, after, first_world, is_full, weight}
use Rattle.clnp_machine.specs.ClnpNetwork.Run.{Entry, ending, entries_of, full_weight, journal, last_world, lines_text, moves_made, moves_of_plan, run, stopped_at, text_of, until_full, world_after}

module _ (plan : Plan) where
  after_alike : (w : LabelledNetwork) (move : Move) → after (migrated plan) w move ≡ after plan w move
  after_alike w (One place) = refl
  after_alike w SettleOne = refl
  after_alike w LoseOne = refl
  after_alike w TickOne = refl
  after_alike w (TickSystem place) = refl

  pub world_alike : (w : LabelledNetwork) (moves : List Move) → world_after (migrated plan) w moves ≡ world_after plan w moves
  world_alike w [] = refl
  world_alike w (move ∷ moves) =
      ap (λ (s : Step). world_after (migrated plan) s.world moves) (after_alike w move) ∙ world_alike (after plan w move).world moves

  pub entries_alike : (w : LabelledNetwork) (moves : List Move) → entries_of (migrated plan) w moves ≡ entries_of plan w moves
  entries_alike w [] = refl
  entries_alike w (move ∷ moves) =
      ap (λ (s : Step). record { move = move; lines = s.lines } ∷ entries_of (migrated plan) s.world moves) (after_alike w move)
      ∙ ap (λ (entries : List Entry). record { move = move; lines = (after plan w move).lines } ∷ entries) (entries_alike (after plan w move).world moves)

  pub text_alike : (w : LabelledNetwork) (moves : List Move) → text_of (migrated plan) w moves ≡ text_of plan w moves
  text_alike w [] = refl
  text_alike w (move ∷ moves) =
      ap (λ (s : Step). lines_text s.lines ++ text_of (migrated plan) s.world moves) (after_alike w move)
      ∙ ap (λ (text : List ℕ). lines_text (after plan w move).lines ++ text) (text_alike (after plan w move).world moves)

  made_alike : (w : LabelledNetwork) (moves : List Move) → until_full (migrated plan) w moves ≡ until_full plan w moves
  made_alike w [] = refl
  made_alike w (move ∷ moves) =
      ap (λ (s : Step). if is_full w then [] else move ∷ until_full (migrated plan) s.world moves) (after_alike w move)
      ∙ ap (λ (more : List Move). if is_full w then [] else move ∷ more) (made_alike (after plan w move).world moves)

  weight_alike : (w : LabelledNetwork) (moves : List Move) → full_weight (migrated plan) w moves ≡ full_weight plan w moves
  weight_alike w [] = refl
  weight_alike w (move ∷ moves) =
      ap (λ (s : Step). if is_full w then Some (weight w) else full_weight (migrated plan) s.world moves) (after_alike w move)
      ∙ ap (λ (found : Option ℕ). if is_full w then Some (weight w) else found) (weight_alike (after plan w move).world moves)

  pub stopped_alike : stopped_at (migrated plan) ≡ stopped_at plan
  stopped_alike = weight_alike (first_world plan) (moves_of_plan plan)

  pub all_made_alike : moves_made (migrated plan) ≡ moves_made plan
  all_made_alike = made_alike (first_world plan) (moves_of_plan plan)

  pub run_alike : run (migrated plan) ≡ run plan
  run_alike =
      ap (λ (moves : List Move). entries_of (migrated plan) (first_world plan) moves) all_made_alike ∙ entries_alike (first_world plan) (moves_made plan)

  pub last_alike : last_world (migrated plan) ≡ last_world plan
  last_alike =
      ap (λ (moves : List Move). world_after (migrated plan) (first_world plan) moves) all_made_alike ∙ world_alike (first_world plan) (moves_made plan)

  pub journal_alike : journal (migrated plan) ≡ journal plan
  journal_alike =
      ap (λ (moves : List Move). text_of (migrated plan) (first_world plan) moves ++ ending (stopped_at (migrated plan)) (last_world (migrated plan))) all_made_alike
      ∙ (ap (λ (text : List ℕ). text ++ ending (stopped_at (migrated plan)) (last_world (migrated plan))) (text_alike (first_world plan) (moves_made plan))
      ∙ (ap (λ (stop : Option ℕ). text_of plan (first_world plan) (moves_made plan) ++ ending stop (last_world (migrated plan))) stopped_alike
      ∙ ap (λ (w : LabelledNetwork). text_of plan (first_world plan) (moves_made plan) ++ ending (stopped_at plan) w) last_alike))
