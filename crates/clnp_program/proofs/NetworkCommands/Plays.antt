-- Moves that are played one after another, whatever is made of their lines.
use Rattle.std.proofs.Common.{◌≡◌, ℕ, ◌<◌, nat_le, true, false, List, [], ◌∷◌, ◌++◌, Option, Result, Ok, Err, refl, subst, sym, ap, ◌∙◌}
use Rattle.std.specs.Prelude.{length, replicate}
use Rattle.clnp_machine.specs.ClnpPlan.declared.journal.Telling.{Telling}
use Rattle.clnp_machine.specs.ScenarioPlan.Plan.{Plan}
use Rattle.clnp_machine.specs.ClnpPlan.declared.scenario_plan.event.Move.{Move}
use Rattle.clnp_machine.specs.ClnpPlan.declared.scenario_plan.event.Move.TheVariants.{SettleOne}
use Rattle.clnp_machine.specs.ClnpNetwork.LabelledNetwork.{LabelledNetwork, after, is_full, weight}
use Rattle.clnp_machine.specs.ClnpNetwork.Run.{world_after}
use Rattle.clnp_program.specs.ClnpWorld.Lines.{both, no_lines, risen, tally}
use Rattle.clnp_program.specs.ClnpWorld.State.{WorldState}
use Rattle.clnp_program.specs.ClnpWorld.Stands.{Stands}
use Rattle.clnp_program.specs.declared.clnp_world.lines.Counts.{Counts}
use Rattle.clnp_program.specs.declared.network_commands.play.Stop.{Stop}
use Rattle.clnp_program.specs.declared.network_commands.play.Stop.TheVariants as stop
use Rattle.clnp_program.specs.NetworkCommands.Counting.{Counted, StopsAt, tally_of}
use Rattle.clnp_program.specs.NetworkCommands.Play.{PlayOf, UnderWay}
use Rattle.clnp_program.specs.NetworkCommands.Playing.{IsUnderWay, Kind, PlayAs, Played, StopAs, Counting, Writing, Tallies, Waits}
use Rattle.clnp_program.proofs.NetworkCommands.Counting.{both-none, risen-both, tally_of-append}
use Rattle.clnp_program.proofs.NetworkCommands.Playing.{all_behind, stopped_next}
use Rattle.clnp_program.proofs.NetworkCommands.Runs.{full_stays, full_weight-behind, world_after-append}
use Rattle.clnp_program.proofs.NetworkCommands.Still.{counts_rest, plays_rest}

-- the network stands for the one after the moves
pub stands_as : (kind : Kind) (plan : Plan) (model : LabelledNetwork) (moves : List Move) (code : WorldState) (a b : Option (List ℕ)) (played : Played)
    → IsUnderWay kind plan model moves code a b played → Stands code (world_after plan model moves)
stands_as (Writing form) plan model moves code a b (Waits telling block) u = u.1.stands
stands_as (Writing form) plan model moves code a b (Tallies counts) u = absurd u
stands_as Counting plan model moves code a b (Waits telling block) u = absurd u
stands_as Counting plan model moves code a b (Tallies counts) u = u.1.stands

-- where counting stopped, it did so before any moves that come later
stops_longer : (plan : Plan) (model : LabelledNetwork) (moves later : List Move) (e : Stop) → StopsAt plan model moves e → StopsAt plan model (moves ++ later) e
stops_longer plan model moves later (stop.WorldFull octets) q = (full_stays plan model moves later octets q).0
stops_longer plan model moves later stop.WriteFault q = absurd q
stops_longer plan model moves later stop.NoMemory q = tt

-- playing stopped in the moves that come next, of all that were to be made
pub stopped_as : (kind : Kind) (plan : Plan) (model : LabelledNetwork) (past all made next later : List Move) (a b : Option (List ℕ)) (e : Stop)
    → all ≡ (made ++ next) ++ later → StopAs kind plan model ((past ++ made) ++ next) a b e → StopAs kind plan model (past ++ all) a b e
stopped_as (Writing form) plan model past all made next later a b e split q = stopped_next form plan model past all made next later a b e split q
stopped_as Counting plan model past all made next later a b e split q = (
  q.0,
  subst (λ (moves : List Move). StopsAt plan model moves e) (sym (all_behind past all made next later split))
      (stops_longer plan model ((past ++ made) ++ next) later e q.1),
)

-- so many times the same move is made, where after some of them no copy is left to settle
pub rests_as : (kind : Kind) (plan : Plan) (model : LabelledNetwork) (past : List Move) (move : Move) (made times : ℕ) (between code : WorldState) (a b c : Option (List ℕ)) (old new : Played)
    → made < times → move ≡ SettleOne
    → nat_le (length (world_after plan model (past ++ replicate made move)).copies) (world_after plan model (past ++ replicate made move)).cursor ≡ true
    → IsUnderWay kind plan model (past ++ replicate made move) between a b old
    → IsUnderWay kind plan model ((past ++ replicate made move) ++ move ∷ []) code a c new
    → IsUnderWay kind plan model (past ++ replicate times move) code a c new
rests_as (Writing form) plan model past move made times between code a b c (Waits telling block) (Waits other new) within is settled before u =
    (u.0, plays_rest form plan model past move made times between code a b c block new within is settled before.1 u.1)
rests_as Counting plan model past move made times between code a b c (Tallies old) (Tallies new) within is settled before u =
    (u.0, counts_rest plan model past move made times between code old new within is settled before.1 u.1)
rests_as (Writing form) plan model past move made times between code a b c (Tallies old) new within is settled before u = absurd before
rests_as (Writing form) plan model past move made times between code a b c (Waits telling block) (Tallies new) within is settled before u = absurd u
rests_as Counting plan model past move made times between code a b c (Waits telling block) new within is settled before u = absurd before
rests_as Counting plan model past move made times between code a b c (Tallies old) (Waits telling block) within is settled before u = absurd u

-- A move whose lines are written.

in_form : {A : Type 0} (telling form : Telling) (plan : Plan) (model : LabelledNetwork) (past moves : List Move) (code next : WorldState) (a b c : Option (List ℕ)) (block new : List ℕ) (r : Result A Stop)
    → telling ≡ form → UnderWay form plan model past code a b block
    → (UnderWay telling plan model past code a b block → PlayOf telling plan model moves next a c new r)
    → PlayOf form plan model moves next a c new r
in_form telling form plan model past moves code next a b c block new r same u plays =
    subst (λ (f : Telling). PlayOf f plan model moves next a c new r) same
    (plays (subst (λ (f : Telling). UnderWay f plan model past code a b block) (sym same) u))

as_written : {A : Type 0} (telling form : Telling) (plan : Plan) (model : LabelledNetwork) (moves : List Move) (next : WorldState) (a c : Option (List ℕ)) (new : List ℕ) (r : Result A Stop)
    → telling ≡ form → PlayOf form plan model moves next a c new r → PlayAs (Writing form) plan model moves next a c (Waits telling new) r
as_written telling form plan model moves next a c new (Ok x) same plays = (same, plays)
as_written telling form plan model moves next a c new (Err e) same plays = plays

pub writes_as : {A : Type 0} (kind : Kind) (telling : Telling) (plan : Plan) (model : LabelledNetwork) (past moves : List Move) (code next : WorldState) (a b c : Option (List ℕ)) (block new : List ℕ) (r : Result A Stop)
    → IsUnderWay kind plan model past code a b (Waits telling block)
    → (UnderWay telling plan model past code a b block → PlayOf telling plan model moves next a c new r)
    → PlayAs kind plan model moves next a c (Waits telling new) r
writes_as (Writing form) telling plan model past moves code next a b c block new r u plays =
    as_written telling form plan model moves next a c new r u.0 (in_form telling form plan model past moves code next a b c block new r u.0 u.1 plays)
writes_as Counting telling plan model past moves code next a b c block new r u plays = absurd u

-- A move whose lines are counted.

counted_one : (plan : Plan) (model : LabelledNetwork) (past : List Move) (move : Move) (code next : WorldState) (counts new : Counts)
    → Counted plan model past code counts
    → is_full (world_after plan model past) ≡ false
    → Stands next (after plan (world_after plan model past) move).world
    → new ≡ risen counts (tally (after plan (world_after plan model past) move).lines)
    → Counted plan model (past ++ move ∷ []) next new
counted_one plan model past move code next counts new u room stands lines =
    let told : Counts = tally (after plan (world_after plan model past) move).lines in
    record {
      room = full_weight-behind plan model past (move ∷ []) u.room ∙ rw room refl;
      stands = rw (world_after-append plan model past (move ∷ [])) stands;
      counted = lines
          ∙ (ap (λ (c : Counts). risen c told) u.counted
          ∙ (risen-both no_lines (tally_of plan model past) told
          ∙ ap (λ (c : Counts). risen no_lines c)
          (sym (tally_of-append plan model past (move ∷ []) ∙ ap (λ (c : Counts). both (tally_of plan model past) c) (both-none told)))));
    }

pub counts_as : (kind : Kind) (plan : Plan) (model : LabelledNetwork) (past : List Move) (move : Move) (code next : WorldState) (a b : Option (List ℕ)) (counts new : Counts)
    → IsUnderWay kind plan model past code a b (Tallies counts)
    → is_full (world_after plan model past) ≡ false
    → Stands next (after plan (world_after plan model past) move).world
    → new ≡ risen counts (tally (after plan (world_after plan model past) move).lines)
    → IsUnderWay kind plan model (past ++ move ∷ []) next a b (Tallies new)
counts_as (Writing form) plan model past move code next a b counts new u room stands lines = absurd u
counts_as Counting plan model past move code next a b counts new u room stands lines =
    (u.0, counted_one plan model past move code next counts new u.1 room stands lines)

-- the network is full before the move
pub full_as : (kind : Kind) (plan : Plan) (model : LabelledNetwork) (past : List Move) (move : Move) (code : WorldState) (a b : Option (List ℕ)) (counts : Counts) (octets : ℕ)
    → IsUnderWay kind plan model past code a b (Tallies counts)
    → is_full (world_after plan model past) ≡ true → octets ≡ weight (world_after plan model past)
    → StopAs kind plan model (past ++ move ∷ []) a b (stop.WorldFull octets)
full_as (Writing form) plan model past move code a b counts octets u full is = absurd u
full_as Counting plan model past move code a b counts octets u full is =
    (u.0, full_weight-behind plan model past (move ∷ []) u.1.room ∙ rw (full, is) refl)

-- memory was refused
pub refused_as : (kind : Kind) (plan : Plan) (model : LabelledNetwork) (past : List Move) (move : Move) (code : WorldState) (a b : Option (List ℕ)) (counts : Counts)
    → IsUnderWay kind plan model past code a b (Tallies counts) → StopAs kind plan model (past ++ move ∷ []) a b stop.NoMemory
refused_as (Writing form) plan model past move code a b counts u = absurd u
refused_as Counting plan model past move code a b counts u = (u.0, tt)
