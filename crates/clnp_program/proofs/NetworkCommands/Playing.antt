-- Moves that are played one after another, their text in blocks.
use Rattle.std.proofs.Common.{◌≡◌, ℕ, true, false, List, [], ◌∷◌, ◌++◌, inl, inr, Option, None, Result, Ok, Err, append-nil, refl, sym, ap, ◌∙◌, append_assoc}
use Rattle.std.specs.Io.KnownBytes.{Appends}
use Rattle.std.proofs.KnownBytes.{Appends-nil, Appends-trans, Appends-kept}
use Rattle.clnp_machine.specs.ClnpBase.Streams.{AppendsFront}
use Rattle.clnp_machine.specs.ClnpPlan.declared.journal.Telling.{Telling}
use Rattle.clnp_machine.specs.ScenarioPlan.Plan.{Plan}
use Rattle.clnp_machine.specs.ClnpPlan.declared.scenario_plan.event.Move.{Move}
use Rattle.clnp_machine.specs.ClnpNetwork.LabelledNetwork as network
use Rattle.clnp_machine.specs.ClnpNetwork.LabelledNetwork.{after, first_world, is_full, weight}
use Rattle.clnp_machine.specs.ClnpNetwork.Run.{ending, last_world, moves_of_plan, stopped_at, told, told_lines, told_of, until_full, world_after, world_end}
use Rattle.clnp_program.specs.ClnpWorld.State.{WorldState}
use Rattle.clnp_program.specs.ClnpWorld.Stands.{Stands}
use Rattle.clnp_program.specs.declared.network_commands.play.Stop.{Stop}
use Rattle.clnp_program.specs.declared.network_commands.play.Stop.TheVariants as stop
use Rattle.clnp_base.specs.CommandBase.ByLine.{FlushOf}
use Rattle.clnp_program.specs.NetworkCommands.Play.{FullOf, PieceOf, UnderWay, StopOf, RunStopOf, RunOf}
use Rattle.clnp_base.proofs.CommandBase.Fronts.{front-behind, front-longer}
use Rattle.clnp_program.proofs.NetworkCommands.Runs.{world_after-append, told_of_more, full_weight-behind, full_stays, all_are_made, until_full-behind, until_full-longer}

-- where playing stopped, it did so before any moves that come later
StopOf-longer : (form : Telling) (plan : Plan) (model : network.LabelledNetwork) (moves later : List Move) (a b : Option (List ℕ)) (e : Stop)
    → StopOf form plan model moves a b e → StopOf form plan model (moves ++ later) a b e
StopOf-longer form plan model moves later a b stop.WriteFault q =
    let rest = until_full-longer plan model moves later in
    rw (rest.1, told_of_more form plan model (until_full plan model moves) rest.0) (front-longer a b _ _ q)
StopOf-longer form plan model moves later a b stop.NoMemory q =
    let rest = until_full-longer plan model moves later in
    record {
      made = q.made;
      later = q.later ++ rest.0;
      all = rest.1 ∙ (ap (λ (t : List Move). t ++ rest.0) q.all ∙ append_assoc q.made q.later rest.0);
      appended = q.appended;
    }
StopOf-longer form plan model moves later a b (stop.WorldFull octets) q =
    let same = full_stays plan model moves later octets q.full in
    record {
      full = same.0;
      appended = rw same.1 q.appended;
    }

-- nothing was played yet, and nothing waits
pub set_out : (form : Telling) (plan : Plan) (model : network.LabelledNetwork) (code : WorldState) (a : Option (List ℕ)) → Stands code model → UnderWay form plan model [] code a a []
set_out form plan model code a stands = record {
  made = [];
  waiting = [];
  split = refl;
  room = refl;
  stands = stands;
  appended = Appends-nil a;
  waits = refl;
}

module _ (form : Telling) (plan : Plan) (model : network.LabelledNetwork) (past : List Move) (code : WorldState) (a b : Option (List ℕ)) (block : List ℕ) where
  -- the text of the moves so far: what is written, and what waits
  pub text_so_far : (u : UnderWay form plan model past code a b block) → told_of form plan model past ≡ told_of form plan model u.made ++ block
  text_so_far u = ap (told_of form plan model) u.split ∙ (told_of_more form plan model u.made u.waiting ∙ ap (λ (t : List ℕ). told_of form plan model u.made ++ t) (sym u.waits))

  -- the block was written
  flushed : (c : Option (List ℕ)) → UnderWay form plan model past code a b block → Appends b c block → UnderWay form plan model past code a c []
  flushed c u p = record {
    made = past;
    waiting = [];
    split = sym (append-nil past);
    room = u.room;
    stands = u.stands;
    appended = rw (text_so_far u) (Appends-trans a b c _ block u.appended p);
    waits = refl;
  }

  -- nothing was written
  waited : (c : Option (List ℕ)) → UnderWay form plan model past code a b block → Appends b c [] → UnderWay form plan model past code a c block
  waited c u p = record {
    made = u.made;
    waiting = u.waiting;
    split = u.split;
    room = u.room;
    stands = u.stands;
    appended = rw (append-nil (told_of form plan model u.made)) at (Appends-trans a b c (told_of form plan model u.made) [] u.appended p);
    waits = u.waits;
  }

  -- a front of the block was written
  pub cut_short : (c : Option (List ℕ)) → UnderWay form plan model past code a b block → AppendsFront b c block → StopOf form plan model past a c stop.WriteFault
  cut_short c u p =
      rw (all_are_made plan model past u.room, text_so_far u) (front-behind a b c (told_of form plan model u.made) block u.appended p)

  -- writing the block where it is full
  pub block_written : (E : Type 0) (c : Option (List ℕ)) (new : List ℕ) (x : Unit {0}) → UnderWay form plan model past code a b block
      → FlushOf {E = E} block new b c (Ok x) → UnderWay form plan model past code a c new
  block_written E c new x u (inl p) = rw p.1 (flushed c u p.0)
  block_written E c new x u (inr p) = rw p.1 (waited c u p.0)

  -- the next move is made
  pub made_one : (move : Move) (next : WorldState) (new : List ℕ) → UnderWay form plan model past code a b block
      → is_full (world_after plan model past) ≡ false
      → Stands next (after plan (world_after plan model past) move).world
      → new ≡ block ++ told_lines form (after plan (world_after plan model past) move).lines
      → UnderWay form plan model (past ++ move ∷ []) next a b new
  made_one move next new u room stands lines =
      let here : world_after plan (world_after plan model u.made) u.waiting ≡ world_after plan model past =
      sym (ap (world_after plan model) u.split ∙ world_after-append plan model u.made u.waiting) in
      record {
        made = u.made;
        waiting = u.waiting ++ move ∷ [];
        split = ap (λ (t : List Move). t ++ move ∷ []) u.split ∙ append_assoc u.made u.waiting (move ∷ []);
        room = full_weight-behind plan model past (move ∷ []) u.room ∙ rw room refl;
        stands = rw (world_after-append plan model past (move ∷ [])) stands;
        appended = u.appended;
        waits = rw (lines, told_of_more form plan (world_after plan model u.made) u.waiting (move ∷ []), here, append-nil, ← u.waits) refl;
      }

  -- memory was refused: what was written is the text of some whole moves
  pub refused_memory : (more : List Move) → UnderWay form plan model past code a b block → StopOf form plan model (past ++ more) a b stop.NoMemory
  refused_memory more u = record {
    made = u.made;
    later = u.waiting ++ until_full plan (world_after plan model past) more;
    all = until_full-behind plan model past more u.room
        ∙ (ap (λ (t : List Move). t ++ until_full plan (world_after plan model past) more) u.split
        ∙ append_assoc u.made u.waiting (until_full plan (world_after plan model past) more));
    appended = u.appended;
  }

  -- the network is full before the next move: the block is written, or a front of it
  pub full_before : (move : Move) (octets : ℕ) (c : Option (List ℕ)) (e : Stop) → UnderWay form plan model past code a b block
      → is_full (world_after plan model past) ≡ true → octets ≡ weight (world_after plan model past)
      → FullOf octets block b c e → StopOf form plan model (past ++ move ∷ []) a c e
  full_before move octets c (stop.WorldFull weighs) u full is p = record {
    full = full_weight-behind plan model past (move ∷ []) u.room ∙ rw (full, p.0, is) refl;
    appended = rw (until_full-behind plan model past (move ∷ []) u.room, full, append-nil, text_so_far u)
        (Appends-trans a b c (told_of form plan model u.made) block u.appended p.1);
  }
  full_before move octets c stop.WriteFault u full is p = StopOf-longer form plan model past (move ∷ []) a c stop.WriteFault (cut_short c u p)
  full_before move octets c stop.NoMemory u full is p = absurd p

-- the moves so far, the next ones, and those that are left
pub all_behind : (past all made next later : List Move) → all ≡ (made ++ next) ++ later → past ++ all ≡ ((past ++ made) ++ next) ++ later
all_behind past all made next later split =
    ap (λ (t : List Move). past ++ t) split ∙ (sym (append_assoc past (made ++ next) later) ∙ ap (λ (t : List Move). t ++ later) (sym (append_assoc past made next)))

-- playing stopped in the moves that come next, of all that were to be made
pub stopped_next : (form : Telling) (plan : Plan) (model : network.LabelledNetwork) (past all made next later : List Move) (a b : Option (List ℕ)) (e : Stop)
    → all ≡ (made ++ next) ++ later → StopOf form plan model ((past ++ made) ++ next) a b e → StopOf form plan model (past ++ all) a b e
stopped_next form plan model past all made next later a b e split q =
    rw (all_behind past all made next later split) (StopOf-longer form plan model ((past ++ made) ++ next) later a b e q)

-- where playing the moves of a scenario stopped, so did the writing of its journal or trace
pub run_stopped : (form : Telling) (plan : Plan) (a b : Option (List ℕ)) (e : Stop) → StopOf form plan (first_world plan) (moves_of_plan plan) a b e → RunStopOf form plan a b e
run_stopped form plan a b stop.WriteFault q = front-longer a b _ (ending (stopped_at plan) (last_world plan)) q
run_stopped form plan a b stop.NoMemory q = q
run_stopped form plan a b (stop.WorldFull octets) q = (
  q.full,
  rw (q.full, append-nil) q.appended,
)

-- the journal or the trace of a scenario in whose run the network is never full
pub told_whole : (form : Telling) (plan : Plan) → stopped_at plan ≡ None
    → told form plan ≡ told_of form plan (first_world plan) (moves_of_plan plan) ++ world_end (world_after plan (first_world plan) (moves_of_plan plan))
told_whole form plan room =
    ap (λ (made : List Move). told_of form plan (first_world plan) made ++ ending (stopped_at plan) (world_after plan (first_world plan) made))
    (all_are_made plan (first_world plan) (moves_of_plan plan) room)
    ∙ ap (λ (stop : Option ℕ). told_of form plan (first_world plan) (moves_of_plan plan) ++ ending stop (world_after plan (first_world plan) (moves_of_plan plan))) room

-- that where moves are under way that are all: what is written, the block, and the last line
told_split : (form : Telling) (plan : Plan) (code : WorldState) (a b : Option (List ℕ)) (block : List ℕ) → (u : UnderWay form plan (first_world plan) (moves_of_plan plan) code a b block)
    → told form plan ≡ told_of form plan (first_world plan) u.made ++ (block ++ world_end (world_after plan (first_world plan) (moves_of_plan plan)))
told_split form plan code a b block u =
    told_whole form plan u.room
    ∙ (ap (λ (t : List ℕ). t ++ world_end (world_after plan (first_world plan) (moves_of_plan plan))) (text_so_far form plan (first_world plan) (moves_of_plan plan) code a b block u)
    ∙ append_assoc (told_of form plan (first_world plan) u.made) block (world_end (world_after plan (first_world plan) (moves_of_plan plan))))

-- the block and the last line behind all the moves
pub run_ended : {A : Type 0} (form : Telling) (plan : Plan) (code : WorldState) (a b c : Option (List ℕ)) (block : List ℕ) (r : Result A Stop)
    → UnderWay form plan (first_world plan) (moves_of_plan plan) code a b block
    → PieceOf (block ++ world_end (world_after plan (first_world plan) (moves_of_plan plan))) b c r → RunOf form plan a c r
run_ended form plan code a b c block (Ok x) u q = (u.room, rw (told_split form plan code a b block u) (Appends-trans a b c _ _ u.appended q))
run_ended form plan code a b c block (Err stop.WriteFault) u q = rw (told_split form plan code a b block u) (front-behind a b c _ _ u.appended q)
run_ended form plan code a b c block (Err stop.NoMemory) u q = record {
  made = u.made;
  later = u.waiting;
  all = all_are_made plan (first_world plan) (moves_of_plan plan) u.room ∙ u.split;
  appended = Appends-kept a b c _ u.appended q;
}
run_ended form plan code a b c block (Err (stop.WorldFull octets)) u q = absurd q
