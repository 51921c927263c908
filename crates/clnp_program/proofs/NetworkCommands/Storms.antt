-- The moves of a run whose lines are counted, and the scenario of a seed.
use Rattle.std.proofs.Common.{◌≡◌, ℕ, inl, List, [], Option, None, Some, Ok, Err, refl, subst, sym, ap, ◌∙◌, append-nil}
use Rattle.std.specs.Prelude.{length}
use Rattle.std.specs.Io.KnownBytes.{Appends, Keeps}
use Rattle.std.proofs.KnownBytes.{Appends-nil, Keeps-refl}
use Rattle.clnp_machine.specs.ClnpBase.Streams.{AppendsFront}
use Rattle.clnp_machine.specs.ClnpPlan.declared.journal.Telling.TheVariants as telling
use Rattle.clnp_machine.specs.ScenarioPlan.Plan.{IsFit, Plan}
use Rattle.scenario.specs.ScenarioWriting.Seeds.{storm}
use Rattle.clnp_machine.specs.ClnpPlan.declared.scenario_plan.event.Move.{Move}
use Rattle.clnp_machine.specs.ClnpNetwork.LabelledNetwork as network
use Rattle.clnp_machine.specs.ClnpNetwork.LabelledNetwork.{first_world}
use Rattle.clnp_machine.specs.ClnpNetwork.Run.{journal, last_world, moves_of_plan, stopped_at, text_of, world_after, world_end}
use Rattle.clnp_program.specs.ClnpWorld.State.{WorldState}
use Rattle.clnp_program.specs.ClnpWorld.Lines.{both, no_lines, risen}
use Rattle.clnp_program.specs.ClnpWorld.Stands.{Stands}
use Rattle.clnp_program.specs.declared.clnp_world.lines.Counts.{Counts}
use Rattle.clnp_program.specs.declared.network_commands.play.Stop.{Stop}
use Rattle.clnp_program.specs.declared.network_commands.play.Stop.TheVariants as stop
use Rattle.clnp_program.specs.declared.network_commands.storm.Summary.{Summary}
use Rattle.clnp_base.specs.declared.command_base.status.Status.{Status}
use Rattle.clnp_base.specs.declared.command_base.status.Status.TheVariants as status
use Rattle.clnp_base.specs.CommandBase.ByLine.{EndOf}
use Rattle.clnp_program.specs.NetworkCommands.RunTasks.{run_status, storm_task}
use Rattle.clnp_base.specs.CommandBase.ComesAs.{ComesAs}
use Rattle.clnp_program.specs.NetworkCommands.Play.{status_of}
use Rattle.clnp_program.specs.NetworkCommands.Storm.{capped, counts_of, line_of_run, line_unless, storm_line, storm_stopped_at, summary_text}
use Rattle.clnp_program.specs.NetworkCommands.Counting.{Counted, SumOf}
use Rattle.clnp_program.proofs.NetworkCommands.Counting.{counts_of-append, moves_counts, text_of-ends, both-none, risen-capped, risen-none}
use Rattle.clnp_program.proofs.NetworkCommands.KindWords.{end_counts}
use Rattle.clnp_program.proofs.NetworkCommands.Named.{names_first, names_subnets}
use Rattle.clnp_program.proofs.NetworkCommands.Playing.{told_whole}
use Rattle.clnp_program.proofs.NetworkCommands.Runs.{all_are_made}

-- no move was made yet
pub count_none : (plan : Plan) (code : WorldState) (counts : Counts) → Stands code (first_world plan) → counts ≡ no_lines
    → Counted plan (first_world plan) [] code counts
count_none plan code counts stands none = record { room = refl; stands = stands; counted = none ∙ sym (risen-none no_lines) }

made_of : (seed e c t events copies clock : ℕ) (a counts : Counts) → e ≡ events → c ≡ copies → t ≡ clock → a ≡ counts → Path Summary
    (record { seed = seed; events = e; copies = c; counts = a; clock = t }) (record { seed = seed; events = events; copies = copies; counts = counts; clock = clock })
made_of seed e c t events copies clock a counts p q r s = rw (p, q, r, s) refl

-- a run that wasn't stopped: the lines of all moves are counted, and the journal's last line counts for nothing
pub summary_is : (seed events copies clock : ℕ) (plan : Plan) (code : WorldState) (counts : Counts) → IsFit plan
    → (c : Counted plan (first_world plan) (moves_of_plan plan) code counts)
    → events ≡ length plan.events
    → copies ≡ length (world_after plan (first_world plan) (moves_of_plan plan)).copies
    → clock ≡ (world_after plan (first_world plan) (moves_of_plan plan)).clock
    → SumOf seed plan (Ok (record { seed = seed; events = events; copies = copies; counts = counts; clock = clock }))
summary_is seed events copies clock plan code counts fit c events_are copies_are clock_is =
    let moves : List Move = moves_of_plan plan in
    let first : network.LabelledNetwork = first_world plan in
    let last : network.LabelledNetwork = world_after plan first moves in
    let same : last ≡ last_world plan = ap (world_after plan first) (sym (all_are_made plan first moves c.room)) in
    let of_moves : counts ≡ risen no_lines (counts_of (text_of plan first moves)) =
    c.counted ∙ ap (λ (t : Counts). risen no_lines t) (sym (moves_counts plan first moves (names_subnets plan fit) (names_first plan fit))) in
    let of_all : counts_of (journal plan) ≡ counts_of (text_of plan first moves) =
    ap counts_of (told_whole telling.Journal plan c.room)
    ∙ (counts_of-append (text_of plan first moves) (world_end last) (text_of-ends plan first moves)
    ∙ (ap (λ (t : Counts). both (counts_of (text_of plan first moves)) t) (end_counts last.clock (length last.copies))
    ∙ both-none (counts_of (text_of plan first moves)))) in (
      c.room,
      made_of seed events copies clock (length plan.events) (length (last_world plan).copies) (last_world plan).clock counts (capped (counts_of (journal plan)))
          events_are (copies_are ∙ ap (λ (w : network.LabelledNetwork). length w.copies) same) (clock_is ∙ ap (λ (w : network.LabelledNetwork). w.clock) same)
          (of_moves ∙ (ap (λ (t : Counts). risen no_lines t) (sym of_all) ∙ risen-capped (counts_of (journal plan)))),
    )

-- ---- what a storm comes to

storm_is : (seed : ℕ) (plan : Plan) → plan ≡ storm seed → (storm_stopped_at seed ≡ stopped_at plan) × (storm_line seed ≡ line_of_run seed plan)
unfolding storm_stopped_at storm_line
storm_is seed plan is = (ap stopped_at (sym is), ap (line_of_run seed) (sym is))

-- where nothing was written all is as it was
kept : (a b : Option (List ℕ)) → Appends a b [] → Keeps a b
kept None b p = tt
kept (Some xs) None p = p
kept (Some xs) (Some ys) p = p ∙ append-nil xs

-- what writing the line of a storm comes to
pub storm_ended : (seed : ℕ) (plan : Plan) (summary : Summary) (a b : Option (List ℕ)) (answer : Status) → plan ≡ storm seed
    → SumOf seed plan (Ok summary) → EndOf (summary_text summary) a b answer → ComesAs (storm_task seed) a b answer
storm_ended seed plan summary a b status.Done is sum p =
    let here = storm_is seed plan is in
    let stop : storm_stopped_at seed ≡ None = here.0 ∙ sum.0 in
    let line : summary_text summary ≡ storm_line seed = ap summary_text sum.1 ∙ sym here.1 in
    (ap run_status stop, subst (λ (t : List ℕ). Appends a b t) (line ∙ sym (ap (λ (t : Option ℕ). line_unless t (storm_line seed)) stop)) p)
storm_ended seed plan summary a b status.WriteFault is sum p =
    let here = storm_is seed plan is in
    (here.0 ∙ sum.0, subst (λ (t : List ℕ). AppendsFront a b t) (ap summary_text sum.1 ∙ sym here.1) p)
storm_ended seed plan summary a b status.NoMemory is sum p = inl (kept a b p)
storm_ended seed plan summary a b (status.BadWords at) is sum p = absurd p
storm_ended seed plan summary a b status.TooLong is sum p = absurd p
storm_ended seed plan summary a b (status.BadInput line code) is sum p = absurd p
storm_ended seed plan summary a b (status.WorldFull octets) is sum p = absurd p
storm_ended seed plan summary a b status.ReadFault is sum p = absurd p
storm_ended seed plan summary a b (status.LinksGone links) is sum p = absurd p

-- the run of a storm was stopped
pub storm_stopped : (seed : ℕ) (e : Stop) (a : Option (List ℕ)) → SumOf seed (storm seed) (Err e)
    → ComesAs (storm_task seed) a a (status_of e)
storm_stopped seed (stop.WorldFull octets) a full =
    let weighs : storm_stopped_at seed ≡ Some octets = (storm_is seed (storm seed) refl).0 ∙ full in
    (ap run_status weighs, subst (λ (t : List ℕ). Appends a a t) (sym (ap (λ (t : Option ℕ). line_unless t (storm_line seed)) weighs)) (Appends-nil a))
storm_stopped seed stop.WriteFault a full = absurd full
storm_stopped seed stop.NoMemory a full = inl (Keeps-refl a)

-- the status of a sink's fault is that of no other stop
abbrev IsElse : Status → Type 0
IsElse status.WriteFault = ⊥
IsElse _ = Unit {0}

pub stops_for_write_fault : (e : Stop) → status_of e ≡ status.WriteFault → e ≡ stop.WriteFault
stops_for_write_fault stop.WriteFault is = refl
stops_for_write_fault stop.NoMemory is = absurd (subst IsElse is tt)
stops_for_write_fault (stop.WorldFull octets) is = absurd (subst IsElse is tt)
