-- Runs from their start to their end.
use Rattle.std.proofs.Common.{◌≡◌, ◌≤◌, ◌<◌, ◌^◌, ◌∙◌, Bool, ℕ, List, [], ◌∷◌, ◌++◌, length, Option, Result, Ok, Err, OnErr, OnOk, IfErr, refl, sym, ap, subst, append-nil, arith}
use Rattle.std.specs.List.{AllByRecursion}
use Rattle.std.specs.Io.KnownBytes.{Appends}
use Rattle.std.proofs.KnownBytes.{Appends-trans}
use Rattle.clnp_machine.specs.ClnpPlan.Configuration.{IsSystem, HasItsPorts, SystemConfiguration}
use Rattle.clnp_machine.specs.ClnpPlan.Journal.{end_text}
use Rattle.clnp_machine.specs.ClnpPlan.declared.config.Role.{Role}
use Rattle.clnp_machine.specs.ClnpPlan.declared.config.Role.TheVariants.{Host, Router}
use Rattle.clnp_machine.specs.ClnpPlan.declared.config.PortConfig.{PortConfig}
use Rattle.frame_links.specs.ClnpBase.Moments.{GivesMoment}
use Rattle.frame_links.specs.ClnpBase.Streams.{AppendsFront}
use Rattle.frame_links.specs.LinkBoard.Ports.{PortState}
use Rattle.clnp_plan.specs.ScenarioPlan.Plan.{Plan}
use Rattle.clnp_machine.specs.LiveModel.Lines.{lines_text}
use Rattle.clnp_machine.specs.LiveModel.Node.{Node, Outcome, Sending}
use Rattle.clnp_machine.specs.LiveModel.Parts.{IfAny}
use Rattle.clnp_machine.specs.LiveModel.Ports.{PortsGo}
use Rattle.clnp_machine.specs.LiveModel.Turn.{Due, dues_from}
use Rattle.clnp_machine.specs.LiveModel.Course.{Course, Runs, IsOver, Breaks, IsNone, Transcript, Turn, course, first_node, journal, node_run, outcomes_of, run_of}
use Rattle.clnp_program.specs.declared.live_node.node.LiveNode.{LiveNode}
use Rattle.clnp_program.specs.declared.live_node.run.RunStop.{RunStop}
use Rattle.clnp_program.specs.declared.live_node.run.RunStop.TheVariants.{WriteFault, LinksGone, NoMemory}
use Rattle.clnp_program.specs.LiveNode.Clocks.{ClockState, ReadsMoment, clock_of}
use Rattle.clnp_program.specs.LiveNode.Links.{PortsWent}
use Rattle.clnp_program.specs.LiveNode.Plays.{attached_of}
use Rattle.clnp_program.specs.LiveNode.Ran.{EndsAs, HasNoLink, IsBroken, IsBrokenOff, IsOutOfMemory, IsSome, IsWhole, RanOf, RanTo, StopsIn, attached_in, taken_in}
use Rattle.clnp_program.proofs.LiveNode.Courses.{front_behind, front_none}
use Rattle.clnp_program.proofs.LiveNode.Ports.{ports_same}

pub only_one : {X : Type 0} (xs : List X) → length xs ≡ 1 → (x : X) × (xs ≡ x ∷ [])
only_one [] e = absurd (cc)
only_one (x ∷ []) e = (x, refl)
only_one (x ∷ y ∷ xs) e = absurd (omega (arith, e))

few_by : (role : Role) (ports : List PortConfig) → HasItsPorts role ports → length ports ≤ 8
few_by Host ports h = omega (arith, h)
few_by Router ports h = omega (arith, h.most)

-- a system has at most eight ports
pub few_ports : (links : ℕ) (systems : List SystemConfiguration) → length systems ≡ 1 → AllByRecursion IsSystem systems
    → AllByRecursion (λ (system : SystemConfiguration). length system.ports ≡ links) systems → links ≤ 8
few_ports links [] one h k = absurd (cc)
few_ports links (system ∷ systems) one h k = omega (arith, few_by system.role system.ports h.0.ports, k.0)

over_some : (c : Course) → HasNoLink c → IsSome c
over_some (Runs node lines) h = absurd h
over_some (IsOver node lines) h = tt
over_some (Breaks node lines) h = absurd h
over_some IsNone h = absurd h

-- a run that stopped is one of its node
stopped_some : (stop : RunStop) (most : ℕ) (run : Course) (turns : List Turn) (before after : List PortState) (old new : Option (List ℕ))
    → EndsAs (Err stop) most run turns before after old new → IsSome run
stopped_some WriteFault most run turns before after old new h = h.some
stopped_some NoMemory most run turns before after old new h = h.broken.some
stopped_some (LinksGone links) most run turns before after old new h = over_some run h.over

not_over : (run : Course) → IsWhole run → HasNoLink run → ⊥
not_over (Runs node lines) w none = none
not_over (IsOver node lines) w none = w
not_over (Breaks node lines) w none = w
not_over IsNone w none = w

-- the ports went on as those that are attached at the end of a run say
ports_by : (c : Course) (before after : List Bool) (outcomes : List Outcome) → IsSome c → attached_in c ≡ after
    → IfAny c (λ last lines. PortsGo before last.attached outcomes) → PortsGo before after outcomes
ports_by (Runs node lines) before after outcomes some e h = subst (λ (attached : List Bool). PortsGo before attached outcomes) e h
ports_by (IsOver node lines) before after outcomes some e h = subst (λ (attached : List Bool). PortsGo before attached outcomes) e h
ports_by (Breaks node lines) before after outcomes some e h = subst (λ (attached : List Bool). PortsGo before attached outcomes) e h
ports_by IsNone before after outcomes some e h = absurd some

-- what one reading of a clock ensures
pub read_once : {before after : Option (List ℕ)} {earlier later moment : ℕ} → GivesMoment before after moment → earlier ≤ moment
    → moment < 2 ^ 62 → later ≡ moment → ReadsMoment (clock_of before earlier) (clock_of after later) moment
read_once given later early kept = record { given = given; later = later; early = early; kept = kept }

module _ (plan : Plan) (system : SystemConfiguration) (only : plan.systems ≡ system ∷ []) (most start : ℕ) (before : List PortState)
    (first second : ClockState) (read : ReadsMoment first second start)
    (failed : (dues : List Due) (node : Node) (turns : List Turn)
    → IfAny (course dues node turns) (λ last lines. PortsGo node.attached last.attached (outcomes_of turns))) where
  abbrev starts : Node
  starts = first_node plan.limits system start (attached_of before)

  abbrev dues : List Due
  dues = dues_from start plan.events

  abbrev over : List Turn → Transcript
  over turns = record { start = start; turns = turns }

  run_is : (turns : List Turn) → node_run plan (attached_of before) (over turns) ≡ course dues starts turns
  run_is turns = ap (λ (systems : List SystemConfiguration). run_of plan systems (attached_of before) (over turns)) only

  -- a run came to an end in one of its turns
  pub ran_stopped : (stop : RunStop) (last : ClockState) (after : List PortState) (old new : Option (List ℕ))
      → StopsIn stop most dues starts second last before after old new → RanOf plan most first last before after old new (Err stop)
  ran_stopped stop last after old new h = record {
    transcript = over h.turns;
    moments = (second, read, h.moments);
    ports = subst (λ (taken : List Sending). PortsWent 0 before after (outcomes_of h.turns) taken)
        (sym (ap taken_in (run_is h.turns) ∙ h.takes)) h.ports;
    attached = ap attached_in (run_is h.turns) ∙ h.attached;
    failures = ports_by (course dues starts h.turns) (attached_of before) (attached_of after) (outcomes_of h.turns)
        (stopped_some stop most (course dues starts h.turns) h.turns before after old new h.ends) h.attached (failed dues starts h.turns);
    ends = subst (λ (run : Course). EndsAs (Err stop) most run h.turns before after old new) (sym (run_is h.turns)) h.ends;
  }

  broken_by_end : (stop : RunStop) → IsBroken stop → (run : Course) (turns : List Turn) (after : List PortState) (old new : Option (List ℕ))
      → IsWhole run → IsBrokenOff most run turns old new → EndsAs (Err stop) most run turns before after old new
  broken_by_end WriteFault b run turns after old new w h = h
  broken_by_end NoMemory b run turns after old new w h = record { broken = h; unfinished = λ on none. absurd (not_over run w none) }
  broken_by_end (LinksGone links) b run turns after old new w h = absurd b

  -- it didn't begin
  pub ran_nowhere : (old : Option (List ℕ)) → RanOf plan most first second before before old old (Err NoMemory)
  ran_nowhere old =
      let e = run_is [] in
      record {
        transcript = over [];
        moments = (second, read, refl);
        ports = subst (λ (run : Course). PortsWent 0 before before [] (taken_in run)) (sym e) (ports_same 0 before);
        attached = ap attached_in e;
        failures = failed dues starts [];
        ends = subst (λ (run : Course). IsOutOfMemory most run [] before old old) (sym e)
            (record {
              broken = record { within = omega arith; some = tt; written = front_none old (journal (course dues starts [])) };
              unfinished = λ on none. absurd none;
            });
      }

  module _ (live : LiveNode) (later : List Due) (last : ClockState) (after : List PortState) (old mid new : Option (List ℕ))
      (h : RanTo dues later starts live most second last before after old mid) where
    whole_course : node_run plan (attached_of before) (over h.turns) ≡ Runs h.node h.lines
    whole_course =
        run_is h.turns
        ∙ (ap (λ turns. course dues starts turns) (sym (append-nil h.turns))
        ∙ (h.runs [] ∙ ap (λ ls. Runs h.node ls) (append-nil h.lines)))

    whole_ports : PortsWent 0 before after (outcomes_of h.turns) (taken_in (node_run plan (attached_of before) (over h.turns)))
    whole_ports =
        subst (λ (taken : List Sending). PortsWent 0 before after (outcomes_of h.turns) taken) (sym (ap taken_in whole_course ∙ h.takes)) h.ports

    whole_attached : attached_in (node_run plan (attached_of before) (over h.turns)) ≡ attached_of after
    whole_attached = ap attached_in whole_course ∙ h.stands.attached

    whole_failures : PortsGo (attached_of before) (attached_of after) (outcomes_of h.turns)
    whole_failures =
        let run = course dues starts h.turns in
        ports_by run (attached_of before) (attached_of after) (outcomes_of h.turns)
        (subst IsSome (sym (sym (run_is h.turns) ∙ whole_course)) tt)
        (ap attached_in (sym (run_is h.turns)) ∙ whole_attached) (failed dues starts h.turns)

    end_is : end_text h.node.system.moment h.node.copies ≡ end_text live.now live.copies
    end_is =
        ap (λ (moment : ℕ). end_text moment h.node.copies) (sym h.stands.now)
        ∙ ap (λ (copies : ℕ). end_text live.now copies) (sym h.stands.copies)

    journal_is : journal (node_run plan (attached_of before) (over h.turns)) ≡ lines_text h.lines ++ end_text live.now live.copies
    journal_is = ap journal whole_course ∙ ap (λ (end : List ℕ). lines_text h.lines ++ end) end_is

    -- all turns were run, and the last line was written, or a front of it
    pub ran_ended : (result : Result (Unit {0}) RunStop)
        → OnOk result (Appends mid new (end_text live.now live.copies))
        → OnErr result (AppendsFront mid new (end_text live.now live.copies))
        → IfErr result (λ (stop : RunStop). IsBroken stop)
        → RanOf plan most first last before after old new result
    ran_ended (Ok done) written front stops = record {
      transcript = over h.turns;
      moments = (second, read, h.moments);
      ports = whole_ports;
      attached = whole_attached;
      failures = whole_failures;
      ends = record {
        counted = h.counted;
        whole = subst IsWhole (sym whole_course) tt;
        written = subst (λ (text : List ℕ). Appends old new text) (sym journal_is)
            (Appends-trans old mid new (lines_text h.lines) (end_text live.now live.copies) h.written written);
      };
    }
    ran_ended (Err stop) written front stops = record {
      transcript = over h.turns;
      moments = (second, read, h.moments);
      ports = whole_ports;
      attached = whole_attached;
      failures = whole_failures;
      ends = broken_by_end stop stops (node_run plan (attached_of before) (over h.turns)) h.turns after old new
          (subst IsWhole (sym whole_course) tt) (record {
            within = omega (arith, h.counted);
            some = subst IsSome (sym whole_course) tt;
            written = subst (λ (text : List ℕ). AppendsFront old new text) (sym journal_is)
                (front_behind old mid new (lines_text h.lines) (end_text live.now live.copies) h.written front);
          });
    }
