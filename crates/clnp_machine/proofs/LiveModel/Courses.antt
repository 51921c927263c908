-- Turns, one after another.
use Rattle.std.proofs.Common.{◌≡◌, ◌∙◌, sym, ap, subst, refl, append_assoc, append-nil, ℕ, Bool, true, false, List, [], ◌∷◌, ◌++◌}
use Rattle.std.specs.Prelude.{if◌then◌else◌}
use Rattle.std.specs.List.{flat_map}
use Rattle.clnp_machine.proofs.Deeds.{step_moment}
use Rattle.clnp_plan.specs.Configuration.{SystemConfiguration}
use Rattle.clnp_plan.specs.declared.config.Role.{Role}
use Rattle.clnp_plan.specs.declared.config.Role.TheVariants.{Host, Router}
use Rattle.clnp_machine.specs.Step.{step}
use Rattle.clnp_machine.specs.System.{SystemState, Input, AsksToSend, AsksForEcho, MomentComes}
use Rattle.clnp_plan.specs.ScenarioPlan.Plan.{octets_of}
use Rattle.clnp_plan.specs.declared.scenario_plan.event.Event.{Event}
use Rattle.clnp_plan.specs.declared.scenario_plan.event.Event.TheVariants.{Send, Deliver, Settle, Lose, Tick, TickSystem, Restart, Echo, Congest, Inject, Mtu, Route, Unroute, Port}
use Rattle.clnp_machine.specs.LiveModel.Lines.{NodeLine}
use Rattle.clnp_machine.specs.LiveModel.Node.{Node, Outcome, Played, Goes, Ends, Strays}
use Rattle.clnp_machine.specs.LiveModel.Turn.{Due, asked_by, comes_at, due_behind, due_by, takes_turn}
use Rattle.clnp_machine.specs.LiveModel.Course.{Course, Runs, IsOver, Breaks, IsNone, Turn, behind_turn, course, course_behind, goes_on, has_any_link, is_over, moments_of, outcomes_of}
use Rattle.clnp_machine.specs.LiveModel.Events.{waiting_behind}
use Rattle.clnp_machine.specs.LiveModel.Parts.{BeginsWith, CourseBeginsWith, IfAny, IfBreaks, IfRuns, IfWhole, IsLonger}
use Rattle.clnp_machine.specs.LiveModel.Ports.{EachLooksOnce, LooksOnce, PortsGo, TakesWritten, detached_by, failed_in, gone_in}
use Rattle.clnp_machine.specs.LiveModel.Steps.{TakesSteps, frames_in, inputs_of, last_moment, seen_in, state_behind}
use Rattle.clnp_machine.proofs.LiveModel.Parts.{By, OnGoes, OnPlayed}
use Rattle.clnp_machine.proofs.LiveModel.Longer.{turn_longer}
use Rattle.clnp_machine.proofs.LiveModel.Reached.{Went, turn_went, went_joins, went_quietly}
use Rattle.clnp_machine.proofs.LiveModel.Stepping.{Turned, behind_itself, goes_map, state_both, steps_both, steps_nothing, turn_turned}

course_both : (a b : List NodeLine) (c : Course) → course_behind a (course_behind b c) ≡ course_behind (a ++ b) c
course_both a b (Runs node lines) = ap (λ ls. Runs node ls) (sym (append_assoc a b lines))
course_both a b (IsOver node lines) = ap (λ ls. IsOver node ls) (sym (append_assoc a b lines))
course_both a b (Breaks node lines) = ap (λ ls. Breaks node ls) (sym (append_assoc a b lines))
course_both a b IsNone = refl

course_nothing : (c : Course) → course_behind [] c ≡ c
course_nothing (Runs node lines) = refl
course_nothing (IsOver node lines) = refl
course_nothing (Breaks node lines) = refl
course_nothing IsNone = refl

-- all outcomes of a turn that is over were used
all_used : (outcomes used left : List Outcome) → outcomes ≡ used ++ left → left ≡ [] → used ≡ outcomes
all_used outcomes used left whole none = sym (whole ∙ (ap (λ ws. used ++ ws) none ∙ append-nil used))

-- ---- runs whose turns are all over

whole_behind : (ls : List NodeLine) (c : Course) (P Q : Node → List NodeLine → Type 0) → IfWhole c P → ((n : Node) (ms : List NodeLine) → P n ms → Q n (ls ++ ms))
    → IfWhole (course_behind ls c) Q
whole_behind ls (Runs n ms) P Q h f = f n ms h
whole_behind ls (IsOver n ms) P Q h f = f n ms h
whole_behind ls (Breaks n ms) P Q h f = tt
whole_behind ls IsNone P Q h f = tt

whole_goes_on : (b : Bool) (other : Node) (turns : List Turn) (dues : List Due) (P : Node → List NodeLine → Type 0) → IfWhole (course dues other turns) P
    → IfWhole (if b then course dues other turns else is_over other turns) P
whole_goes_on true other turns dues P h = h
whole_goes_on false other [] dues P h = h
whole_goes_on false other (turn ∷ turns) dues P h = tt

whole_turn : (p : Played) (turns : List Turn) (dues : List Due) (P : Node → List NodeLine → Type 0)
    → OnGoes p (λ other left ls. left ≡ [] → IfWhole (course_behind ls (goes_on other turns (λ o. course dues o turns))) P)
    → IfWhole (behind_turn p turns (λ o. course dues o turns)) P
whole_turn (Goes other [] ls) turns dues P h = h refl
whole_turn (Goes other (outcome ∷ left) ls) turns dues P h = tt
whole_turn (Ends other ls) [] dues P h = tt
whole_turn (Ends other ls) (turn ∷ turns) dues P h = tt
whole_turn Strays turns dues P h = tt

-- what events ask leaves the moment
asked_keeps : (role : Role) (event : Event) (s : SystemState) → (state_behind s (asked_by role event)).moment ≡ s.moment
asked_keeps Host (Send system from to body ask) s = step_moment s (AsksToSend from to (octets_of body) ask)
asked_keeps Router (Send system from to body ask) s = refl
asked_keeps role (Echo system from to body) s = step_moment s (AsksForEcho from to (octets_of body))
asked_keeps role (Deliver copy system) s = refl
asked_keeps role (Settle count) s = refl
asked_keeps role (Lose count) s = refl
asked_keeps role (Tick count) s = refl
asked_keeps role (TickSystem system count) s = refl
asked_keeps role (Restart system) s = refl
asked_keeps role (Congest system on) s = refl
asked_keeps role (Inject subnet from to octets) s = refl
asked_keeps role (Mtu subnet mtu) s = refl
asked_keeps role (Route system route) s = refl
asked_keeps role (Unroute system prefix) s = refl
asked_keeps role (Port system number subnet snpa) s = refl

all_asked_keep : (role : Role) (dues : List Due) (s : SystemState)
    → (state_behind s (flat_map (λ (due : Due). asked_by role due.event) dues)).moment ≡ s.moment
all_asked_keep role [] s = refl
all_asked_keep role (due ∷ dues) s =
    ap (λ (t : SystemState). t.moment) (state_both s (asked_by role due.event) (flat_map (λ (d : Due). asked_by role d.event) dues))
    ∙ (all_asked_keep role dues (state_behind s (asked_by role due.event)) ∙ asked_keeps role due.event s)

moment_comes : (role : Role) (dues : List Due) (s : SystemState) (now : ℕ) → (state_behind s (comes_at now role dues)).moment ≡ now
moment_comes role dues s now =
    all_asked_keep role (due_by now dues) (step s (MomentComes now)).after ∙ step_moment s (MomentComes now)

pub record Taken (dues : List Due) (node : Node) (turns : List Turn) (last : Node) (lines : List NodeLine) : Type 0 where
  pub steps : TakesSteps node last (inputs_of node.system.configuration.role dues node.polled turns) lines
  pub looks : EachLooksOnce node.attached turns
  pub moment : last.system.moment ≡ last_moment node.system.moment (moments_of turns)

same_inputs : (inputs : List Input) (m now p : ℕ) (used outcomes : List Outcome) (role other : Role) (dues : List Due) (q : ℕ) (turns : List Turn)
    → m ≡ now → used ≡ outcomes → other ≡ role → q ≡ seen_in p used
    → (inputs ++ frames_in m p used) ++ inputs_of other dues q turns ≡ inputs ++ (frames_in now p outcomes ++ inputs_of role dues (seen_in p outcomes) turns)
same_inputs inputs m now p used outcomes role other dues q turns e u r s =
    append_assoc inputs (frames_in m p used) (inputs_of other dues q turns)
    ∙ ap (λ is. inputs ++ is)
    (ap (λ n. frames_in n p used ++ inputs_of other dues q turns) e
    ∙ (ap (λ r. frames_in now p used ++ inputs_of r dues q turns) r
    ∙ (ap (λ n. frames_in now p used ++ inputs_of role dues n turns) s
    ∙ ap (λ us. frames_in now p us ++ inputs_of role dues (seen_in p us) turns) u)))

module _ (turn : Turn) (turns : List Turn) (dues : List Due) (node : Node) where
  taken_joins : (used : List Outcome) (other : Node) (ls : List NodeLine) → used ≡ turn.outcomes → Turned node (comes_at turn.moment node.system.configuration.role dues) used other ls
      → (last : Node) (ms : List NodeLine) → Taken (due_behind turn.moment dues) other turns last ms → Taken dues node (turn ∷ turns) last (ls ++ ms)
  taken_joins used other ls u h last ms k =
      let now = moment_comes node.system.configuration.role dues node.system turn.moment in
      let role : other.system.configuration.role ≡ node.system.configuration.role =
      ap (λ (s : SystemState). s.configuration.role) h.steps.system
      ∙ ap (λ (c : SystemConfiguration). c.role) (behind_itself node.system
      (comes_at turn.moment node.system.configuration.role dues
      ++ frames_in (state_behind node.system (comes_at turn.moment node.system.configuration.role dues)).moment node.polled used)) in
      record {
        steps = subst (λ (is : List Input). TakesSteps node last is (ls ++ ms))
            (same_inputs (comes_at turn.moment node.system.configuration.role dues)
            (state_behind node.system (comes_at turn.moment node.system.configuration.role dues)).moment turn.moment node.polled used turn.outcomes
            node.system.configuration.role other.system.configuration.role (due_behind turn.moment dues) other.polled turns now u role h.polled_is)
            (steps_both node other last
            (comes_at turn.moment node.system.configuration.role dues
            ++ frames_in (state_behind node.system (comes_at turn.moment node.system.configuration.role dues)).moment node.polled used)
            (inputs_of other.system.configuration.role (due_behind turn.moment dues) other.polled turns) ls ms h.steps k.steps);
        looks = (
          subst (λ (us : List Outcome). LooksOnce node.attached us) u h.looks,
          subst (λ (bs : List Bool). EachLooksOnce bs turns) (h.attached_is ∙ ap (λ us. detached_by us node.attached) u) k.looks,
        );
        moment = k.moment ∙ ap (λ n. last_moment n (moments_of turns)) (h.moment_is ∙ now);
      }

pub course_taken : (turns : List Turn) (dues : List Due) (node : Node) → IfWhole (course dues node turns) (Taken dues node turns)
course_taken [] dues node = record { steps = steps_nothing node; looks = tt; moment = refl }
course_taken (turn ∷ turns) dues node =
    whole_turn (takes_turn (comes_at turn.moment node.system.configuration.role dues) node turn.outcomes) turns (due_behind turn.moment dues) (Taken dues node (turn ∷ turns))
    (goes_map (takes_turn (comes_at turn.moment node.system.configuration.role dues) node turn.outcomes)
    (By (Turned node (comes_at turn.moment node.system.configuration.role dues)) turn.outcomes)
    (λ other left ls. left ≡ [] → IfWhole (course_behind ls (goes_on other turns (λ o. course (due_behind turn.moment dues) o turns))) (Taken dues node (turn ∷ turns)))
    (turn_turned (comes_at turn.moment node.system.configuration.role dues) node turn.outcomes)
    (λ other left ls h none.
    whole_behind ls (goes_on other turns (λ o. course (due_behind turn.moment dues) o turns)) (Taken (due_behind turn.moment dues) other turns) (Taken dues node (turn ∷ turns))
    (whole_goes_on (has_any_link other) other turns (due_behind turn.moment dues) (Taken (due_behind turn.moment dues) other turns) (course_taken turns (due_behind turn.moment dues) other))
    (taken_joins turn turns dues node h.used other ls (all_used turn.outcomes h.used left h.whole none) h.holds)))

pub whole_map : (c : Course) (P Q : Node → List NodeLine → Type 0) → IfWhole c P → ((n : Node) (ms : List NodeLine) → P n ms → Q n ms) → IfWhole c Q
whole_map (Runs n ms) P Q h f = f n ms h
whole_map (IsOver n ms) P Q h f = f n ms h
whole_map (Breaks n ms) P Q h f = tt
whole_map IsNone P Q h f = tt

pub course_steps : (dues : List Due) (node : Node) (turns : List Turn)
    → IfWhole (course dues node turns) (λ last lines. TakesSteps node last (inputs_of node.system.configuration.role dues node.polled turns) lines)
course_steps dues node turns =
    whole_map (course dues node turns) (Taken dues node turns) (λ last lines. TakesSteps node last (inputs_of node.system.configuration.role dues node.polled turns) lines)
    (course_taken turns dues node) (λ last lines h. h.steps)

pub course_looks : (dues : List Due) (node : Node) (turns : List Turn) → IfWhole (course dues node turns) (λ last lines. EachLooksOnce node.attached turns)
course_looks dues node turns =
    whole_map (course dues node turns) (Taken dues node turns) (λ last lines. EachLooksOnce node.attached turns) (course_taken turns dues node) (λ last lines h. h.looks)

pub course_moment : (dues : List Due) (node : Node) (turns : List Turn)
    → IfWhole (course dues node turns) (λ last lines. last.system.moment ≡ last_moment node.system.moment (moments_of turns))
course_moment dues node turns =
    whole_map (course dues node turns) (Taken dues node turns) (λ last lines. last.system.moment ≡ last_moment node.system.moment (moments_of turns))
    (course_taken turns dues node) (λ last lines h. h.moment)

-- ---- runs of whatever length

any_behind : (ls : List NodeLine) (c : Course) (P Q : Node → List NodeLine → Type 0) → IfAny c P → ((n : Node) (ms : List NodeLine) → P n ms → Q n (ls ++ ms))
    → IfAny (course_behind ls c) Q
any_behind ls (Runs n ms) P Q h f = f n ms h
any_behind ls (IsOver n ms) P Q h f = f n ms h
any_behind ls (Breaks n ms) P Q h f = f n ms h
any_behind ls IsNone P Q h f = tt

any_goes_on : (b : Bool) (other : Node) (turns : List Turn) (dues : List Due) (P : Node → List NodeLine → Type 0) → IfAny (course dues other turns) P
    → IfAny (if b then course dues other turns else is_over other turns) P
any_goes_on true other turns dues P h = h
any_goes_on false other [] dues P h = h
any_goes_on false other (turn ∷ turns) dues P h = tt

abbrev WentBy : Node → List Outcome → Node → List NodeLine → Type 0
WentBy node outcomes last lines = Went node.attached node.taken outcomes last lines

any_turn : (outcomes : List Outcome) (node : Node) (p : Played) (turns : List Turn) (dues : List Due) → OnPlayed p (By (WentBy node) outcomes)
    → ((other : Node) → IfAny (course dues other turns) (WentBy other (outcomes_of turns)))
    → IfAny (behind_turn p turns (λ o. course dues o turns)) (WentBy node (outcomes ++ outcomes_of turns))
any_turn outcomes node (Goes other [] ls) turns dues h k =
    any_behind ls (goes_on other turns (λ o. course dues o turns)) (WentBy other (outcomes_of turns)) (WentBy node (outcomes ++ outcomes_of turns))
    (any_goes_on (has_any_link other) other turns dues (WentBy other (outcomes_of turns)) (k other))
    (λ last ms w. subst (λ (us : List Outcome). WentBy node (us ++ outcomes_of turns) last (ls ++ ms)) (all_used outcomes h.used [] h.whole refl)
    (went_joins node.attached node.taken h.used other ls (outcomes_of turns) last ms h.holds w))
any_turn outcomes node (Goes other (outcome ∷ left) ls) turns dues h k = tt
any_turn outcomes node (Ends other ls) [] dues h k =
    subst (λ (us : List Outcome). WentBy node us other ls) (all_used outcomes h.used [] h.whole refl ∙ sym (append-nil outcomes)) h.holds
any_turn outcomes node (Ends other ls) (turn ∷ turns) dues h k = tt
any_turn outcomes node Strays turns dues h k = tt

pub course_went : (turns : List Turn) (dues : List Due) (node : Node) → IfAny (course dues node turns) (WentBy node (outcomes_of turns))
course_went [] dues node = went_quietly node.attached node.taken node [] refl refl refl
course_went (turn ∷ turns) dues node =
    any_turn turn.outcomes node (takes_turn (comes_at turn.moment node.system.configuration.role dues) node turn.outcomes) turns (due_behind turn.moment dues)
    (turn_went (comes_at turn.moment node.system.configuration.role dues) node turn.outcomes)
    (λ other. course_went turns (due_behind turn.moment dues) other)

any_map : (c : Course) (P Q : Node → List NodeLine → Type 0) → IfAny c P → ((n : Node) (ms : List NodeLine) → P n ms → Q n ms) → IfAny c Q
any_map (Runs n ms) P Q h f = f n ms h
any_map (IsOver n ms) P Q h f = f n ms h
any_map (Breaks n ms) P Q h f = f n ms h
any_map IsNone P Q h f = tt

pub course_ports : (dues : List Due) (node : Node) (turns : List Turn)
    → IfAny (course dues node turns) (λ last lines. PortsGo node.attached last.attached (outcomes_of turns))
course_ports dues node turns =
    any_map (course dues node turns) (WentBy node (outcomes_of turns)) (λ last lines. PortsGo node.attached last.attached (outcomes_of turns))
    (course_went turns dues node) (λ last lines h. h.ports)

pub course_gone : (dues : List Due) (node : Node) (turns : List Turn)
    → IfAny (course dues node turns) (λ last lines. gone_in lines ≡ failed_in (outcomes_of turns))
course_gone dues node turns =
    any_map (course dues node turns) (WentBy node (outcomes_of turns)) (λ last lines. gone_in lines ≡ failed_in (outcomes_of turns))
    (course_went turns dues node) (λ last lines h. h.gone)

pub course_takes : (dues : List Due) (node : Node) (turns : List Turn)
    → IfAny (course dues node turns) (λ last lines. TakesWritten node.taken last.taken (outcomes_of turns) lines)
course_takes dues node turns =
    any_map (course dues node turns) (WentBy node (outcomes_of turns)) (λ last lines. TakesWritten node.taken last.taken (outcomes_of turns) lines)
    (course_went turns dues node) (λ last lines h. h.takes)

-- ---- more turns

runs_behind : (ls : List NodeLine) (c : Course) (P Q : Node → List NodeLine → Type 0) → IfRuns c P → ((n : Node) (ms : List NodeLine) → P n ms → Q n (ls ++ ms))
    → IfRuns (course_behind ls c) Q
runs_behind ls (Runs n ms) P Q h f = f n ms h
runs_behind ls (IsOver n ms) P Q h f = tt
runs_behind ls (Breaks n ms) P Q h f = tt
runs_behind ls IsNone P Q h f = tt

runs_goes_on : (b : Bool) (other : Node) (turns later : List Turn) (dues : List Due) (rest : Node → Course)
    → IfRuns (course dues other turns) (λ last ms. course dues other (turns ++ later) ≡ course_behind ms (rest last))
    → IfRuns (if b then course dues other turns else is_over other turns)
    (λ last ms. (if b then course dues other (turns ++ later) else is_over other (turns ++ later)) ≡ course_behind ms (rest last))
runs_goes_on true other turns later dues rest h = h
runs_goes_on false other [] later dues rest h = tt
runs_goes_on false other (turn ∷ turns) later dues rest h = tt

runs_turn : (p : Played) (turns later : List Turn) (dues : List Due) (rest : Node → Course)
    → ((other : Node) → IfRuns (course dues other turns) (λ last ms. course dues other (turns ++ later) ≡ course_behind ms (rest last)))
    → IfRuns (behind_turn p turns (λ o. course dues o turns))
    (λ last ms. behind_turn p (turns ++ later) (λ o. course dues o (turns ++ later)) ≡ course_behind ms (rest last))
runs_turn (Goes other [] ls) turns later dues rest k =
    runs_behind ls (goes_on other turns (λ o. course dues o turns))
    (λ last ms. goes_on other (turns ++ later) (λ o. course dues o (turns ++ later)) ≡ course_behind ms (rest last))
    (λ last ms. course_behind ls (goes_on other (turns ++ later) (λ o. course dues o (turns ++ later))) ≡ course_behind ms (rest last))
    (runs_goes_on (has_any_link other) other turns later dues rest (k other))
    (λ last ms e. ap (course_behind ls) e ∙ course_both ls ms (rest last))
runs_turn (Goes other (outcome ∷ left) ls) turns later dues rest k = tt
runs_turn (Ends other ls) [] later dues rest k = tt
runs_turn (Ends other ls) (turn ∷ turns) later dues rest k = tt
runs_turn Strays turns later dues rest k = tt

pub turns_follow : (turns later : List Turn) (dues : List Due) (node : Node)
    → IfRuns (course dues node turns) (λ last lines. course dues node (turns ++ later) ≡ course_behind lines (course (waiting_behind (moments_of turns) dues) last later))
turns_follow [] later dues node = sym (course_nothing (course dues node later))
turns_follow (turn ∷ turns) later dues node =
    runs_turn (takes_turn (comes_at turn.moment node.system.configuration.role dues) node turn.outcomes) turns later (due_behind turn.moment dues)
    (λ last. course (waiting_behind (moments_of turns) (due_behind turn.moment dues)) last later)
    (λ other. turns_follow turns later (due_behind turn.moment dues) other)

-- ---- a run that ends within a turn, and longer ones

begins_behind : (ls more : List NodeLine) (c : Course) → CourseBeginsWith ls (course_behind (ls ++ more) c)
begins_behind ls more (Runs node lines) = (more ++ lines, append_assoc ls more lines)
begins_behind ls more (IsOver node lines) = (more ++ lines, append_assoc ls more lines)
begins_behind ls more (Breaks node lines) = (more ++ lines, append_assoc ls more lines)
begins_behind ls more IsNone = tt

begins_further : (ls ms : List NodeLine) (c : Course) → CourseBeginsWith ms c → CourseBeginsWith (ls ++ ms) (course_behind ls c)
begins_further ls ms (Runs node lines) h = (h.0, ap (λ xs. ls ++ xs) h.1 ∙ sym (append_assoc ls ms h.0))
begins_further ls ms (IsOver node lines) h = (h.0, ap (λ xs. ls ++ xs) h.1 ∙ sym (append_assoc ls ms h.0))
begins_further ls ms (Breaks node lines) h = (h.0, ap (λ xs. ls ++ xs) h.1 ∙ sym (append_assoc ls ms h.0))
begins_further ls ms IsNone h = tt

begins_longer : (ls : List NodeLine) (q : Played) (others : List Turn) (next : Node → Course) → BeginsWith ls q → CourseBeginsWith ls (behind_turn q others next)
begins_longer ls (Goes node [] lines) others next h =
    subst (λ (xs : List NodeLine). CourseBeginsWith ls (course_behind xs (goes_on node others next))) (sym h.1) (begins_behind ls h.0 (goes_on node others next))
begins_longer ls (Goes node (outcome ∷ left) lines) others next h = tt
begins_longer ls (Ends node lines) [] next h = h
begins_longer ls (Ends node lines) (turn ∷ others) next h = tt
begins_longer ls Strays others next h = tt

over_at_end : (b : Bool) (ls : List NodeLine) (other : Node) (dues : List Due) (P : Node → List NodeLine → Type 0)
    → IfBreaks (course_behind ls (if b then course dues other [] else is_over other [])) P
over_at_end true ls other dues P = tt
over_at_end false ls other dues P = tt

breaks_turn : (p q : Played) (more : List Outcome) (others : List Turn) (dues : List Due) (next : Node → Course) → IsLonger more p q
    → IfBreaks (behind_turn p [] (λ o. course dues o [])) (λ there ls. CourseBeginsWith ls (behind_turn q others next))
breaks_turn (Goes other [] ls) q more others dues next h =
    over_at_end (has_any_link other) ls other dues (λ there ms. CourseBeginsWith ms (behind_turn q others next))
breaks_turn (Goes other (outcome ∷ left) ls) q more others dues next h = tt
breaks_turn (Ends other ls) q more others dues next h = begins_longer ls q others next h
breaks_turn Strays q more others dues next h = tt

breaks_behind : (ls : List NodeLine) (c d : Course) → IfBreaks c (λ there ms. CourseBeginsWith ms d)
    → IfBreaks (course_behind ls c) (λ there ms. CourseBeginsWith ms (course_behind ls d))
breaks_behind ls (Runs n ms) d h = tt
breaks_behind ls (IsOver n ms) d h = tt
breaks_behind ls (Breaks n ms) d h = begins_further ls ms d h
breaks_behind ls IsNone d h = tt

nothing_is_over : (other : Node) (turns : List Turn) (turn : Turn) (P : Node → List NodeLine → Type 0) → IfBreaks (is_over other (turns ++ turn ∷ [])) P
nothing_is_over other [] turn P = tt
nothing_is_over other (first ∷ turns) turn P = tt

breaks_goes_on : (b : Bool) (other : Node) (turns : List Turn) (turn : Turn) (longer : List Turn) (dues : List Due)
    → IfBreaks (course dues other (turns ++ turn ∷ [])) (λ there ms. CourseBeginsWith ms (course dues other longer))
    → IfBreaks (if b then course dues other (turns ++ turn ∷ []) else is_over other (turns ++ turn ∷ []))
    (λ there ms. CourseBeginsWith ms (if b then course dues other longer else is_over other longer))
breaks_goes_on true other turns turn longer dues h = h
breaks_goes_on false other turns turn longer dues h = nothing_is_over other turns turn (λ there ms. CourseBeginsWith ms (is_over other longer))

ends_before : (other : Node) (ls : List NodeLine) (turns : List Turn) (turn : Turn) (next : Node → Course) (P : Node → List NodeLine → Type 0)
    → IfBreaks (behind_turn (Ends other ls) (turns ++ turn ∷ []) next) P
ends_before other ls [] turn next P = tt
ends_before other ls (first ∷ turns) turn next P = tt

breaks_first : (p : Played) (turns : List Turn) (turn : Turn) (longer : List Turn) (dues : List Due)
    → ((other : Node) → IfBreaks (course dues other (turns ++ turn ∷ [])) (λ there ms. CourseBeginsWith ms (course dues other longer)))
    → IfBreaks (behind_turn p (turns ++ turn ∷ []) (λ o. course dues o (turns ++ turn ∷ [])))
    (λ there ms. CourseBeginsWith ms (behind_turn p longer (λ o. course dues o longer)))
breaks_first (Goes other [] ls) turns turn longer dues k =
    breaks_behind ls (goes_on other (turns ++ turn ∷ []) (λ o. course dues o (turns ++ turn ∷ []))) (goes_on other longer (λ o. course dues o longer))
    (breaks_goes_on (has_any_link other) other turns turn longer dues (k other))
breaks_first (Goes other (outcome ∷ left) ls) turns turn longer dues k = tt
breaks_first (Ends other ls) turns turn longer dues k =
    ends_before other ls turns turn (λ o. course dues o (turns ++ turn ∷ [])) (λ there ms. CourseBeginsWith ms (behind_turn (Ends other ls) longer (λ o. course dues o longer)))
breaks_first Strays turns turn longer dues k = tt

pub broken_is_a_front : (turns : List Turn) (turn : Turn) (more : List Outcome) (others : List Turn) (dues : List Due) (node : Node)
    → IfBreaks (course dues node (turns ++ turn ∷ []))
    (λ there lines. CourseBeginsWith lines (course dues node (turns ++ record turn { outcomes = turn.outcomes ++ more } ∷ others)))
broken_is_a_front [] turn more others dues node =
    breaks_turn (takes_turn (comes_at turn.moment node.system.configuration.role dues) node turn.outcomes)
    (takes_turn (comes_at turn.moment node.system.configuration.role dues) node (turn.outcomes ++ more)) more others (due_behind turn.moment dues)
    (λ o. course (due_behind turn.moment dues) o others)
    (turn_longer (comes_at turn.moment node.system.configuration.role dues) node turn.outcomes more)
broken_is_a_front (first ∷ turns) turn more others dues node =
    breaks_first (takes_turn (comes_at first.moment node.system.configuration.role dues) node first.outcomes) turns turn
    (turns ++ record turn { outcomes = turn.outcomes ++ more } ∷ others) (due_behind first.moment dues)
    (λ other. broken_is_a_front turns turn more others (due_behind first.moment dues) other)
