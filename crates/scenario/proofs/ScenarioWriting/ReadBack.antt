-- What is written of a scenario is read as that scenario.
use Rattle.std.proofs.Common.{◌≡◌, ℕ, zero, suc, List, [], ◌∷◌, ◌++◌, length, codes, None, Ok, refl, sym, ap, ◌∙◌, append_assoc, arith}
use Rattle.std.specs.Fmt.{digits}
use Rattle.std.specs.List.{AllByRecursion, flat_map}
use Rattle.std.proofs.lemmas.Result.{IfOk-at_ok}
use Rattle.clnp_plan.specs.ClnpBase.Text.{lines_of}
use Rattle.clnp_plan.specs.Configuration.{IsWithin, SystemConfiguration}
use Rattle.scenario.specs.ScenarioWriting.Canonical.{header_text, declarations_text, event_text, text_of}
use Rattle.scenario.specs.Events.{nothing_counted}
use Rattle.scenario.specs.Grammar.{newest_version, header_from, plan_of}
use Rattle.clnp_plan.specs.ScenarioPlan.Plan.{Plan, Subnetwork, IsFit, AsksInForm, ChangesInForm, InjectsInForm, IsPlaced, IsFromHost, IsOfRouter, IsSaid}
use Rattle.clnp_plan.specs.ScenarioPlan.Standing.{standing_of}
use Rattle.clnp_plan.specs.declared.scenario_plan.event.Event.{Event}
use Rattle.scenario.proofs.Accepted.{plan_is}
use Rattle.scenario.proofs.ScenarioWriting.Stages.{declared_of, configurations_again}
use Rattle.scenario.proofs.ScenarioWriting.Written.{ReadsBack}
use Rattle.scenario.proofs.ScenarioWriting.WrittenDeclarations.{declarations_read}
use Rattle.scenario.proofs.ScenarioWriting.WrittenEvents.{AreNamed, name_of_subnet, name_of_system, IsTold}
use Rattle.scenario.proofs.ScenarioWriting.WrittenText.{AreFewMore, events_read}

header_read : (version : ℕ) (more : List ℕ) → IsWithin 1 2 version
    → header_from newest_version 1 (lines_of (header_text version ++ more)) ≡ Ok (record { value = version; number = 2; lines = lines_of more })
unfolding digits
header_read zero more within = absurd (omega (arith, within.least))
header_read (suc zero) more within = refl
header_read (suc (suc zero)) more within = refl
header_read (suc (suc (suc version))) more within = absurd (omega (arith, within.most))

told : (subnets : List Subnetwork) (systems : List SystemConfiguration) (events : List Event)
    → AllByRecursion AsksInForm events → AllByRecursion (IsPlaced (length systems)) events
    → AllByRecursion (IsFromHost systems) events → AllByRecursion (IsOfRouter systems) events
    → AllByRecursion (InjectsInForm (length subnets)) events → AllByRecursion IsSaid events → AllByRecursion (ChangesInForm (length subnets) systems) events
    → AllByRecursion (IsTold subnets systems) events
told subnets systems [] formed placed senders congested injected said changes = tt
told subnets systems (event ∷ events) formed placed senders congested injected said changes = (
  record { formed = formed.0; placed = placed.0; sender = senders.0; congested = congested.0; injected = injected.0; said = said.0; changes = changes.0 },
  told subnets systems events formed.1 placed.1 senders.1 congested.1 injected.1 said.1 changes.1,
)

regrouped : (header declared events lines end : List ℕ) → (((header ++ declared) ++ events) ++ lines) ++ end ≡ header ++ (declared ++ (events ++ (lines ++ end)))
regrouped header declared events lines end = simp append_assoc

pub what_is_written : ReadsBack → (plan : Plan) → IsFit plan → plan_of (text_of plan) ≡ Ok plan
what_is_written law plan fit =
    let lines : List ℕ = flat_map (event_text plan.subnets plan.systems) plan.events in
    let rest : List ℕ = lines ++ codes "end\n" in
    let behind : List ℕ = declarations_text plan ++ (codes "events\n" ++ rest) in
    let declared = declarations_read law plan fit 2 rest in
    let subnets : AreNamed name_of_subnet plan.subnets = record { distinct = fit.subnet_names; names = fit.named_subnets } in
    let systems : AreNamed name_of_system plan.systems = record { distinct = fit.system_names; names = fit.named_systems } in
    let few : AreFewMore nothing_counted plan.events = record { many = omega (arith, fit.few_events); passed = omega (arith, fit.passed); ticks = omega (arith, fit.ticks) } in
    ap (λ (text : List ℕ). plan_of text) (regrouped (header_text plan.version) (declarations_text plan) (codes "events\n") lines (codes "end\n"))
    ∙ plan_is None newest_version (header_text plan.version ++ behind) plan.version 2 declared.0 (lines_of behind) (lines_of rest) (declared_of plan) plan.limits plan.subnets plan.systems plan.events
    (header_read plan.version behind fit.version) declared.1 refl refl refl (sym (configurations_again plan.systems))
    (events_read law plan.version plan.subnets plan.systems subnets systems (standing_of plan.limits.skew plan.systems) declared.0 nothing_counted plan.events
    (told plan.subnets plan.systems plan.events fit.formed fit.places fit.senders fit.congested fit.injected fit.said fit.changes)
    (record { of_version = fit.of_version; stand = fit.stand }) few)

-- of a text that was read
pub read_again : ((text : List ℕ) (plan : Plan) → plan_of text ≡ Ok plan → IsFit plan) → ((plan : Plan) → IsFit plan → plan_of (text_of plan) ≡ Ok plan)
    → (text : List ℕ) (plan : Plan) → plan_of text ≡ Ok plan → plan_of (text_of plan) ≡ Ok plan
read_again fit read text plan is = read plan (fit text plan is)

-- two scenarios with one text are one
pub one_text : ((plan : Plan) → IsFit plan → plan_of (text_of plan) ≡ Ok plan)
    → (plan other : Plan) → IsFit plan → IsFit other → text_of plan ≡ text_of other → plan ≡ other
one_text read plan other fit other_fit same =
    let both : Ok plan ≡ Ok other = sym (read plan fit) ∙ (ap (λ (text : List ℕ). plan_of text) same ∙ read other other_fit) in
    IfOk-at_ok (λ (p : Plan). plan ≡ p) both refl
