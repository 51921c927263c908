-- A text that the grammar accepts is a scenario that is fit to be run.
use Rattle.std.proofs.Common.{◌≡◌, ℕ, ◌+◌, ◌-◌, ◌≤◌, ◌&&◌, true, nat_le, List, [], ◌∷◌, map, length, codes, Option, None, Some, Result, Ok, Err, IfOk, refl, subst, ◌∙◌, arith}
use Rattle.std.specs.List.{AllByRecursion, flat_map, sum}
use Rattle.std.specs.Str.{bytes_eq}
use Rattle.std.proofs.lemmas.Bool.{leb-true, and_parts}
use Rattle.std.proofs.lemmas.List.{length-map}
use Rattle.std.proofs.lemmas.List.Sums.{sum_by-cons}
use Rattle.std.proofs.lemmas.Result.{IfOk-at_ok}
use Rattle.clnp_plan.specs.ClnpBase.Text.{lines_of, words_of, is_skipped}
use Rattle.clnp_plan.proofs.ClnpBase.Lists.{AllByRecursion-implies}
use Rattle.clnp_plan.specs.Configuration.{SystemConfiguration, IsSystem, IsWithin}
use Rattle.clnp_plan.specs.declared.config.Limits.{Limits}
use Rattle.clnp_plan.specs.ScenarioPlan.Plan.{Plan, Subnetwork, IsFit, AsksFairly, AsksInForm, ChangesInForm, InjectsInForm, IsOfVersion1, IsPlaced, IsFromHost, IsOfRouter, IsSaid, passed_by, ticks_of}
use Rattle.clnp_plan.specs.ScenarioPlan.Standing.{EachMayCome}
use Rattle.scenario.specs.Words.{found}
use Rattle.scenario.specs.Declarations.{Declarations, DeclaredSystem, nothing_declared, limits_of, snpas_on, configuration_of}
use Rattle.scenario.specs.Events.{Scene, first_scene, scene_after, event_line, counted, are_few, nothing_counted}
use Rattle.scenario.specs.Grammar.{ReadTo, is_line_of, version_of, header_from, declarations_from, nothing_after, counted_event, event_for, events_from, fit_for, plan_at}
use Rattle.scenario.specs.declared.counts.Counts.{Counts}
use Rattle.clnp_plan.specs.declared.scenario_plan.event.Event.{Event}
use Rattle.clnp_plan.proofs.ClnpBase.Choices.{one_of}
use Rattle.scenario.specs.declared.code.Code.TheVariants as bad
use Rattle.scenario.proofs.Behind.{behind_result, behind_wanted, behind_such, behind_line_such, either_way, is_within}
use Rattle.scenario.proofs.Apart.{addresses_of, distinct_of, configuration_addresses}
use Rattle.scenario.proofs.Asks.{event_fair}
use Rattle.scenario.proofs.Changes.{IsChange, event_changes}
use Rattle.scenario.proofs.Forms.{Laws, event_formed}
use Rattle.scenario.proofs.Addresses.{ReadAddressed, configured_addresses, configured_prefixes, declared_addresses}
use Rattle.scenario.proofs.Outside.{event_injected, words_stand}
use Rattle.scenario.proofs.Said.{event_said}
use Rattle.scenario.proofs.Placed.{AreAmong, event_placed}
use Rattle.scenario.proofs.Roles.{HasItsRole, events_in_roles}
use Rattle.scenario.proofs.Kept.{configuration_snpas, configurations_on}
use Rattle.scenario.proofs.Lists.{configuration_names}
use Rattle.scenario.proofs.Fit.{AreDeclared, declarations_fit, nothing_fit, configurations_fit, configurations_named, configurations_apart}

record AreFew (counts : Counts) : Type 0 where
  pub events : counts.events ≤ 100000
  pub passed : counts.passed ≤ 10000000
  pub ticks : counts.ticks ≤ 1000000

few : (counts : Counts) → are_few counts ≡ true → AreFew counts
few counts h =
    let p = and_parts (nat_le counts.events 100000) (nat_le counts.passed 10000000 && nat_le counts.ticks 1000000) h in
    let q = and_parts (nat_le counts.passed 10000000) (nat_le counts.ticks 1000000) p.1 in
    record { events = leb-true counts.events 100000 p.0; passed = leb-true counts.passed 10000000 q.0; ticks = leb-true counts.ticks 1000000 q.1 }

-- an event that is counted, behind others
record IsCounted (scene : Scene) (counts : Counts) (event : Event) : Type 0 where
  pub few : are_few (counted counts event) ≡ true
  pub fair : AsksFairly event
  pub formed : AsksInForm event
  pub placed : AreAmong scene.names event
  pub injected : InjectsInForm (length scene.subnets) event
  pub said : IsSaid event
  pub change : IsChange scene event

both : {A E : Type 0} (r : Result A E) (P Q : A → Type 0) → IfOk r P → IfOk r Q → IfOk r (λ x. P x × Q x)
both (Ok x) P Q p q = (p, q)
both (Err e) P Q p q = tt

event_fit : Laws → (scene : Scene) → AllByRecursion IsSystem scene.systems → (counts : Counts) (line : List ℕ)
    → IfOk (counted_event scene counts (words_of line)) (IsCounted scene counts)
unfolding counted_event
event_fit laws scene are counts line =
    let words : List (List ℕ) = words_of line in
    behind_such (event_line scene words) _
    (λ event. IsChange scene event × (IsSaid event × (AsksFairly event × (AsksInForm event × (AreAmong scene.names event × InjectsInForm (length scene.subnets) event)))))
    (IsCounted scene counts)
    (both (event_line scene words) (IsChange scene)
    (λ event. IsSaid event × (AsksFairly event × (AsksInForm event × (AreAmong scene.names event × InjectsInForm (length scene.subnets) event)))) (event_changes laws scene words)
    (both (event_line scene words) IsSaid (λ event. AsksFairly event × (AsksInForm event × (AreAmong scene.names event × InjectsInForm (length scene.subnets) event))) (event_said scene words are)
    (both (event_line scene words) AsksFairly (λ event. AsksInForm event × (AreAmong scene.names event × InjectsInForm (length scene.subnets) event)) (event_fair laws.options scene words)
    (both (event_line scene words) AsksInForm (λ event. AreAmong scene.names event × InjectsInForm (length scene.subnets) event) (event_formed laws scene words are)
    (both (event_line scene words) (AreAmong scene.names) (InjectsInForm (length scene.subnets)) (event_placed scene words)
    (event_injected laws scene words (words_stand line))))))) (λ event is.
    behind_wanted (are_few (counted counts event)) _ _ (IsCounted scene counts)
    (λ few. record { few = few; change = is.0; said = is.1.0; fair = is.1.1.0; formed = is.1.1.1.0; placed = is.1.1.1.1.0; injected = is.1.1.1.1.1 }))

-- events behind those that were counted
record AreCounted (scene : Scene) (before : Counts) (events : List Event) : Type 0 where
  pub many : before.events + length events ≤ 100000
  pub passed : before.passed + sum (map passed_by events) ≤ 10000000
  pub ticks : before.ticks + sum (map ticks_of events) ≤ 1000000
  pub fair : AllByRecursion AsksFairly events
  pub formed : AllByRecursion AsksInForm events
  pub placed : AllByRecursion (AreAmong scene.names) events
  pub injected : AllByRecursion (InjectsInForm (length scene.subnets)) events
  pub said : AllByRecursion IsSaid events
  pub of_version : scene.version ≡ 1 → AllByRecursion IsOfVersion1 events
  pub changes : AllByRecursion (ChangesInForm (length scene.subnets) scene.systems) events
  pub stand : EachMayCome scene.standing events

events_fit : Laws → (scene : Scene) → AllByRecursion IsSystem scene.systems → (n : ℕ) (counts : Counts) (lines : List (List ℕ))
    → AreFew counts → IfOk (events_from counted_event scene n counts lines) (AreCounted scene counts)
unfolding events_from
events_fit laws scene are n counts [] h = tt
events_fit laws scene are n counts (line ∷ lines) h =
    either_way (is_skipped line) _ _ (AreCounted scene counts) (events_fit laws scene are (n + 1) counts lines h)
    (either_way (is_line_of (codes "end") (words_of line)) _ _ (AreCounted scene counts)
    (behind_result (nothing_after (n + 1) lines) _ (AreCounted scene counts) (λ _ _. record { many = omega (arith, h.events); passed = omega (arith, h.passed); ticks = omega (arith, h.ticks); fair = tt; formed = tt; placed = tt; injected = tt; said = tt; of_version = λ _. tt; changes = tt; stand = tt }))
    (behind_line_such n (counted_event scene counts (words_of line)) _ (IsCounted scene counts) (AreCounted scene counts)
    (event_fit laws scene are counts line) (λ event first.
    behind_such (events_from counted_event (scene_after scene event) (n + 1) (counted counts event) lines) _ (AreCounted (scene_after scene event) (counted counts event)) (AreCounted scene counts)
    (events_fit laws (scene_after scene event) are (n + 1) (counted counts event) lines (few (counted counts event) first.few)) (λ others rest.
    record {
      many = omega (arith, rest.many);
      passed = rw (sum_by-cons (λ x. x) (passed_by event) (map passed_by others)) (omega (arith, rest.passed));
      ticks = rw (sum_by-cons (λ x. x) (ticks_of event) (map ticks_of others)) (omega (arith, rest.ticks));
      fair = (first.fair, rest.fair);
      formed = (first.formed, rest.formed);
      placed = (first.placed, rest.placed);
      injected = (first.injected, rest.injected);
      said = (first.said, rest.said);
      of_version = λ one. (first.change.of_version one, rest.of_version one);
      changes = (first.change.changes, rest.changes);
      stand = (first.change.may, rest.stand);
    }))))

none_counted : AreFew nothing_counted
none_counted = record { events = omega arith; passed = omega arith; ticks = omega arith }

-- a header says version 1 or 2

version_within : (newest : ℕ) (line : List ℕ) → IfOk (found (version_of newest line) bad.Header) (IsWithin 1 2)
version_within newest line =
    let Within : Option ℕ → Type 0 = λ version. IfOk (found version bad.Header) (IsWithin 1 2) in
    one_of Within (bytes_eq line (codes "clnp-sim 1")) (Some 1) _ (is_within 1 2 1 (omega arith) (omega arith))
    (one_of Within (bytes_eq line (codes "clnp-sim 2") && nat_le 2 newest) (Some 2) None (is_within 1 2 2 (omega arith) (omega arith)) tt)

abbrev SaysVersion : ReadTo ℕ → Type 0
SaysVersion header = IsWithin 1 2 header.value

header_within : (newest n : ℕ) (lines : List (List ℕ)) → IfOk (header_from newest n lines) SaysVersion
header_within newest n [] = tt
header_within newest n (line ∷ lines) =
    either_way (is_skipped line) _ _ SaysVersion (header_within newest (n + 1) lines)
    (behind_line_such n (found (version_of newest line) bad.Header) _ (IsWithin 1 2) SaysVersion (version_within newest line) (λ version within. within))

plan_fit : Laws → (newest : ℕ) (lines : List (List ℕ)) → IfOk (plan_at None newest lines) IsFit
unfolding plan_at
plan_fit laws newest lines =
    behind_such (header_from newest 1 lines) _ SaysVersion IsFit (header_within newest 1 lines) (λ header within.
    behind_such (declarations_from header.number (nothing_declared header.value) header.lines) _ (λ declared. AreDeclared declared × ReadAddressed header.value declared) IsFit
    (both (declarations_from header.number (nothing_declared header.value) header.lines) AreDeclared (ReadAddressed header.value)
    (declarations_fit header.number (nothing_declared header.value) header.lines (nothing_fit header.value)) (declared_addresses laws header.value header.number header.lines)) (λ declared are_declared.
    let fits : AreDeclared declared = are_declared.0 in
    let systems : List SystemConfiguration = map configuration_of declared.value.systems in
    let scene : Scene = first_scene header.value (limits_of declared.value.limits).skew declared.value.subnets systems in
    behind_such (events_from counted_event scene declared.number nothing_counted declared.lines) _ (λ events. AreCounted scene nothing_counted events × AllByRecursion (HasItsRole systems) events) IsFit
    (both (events_from counted_event scene declared.number nothing_counted declared.lines) (AreCounted scene nothing_counted) (AllByRecursion (HasItsRole systems))
    (events_fit laws scene (configurations_fit declared fits) declared.number nothing_counted declared.lines none_counted)
    (events_in_roles scene declared.number nothing_counted declared.lines)) (λ events are.
    let counted : AreCounted scene nothing_counted events = are.0 in
    record {
      senders = AllByRecursion-implies (HasItsRole systems) (IsFromHost systems) (λ event role. role.0) events are.1;
      congested = AllByRecursion-implies (HasItsRole systems) (IsOfRouter systems) (λ event role. role.1) events are.1;
      version = within;
      limits = fits.fit.limits;
      together = λ one. fits.fit.together (are_declared.1.0 ∙ one);
      systems = configurations_fit declared fits;
      addresses = rw (configuration_addresses declared.value.systems) (distinct_of (addresses_of declared.value.systems) fits.fit.addresses);
      each_address = configured_addresses declared.value.systems are_declared.1.1;
      named_subnets = fits.fit.named;
      named_systems = configurations_named declared.value.systems fits.fit.systems;
      different = configurations_apart declared.value.systems fits.fit.systems;
      prefixes = configured_prefixes declared.value.systems are_declared.1.1;
      ticks = omega (arith, counted.ticks);
      few_events = omega (arith, counted.many);
      passed = omega (arith, counted.passed);
      said = counted.said;
      asks = counted.fair;
      formed = counted.formed;
      injected = subst (λ n. AllByRecursion (InjectsInForm n) events) (length-map declared.value.subnets (λ (subnet : Subnetwork). subnet.name)) counted.injected;
      of_version = counted.of_version;
      changes = subst (λ n. AllByRecursion (ChangesInForm n systems) events) (length-map declared.value.subnets (λ (subnet : Subnetwork). subnet.name)) counted.changes;
      stand = counted.stand;
      subnet_names = distinct_of (map (λ (subnet : Subnetwork). subnet.name) declared.value.subnets) fits.fit.subnet_names;
      system_names = rw (configuration_names declared.value.systems) (distinct_of (map (λ (system : DeclaredSystem). system.name) declared.value.systems) fits.fit.system_names);
      few_subnets = fits.fit.few_subnets;
      few_systems = rw (length-map declared.value.systems configuration_of) fits.fit.few_systems;
      mtus = fits.fit.subnets;
      snpas = λ q. rw (configuration_snpas q declared.value.systems) (distinct_of (flat_map (snpas_on q) declared.value.systems) (fits.fit.snpas q));
      ports = configurations_on declared.value.subnets declared.value.systems fits.fit.on;
      places = subst (λ n. AllByRecursion (IsPlaced n) events) (length-map systems (λ (system : SystemConfiguration). system.name)) counted.placed;
    })))

pub accepted : Laws → (newest : ℕ) (text : List ℕ) (plan : Plan) → plan_at None newest (lines_of text) ≡ Ok plan → IsFit plan
accepted laws newest text plan e = IfOk-at_ok IsFit e (plan_fit laws newest (lines_of text))

-- the systems that were declared up to `events` are what each system is
pub declared_systems : (version n : ℕ) (lines : List (List ℕ)) (d : Declarations) (number : ℕ) (others : List (List ℕ))
    → declarations_from n (nothing_declared version) lines ≡ Ok (record { value = d; number = number; lines = others })
    → AllByRecursion IsSystem (map configuration_of d.systems)
declared_systems version n lines d number others e =
    configurations_fit (record { value = d; number = number; lines = others })
    (IfOk-at_ok AreDeclared e (declarations_fit n (nothing_declared version) lines (nothing_fit version)))

-- the parts that are read make the plan
pub plan_is : (links : Option ℕ) (newest : ℕ) (text : List ℕ) (version n m : ℕ) (left rest : List (List ℕ)) (d : Declarations) (limits : Limits) (subnets : List Subnetwork) (systems : List SystemConfiguration) (events : List Event)
    → header_from newest 1 (lines_of text) ≡ Ok (record { value = version; number = n; lines = left })
    → declarations_from n (nothing_declared version) left ≡ Ok (record { value = d; number = m; lines = rest })
    → fit_for links (m - 1) d ≡ Ok tt
    → limits ≡ limits_of d.limits → subnets ≡ d.subnets → systems ≡ map configuration_of d.systems
    → events_from (event_for links) (first_scene version limits.skew subnets systems) m nothing_counted rest ≡ Ok events
    → plan_at links newest (lines_of text) ≡ Ok (record { version = version; limits = limits; subnets = subnets; systems = systems; events = events })
unfolding plan_at
plan_is links newest text version n m left rest d limits subnets systems events header declared fits limits_is subnets_is systems_is happens =
    let named : events_from (event_for links) (first_scene version (limits_of d.limits).skew d.subnets (map configuration_of d.systems)) m nothing_counted rest ≡ Ok events
    = rw (limits_is, subnets_is, systems_is) at happens in
    rw (header, declared, fits, named, limits_is, subnets_is, systems_is) refl
