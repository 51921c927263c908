-- The lines of events that are written are read as the same events.
use Rattle.std.proofs.Common.{◌≡◌, ℕ, ◌+◌, ◌≤◌, true, false, List, [], ◌∷◌, ◌++◌, map, length, codes, Result, Ok, refl, ap, ◌∙◌, append_assoc, arith}
use Rattle.std.specs.List.{AllByRecursion, flat_map, sum}
use Rattle.std.proofs.lemmas.Bool.{le-leb}
use Rattle.std.proofs.lemmas.List.Sums.{sum_by-cons}
use Rattle.clnp_plan.specs.ClnpBase.Text.{lines_of, words_of, is_skipped}
use Rattle.clnp_plan.specs.Configuration.{SystemConfiguration}
use Rattle.scenario.specs.ScenarioWriting.Canonical.{event_text}
use Rattle.scenario.specs.Events.{Scene, scene_of, scene_after, event_line, counted, are_few}
use Rattle.scenario.specs.Grammar.{at_line, is_line_of, counted_event, events_from}
use Rattle.clnp_plan.specs.ScenarioPlan.Plan.{Subnetwork, IsOfVersion1, passed_by, ticks_of}
use Rattle.clnp_plan.specs.ScenarioPlan.Standing.{EachMayCome, Standing, standing_after}
use Rattle.scenario.specs.declared.code.Code.{Code}
use Rattle.scenario.specs.declared.code.Code.TheVariants as bad
use Rattle.scenario.specs.declared.counts.Counts.{Counts}
use Rattle.clnp_plan.specs.declared.scenario_plan.event.Event.{Event}
use Rattle.clnp_plan.specs.declared.scenario_plan.event.Event.TheVariants as event
use Rattle.clnp_plan.specs.declared.scenario_plan.event.Event.TheVariants.{Send, Deliver, Settle, Lose, Tick, Restart, Echo, Congest, Inject}
use Rattle.scenario.proofs.Stepping.{step, step_wanted}
use Rattle.scenario.proofs.ScenarioWriting.Written.{ReadsBack, words_of-line, text_of_line, line_read, line_not_skipped}
use Rattle.scenario.proofs.ScenarioWriting.WrittenEvents.{AreNamed, name_of_subnet, name_of_system, IsTold, keyword_of, others_of, keyword_is_word, others_are_words, event_text_is, event_read}

-- events behind those that were counted are few
pub record AreFewMore (counts : Counts) (events : List Event) : Type 0 where
  pub many : counts.events + length events ≤ 100000
  pub passed : counts.passed + sum (map passed_by events) ≤ 10000000
  pub ticks : counts.ticks + sum (map ticks_of events) ≤ 1000000

fewer : (counts : Counts) (event : Event) (events : List Event) → AreFewMore counts (event ∷ events) → AreFewMore (counted counts event) events
fewer counts event events few =
    let passed = sum_by-cons (λ x. x) (passed_by event) (map passed_by events) in
    let ticks = sum_by-cons (λ x. x) (ticks_of event) (map ticks_of events) in
    record { many = omega (arith, few.many); passed = omega (arith, few.passed, passed); ticks = omega (arith, few.ticks, ticks) }

few_with : (counts : Counts) (event : Event) (events : List Event) → AreFewMore counts (event ∷ events) → are_few (counted counts event) ≡ true
few_with counts event events few =
    let more : AreFewMore (counted counts event) events = fewer counts event events few in
    rw (
      le-leb (counts.events + 1) 100000 (omega (arith, more.many)),
      le-leb (counts.passed + passed_by event) 10000000 (omega (arith, more.passed)),
      le-leb (counts.ticks + ticks_of event) 1000000 (omega (arith, more.ticks)),
    ) refl

counted_of : (scene : Scene) (counts : Counts) (words : List (List ℕ)) (event : Event)
    → event_line scene words ≡ Ok event → are_few (counted counts event) ≡ true → counted_event scene counts words ≡ Ok event
unfolding counted_event
counted_of scene counts words event is few =
    step (event_line scene words) _ event (Ok event) is
    (step_wanted (are_few (counted counts event)) bad.Count (λ _. Ok event) (Ok event) few refl)

-- a line with an event, and the lines behind it
events_with : (scene : Scene) (n : ℕ) (counts : Counts) (line : List ℕ) (lines : List (List ℕ))
    (event : Event) (others : List Event)
    → is_skipped line ≡ false → is_line_of (codes "end") (words_of line) ≡ false
    → counted_event scene counts (words_of line) ≡ Ok event
    → events_from counted_event (scene_after scene event) (n + 1) (counted counts event) lines ≡ Ok others
    → events_from counted_event scene n counts (line ∷ lines) ≡ Ok (event ∷ others)
unfolding events_from
events_with scene n counts line lines event others stands goes_on first rest =
    rw (stands, goes_on)
    (step (at_line n (counted_event scene counts (words_of line))) _ event (Ok (event ∷ others)) (ap (λ (r : Result Event Code). at_line n r) first)
    (step (events_from counted_event (scene_after scene event) (n + 1) (counted counts event) lines) _ others (Ok (event ∷ others)) rest refl))

at_end : (scene : Scene) (n : ℕ) (counts : Counts)
    → events_from counted_event scene n counts (lines_of (codes "end\n")) ≡ Ok []
unfolding events_from
at_end scene n counts = refl

no_end : (subnets : List Subnetwork) (systems : List SystemConfiguration) (event : Event)
    → is_line_of (codes "end") (keyword_of event ∷ others_of subnets systems event) ≡ false
no_end subnets systems (Send system from to body ask) = refl
no_end subnets systems (Deliver copy system) = refl
no_end subnets systems (Settle count) = refl
no_end subnets systems (Lose count) = refl
no_end subnets systems (Tick count) = refl
no_end subnets systems (Restart system) = refl
no_end subnets systems (Echo system from to body) = refl
no_end subnets systems (Congest system on) = refl
no_end subnets systems (Inject subnet from to octets) = refl
no_end subnets systems (event.Mtu subnet mtu) = refl
no_end subnets systems (event.Route system route) = refl
no_end subnets systems (event.Unroute system prefix) = refl
no_end subnets systems (event.TickSystem system count) = refl
no_end subnets systems (event.Port system number subnet snpa) = refl

keyword_stands : (event : Event) → is_skipped (keyword_of event) ≡ false
keyword_stands (Send system from to body ask) = refl
keyword_stands (Deliver copy system) = refl
keyword_stands (Settle count) = refl
keyword_stands (Lose count) = refl
keyword_stands (Tick count) = refl
keyword_stands (Restart system) = refl
keyword_stands (Echo system from to body) = refl
keyword_stands (Congest system on) = refl
keyword_stands (Inject subnet from to octets) = refl
keyword_stands (event.Mtu subnet mtu) = refl
keyword_stands (event.Route system route) = refl
keyword_stands (event.Unroute system prefix) = refl
keyword_stands (event.TickSystem system count) = refl
keyword_stands (event.Port system number subnet snpa) = refl

-- the text of an event and what follows it, as lines
event_line_first : (subnets : List Subnetwork) (systems : List SystemConfiguration) → AreNamed name_of_subnet subnets → AreNamed name_of_system systems
    → (event : Event) (events : List Event) (more : List ℕ) → IsTold subnets systems event
    → lines_of (flat_map (event_text subnets systems) (event ∷ events) ++ more)
    ≡ text_of_line (keyword_of event) (others_of subnets systems event) ∷ lines_of (flat_map (event_text subnets systems) events ++ more)
event_line_first subnets systems named_subnets named_systems event events more told =
    let rest : List ℕ = flat_map (event_text subnets systems) events in
    ap (λ (text : List ℕ). lines_of text) (append_assoc (event_text subnets systems event) rest more)
    ∙ ap (λ (text : List ℕ). lines_of (text ++ (rest ++ more))) (event_text_is subnets systems event)
    ∙ line_read (keyword_of event) (others_of subnets systems event) (rest ++ more) (keyword_is_word event)
    (others_are_words subnets systems named_subnets named_systems event told)

-- what is so of each event and of those before it
pub record AreInTurn (version : ℕ) (standing : Standing) (events : List Event) : Type 0 where
  pub of_version : version ≡ 1 → AllByRecursion IsOfVersion1 events
  pub stand : EachMayCome standing events

pub events_read : ReadsBack → (version : ℕ) (subnets : List Subnetwork) (systems : List SystemConfiguration) → AreNamed name_of_subnet subnets → AreNamed name_of_system systems
    → (standing : Standing) (n : ℕ) (counts : Counts) (events : List Event) → AllByRecursion (IsTold subnets systems) events → AreInTurn version standing events → AreFewMore counts events
    → events_from counted_event (scene_of version subnets systems standing) n counts (lines_of (flat_map (event_text subnets systems) events ++ codes "end\n")) ≡ Ok events
events_read law version subnets systems named_subnets named_systems standing n counts [] told turns few =
    at_end (scene_of version subnets systems standing) n counts
events_read law version subnets systems named_subnets named_systems standing n counts (event ∷ events) told turns few =
    let scene : Scene = scene_of version subnets systems standing in
    let others : List (List ℕ) = others_of subnets systems event in
    let line : List ℕ = text_of_line (keyword_of event) others in
    let words : words_of line ≡ keyword_of event ∷ others =
    words_of-line (keyword_of event) others (keyword_is_word event) (others_are_words subnets systems named_subnets named_systems event told.0) in
    ap (λ (lines : List (List ℕ)). events_from counted_event scene n counts lines)
    (event_line_first subnets systems named_subnets named_systems event events (codes "end\n") told.0)
    ∙ events_with scene n counts line (lines_of (flat_map (event_text subnets systems) events ++ codes "end\n")) event events
    (line_not_skipped (keyword_of event) others (keyword_is_word event) (keyword_stands event))
    (ap (λ (found : List (List ℕ)). is_line_of (codes "end") found) words ∙ no_end subnets systems event)
    (counted_of scene counts (words_of line) event
    (ap (λ (found : List (List ℕ)). event_line scene found) words
    ∙ event_read law version subnets systems named_subnets named_systems standing event told.0 (record { of_version = λ one. (turns.of_version one).0; may = turns.stand.0 }))
    (few_with counts event events few))
    (events_read law version subnets systems named_subnets named_systems (standing_after event standing) (n + 1) (counted counts event) events told.1
    (record { of_version = λ one. (turns.of_version one).1; stand = turns.stand.1 }) (fewer counts event events few))
