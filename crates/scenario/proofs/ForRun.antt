-- What is read for a live node on a board is what is read anyhow and is for that board.
use Rattle.std.proofs.Common.{◌≡◌, ◌↔◌, inl, inr, ℕ, ◌+◌, ◌-◌, ◌==◌, true, List, [], ◌∷◌, map, length, codes, Option, None, Some, Result, Ok, Err, IfOk, refl, sym, ◌∙◌}
use Rattle.std.specs.Prelude.{MatchResult}
use Rattle.std.specs.List.{AllByRecursion, list_all}
use Rattle.std.proofs.lemmas.Bool.{cases_Bool, and_parts, eq-eqb, eqb-true}
use Rattle.std.proofs.lemmas.List.{length-map}
use Rattle.std.proofs.lemmas.Result.{IfOk-at_ok}
use Rattle.clnp_plan.specs.ClnpBase.Text.{lines_of, words_of, is_skipped}
use Rattle.clnp_plan.specs.Configuration.{SystemConfiguration}
use Rattle.clnp_plan.specs.ScenarioPlan.Plan.{IsForBoard, IsLive, Plan}
use Rattle.scenario.specs.Words.{◌>>=◌, wanted}
use Rattle.scenario.specs.Declarations.{Declarations, DeclaredSystem, NumberedPort, nothing_declared, limits_of, fits_board, configuration_of}
use Rattle.scenario.specs.Events.{Scene, first_scene, scene_after, is_live_line, counted, nothing_counted}
use Rattle.scenario.specs.Grammar.{BadLine, ReadTo, at_line, newest_version, is_line_of, header_from, declarations_from, nothing_after, counted_event, live_event, events_from, fit_for, plan_behind, plan_at, plan_of, run_plan_of}
use Rattle.scenario.specs.Refusal.{Refuses}
use Rattle.scenario.specs.declared.code.Code.{Code}
use Rattle.scenario.specs.declared.code.Code.TheVariants as bad
use Rattle.scenario.specs.declared.counts.Counts.{Counts}
use Rattle.clnp_plan.specs.declared.scenario_plan.event.Event.{Event}
use Rattle.scenario.specs.declared.fault.ScenarioRefusal.{ScenarioRefusal}
use Rattle.scenario.proofs.Behind.{behind_result, behind_wanted, behind_such, behind_line_such, either_way, if_wanted}
use Rattle.scenario.proofs.LiveLines.{IsSaidLive, counted_said_live}
use Rattle.scenario.proofs.Stepping.{step, step_wanted}

-- what is so of what is read, where it is
if_read : {A E : Type 0} (r : Result A E) (P : A → Type 0) → ((x : A) → r ≡ Ok x → P x) → IfOk r P
if_read (Ok x) P h = h x refl
if_read (Err e) P h = tt

-- ---- lines

abbrev IsTaken : Scene → Counts → List (List ℕ) → Event → Type 0
IsTaken scene counts words event = (counted_event scene counts words ≡ Ok event) × IsLive event

live_taken : (scene : Scene) (counts : Counts) (words : List (List ℕ)) → IfOk (live_event scene counts words) (IsTaken scene counts words)
unfolding live_event
live_taken scene counts words =
    behind_wanted (is_live_line words) bad.Syntax (λ _. counted_event scene counts words) (IsTaken scene counts words) (λ live.
    if_read (counted_event scene counts words) (IsTaken scene counts words) (λ event is.
    (is, (IfOk-at_ok (IsSaidLive words) is (counted_said_live scene counts words)).1 live)))

live_is_counted : (scene : Scene) (counts : Counts) (words : List (List ℕ)) (event : Event)
    → live_event scene counts words ≡ Ok event → IsLive event → counted_event scene counts words ≡ Ok event
live_is_counted scene counts words event is live = (IfOk-at_ok (IsTaken scene counts words) is (live_taken scene counts words)).0

counted_is_live : (scene : Scene) (counts : Counts) (words : List (List ℕ)) (event : Event)
    → counted_event scene counts words ≡ Ok event → IsLive event → live_event scene counts words ≡ Ok event
unfolding live_event
counted_is_live scene counts words event is live =
    step_wanted (is_live_line words) bad.Syntax (λ _. counted_event scene counts words) (Ok event)
    ((IfOk-at_ok (IsSaidLive words) is (counted_said_live scene counts words)).0 live) is

-- Two ways to read lines, where what the first reads the second reads too, if a live node takes it.
module _ (read other : Scene → Counts → List (List ℕ) → Result Event Code)
    (same : (scene : Scene) (counts : Counts) (words : List (List ℕ)) (event : Event) → read scene counts words ≡ Ok event → IsLive event
    → other scene counts words ≡ Ok event) where
  abbrev AreRead : Result (List Event) BadLine → List Event → Type 0
  AreRead reading events = AllByRecursion IsLive events → reading ≡ Ok events

  at_end : (r : Result (Unit {0}) BadLine) → IfOk (r >>= λ _. Ok []) (AreRead (r >>= λ _. Ok []))
  at_end (Ok x) = λ all. refl
  at_end (Err bad) = tt

  others_too : (n : ℕ) (event : Event) (r : Result Event Code) (f : Event → Result (List Event) BadLine) (rest : Result (List Event) BadLine)
      → (IsLive event → r ≡ Ok event) → IfOk rest (AreRead (f event))
      → IfOk (rest >>= λ events. Ok (event ∷ events)) (AreRead (at_line n r >>= λ first. f first >>= λ events. Ok (first ∷ events)))
  others_too n event r f (Ok events) first later = λ all. rw (first all.0, later all.1) refl
  others_too n event r f (Err bad) first later = tt

  at_event : (n : ℕ) (scene : Scene) (counts : Counts) (words : List (List ℕ)) (f g : Event → Result (List Event) BadLine)
      → ((event : Event) → IfOk (f event) (AreRead (g event)))
      → IfOk (at_line n (read scene counts words) >>= λ event. f event >>= λ events. Ok (event ∷ events))
      (AreRead (at_line n (other scene counts words) >>= λ event. g event >>= λ events. Ok (event ∷ events)))
  at_event n scene counts words f g later =
      behind_line_such n (read scene counts words) (λ event. f event >>= λ events. Ok (event ∷ events)) (λ event. read scene counts words ≡ Ok event)
      (AreRead (at_line n (other scene counts words) >>= λ event. g event >>= λ events. Ok (event ∷ events)))
      (if_read (read scene counts words) (λ event. read scene counts words ≡ Ok event) (λ event is. is)) (λ event is.
      others_too n event (other scene counts words) g (f event) (same scene counts words event is) (later event))

  pub alike : (scene : Scene) (n : ℕ) (counts : Counts) (lines : List (List ℕ))
      → IfOk (events_from read scene n counts lines) (AreRead (events_from other scene n counts lines))
  unfolding events_from
  alike scene n counts [] = tt
  alike scene n counts (line ∷ lines) =
      elim (cases_Bool (is_skipped line)) [
        | inl skipped ↦ rw skipped (alike scene (n + 1) counts lines)
        | inr stands ↦
            elim (cases_Bool (is_line_of (codes "end") (words_of line))) [
              | inl last ↦ rw (stands, last) (at_end (nothing_after (n + 1) lines))
              | inr goes_on ↦
                  rw (stands, goes_on)
                  (at_event n scene counts (words_of line) (λ event. events_from read (scene_after scene event) (n + 1) (counted counts event) lines)
                  (λ event. events_from other (scene_after scene event) (n + 1) (counted counts event) lines)
                  (λ event. alike (scene_after scene event) (n + 1) (counted counts event) lines))
            ]
      ]

live_events : (scene : Scene) (n : ℕ) (counts : Counts) (lines : List (List ℕ)) → IfOk (events_from live_event scene n counts lines) (AllByRecursion IsLive)
unfolding events_from
live_events scene n counts [] = tt
live_events scene n counts (line ∷ lines) =
    either_way (is_skipped line) _ _ (AllByRecursion IsLive) (live_events scene (n + 1) counts lines)
    (either_way (is_line_of (codes "end") (words_of line)) _ _ (AllByRecursion IsLive)
    (behind_result (nothing_after (n + 1) lines) _ (AllByRecursion IsLive) (λ _ _. tt))
    (behind_line_such n (live_event scene counts (words_of line)) _ (IsTaken scene counts (words_of line)) (AllByRecursion IsLive)
    (live_taken scene counts (words_of line)) (λ event first.
    behind_such (events_from live_event (scene_after scene event) (n + 1) (counted counts event) lines) _ (AllByRecursion IsLive) (AllByRecursion IsLive)
    (live_events (scene_after scene event) (n + 1) (counted counts event) lines) (λ others rest. (first.1, rest)))))

live_too : (scene : Scene) (n : ℕ) (lines : List (List ℕ)) (events : List Event) → events_from live_event scene n nothing_counted lines ≡ Ok events
    → (events_from counted_event scene n nothing_counted lines ≡ Ok events) × AllByRecursion IsLive events
live_too scene n lines events are =
    let live : AllByRecursion IsLive events = IfOk-at_ok (AllByRecursion IsLive) are (live_events scene n nothing_counted lines) in
    let Is : List Event → Type 0 = λ others. AllByRecursion IsLive others → events_from counted_event scene n nothing_counted lines ≡ Ok others in
    (IfOk-at_ok Is are (alike live_event counted_event live_is_counted scene n nothing_counted lines) live, live)

counted_too : (scene : Scene) (n : ℕ) (lines : List (List ℕ)) (events : List Event) → events_from counted_event scene n nothing_counted lines ≡ Ok events
    → AllByRecursion IsLive events → events_from live_event scene n nothing_counted lines ≡ Ok events
counted_too scene n lines events are live =
    let Is : List Event → Type 0 = λ others. AllByRecursion IsLive others → events_from live_event scene n nothing_counted lines ≡ Ok others in
    IfOk-at_ok Is are (alike counted_event live_event counted_is_live scene n nothing_counted lines) live

-- ---- systems

abbrev HasPorts : ℕ → SystemConfiguration → Type 0
HasPorts links system = length system.ports ≡ links

ports_read : (links : ℕ) (systems : List DeclaredSystem) → list_all (λ (system : DeclaredSystem). length system.ports == links) systems ≡ true
    → AllByRecursion (HasPorts links) (map configuration_of systems)
ports_read links [] h = tt
ports_read links (system ∷ systems) h =
    let p = and_parts (length system.ports == links) (list_all (λ (system : DeclaredSystem). length system.ports == links) systems) h in (
      length-map system.ports (λ (numbered : NumberedPort). numbered.port) ∙ eqb-true (length system.ports) links p.0,
      ports_read links systems p.1,
    )

ports_declared : (links : ℕ) (systems : List DeclaredSystem) → AllByRecursion (HasPorts links) (map configuration_of systems)
    → list_all (λ (system : DeclaredSystem). length system.ports == links) systems ≡ true
ports_declared links [] h = refl
ports_declared links (system ∷ systems) h =
    rw (
      eq-eqb (length system.ports) links (sym (length-map system.ports (λ (numbered : NumberedPort). numbered.port)) ∙ h.0),
      ports_declared links systems h.1,
    ) refl

-- ---- plans

board_of : (links : ℕ) (d : Declarations) (plan : Plan) → fits_board links d.systems ≡ true → plan.systems ≡ map configuration_of d.systems
    → AllByRecursion IsLive plan.events → IsForBoard links plan
board_of links d plan fits are live =
    let p = and_parts (length d.systems == 1) (list_all (λ (system : DeclaredSystem). length system.ports == links) d.systems) fits in
    record {
      one = rw are (length-map d.systems configuration_of ∙ eqb-true (length d.systems) 1 p.0);
      ports = rw are (ports_read links d.systems p.1);
      events = live;
    }

fits_of : (links n : ℕ) (d : Declarations) → length (map configuration_of d.systems) ≡ 1 → AllByRecursion (HasPorts links) (map configuration_of d.systems)
    → fit_for (Some links) n d ≡ Ok tt
fits_of links n d one ports =
    rw (eq-eqb (length d.systems) 1 (sym (length-map d.systems configuration_of) ∙ one), ports_declared links d.systems ports) refl

-- what the event lines are read over, in a text of a version that declares this
abbrev scene_behind : (version : ℕ) → ReadTo Declarations → Scene
scene_behind version declared = first_scene version (limits_of declared.value.limits).skew declared.value.subnets (map configuration_of declared.value.systems)

module _ (header : ReadTo ℕ) where
  abbrev IsReadFor : ℕ → Plan → Type 0
  IsReadFor links plan = (plan_behind None header ≡ Ok plan) × IsForBoard links plan

  behind_for_board : (links : ℕ) → IfOk (plan_behind (Some links) header) (IsReadFor links)
  behind_for_board links =
      behind_result (declarations_from header.number (nothing_declared header.value) header.lines) _ (IsReadFor links) (λ declared declared_is.
      behind_line_such (declared.number - 1) (wanted (fits_board links declared.value.systems) bad.Count) _ (λ _. fits_board links declared.value.systems ≡ true)
      (IsReadFor links) (if_wanted (fits_board links declared.value.systems) bad.Count (fits_board links declared.value.systems ≡ true) (λ is. is)) (λ _ fits.
      behind_result (events_from live_event (scene_behind header.value declared) declared.number nothing_counted declared.lines) _ (IsReadFor links) (λ events events_are.
      let both = live_too (scene_behind header.value declared) declared.number declared.lines events events_are in
      (rw (declared_is, both.0) refl, board_of links declared.value _ fits refl both.1))))

  abbrev IsReadOn : ℕ → Plan → Type 0
  IsReadOn links plan = IsForBoard links plan → plan_behind (Some links) header ≡ Ok plan

  behind_on_board : (links : ℕ) → IfOk (plan_behind None header) (IsReadOn links)
  behind_on_board links =
      behind_result (declarations_from header.number (nothing_declared header.value) header.lines) _ (IsReadOn links) (λ declared declared_is.
      behind_result (events_from counted_event (scene_behind header.value declared) declared.number nothing_counted declared.lines) _ (IsReadOn links) (λ events events_are fit.
      let fits = fits_of links (declared.number - 1) declared.value fit.one fit.ports in
      rw (declared_is, fits, counted_too (scene_behind header.value declared) declared.number declared.lines events events_are fit.events) refl))

-- what is read where links are given or not
abbrev IsFor : Option ℕ → Plan → Type 0
IsFor None plan = Unit {0}
IsFor (Some links) plan = IsForBoard links plan

behind_for : (links : Option ℕ) (header : ReadTo ℕ) → IfOk (plan_behind links header) (λ plan. (plan_behind None header ≡ Ok plan) × IsFor links plan)
behind_for None header = if_read (plan_behind None header) (λ plan. (plan_behind None header ≡ Ok plan) × Unit {0}) (λ plan is. (is, tt))
behind_for (Some links) header = behind_for_board header links

read_for : (links : Option ℕ) (newest : ℕ) (lines : List (List ℕ))
    → IfOk (plan_at links newest lines) (λ plan. (plan_at None newest lines ≡ Ok plan) × IsFor links plan)
unfolding plan_at
read_for links newest lines =
    let Is : Plan → Type 0 = λ plan. ((header_from newest 1 lines >>= plan_behind None) ≡ Ok plan) × IsFor links plan in
    behind_result (header_from newest 1 lines) (plan_behind links) Is (λ header header_is.
    if_read (plan_behind links header) Is (λ plan is.
    let both = IfOk-at_ok (λ (p : Plan). (plan_behind None header ≡ Ok p) × IsFor links p) is (behind_for links header) in
    (step (header_from newest 1 lines) (plan_behind None) header (Ok plan) header_is both.0, both.1)))

read_on_board : (links newest : ℕ) (lines : List (List ℕ))
    → IfOk (plan_at None newest lines) (λ plan. IsForBoard links plan → plan_at (Some links) newest lines ≡ Ok plan)
unfolding plan_at
read_on_board links newest lines =
    let Is : Plan → Type 0 = λ plan. IsForBoard links plan → (header_from newest 1 lines >>= plan_behind (Some links)) ≡ Ok plan in
    behind_result (header_from newest 1 lines) (plan_behind None) Is (λ header header_is.
    if_read (plan_behind None header) Is (λ plan is fit.
    step (header_from newest 1 lines) (plan_behind (Some links)) header (Ok plan) header_is
    (IfOk-at_ok (λ (p : Plan). IsForBoard links p → plan_behind (Some links) header ≡ Ok p) is (behind_on_board header links) fit)))

pub read_anyhow : (links : Option ℕ) (newest : ℕ) (lines : List (List ℕ)) (plan : Plan) → plan_at links newest lines ≡ Ok plan → plan_at None newest lines ≡ Ok plan
read_anyhow links newest lines plan is =
    (IfOk-at_ok (λ (p : Plan). (plan_at None newest lines ≡ Ok p) × IsFor links p) is (read_for links newest lines)).0

pub accepted_on_board : (links : ℕ) (text : List ℕ) (plan : Plan) → (run_plan_of links text ≡ Ok plan) ↔ ((plan_of text ≡ Ok plan) × IsForBoard links plan)
accepted_on_board links text plan = (
  λ is. IfOk-at_ok (λ (p : Plan). (plan_of text ≡ Ok p) × IsForBoard links p) is (read_for (Some links) newest_version (lines_of text)),
  λ both. IfOk-at_ok (λ (p : Plan). IsForBoard links p → run_plan_of links text ≡ Ok p) both.0 (read_on_board links newest_version (lines_of text)) both.1,
)

-- ---- as the code has it

pub says_for_board : (links : ℕ) (text : List ℕ) (read : Result Plan ScenarioRefusal)
    → ((plan : Plan) → (run_plan_of links text ≡ Ok plan) ↔ ((plan_of text ≡ Ok plan) × IsForBoard links plan))
    → MatchResult read (λ plan. run_plan_of links text ≡ Ok plan) (λ refusal. Refuses refusal (run_plan_of links text))
    → IfOk read (λ plan. plan_of text ≡ Ok plan) × IfOk read (IsForBoard links)
says_for_board links text (Ok plan) law is = ((law plan).0 is)
says_for_board links text (Err refusal) law is = (tt, tt)
