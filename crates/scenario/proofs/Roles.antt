-- The system of each event that asks for a data unit is a host, and that of each event that says whether one is congested is a router.
use Rattle.std.proofs.Common.{◌≡◌, ℕ, ◌+◌, true, List, [], ◌∷◌, slice_get, codes, Option, None, Some, Ok, IfOk, refl, sym}
use Rattle.std.specs.List.{AllByRecursion}
use Rattle.std.specs.Option.{option_map}
use Rattle.std.specs.Str.{bytes_eq}
use Rattle.std.proofs.lemmas.Bool.{true≢false}
use Rattle.clnp_plan.specs.ClnpBase.Text.{words_of, is_skipped}
use Rattle.clnp_plan.specs.Configuration.{SystemConfiguration}
use Rattle.clnp_plan.specs.declared.config.Role.{Role}
use Rattle.clnp_plan.specs.declared.config.Role.TheVariants.{Host, Router}
use Rattle.clnp_plan.specs.ScenarioPlan.Plan.{IsFromHost, IsOfRouter, IsRouterAt}
use Rattle.scenario.specs.Words.{declared_word, address_word, data_word, number_word, one_word, two_words, four_words, first_four, each_once}
use Rattle.scenario.specs.Declarations.{is_router}
use Rattle.scenario.specs.Events.{wish_words, wish_key, is_host, is_host_at, host_word, is_router_at, router_word, on_word, send_line, deliver_line, count_line, restart_line, echo_line, congest_line, Scene, scene_after, event_line, counted, are_few}
use Rattle.scenario.specs.Grammar.{is_line_of, nothing_after, counted_event, events_from}
use Rattle.scenario.specs.declared.code.Code.TheVariants as bad
use Rattle.scenario.specs.declared.counts.Counts.{Counts}
use Rattle.clnp_plan.specs.declared.scenario_plan.event.Event.{Event}
use Rattle.clnp_plan.specs.declared.scenario_plan.event.Event.TheVariants.{Settle, Lose}
use Rattle.scenario.proofs.Injected.{inject_such}
use Rattle.scenario.proofs.Changed.{change_such, ticks_such}
use Rattle.scenario.proofs.Behind.{behind_result, behind_found, behind_wanted, behind_such, behind_line_such, either_way}

abbrev pub HasItsRole : List SystemConfiguration → Event → Type 0
HasItsRole systems event = IsFromHost systems event × IsOfRouter systems event

abbrev IsHostOf : List SystemConfiguration → ℕ → Type 0
IsHostOf systems place = option_map (λ (host : SystemConfiguration). host.role) (slice_get systems place) ≡ Some Host

host_role : (role : Role) → is_host role ≡ true → Some role ≡ Some Host
host_role Host h = refl
host_role Router h = absurd (true≢false (sym h))

host_at : (o : Option SystemConfiguration) → is_host_at o ≡ true → option_map (λ (host : SystemConfiguration). host.role) o ≡ Some Host
host_at None h = absurd (true≢false (sym h))
host_at (Some system) h = host_role system.role h

host_is_host : (names : List (List ℕ)) (systems : List SystemConfiguration) (word : List ℕ) → IfOk (host_word names systems word) (IsHostOf systems)
host_is_host names systems word =
    behind_result (declared_word names word) _ (IsHostOf systems) (λ place _.
    behind_wanted (is_host_at (slice_get systems place)) bad.UnknownName (λ _. Ok place) (IsHostOf systems) (λ is. host_at (slice_get systems place) is))

send_in_role : (names : List (List ℕ)) (systems : List SystemConfiguration) (words : List (List ℕ)) → IfOk (send_line names systems words) (HasItsRole systems)
unfolding send_line
send_in_role names systems words =
    behind_found (first_four words) _ _ (HasItsRole systems) (λ w _.
    behind_such (host_word names systems w.0) _ (IsHostOf systems) (HasItsRole systems) (host_is_host names systems w.0) (λ system is.
    behind_result (address_word w.1) _ (HasItsRole systems) (λ from _.
    behind_result (address_word w.2) _ (HasItsRole systems) (λ to _.
    behind_result (data_word w.3) _ (HasItsRole systems) (λ body _.
    behind_result (wish_words w.4) _ (HasItsRole systems) (λ wishes _.
    behind_wanted (each_once wish_key wishes) _ _ (HasItsRole systems) (λ _. (is, tt))))))))

deliver_in_role : (names : List (List ℕ)) (systems : List SystemConfiguration) (words : List (List ℕ)) → IfOk (deliver_line names words) (HasItsRole systems)
unfolding deliver_line
deliver_in_role names systems words =
    behind_found (two_words words) _ _ (HasItsRole systems) (λ w _.
    behind_result (number_word 1 1000000000 w.0) _ (HasItsRole systems) (λ copy _.
    behind_result (declared_word names w.1) _ (HasItsRole systems) (λ system _. (tt, tt))))

restart_in_role : (names : List (List ℕ)) (systems : List SystemConfiguration) (words : List (List ℕ)) → IfOk (restart_line names words) (HasItsRole systems)
unfolding restart_line
restart_in_role names systems words =
    behind_found (one_word words) _ _ (HasItsRole systems) (λ word _.
    behind_result (declared_word names word) _ (HasItsRole systems) (λ system _. (tt, tt)))

echo_in_role : (names : List (List ℕ)) (systems : List SystemConfiguration) (words : List (List ℕ)) → IfOk (echo_line names words) (HasItsRole systems)
unfolding echo_line
echo_in_role names systems words =
    behind_found (four_words words) _ _ (HasItsRole systems) (λ w _.
    behind_result (declared_word names w.0) _ (HasItsRole systems) (λ system _.
    behind_result (address_word w.1) _ (HasItsRole systems) (λ from _.
    behind_result (address_word w.2) _ (HasItsRole systems) (λ to _.
    behind_result (data_word w.3) _ (HasItsRole systems) (λ body _. (tt, tt))))))

router_role : (role : Role) → is_router role ≡ true → Some role ≡ Some Router
router_role Router h = refl
router_role Host h = absurd (true≢false (sym h))

router_at : (o : Option SystemConfiguration) → is_router_at o ≡ true → option_map (λ (router : SystemConfiguration). router.role) o ≡ Some Router
router_at None h = absurd (true≢false (sym h))
router_at (Some system) h = router_role system.role h

router_is_router : (names : List (List ℕ)) (systems : List SystemConfiguration) (word : List ℕ) → IfOk (router_word names systems word) (IsRouterAt systems)
router_is_router names systems word =
    behind_result (declared_word names word) _ (IsRouterAt systems) (λ place _.
    behind_wanted (is_router_at (slice_get systems place)) bad.UnknownName (λ _. Ok place) (IsRouterAt systems) (λ is. router_at (slice_get systems place) is))

congest_in_role : (names : List (List ℕ)) (systems : List SystemConfiguration) (words : List (List ℕ)) → IfOk (congest_line names systems words) (HasItsRole systems)
unfolding congest_line
congest_in_role names systems words =
    behind_found (two_words words) _ _ (HasItsRole systems) (λ w _.
    behind_such (router_word names systems w.0) _ (IsRouterAt systems) (HasItsRole systems) (router_is_router names systems w.0) (λ system is.
    behind_result (on_word w.1) _ (HasItsRole systems) (λ on _. (tt, is))))

event_in_role : (scene : Scene) (words : List (List ℕ)) → IfOk (event_line scene words) (HasItsRole scene.systems)
unfolding event_line
event_in_role scene [] = tt
event_in_role scene (keyword ∷ words) =
    either_way (bytes_eq keyword (codes "send")) _ _ (HasItsRole scene.systems) (send_in_role scene.names scene.systems words)
    (either_way (bytes_eq keyword (codes "deliver")) _ _ (HasItsRole scene.systems) (deliver_in_role scene.names scene.systems words)
    (either_way (bytes_eq keyword (codes "settle")) _ _ (HasItsRole scene.systems) (behind_result (count_line words) (λ count. Ok (Settle count)) (HasItsRole scene.systems) (λ count _. (tt, tt)))
    (either_way (bytes_eq keyword (codes "lose")) _ _ (HasItsRole scene.systems) (behind_result (count_line words) (λ count. Ok (Lose count)) (HasItsRole scene.systems) (λ count _. (tt, tt)))
    (either_way (bytes_eq keyword (codes "tick")) _ _ (HasItsRole scene.systems) (ticks_such scene words (HasItsRole scene.systems) (λ count _. (tt, tt)) (λ system count _. (tt, tt)))
    (either_way (bytes_eq keyword (codes "restart")) _ _ (HasItsRole scene.systems) (restart_in_role scene.names scene.systems words)
    (either_way (bytes_eq keyword (codes "echo")) _ _ (HasItsRole scene.systems) (echo_in_role scene.names scene.systems words)
    (either_way (bytes_eq keyword (codes "congest")) _ _ (HasItsRole scene.systems) (congest_in_role scene.names scene.systems words)
    (either_way (bytes_eq keyword (codes "inject")) _ _ (HasItsRole scene.systems) (inject_such scene.subnets words (HasItsRole scene.systems) (λ subnet from to octets. (tt, tt)))
    (change_such scene keyword words (HasItsRole scene.systems) (λ subnet mtu _. (tt, tt)) (λ system route is. (tt, router_at (slice_get scene.systems system) is.router.is))
    (λ system prefix is. (tt, router_at (slice_get scene.systems system) is.router.is)) (λ system number subnet snpa _. (tt, tt)))))))))))

counted_in_role : (scene : Scene) (counts : Counts) (words : List (List ℕ))
    → IfOk (counted_event scene counts words) (HasItsRole scene.systems)
unfolding counted_event
counted_in_role scene counts words =
    behind_such (event_line scene words) _ (HasItsRole scene.systems) (HasItsRole scene.systems) (event_in_role scene words) (λ event is.
    behind_wanted (are_few (counted counts event)) _ _ (HasItsRole scene.systems) (λ _. is))

pub events_in_roles : (scene : Scene) (n : ℕ) (counts : Counts) (lines : List (List ℕ))
    → IfOk (events_from counted_event scene n counts lines) (AllByRecursion (HasItsRole scene.systems))
unfolding events_from
events_in_roles scene n counts [] = tt
events_in_roles scene n counts (line ∷ lines) =
    either_way (is_skipped line) _ _ (AllByRecursion (HasItsRole scene.systems)) (events_in_roles scene (n + 1) counts lines)
    (either_way (is_line_of (codes "end") (words_of line)) _ _ (AllByRecursion (HasItsRole scene.systems))
    (behind_result (nothing_after (n + 1) lines) _ (AllByRecursion (HasItsRole scene.systems)) (λ _ _. tt))
    (behind_line_such n (counted_event scene counts (words_of line)) _ (HasItsRole scene.systems) (AllByRecursion (HasItsRole scene.systems))
    (counted_in_role scene counts (words_of line)) (λ event first.
    behind_such (events_from counted_event (scene_after scene event) (n + 1) (counted counts event) lines) _ (AllByRecursion (HasItsRole scene.systems)) (AllByRecursion (HasItsRole scene.systems))
    (events_in_roles (scene_after scene event) (n + 1) (counted counts event) lines) (λ others rest. (first, rest)))))
