-- Each system that an event line names is declared.
use Rattle.std.proofs.Common.{ℕ, ◌<◌, List, [], ◌∷◌, length, slice_get, codes, Ok, IfOk}
use Rattle.std.specs.Str.{bytes_eq}
use Rattle.clnp_plan.specs.Configuration.{SystemConfiguration}
use Rattle.clnp_plan.specs.ScenarioPlan.Plan.{IsPlaced}
use Rattle.scenario.specs.Words.{declared_word, address_word, data_word, number_word, one_word, two_words, four_words, first_four, each_once}
use Rattle.scenario.specs.Events.{wish_words, wish_key, is_host_at, host_word, is_router_at, router_word, on_word, send_line, deliver_line, count_line, restart_line, echo_line, congest_line, Scene, event_line}
use Rattle.scenario.specs.declared.code.Code.TheVariants as bad
use Rattle.clnp_plan.specs.declared.scenario_plan.event.Event.{Event}
use Rattle.clnp_plan.specs.declared.scenario_plan.event.Event.TheVariants.{Settle, Lose}
use Rattle.scenario.proofs.Behind.{behind_result, behind_found, behind_wanted, behind_such, either_way, declared_is_within}
use Rattle.scenario.proofs.Injected.{inject_such}
use Rattle.scenario.proofs.Changed.{change_such, ticks_such}

abbrev pub AreAmong : List (List ℕ) → Event → Type 0
AreAmong names event = IsPlaced (length names) event

host_is_within : (names : List (List ℕ)) (systems : List SystemConfiguration) (word : List ℕ) → IfOk (host_word names systems word) (λ place. place < length names)
host_is_within names systems word =
    behind_such (declared_word names word) _ (λ place. place < length names) (λ place. place < length names) (declared_is_within names word) (λ place within.
    behind_wanted (is_host_at (slice_get systems place)) bad.UnknownName (λ _. Ok place) (λ place. place < length names) (λ _. within))

send_placed : (names : List (List ℕ)) (systems : List SystemConfiguration) (words : List (List ℕ)) → IfOk (send_line names systems words) (AreAmong names)
unfolding send_line
send_placed names systems words =
    behind_found (first_four words) _ _ (AreAmong names) (λ w _.
    behind_such (host_word names systems w.0) _ (λ place. place < length names) (AreAmong names) (host_is_within names systems w.0) (λ system within.
    behind_result (address_word w.1) _ (AreAmong names) (λ from _.
    behind_result (address_word w.2) _ (AreAmong names) (λ to _.
    behind_result (data_word w.3) _ (AreAmong names) (λ body _.
    behind_result (wish_words w.4) _ (AreAmong names) (λ wishes _.
    behind_wanted (each_once wish_key wishes) _ _ (AreAmong names) (λ _. within)))))))

deliver_placed : (names : List (List ℕ)) (words : List (List ℕ)) → IfOk (deliver_line names words) (AreAmong names)
unfolding deliver_line
deliver_placed names words =
    behind_found (two_words words) _ _ (AreAmong names) (λ w _.
    behind_result (number_word 1 1000000000 w.0) _ (AreAmong names) (λ copy _.
    behind_such (declared_word names w.1) _ (λ place. place < length names) (AreAmong names) (declared_is_within names w.1) (λ system within. within)))

restart_placed : (names : List (List ℕ)) (words : List (List ℕ)) → IfOk (restart_line names words) (AreAmong names)
unfolding restart_line
restart_placed names words =
    behind_found (one_word words) _ _ (AreAmong names) (λ word _.
    behind_such (declared_word names word) _ (λ place. place < length names) (AreAmong names) (declared_is_within names word) (λ system within. within))

echo_placed : (names : List (List ℕ)) (words : List (List ℕ)) → IfOk (echo_line names words) (AreAmong names)
unfolding echo_line
echo_placed names words =
    behind_found (four_words words) _ _ (AreAmong names) (λ w _.
    behind_such (declared_word names w.0) _ (λ place. place < length names) (AreAmong names) (declared_is_within names w.0) (λ system within.
    behind_result (address_word w.1) _ (AreAmong names) (λ from _.
    behind_result (address_word w.2) _ (AreAmong names) (λ to _.
    behind_result (data_word w.3) _ (AreAmong names) (λ body _. within)))))

router_is_within : (names : List (List ℕ)) (systems : List SystemConfiguration) (word : List ℕ) → IfOk (router_word names systems word) (λ place. place < length names)
router_is_within names systems word =
    behind_such (declared_word names word) _ (λ place. place < length names) (λ place. place < length names) (declared_is_within names word) (λ place within.
    behind_wanted (is_router_at (slice_get systems place)) bad.UnknownName (λ _. Ok place) (λ place. place < length names) (λ _. within))

congest_placed : (names : List (List ℕ)) (systems : List SystemConfiguration) (words : List (List ℕ)) → IfOk (congest_line names systems words) (AreAmong names)
unfolding congest_line
congest_placed names systems words =
    behind_found (two_words words) _ _ (AreAmong names) (λ w _.
    behind_such (router_word names systems w.0) _ (λ place. place < length names) (AreAmong names) (router_is_within names systems w.0) (λ system within.
    behind_result (on_word w.1) _ (AreAmong names) (λ on _. within)))

pub event_placed : (scene : Scene) (words : List (List ℕ)) → IfOk (event_line scene words) (AreAmong scene.names)
unfolding event_line
event_placed scene [] = tt
event_placed scene (keyword ∷ words) =
    either_way (bytes_eq keyword (codes "send")) _ _ (AreAmong scene.names) (send_placed scene.names scene.systems words)
    (either_way (bytes_eq keyword (codes "deliver")) _ _ (AreAmong scene.names) (deliver_placed scene.names words)
    (either_way (bytes_eq keyword (codes "settle")) _ _ (AreAmong scene.names) (behind_result (count_line words) (λ count. Ok (Settle count)) (AreAmong scene.names) (λ count _. tt))
    (either_way (bytes_eq keyword (codes "lose")) _ _ (AreAmong scene.names) (behind_result (count_line words) (λ count. Ok (Lose count)) (AreAmong scene.names) (λ count _. tt))
    (either_way (bytes_eq keyword (codes "tick")) _ _ (AreAmong scene.names) (ticks_such scene words (AreAmong scene.names) (λ count _. tt) (λ system count is. is.placed))
    (either_way (bytes_eq keyword (codes "restart")) _ _ (AreAmong scene.names) (restart_placed scene.names words)
    (either_way (bytes_eq keyword (codes "echo")) _ _ (AreAmong scene.names) (echo_placed scene.names words)
    (either_way (bytes_eq keyword (codes "congest")) _ _ (AreAmong scene.names) (congest_placed scene.names scene.systems words)
    (either_way (bytes_eq keyword (codes "inject")) _ _ (AreAmong scene.names) (inject_such scene.subnets words (AreAmong scene.names) (λ subnet from to octets. tt))
    (change_such scene keyword words (AreAmong scene.names) (λ subnet mtu _. tt) (λ system route is. is.router.placed) (λ system prefix is. is.router.placed)
    (λ system number subnet snpa is. is.placed))))))))))
