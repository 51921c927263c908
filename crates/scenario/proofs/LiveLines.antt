-- What holds of each event of a kind holds of the one that a line of that kind gives; and whether a live node takes an event is
-- said by the first word of its line.
use Rattle.std.proofs.Common.{◌≡◌, ◌≢◌, ◌↔◌, inl, inr, ℕ, ◌==◌, ◌||◌, Bool, true, false, if◌then◌else◌, List, [], ◌∷◌, slice_get, codes, Some, Result, Ok, Err, IfOk, refl, sym, subst, ◌∙◌}
use Rattle.std.specs.Str.{bytes_eq}
use Rattle.std.proofs.lemmas.Bool.{cases_Bool, or_parts, true≢false}
use Rattle.clnp_plan.proofs.ClnpBase.SameOctets.{same_from}
use Rattle.clnp_plan.specs.Configuration.{SystemConfiguration}
use Rattle.clnp_plan.specs.declared.ask.Ask.{Ask}
use Rattle.clnp_plan.specs.ScenarioPlan.Plan.{IsLive}
use Rattle.scenario.specs.Words.{declared_word, address_word, data_word, number_word, one_word, two_words, four_words, first_four, is_one_at_most, each_once}
use Rattle.scenario.specs.Events.{wish_words, wish_key, own_life, ask_of, host_word, router_word, on_word, send_line, deliver_line, count_line, tick_line, ticks_line, restart_line, echo_line, congest_line, change_line, Scene, event_line, is_live_line, counted, are_few}
use Rattle.scenario.specs.Grammar.{counted_event}
use Rattle.scenario.specs.declared.code.Code.{Code}
use Rattle.scenario.specs.declared.code.Code.TheVariants as bad
use Rattle.scenario.specs.declared.counts.Counts.{Counts}
use Rattle.clnp_plan.specs.declared.scenario_plan.event.Body.{Body}
use Rattle.clnp_plan.specs.declared.scenario_plan.event.Event.{Event}
use Rattle.clnp_plan.specs.declared.scenario_plan.event.Event.TheVariants.{Send, Deliver, Settle, Lose, Tick, Restart, Echo, Congest}
use Rattle.scenario.proofs.Changed.{later_of, tick_system_such, mtu_such, route_such, unroute_such, port_such}
use Rattle.scenario.proofs.Injected.{inject_such}
use Rattle.scenario.proofs.Behind.{behind_result, behind_found, behind_wanted, behind_such}

pub send_such : (names : List (List ℕ)) (systems : List SystemConfiguration) (words : List (List ℕ)) (P : Event → Type 0)
    → ((system : ℕ) (from to : List ℕ) (body : Body) (ask : Ask) → P (Send system from to body ask)) → IfOk (send_line names systems words) P
unfolding send_line
send_such names systems words P h =
    behind_found (first_four words) _ _ P (λ w _.
    behind_result (host_word names systems w.0) _ P (λ system _.
    behind_result (address_word w.1) _ P (λ from _.
    behind_result (address_word w.2) _ P (λ to _.
    behind_result (data_word w.3) _ P (λ body _.
    behind_result (wish_words w.4) _ P (λ wishes _.
    behind_wanted (each_once wish_key wishes) _ _ P (λ _. h system from to body (ask_of (own_life (slice_get systems system)) wishes))))))))

pub deliver_such : (names words : List (List ℕ)) (P : Event → Type 0) → ((copy system : ℕ) → P (Deliver copy system)) → IfOk (deliver_line names words) P
unfolding deliver_line
deliver_such names words P h =
    behind_found (two_words words) _ _ P (λ w _.
    behind_result (number_word 1 1000000000 w.0) _ P (λ copy _.
    behind_result (declared_word names w.1) _ P (λ system _. h copy system)))

pub restart_such : (names words : List (List ℕ)) (P : Event → Type 0) → ((system : ℕ) → P (Restart system)) → IfOk (restart_line names words) P
unfolding restart_line
restart_such names words P h =
    behind_found (one_word words) _ _ P (λ word _.
    behind_result (declared_word names word) _ P (λ system _. h system))

pub echo_such : (names words : List (List ℕ)) (P : Event → Type 0)
    → ((system : ℕ) (from to : List ℕ) (body : Body) → P (Echo system from to body)) → IfOk (echo_line names words) P
unfolding echo_line
echo_such names words P h =
    behind_found (four_words words) _ _ P (λ w _.
    behind_result (declared_word names w.0) _ P (λ system _.
    behind_result (address_word w.1) _ P (λ from _.
    behind_result (address_word w.2) _ P (λ to _.
    behind_result (data_word w.3) _ P (λ body _. h system from to body)))))

pub congest_such : (names : List (List ℕ)) (systems : List SystemConfiguration) (words : List (List ℕ)) (P : Event → Type 0)
    → ((system : ℕ) (on : Bool) → P (Congest system on)) → IfOk (congest_line names systems words) P
unfolding congest_line
congest_such names systems words P h =
    behind_found (two_words words) _ _ P (λ w _.
    behind_result (router_word names systems w.0) _ P (λ system _.
    behind_result (on_word w.1) _ P (λ on _. h system on)))

-- what holds anyhow holds of each value
any_such : {A E : Type 0} (r : Result A E) (P : Type 0) → P → IfOk r (λ _. P)
any_such (Ok x) P h = h
any_such (Err e) P h = tt

-- ---- what a live node takes

abbrev pub IsSaidLive : List (List ℕ) → Event → Type 0
IsSaidLive words event = IsLive event ↔ (is_live_line words ≡ true)

taken : Unit {0} ↔ (true ≡ true)
taken = (λ _. refl, λ _. tt)

not_taken : ⊥ ↔ (false ≡ true)
not_taken = (λ no. absurd no, λ same. true≢false (sym same))

-- the line of a keyword, or else another
at_keyword : (text keyword : List ℕ) (words : List (List ℕ)) (r s : Result Event Code)
    → IfOk r (IsSaidLive (text ∷ words)) → IfOk s (IsSaidLive (keyword ∷ words)) → IfOk (if bytes_eq keyword text then r else s) (IsSaidLive (keyword ∷ words))
at_keyword text keyword words r s here elsewhere =
    elim (cases_Bool (bytes_eq keyword text)) [
      | inl same ↦ rw same (subst (λ word. IfOk r (IsSaidLive (word ∷ words))) (sym (same_from keyword text same)) here)
      | inr other ↦ rw other elsewhere
    ]

one_at_most : (words : List (List ℕ)) (word : List ℕ) → one_word words ≡ Some word → is_one_at_most words ≡ true
one_at_most [] word is = refl
one_at_most (first ∷ []) word is = refl
one_at_most (first ∷ second ∷ words) word is = cc is

tick_is_one : (words : List (List ℕ)) → IfOk (tick_line words) (λ _. is_one_at_most words ≡ true)
unfolding tick_line
tick_is_one words =
    behind_found (one_word words) bad.Syntax (number_word 1 65535) (λ _. is_one_at_most words ≡ true) (λ word is.
    any_such (number_word 1 65535 word) (is_one_at_most words ≡ true) (one_at_most words word is))

tick_said_live : (scene : Scene) (words : List (List ℕ)) → IfOk (ticks_line scene words) (IsSaidLive (codes "tick" ∷ words))
unfolding ticks_line
tick_said_live scene words =
    elim (cases_Bool ((scene.version == 1) || is_one_at_most words)) [
      | inl first ↦
          rw first
          (behind_such (tick_line words) (λ count. Ok (Tick count)) (λ _. is_one_at_most words ≡ true) (IsSaidLive (codes "tick" ∷ words)) (tick_is_one words)
          (λ count one. (λ _. one, λ _. tt)))
      | inr other ↦
          let neither = or_parts (scene.version == 1) (is_one_at_most words) other in
          rw other
          (tick_system_such scene words (IsSaidLive (codes "tick" ∷ words)) (later_of scene.version neither.0)
          (λ system count _. (λ no. absurd no, λ same. absurd (true≢false (sym same ∙ neither.1)))))
    ]

change_said_live : (scene : Scene) (keyword : List ℕ) (words : List (List ℕ))
    → IfOk (if scene.version == 1 then Err bad.Syntax else change_line scene keyword words) (IsSaidLive (keyword ∷ words))
unfolding change_line
change_said_live scene keyword words =
    elim (cases_Bool (scene.version == 1)) [
      | inl first ↦ rw first tt
      | inr other ↦
          let later : scene.version ≢ 1 = later_of scene.version other in
          rw other
          (at_keyword (codes "mtu") keyword words _ _ (mtu_such scene words (IsSaidLive (codes "mtu" ∷ words)) later (λ subnet mtu _. not_taken))
          (at_keyword (codes "route") keyword words _ _ (route_such scene words (IsSaidLive (codes "route" ∷ words)) later (λ system route _. not_taken))
          (at_keyword (codes "unroute") keyword words _ _ (unroute_such scene words (IsSaidLive (codes "unroute" ∷ words)) later (λ system prefix _. not_taken))
          (at_keyword (codes "port") keyword words _ _ (port_such scene words (IsSaidLive (codes "port" ∷ words)) later (λ system number subnet snpa _. not_taken)) tt))))
    ]

event_said_live : (scene : Scene) (words : List (List ℕ)) → IfOk (event_line scene words) (IsSaidLive words)
unfolding event_line
event_said_live scene [] = tt
event_said_live scene (keyword ∷ words) =
    at_keyword (codes "send") keyword words _ _ (send_such scene.names scene.systems words (IsSaidLive (codes "send" ∷ words)) (λ system from to body ask. taken))
    (at_keyword (codes "deliver") keyword words _ _ (deliver_such scene.names words (IsSaidLive (codes "deliver" ∷ words)) (λ copy system. not_taken))
    (at_keyword (codes "settle") keyword words _ _ (behind_result (count_line words) (λ count. Ok (Settle count)) (IsSaidLive (codes "settle" ∷ words)) (λ count _. not_taken))
    (at_keyword (codes "lose") keyword words _ _ (behind_result (count_line words) (λ count. Ok (Lose count)) (IsSaidLive (codes "lose" ∷ words)) (λ count _. not_taken))
    (at_keyword (codes "tick") keyword words _ _ (tick_said_live scene words)
    (at_keyword (codes "restart") keyword words _ _ (restart_such scene.names words (IsSaidLive (codes "restart" ∷ words)) (λ system. not_taken))
    (at_keyword (codes "echo") keyword words _ _ (echo_such scene.names words (IsSaidLive (codes "echo" ∷ words)) (λ system from to body. taken))
    (at_keyword (codes "congest") keyword words _ _ (congest_such scene.names scene.systems words (IsSaidLive (codes "congest" ∷ words)) (λ system on. not_taken))
    (at_keyword (codes "inject") keyword words _ _ (inject_such scene.subnets words (IsSaidLive (codes "inject" ∷ words)) (λ subnet from to octets. not_taken))
    (change_said_live scene keyword words)))))))))

pub counted_said_live : (scene : Scene) (counts : Counts) (words : List (List ℕ)) → IfOk (counted_event scene counts words) (IsSaidLive words)
unfolding counted_event
counted_said_live scene counts words =
    behind_such (event_line scene words) _ (IsSaidLive words) (IsSaidLive words) (event_said_live scene words) (λ event is.
    behind_wanted (are_few (counted counts event)) _ _ (IsSaidLive words) (λ _. is))
