-- What an event line says are numbers, data and options that a line may say.
use Rattle.std.proofs.Common.{◌≡◌, ℕ, ◌&&◌, false, not, nat_le, List, [], ◌∷◌, length, codes, Option, None, Some, is_some, slice_get, Ok, IfOk, refl, arith}
use Rattle.std.specs.List.{AllByRecursion}
use Rattle.std.specs.Str.{bytes_eq}
use Rattle.std.proofs.lemmas.Bool.{leb-true, and_parts, not-true}
use Rattle.clnp_plan.proofs.ClnpBase.Lists.{AllByRecursion-slice_get}
use Rattle.hex.specs.Hex.{IsBytes}
use Rattle.clnp_plan.specs.ClnpOptions.Parameter.{parameters_after, spelled}
use Rattle.clnp_plan.specs.ClnpOptions.Rules.{refusal, form_refusal, list_refusal, place_of_repeat, place_of}
use Rattle.clnp_plan.specs.Configuration.{IsSystem, IsWithin, SystemConfiguration}
use Rattle.clnp_plan.specs.ScenarioPlan.Plan.{IsSaid, IsSaidBody, AreSaidOptions}
use Rattle.scenario.specs.Words.{literal, has_prefix, after_prefix, pattern_word, two_fields, declared_word, address_word, data_word, number_word, life_word, octets_behind, options_read, options_word, one_word, two_words, four_words, first_four, each_once}
use Rattle.scenario.specs.Events.{wish_word, wish_words, wish_key, life_in, own_life, options_in, host_word, send_line, deliver_line, count_line, tick_line, restart_line, echo_line, router_word, on_word, congest_line, Scene, event_line}
use Rattle.scenario.specs.declared.code.Code.TheVariants as bad
use Rattle.clnp_plan.specs.declared.scenario_plan.event.Body.TheVariants.{Hex}
use Rattle.clnp_plan.specs.declared.scenario_plan.event.Event.TheVariants.{Settle, Lose}
use Rattle.scenario.specs.declared.wish.Wish.{Wish}
use Rattle.scenario.specs.declared.wish.Wish.TheVariants.{Lasting, NoReport, Whole, Options}
use Rattle.scenario.proofs.Forms.{behind_octets}
use Rattle.scenario.proofs.Injected.{inject_such}
use Rattle.scenario.proofs.Changed.{change_such, ticks_such}
use Rattle.scenario.proofs.Behind.{behind_result, behind_found, behind_wanted, behind_such, either_way, number_is_within, number_behind_is_within, wishes_such, options_such, life_such}

-- Data.

pattern_said : (word : List ℕ) → IfOk (pattern_word word) IsSaidBody
pattern_said word =
    behind_result (after_prefix (codes "pat:") word) _ IsSaidBody (λ text _.
    behind_found (two_fields text) _ _ IsSaidBody (λ fields _.
    behind_such (number_word 0 70000 fields.0) _ (IsWithin 0 70000) IsSaidBody (number_is_within 0 70000 fields.0) (λ len len_is.
    behind_such (number_word 0 255 fields.1) _ (IsWithin 0 255) IsSaidBody (number_is_within 0 255 fields.1) (λ start start_is.
    (len_is.most, omega (arith, start_is.most))))))

data_said : (word : List ℕ) → IfOk (data_word word) IsSaidBody
data_said word =
    either_way (has_prefix (codes "pat:") word) _ _ IsSaidBody (pattern_said word)
    (behind_such (octets_behind (codes "hex:") word) (λ octets. Ok (Hex octets)) IsBytes IsSaidBody (behind_octets (codes "hex:") word) (λ octets are. are))

-- Options and lifetimes.

pub no_bytes : IsBytes []
no_bytes i = omega arith

pub no_options_said : AreSaidOptions []
unfolding refusal form_refusal spelled list_refusal place_of_repeat place_of parameters_after
no_options_said = record { bytes = no_bytes; few = omega arith; accepted = refl }

read_said : (octets : List ℕ) → IsBytes octets → IfOk (options_read octets) AreSaidOptions
read_said octets bytes =
    behind_wanted (nat_le (length octets) 254 && not (is_some (refusal octets 1 false))) bad.Address (λ _. Ok octets) AreSaidOptions (λ h.
    let p = and_parts (nat_le (length octets) 254) (not (is_some (refusal octets 1 false))) h in
    record { bytes = bytes; few = leb-true (length octets) 254 p.0; accepted = not-true (is_some (refusal octets 1 false)) p.1 })

options_said : (word : List ℕ) → IfOk (options_word word) AreSaidOptions
options_said word =
    behind_such (octets_behind (codes "opt=") word) options_read IsBytes AreSaidOptions (behind_octets (codes "opt=") word) read_said

abbrev IsSaidWish : Wish → Type 0
IsSaidWish (Lasting life) = IsWithin 1 255 life
IsSaidWish (Options octets) = AreSaidOptions octets
IsSaidWish NoReport = Unit {0}
IsSaidWish Whole = Unit {0}

abbrev AreSaidWishes : List Wish → Type 0
AreSaidWishes wishes = AllByRecursion IsSaidWish wishes

wish_said : (word : List ℕ) → IfOk (wish_word word) IsSaidWish
unfolding wish_word
wish_said word =
    either_way (has_prefix (codes "life=") word) _ _ IsSaidWish
    (behind_such (life_word word) (λ life. Ok (Lasting life)) (IsWithin 1 255) IsSaidWish (number_behind_is_within (codes "life=") 1 255 word) (λ life within. within))
    (either_way (has_prefix (codes "opt=") word) _ _ IsSaidWish
    (behind_such (options_word word) (λ octets. Ok (Options octets)) AreSaidOptions IsSaidWish (options_said word) (λ octets said. said))
    (either_way (bytes_eq word (codes "noreport")) _ _ IsSaidWish tt
    (behind_result (literal (codes "whole") word) (λ _. Ok Whole) IsSaidWish (λ _ _. tt))))

wishes_said : (words : List (List ℕ)) → IfOk (wish_words words) AreSaidWishes
wishes_said words = wishes_such IsSaidWish wish_said words

options_among : (wishes : List Wish) → AreSaidWishes wishes → AreSaidOptions (options_in wishes)
options_among wishes h = options_such IsSaidWish AreSaidOptions no_options_said (λ octets said. said) wishes h

life_among : (own : ℕ) (wishes : List Wish) → IsWithin 1 255 own → AreSaidWishes wishes → IsWithin 1 255 (life_in own wishes)
life_among own wishes within h = life_such IsSaidWish (λ life. IsWithin 1 255 life) (λ life said. said) own wishes within h

own_is_within : (found : Option SystemConfiguration) → ((system : SystemConfiguration) → found ≡ Some system → IsSystem system) → IsWithin 1 255 (own_life found)
own_is_within None h = record { least = omega arith; most = omega arith }
own_is_within (Some system) h = (h system refl).settings.life

-- Event lines.

send_said : (names : List (List ℕ)) (systems : List SystemConfiguration) (words : List (List ℕ)) → AllByRecursion IsSystem systems
    → IfOk (send_line names systems words) IsSaid
unfolding send_line
send_said names systems words are =
    behind_found (first_four words) _ _ IsSaid (λ w _.
    behind_result (host_word names systems w.0) _ IsSaid (λ system _.
    behind_result (address_word w.1) _ IsSaid (λ from _.
    behind_result (address_word w.2) _ IsSaid (λ to _.
    behind_such (data_word w.3) _ IsSaidBody IsSaid (data_said w.3) (λ body body_is.
    behind_such (wish_words w.4) _ AreSaidWishes IsSaid (wishes_said w.4) (λ wishes said.
    behind_wanted (each_once wish_key wishes) _ _ IsSaid (λ _. (
      body_is,
      record {
        life = life_among (own_life (slice_get systems system)) wishes
            (own_is_within (slice_get systems system) (λ s there. AllByRecursion-slice_get IsSystem systems system s there are)) said;
        options = options_among wishes said;
      },
    ))))))))

deliver_said : (names : List (List ℕ)) (words : List (List ℕ)) → IfOk (deliver_line names words) IsSaid
unfolding deliver_line
deliver_said names words =
    behind_found (two_words words) _ _ IsSaid (λ w _.
    behind_such (number_word 1 1000000000 w.0) _ (IsWithin 1 1000000000) IsSaid (number_is_within 1 1000000000 w.0) (λ copy within.
    behind_result (declared_word names w.1) _ IsSaid (λ system _. within)))

restart_said : (names : List (List ℕ)) (words : List (List ℕ)) → IfOk (restart_line names words) IsSaid
unfolding restart_line
restart_said names words =
    behind_found (one_word words) _ _ IsSaid (λ word _.
    behind_result (declared_word names word) _ IsSaid (λ system _. tt))

echo_said : (names : List (List ℕ)) (words : List (List ℕ)) → IfOk (echo_line names words) IsSaid
unfolding echo_line
echo_said names words =
    behind_found (four_words words) _ _ IsSaid (λ w _.
    behind_result (declared_word names w.0) _ IsSaid (λ system _.
    behind_result (address_word w.1) _ IsSaid (λ from _.
    behind_result (address_word w.2) _ IsSaid (λ to _.
    behind_such (data_word w.3) _ IsSaidBody IsSaid (data_said w.3) (λ body said. said)))))

congest_said : (names : List (List ℕ)) (systems : List SystemConfiguration) (words : List (List ℕ)) → IfOk (congest_line names systems words) IsSaid
unfolding congest_line
congest_said names systems words =
    behind_found (two_words words) _ _ IsSaid (λ w _.
    behind_result (router_word names systems w.0) _ IsSaid (λ system _.
    behind_result (on_word w.1) _ IsSaid (λ on _. tt)))

count_said : (words : List (List ℕ)) → IfOk (count_line words) (IsWithin 1 100000)
unfolding count_line
count_said words = behind_found (one_word words) _ _ (IsWithin 1 100000) (λ word _. number_is_within 1 100000 word)

tick_said : (words : List (List ℕ)) → IfOk (tick_line words) (IsWithin 1 65535)
unfolding tick_line
tick_said words = behind_found (one_word words) _ _ (IsWithin 1 65535) (λ word _. number_is_within 1 65535 word)

pub event_said : (scene : Scene) (words : List (List ℕ)) → AllByRecursion IsSystem scene.systems
    → IfOk (event_line scene words) IsSaid
unfolding event_line
event_said scene [] are = tt
event_said scene (keyword ∷ words) are =
    either_way (bytes_eq keyword (codes "send")) _ _ IsSaid (send_said scene.names scene.systems words are)
    (either_way (bytes_eq keyword (codes "deliver")) _ _ IsSaid (deliver_said scene.names words)
    (either_way (bytes_eq keyword (codes "settle")) _ _ IsSaid (behind_such (count_line words) (λ count. Ok (Settle count)) (IsWithin 1 100000) IsSaid (count_said words) (λ count within. within))
    (either_way (bytes_eq keyword (codes "lose")) _ _ IsSaid (behind_such (count_line words) (λ count. Ok (Lose count)) (IsWithin 1 100000) IsSaid (count_said words) (λ count within. within))
    (either_way (bytes_eq keyword (codes "tick")) _ _ IsSaid (ticks_such scene words IsSaid (λ count within. within) (λ system count is. is.within))
    (either_way (bytes_eq keyword (codes "restart")) _ _ IsSaid (restart_said scene.names words)
    (either_way (bytes_eq keyword (codes "echo")) _ _ IsSaid (echo_said scene.names words)
    (either_way (bytes_eq keyword (codes "congest")) _ _ IsSaid (congest_said scene.names scene.systems words)
    (either_way (bytes_eq keyword (codes "inject")) _ _ IsSaid (inject_such scene.subnets words IsSaid (λ subnet from to octets. tt))
    (change_such scene keyword words IsSaid (λ subnet mtu is. is.within) (λ system route is. is.number.within) (λ system prefix _. tt)
    (λ system number subnet snpa is. is.own.within))))))))))
