-- What a `send` asks for has no option that an error report alone may have.
use Rattle.std.proofs.Common.{◌↔◌, ℕ, ◌&&◌, Bool, false, not, nat_le, List, [], ◌∷◌, length, codes, is_some, Ok, IfOk, sym, arith}
use Rattle.std.specs.List.{AllByRecursion}
use Rattle.std.specs.Str.{bytes_eq}
use Rattle.std.proofs.lemmas.Bool.{and_parts, not-true, true≢false}
use Rattle.clnp_plan.specs.ClnpOptions.Grammar.{FitsKind, Spells}
use Rattle.clnp_plan.specs.ClnpOptions.Parameter.{parameters, parameters_after}
use Rattle.clnp_plan.specs.ClnpOptions.Rules.{Accepts, refusal}
use Rattle.clnp_plan.specs.Configuration.{SystemConfiguration}
use Rattle.clnp_plan.specs.ScenarioPlan.Plan.{AsksFairly}
use Rattle.scenario.specs.Words.{literal, has_prefix, declared_word, address_word, data_word, number_word, life_word, octets_behind, options_read, options_word, one_word, two_words, four_words, first_four, each_once}
use Rattle.scenario.specs.Events.{wish_word, wish_words, wish_key, options_in, host_word, send_line, deliver_line, count_line, restart_line, echo_line, router_word, on_word, congest_line, Scene, event_line}
use Rattle.scenario.specs.declared.code.Code.TheVariants as bad
use Rattle.clnp_plan.specs.declared.scenario_plan.event.Event.TheVariants.{Settle, Lose}
use Rattle.scenario.specs.declared.wish.Wish.{Wish}
use Rattle.scenario.specs.declared.wish.Wish.TheVariants.{Lasting, Whole, Options}
use Rattle.scenario.proofs.Behind.{behind_result, behind_found, behind_wanted, behind_such, either_way, wishes_such, options_such}
use Rattle.scenario.proofs.Injected.{inject_such}
use Rattle.scenario.proofs.Changed.{change_such, ticks_such}

-- what the crate of options says of each part of a header
abbrev pub SpellsWhatItAccepts : Type 0
SpellsWhatItAccepts = (is_report : Bool) (part : List ℕ) → Accepts is_report part ↔ Spells is_report (parameters part) part

-- octets that spell options of a data unit
abbrev pub AreFair : List ℕ → Type 0
AreFair octets = FitsKind false (parameters octets)

pub none_fair : AreFair []
unfolding parameters_after
none_fair = (λ t. absurd (true≢false (sym t)), λ a. absurd (omega (arith, a.2)))

read_fair : SpellsWhatItAccepts → (octets : List ℕ) → IfOk (options_read octets) AreFair
read_fair law octets =
    behind_wanted (nat_le (length octets) 254 && not (is_some (refusal octets 1 false))) bad.Address (λ _. Ok octets) AreFair (λ h.
    let p = and_parts (nat_le (length octets) 254) (not (is_some (refusal octets 1 false))) h in
    let accepts : Accepts false octets = not-true (is_some (refusal octets 1 false)) p.1 in
    ((law false octets).0 accepts).kind)

abbrev pub IsFair : Wish → Type 0
IsFair (Options octets) = AreFair octets
IsFair _ = Unit {0}

wish_fair : SpellsWhatItAccepts → (word : List ℕ) → IfOk (wish_word word) IsFair
unfolding wish_word
wish_fair law word =
    either_way (has_prefix (codes "life=") word) _ _ IsFair (behind_result (life_word word) (λ life. Ok (Lasting life)) IsFair (λ life _. tt))
    (either_way (has_prefix (codes "opt=") word) _ _ IsFair
    (behind_such (options_word word) (λ octets. Ok (Options octets)) AreFair IsFair
    (behind_result (octets_behind (codes "opt=") word) options_read AreFair (λ octets _. read_fair law octets)) (λ octets fair. fair))
    (either_way (bytes_eq word (codes "noreport")) _ _ IsFair tt
    (behind_result (literal (codes "whole") word) (λ _. Ok Whole) IsFair (λ _ _. tt))))

wishes_fair : SpellsWhatItAccepts → (words : List (List ℕ)) → IfOk (wish_words words) (λ wishes. AllByRecursion IsFair wishes)
wishes_fair law words = wishes_such IsFair (wish_fair law) words

options_fair : (wishes : List Wish) → AllByRecursion IsFair wishes → AreFair (options_in wishes)
options_fair wishes h = options_such IsFair AreFair none_fair (λ octets fair. fair) wishes h

send_fair : SpellsWhatItAccepts → (names : List (List ℕ)) (systems : List SystemConfiguration) (words : List (List ℕ)) → IfOk (send_line names systems words) AsksFairly
unfolding send_line
send_fair law names systems words =
    behind_found (first_four words) _ _ AsksFairly (λ w _.
    behind_result (host_word names systems w.0) _ AsksFairly (λ system _.
    behind_result (address_word w.1) _ AsksFairly (λ from _.
    behind_result (address_word w.2) _ AsksFairly (λ to _.
    behind_result (data_word w.3) _ AsksFairly (λ body _.
    behind_such (wish_words w.4) _ (λ wishes. AllByRecursion IsFair wishes) AsksFairly (wishes_fair law w.4) (λ wishes fair.
    behind_wanted (each_once wish_key wishes) _ _ AsksFairly (λ _. options_fair wishes fair)))))))

deliver_fair : (names : List (List ℕ)) (words : List (List ℕ)) → IfOk (deliver_line names words) AsksFairly
unfolding deliver_line
deliver_fair names words =
    behind_found (two_words words) _ _ AsksFairly (λ w _.
    behind_result (number_word 1 1000000000 w.0) _ AsksFairly (λ copy _.
    behind_result (declared_word names w.1) _ AsksFairly (λ system _. tt)))

restart_fair : (names : List (List ℕ)) (words : List (List ℕ)) → IfOk (restart_line names words) AsksFairly
unfolding restart_line
restart_fair names words =
    behind_found (one_word words) _ _ AsksFairly (λ word _.
    behind_result (declared_word names word) _ AsksFairly (λ system _. tt))

echo_fair : (names : List (List ℕ)) (words : List (List ℕ)) → IfOk (echo_line names words) AsksFairly
unfolding echo_line
echo_fair names words =
    behind_found (four_words words) _ _ AsksFairly (λ w _.
    behind_result (declared_word names w.0) _ AsksFairly (λ system _.
    behind_result (address_word w.1) _ AsksFairly (λ from _.
    behind_result (address_word w.2) _ AsksFairly (λ to _.
    behind_result (data_word w.3) _ AsksFairly (λ body _. tt)))))

congest_fair : (names : List (List ℕ)) (systems : List SystemConfiguration) (words : List (List ℕ)) → IfOk (congest_line names systems words) AsksFairly
unfolding congest_line
congest_fair names systems words =
    behind_found (two_words words) _ _ AsksFairly (λ w _.
    behind_result (router_word names systems w.0) _ AsksFairly (λ system _.
    behind_result (on_word w.1) _ AsksFairly (λ on _. tt)))

pub event_fair : SpellsWhatItAccepts → (scene : Scene) (words : List (List ℕ)) → IfOk (event_line scene words) AsksFairly
unfolding event_line
event_fair law scene [] = tt
event_fair law scene (keyword ∷ words) =
    either_way (bytes_eq keyword (codes "send")) _ _ AsksFairly (send_fair law scene.names scene.systems words)
    (either_way (bytes_eq keyword (codes "deliver")) _ _ AsksFairly (deliver_fair scene.names words)
    (either_way (bytes_eq keyword (codes "settle")) _ _ AsksFairly (behind_result (count_line words) (λ count. Ok (Settle count)) AsksFairly (λ count _. tt))
    (either_way (bytes_eq keyword (codes "lose")) _ _ AsksFairly (behind_result (count_line words) (λ count. Ok (Lose count)) AsksFairly (λ count _. tt))
    (either_way (bytes_eq keyword (codes "tick")) _ _ AsksFairly (ticks_such scene words AsksFairly (λ count _. tt) (λ system count _. tt))
    (either_way (bytes_eq keyword (codes "restart")) _ _ AsksFairly (restart_fair scene.names words)
    (either_way (bytes_eq keyword (codes "echo")) _ _ AsksFairly (echo_fair scene.names words)
    (either_way (bytes_eq keyword (codes "congest")) _ _ AsksFairly (congest_fair scene.names scene.systems words)
    (either_way (bytes_eq keyword (codes "inject")) _ _ AsksFairly (inject_such scene.subnets words AsksFairly (λ subnet from to octets. tt))
    (change_such scene keyword words AsksFairly (λ subnet mtu _. tt) (λ system route _. tt) (λ system prefix _. tt) (λ system number subnet snpa _. tt))))))))))
