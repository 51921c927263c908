-- What an event line says of a frame from outside is formed as it should be.
use Rattle.std.proofs.Common.{◌≡◌, ℕ, ◌<◌, ◌==◌, nat_le, List, [], ◌∷◌, length, codes, Option, None, Some, Result, Ok, Err, IfOk, refl, subst, arith}
use Rattle.std.specs.List.{AllByRecursion}
use Rattle.std.specs.Str.{bytes_eq}
use Rattle.std.proofs.lemmas.Bool.{leb-true}
use Rattle.hex.specs.Hex.{IsBytes, decode_of}
use Rattle.hex.specs.declared.error.FromHexError.{FromHexError}
use Rattle.hex.proofs.HexLemmas.{decode_of-ok}
use Rattle.clnp_plan.specs.Nsap.Address.{IsAddress}
use Rattle.clnp_plan.specs.ClnpBase.Text.{words_of, onto_first, ends_word}
use Rattle.clnp_plan.specs.Configuration.{SystemConfiguration}
use Rattle.clnp_plan.specs.ScenarioPlan.Plan.{InjectsInForm, IsTarget}
use Rattle.scenario.specs.Words.{declared_word, digits_read, address_word, data_word, number_word, one_word, two_words, four_words, first_four, each_once, frame_word, target_word}
use Rattle.scenario.specs.Events.{wish_words, wish_key, host_word, router_word, on_word, send_line, deliver_line, count_line, restart_line, echo_line, congest_line, inject_line, Scene, event_line}
use Rattle.clnp_plan.specs.declared.scenario_plan.event.Event.TheVariants.{Settle, Lose}
use Rattle.scenario.proofs.Behind.{behind_result, behind_found, behind_wanted, behind_such, either_way, declared_is_within}
use Rattle.scenario.proofs.Forms.{Laws, address_formed}
use Rattle.scenario.proofs.Changed.{change_such, ticks_such}
use Rattle.clnp_plan.proofs.ClnpBase.Choices.{one_of}

-- Words that aren't empty.

abbrev pub Stands : List ℕ → Type 0
Stands word = 0 < length word

onto_stand : (c : ℕ) (words : List (List ℕ)) → AllByRecursion Stands words → AllByRecursion Stands (onto_first c words)
onto_stand c [] h = (omega arith, tt)
onto_stand c (word ∷ words) h = (omega arith, h.1)

pub words_stand : (line : List ℕ) → AllByRecursion Stands (words_of line)
words_stand [] = tt
words_stand (c ∷ cs) =
    one_of (AllByRecursion Stands) (c == 32) (words_of cs) _ (words_stand cs)
    (one_of (AllByRecursion Stands) (ends_word cs) ((c ∷ []) ∷ words_of cs) (onto_first c (words_of cs)) (omega arith, words_stand cs) (onto_stand c (words_of cs) (words_stand cs)))

-- The octets of a word.

pub record IsFrame (octets : List ℕ) : Type 0 where
  pub bytes : IsBytes octets
  pub some : 0 < length octets

digits_framed : (word : List ℕ) (read : Result (List ℕ) FromHexError) → decode_of word ≡ read → Stands word → IfOk (digits_read read) IsFrame
digits_framed word (Ok octets) e h =
    let ok = decode_of-ok word octets e in
    record { bytes = ok.3; some = omega (arith, h, ok.2) }
digits_framed word (Err fault) e h = tt

frame_framed : (word : List ℕ) → Stands word → IfOk (frame_word word) IsFrame
frame_framed word h = digits_framed word (decode_of word) refl h

target_formed : Laws → (word : List ℕ) → IfOk (target_word word) IsTarget
target_formed laws word =
    either_way (bytes_eq word (codes "es")) _ _ IsTarget tt
    (either_way (bytes_eq word (codes "is")) _ _ IsTarget tt
    (behind_such (address_word word) _ IsAddress IsTarget (address_formed laws word) (λ snpa is. is)))

abbrev FourthStands : Option (List ℕ × List ℕ × List ℕ × List ℕ) → Type 0
FourthStands None = Unit {0}
FourthStands (Some w) = Stands w.3

-- the fourth of four words
fourth_stands : (words : List (List ℕ)) → AllByRecursion Stands words → (w : List ℕ × List ℕ × List ℕ × List ℕ) → four_words words ≡ Some w → Stands w.3
fourth_stands (a ∷ b ∷ c ∷ d ∷ []) h w e = subst FourthStands e h.1.1.1.0
fourth_stands [] h w e = cc e
fourth_stands (a ∷ []) h w e = cc e
fourth_stands (a ∷ b ∷ []) h w e = cc e
fourth_stands (a ∷ b ∷ c ∷ []) h w e = cc e
fourth_stands (a ∷ b ∷ c ∷ d ∷ f ∷ words) h w e = cc e

inject_formed : Laws → (subnets words : List (List ℕ)) → AllByRecursion Stands words → IfOk (inject_line subnets words) (InjectsInForm (length subnets))
unfolding inject_line
inject_formed laws subnets words h =
    let Formed = InjectsInForm (length subnets) in
    behind_found (four_words words) _ _ Formed (λ w four.
    behind_such (declared_word subnets w.0) _ (λ place. place < length subnets) Formed (declared_is_within subnets w.0) (λ subnet within.
    behind_such (address_word w.1) _ IsAddress Formed (address_formed laws w.1) (λ from from_is.
    behind_such (target_word w.2) _ IsTarget Formed (target_formed laws w.2) (λ to to_is.
    behind_such (frame_word w.3) _ IsFrame Formed (frame_framed w.3 (fourth_stands words h w four)) (λ octets are.
    behind_wanted (nat_le (length octets) 70000) _ _ Formed (λ few.
    record {
      placed = within;
      sender = from_is;
      target = to_is;
      bytes = are.bytes;
      many = record { least = omega (arith, are.some); most = leb-true (length octets) 70000 few };
    }))))))

-- Each other event is one of the scenario's own systems.

send_inside : (subnets names : List (List ℕ)) (systems : List SystemConfiguration) (words : List (List ℕ)) → IfOk (send_line names systems words) (InjectsInForm (length subnets))
unfolding send_line
send_inside subnets names systems words =
    let Formed = InjectsInForm (length subnets) in
    behind_found (first_four words) _ _ Formed (λ w _.
    behind_result (host_word names systems w.0) _ Formed (λ system _.
    behind_result (address_word w.1) _ Formed (λ from _.
    behind_result (address_word w.2) _ Formed (λ to _.
    behind_result (data_word w.3) _ Formed (λ body _.
    behind_result (wish_words w.4) _ Formed (λ wishes _.
    behind_wanted (each_once wish_key wishes) _ _ Formed (λ _. tt)))))))

deliver_inside : (subnets names words : List (List ℕ)) → IfOk (deliver_line names words) (InjectsInForm (length subnets))
unfolding deliver_line
deliver_inside subnets names words =
    let Formed = InjectsInForm (length subnets) in
    behind_found (two_words words) _ _ Formed (λ w _.
    behind_result (number_word 1 1000000000 w.0) _ Formed (λ copy _.
    behind_result (declared_word names w.1) _ Formed (λ system _. tt)))

restart_inside : (subnets names words : List (List ℕ)) → IfOk (restart_line names words) (InjectsInForm (length subnets))
unfolding restart_line
restart_inside subnets names words =
    let Formed = InjectsInForm (length subnets) in
    behind_found (one_word words) _ _ Formed (λ word _.
    behind_result (declared_word names word) _ Formed (λ system _. tt))

echo_inside : (subnets names words : List (List ℕ)) → IfOk (echo_line names words) (InjectsInForm (length subnets))
unfolding echo_line
echo_inside subnets names words =
    let Formed = InjectsInForm (length subnets) in
    behind_found (four_words words) _ _ Formed (λ w _.
    behind_result (declared_word names w.0) _ Formed (λ system _.
    behind_result (address_word w.1) _ Formed (λ from _.
    behind_result (address_word w.2) _ Formed (λ to _.
    behind_result (data_word w.3) _ Formed (λ body _. tt)))))

congest_inside : (subnets names : List (List ℕ)) (systems : List SystemConfiguration) (words : List (List ℕ)) → IfOk (congest_line names systems words) (InjectsInForm (length subnets))
unfolding congest_line
congest_inside subnets names systems words =
    let Formed = InjectsInForm (length subnets) in
    behind_found (two_words words) _ _ Formed (λ w _.
    behind_result (router_word names systems w.0) _ Formed (λ system _.
    behind_result (on_word w.1) _ Formed (λ on _. tt)))

pub event_injected : Laws → (scene : Scene) (words : List (List ℕ)) → AllByRecursion Stands words
    → IfOk (event_line scene words) (InjectsInForm (length scene.subnets))
unfolding event_line
event_injected laws scene [] h = tt
event_injected laws scene (keyword ∷ words) h =
    let Formed = InjectsInForm (length scene.subnets) in
    either_way (bytes_eq keyword (codes "send")) _ _ Formed (send_inside scene.subnets scene.names scene.systems words)
    (either_way (bytes_eq keyword (codes "deliver")) _ _ Formed (deliver_inside scene.subnets scene.names words)
    (either_way (bytes_eq keyword (codes "settle")) _ _ Formed (behind_result (count_line words) (λ count. Ok (Settle count)) Formed (λ count _. tt))
    (either_way (bytes_eq keyword (codes "lose")) _ _ Formed (behind_result (count_line words) (λ count. Ok (Lose count)) Formed (λ count _. tt))
    (either_way (bytes_eq keyword (codes "tick")) _ _ Formed (ticks_such scene words Formed (λ count _. tt) (λ system count _. tt))
    (either_way (bytes_eq keyword (codes "restart")) _ _ Formed (restart_inside scene.subnets scene.names words)
    (either_way (bytes_eq keyword (codes "echo")) _ _ Formed (echo_inside scene.subnets scene.names words)
    (either_way (bytes_eq keyword (codes "congest")) _ _ Formed (congest_inside scene.subnets scene.names scene.systems words)
    (either_way (bytes_eq keyword (codes "inject")) _ _ Formed (inject_formed laws scene.subnets words h.1)
    (change_such scene keyword words Formed (λ subnet mtu _. tt) (λ system route _. tt) (λ system prefix _. tt) (λ system number subnet snpa _. tt))))))))))
