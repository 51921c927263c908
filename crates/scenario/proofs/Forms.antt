-- What a `send` asks for is formed as it should be: between addresses, with a lifetime of an octet and options in their form.
use Rattle.std.proofs.Common.{◌≡◌, ℕ, zero, suc, ◌+◌, ◌/◌, ◌%◌, ◌<◌, ◌&&◌, false, not, nat_le, List, [], ◌∷◌, length, map, codes, Option, None, Some, is_some, slice_get, Result, Ok, Err, IfOk, refl, arith}
use Rattle.std.specs.List.{AllByRecursion, range_with_len}
use Rattle.std.specs.Str.{bytes_eq}
use Rattle.std.proofs.lemmas.Bool.{and_parts, not-true}
use Rattle.clnp_plan.proofs.ClnpBase.Lists.{AllByRecursion-slice_get}
use Rattle.hex.specs.Hex.{IsBytes, decode_of}
use Rattle.hex.specs.declared.error.FromHexError.{FromHexError}
use Rattle.hex.proofs.HexLemmas.{decode_of-ok}
use Rattle.clnp_plan.specs.Nsap.Address.{IsAddress}
use Rattle.clnp_plan.specs.Nsap.Text as nsap
use Rattle.clnp_plan.specs.Pdus.declared.nsap.fault.NsapFault.{NsapFault}
use Rattle.clnp_plan.specs.ClnpOptions.Grammar.{AreFormed}
use Rattle.clnp_plan.specs.ClnpOptions.Parameter.{parameters, parameters_after}
use Rattle.clnp_plan.specs.ClnpOptions.Rules.{Accepts, refusal}
use Rattle.clnp_plan.specs.Configuration.{IsSystem, IsWithin, SystemConfiguration}
use Rattle.clnp_plan.specs.ScenarioPlan.Plan.{AsksInForm, octets_of}
use Rattle.scenario.specs.Words.{literal, has_prefix, after_prefix, digits_read, pattern_word, two_fields, declared_word, address_read, address_word, data_word, number_word, life_word, octets_behind, options_read, options_word, one_word, two_words, four_words, first_four, each_once}
use Rattle.scenario.specs.Events.{wish_word, wish_words, wish_key, life_in, own_life, options_in, host_word, send_line, deliver_line, count_line, restart_line, echo_line, router_word, on_word, congest_line, Scene, event_line}
use Rattle.scenario.specs.declared.code.Code.TheVariants as bad
use Rattle.clnp_plan.specs.declared.scenario_plan.event.Body.{Body}
use Rattle.clnp_plan.specs.declared.scenario_plan.event.Body.TheVariants.{Hex, Pattern}
use Rattle.clnp_plan.specs.declared.scenario_plan.event.Event.TheVariants.{Settle, Lose}
use Rattle.scenario.specs.declared.wish.Wish.{Wish}
use Rattle.scenario.specs.declared.wish.Wish.TheVariants.{Lasting, NoReport, Whole, Options}
use Rattle.scenario.proofs.Asks.{SpellsWhatItAccepts}
use Rattle.scenario.proofs.Injected.{inject_such}
use Rattle.scenario.proofs.Changed.{change_such, ticks_such}
use Rattle.scenario.proofs.Behind.{behind_result, behind_found, behind_wanted, behind_such, either_way, number_behind_is_within, wishes_such, options_such, life_such}

-- what the crate of addresses says of each text
abbrev pub ReadsAddresses : Type 0
ReadsAddresses = (text octets : List ℕ) → nsap.octets_of text ≡ Ok octets → IsAddress octets

-- what the crates of options and of addresses say
pub record Laws : Type 0 where
  pub options : SpellsWhatItAccepts
  pub addresses : ReadsAddresses

-- Addresses.

is_read : (read : Result (List ℕ) NsapFault) → ((octets : List ℕ) → read ≡ Ok octets → IsAddress octets) → IfOk (address_read read) IsAddress
is_read (Ok octets) h = h octets refl
is_read (Err fault) h = tt

pub address_formed : Laws → (word : List ℕ) → IfOk (address_word word) IsAddress
address_formed laws word = is_read (nsap.octets_of word) (laws.addresses word)

-- Data.

abbrev pub HasOctets : Body → Type 0
HasOctets body = IsBytes (octets_of body)

mapped_octets : (f : ℕ → ℕ) → ((q : ℕ) → f q < 256) → (places : List ℕ) → IsBytes (map f places)
mapped_octets f below [] i = omega arith
mapped_octets f below (q ∷ places) zero = below q
mapped_octets f below (q ∷ places) (suc i) = mapped_octets f below places i

pub pattern_octets : (len start : ℕ) → HasOctets (Pattern len start)
pattern_octets len start = mapped_octets (λ q. (q + q / 256 + start) % 256) (λ q. omega arith) (range_with_len 0 len)

pattern_read : (word : List ℕ) → IfOk (pattern_word word) HasOctets
pattern_read word =
    behind_result (after_prefix (codes "pat:") word) _ HasOctets (λ text _.
    behind_found (two_fields text) _ _ HasOctets (λ fields _.
    behind_result (number_word 0 70000 fields.0) _ HasOctets (λ len _.
    behind_result (number_word 0 255 fields.1) _ HasOctets (λ start _. pattern_octets len start))))

digits_octets : (read : Result (List ℕ) FromHexError) → ((octets : List ℕ) → read ≡ Ok octets → IsBytes octets) → IfOk (digits_read read) IsBytes
digits_octets (Ok octets) h = h octets refl
digits_octets (Err e) h = tt

pub behind_octets : (key word : List ℕ) → IfOk (octets_behind key word) IsBytes
behind_octets key word =
    behind_result (after_prefix key word) _ IsBytes (λ digits _. digits_octets (decode_of digits) (λ octets is. (decode_of-ok digits octets is).3))

data_octets : (word : List ℕ) → IfOk (data_word word) HasOctets
data_octets word =
    either_way (has_prefix (codes "pat:") word) _ _ HasOctets (pattern_read word)
    (behind_such (octets_behind (codes "hex:") word) (λ octets. Ok (Hex octets)) IsBytes HasOctets (behind_octets (codes "hex:") word) (λ octets are. are))

-- Options and lifetimes.

-- octets that spell options in their form
abbrev pub AreInForm : List ℕ → Type 0
AreInForm octets = AreFormed (parameters octets)

pub none_formed : AreInForm []
unfolding parameters_after
none_formed =
    record { formed = λ i d within. absurd (omega (arith, within)); distinct = λ i j d before within. absurd (omega (arith, within)) }

read_formed : Laws → (octets : List ℕ) → IfOk (options_read octets) AreInForm
read_formed laws octets =
    behind_wanted (nat_le (length octets) 254 && not (is_some (refusal octets 1 false))) bad.Address (λ _. Ok octets) AreInForm (λ h.
    let p = and_parts (nat_le (length octets) 254) (not (is_some (refusal octets 1 false))) h in
    let accepts : Accepts false octets = not-true (is_some (refusal octets 1 false)) p.1 in
    ((laws.options false octets).0 accepts).formed)

abbrev IsInForm : Wish → Type 0
IsInForm (Lasting life) = life < 256
IsInForm (Options octets) = AreInForm octets
IsInForm NoReport = Unit {0}
IsInForm Whole = Unit {0}

wish_formed : Laws → (word : List ℕ) → IfOk (wish_word word) IsInForm
unfolding wish_word
wish_formed laws word =
    either_way (has_prefix (codes "life=") word) _ _ IsInForm
    (behind_such (life_word word) (λ life. Ok (Lasting life)) (IsWithin 1 255) IsInForm (number_behind_is_within (codes "life=") 1 255 word) (λ life within. omega (arith, within.most)))
    (either_way (has_prefix (codes "opt=") word) _ _ IsInForm
    (behind_such (options_word word) (λ octets. Ok (Options octets)) AreInForm IsInForm
    (behind_result (octets_behind (codes "opt=") word) options_read AreInForm (λ octets _. read_formed laws octets)) (λ octets formed. formed))
    (either_way (bytes_eq word (codes "noreport")) _ _ IsInForm tt
    (behind_result (literal (codes "whole") word) (λ _. Ok Whole) IsInForm (λ _ _. tt))))

wishes_formed : Laws → (words : List (List ℕ)) → IfOk (wish_words words) (λ wishes. AllByRecursion IsInForm wishes)
wishes_formed laws words = wishes_such IsInForm (wish_formed laws) words

options_formed : (wishes : List Wish) → AllByRecursion IsInForm wishes → AreInForm (options_in wishes)
options_formed wishes h = options_such IsInForm AreInForm none_formed (λ octets formed. formed) wishes h

life_formed : (own : ℕ) (wishes : List Wish) → own < 256 → AllByRecursion IsInForm wishes → life_in own wishes < 256
life_formed own wishes short h = life_such IsInForm (λ life. life < 256) (λ life small. small) own wishes short h

own_is_short : (found : Option SystemConfiguration) → ((system : SystemConfiguration) → found ≡ Some system → IsSystem system) → own_life found < 256
own_is_short None h = omega arith
own_is_short (Some system) h = let most = (h system refl).settings.life.most in omega arith

-- Event lines.

send_formed : Laws → (names : List (List ℕ)) (systems : List SystemConfiguration) (words : List (List ℕ)) → AllByRecursion IsSystem systems
    → IfOk (send_line names systems words) AsksInForm
unfolding send_line
send_formed laws names systems words are =
    behind_found (first_four words) _ _ AsksInForm (λ w _.
    behind_result (host_word names systems w.0) _ AsksInForm (λ system _.
    behind_such (address_word w.1) _ IsAddress AsksInForm (address_formed laws w.1) (λ from from_is.
    behind_such (address_word w.2) _ IsAddress AsksInForm (address_formed laws w.2) (λ to to_is.
    behind_result (data_word w.3) _ AsksInForm (λ body _.
    behind_such (wish_words w.4) _ (λ wishes. AllByRecursion IsInForm wishes) AsksInForm (wishes_formed laws w.4) (λ wishes formed.
    behind_wanted (each_once wish_key wishes) _ _ AsksInForm (λ _.
    record {
      source = from_is;
      destination = to_is;
      lifetime = life_formed (own_life (slice_get systems system)) wishes
          (own_is_short (slice_get systems system) (λ s there. AllByRecursion-slice_get IsSystem systems system s there are)) formed;
      options = options_formed wishes formed;
    })))))))

deliver_formed : (names : List (List ℕ)) (words : List (List ℕ)) → IfOk (deliver_line names words) AsksInForm
unfolding deliver_line
deliver_formed names words =
    behind_found (two_words words) _ _ AsksInForm (λ w _.
    behind_result (number_word 1 1000000000 w.0) _ AsksInForm (λ copy _.
    behind_result (declared_word names w.1) _ AsksInForm (λ system _. tt)))

restart_formed : (names : List (List ℕ)) (words : List (List ℕ)) → IfOk (restart_line names words) AsksInForm
unfolding restart_line
restart_formed names words =
    behind_found (one_word words) _ _ AsksInForm (λ word _.
    behind_result (declared_word names word) _ AsksInForm (λ system _. tt))

echo_formed : Laws → (names : List (List ℕ)) (words : List (List ℕ)) → IfOk (echo_line names words) AsksInForm
unfolding echo_line
echo_formed laws names words =
    behind_found (four_words words) _ _ AsksInForm (λ w _.
    behind_result (declared_word names w.0) _ AsksInForm (λ system _.
    behind_such (address_word w.1) _ IsAddress AsksInForm (address_formed laws w.1) (λ from from_is.
    behind_such (address_word w.2) _ IsAddress AsksInForm (address_formed laws w.2) (λ to to_is.
    behind_such (data_word w.3) _ HasOctets AsksInForm (data_octets w.3) (λ body octets. (from_is, to_is, octets))))))

congest_formed : (names : List (List ℕ)) (systems : List SystemConfiguration) (words : List (List ℕ)) → IfOk (congest_line names systems words) AsksInForm
unfolding congest_line
congest_formed names systems words =
    behind_found (two_words words) _ _ AsksInForm (λ w _.
    behind_result (router_word names systems w.0) _ AsksInForm (λ system _.
    behind_result (on_word w.1) _ AsksInForm (λ on _. tt)))

pub event_formed : Laws → (scene : Scene) (words : List (List ℕ)) → AllByRecursion IsSystem scene.systems
    → IfOk (event_line scene words) AsksInForm
unfolding event_line
event_formed laws scene [] are = tt
event_formed laws scene (keyword ∷ words) are =
    either_way (bytes_eq keyword (codes "send")) _ _ AsksInForm (send_formed laws scene.names scene.systems words are)
    (either_way (bytes_eq keyword (codes "deliver")) _ _ AsksInForm (deliver_formed scene.names words)
    (either_way (bytes_eq keyword (codes "settle")) _ _ AsksInForm (behind_result (count_line words) (λ count. Ok (Settle count)) AsksInForm (λ count _. tt))
    (either_way (bytes_eq keyword (codes "lose")) _ _ AsksInForm (behind_result (count_line words) (λ count. Ok (Lose count)) AsksInForm (λ count _. tt))
    (either_way (bytes_eq keyword (codes "tick")) _ _ AsksInForm (ticks_such scene words AsksInForm (λ count _. tt) (λ system count _. tt))
    (either_way (bytes_eq keyword (codes "restart")) _ _ AsksInForm (restart_formed scene.names words)
    (either_way (bytes_eq keyword (codes "echo")) _ _ AsksInForm (echo_formed laws scene.names words)
    (either_way (bytes_eq keyword (codes "congest")) _ _ AsksInForm (congest_formed scene.names scene.systems words)
    (either_way (bytes_eq keyword (codes "inject")) _ _ AsksInForm (inject_such scene.subnets words AsksInForm (λ subnet from to octets. tt))
    (change_such scene keyword words AsksInForm (λ subnet mtu _. tt) (λ system route _. tt) (λ system prefix _. tt) (λ system number subnet snpa _. tt))))))))))
