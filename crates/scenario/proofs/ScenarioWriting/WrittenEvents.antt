-- Each event that is written is read as the same event.
use Rattle.std.proofs.Common.{◌≡◌, ℕ, ◌+◌, ◌<◌, ◌≤◌, ◌==◌, ◌&&◌, not, nat_le, if◌then◌else◌, Bool, true, false, List, [], ◌∷◌, ◌++◌, map, length, take, drop, slice_get, codes, option_map, Option, None, Some, Result, Ok, Err, is_some, refl, sym, ap, subst, ◌∙◌, append_assoc, length-append, arith}
use Rattle.std.specs.List.{AllByRecursion, list_all, list_any, position, position_or_len}
use Rattle.std.specs.Fmt.{decimal}
use Rattle.std.proofs.Math.Seq.{take-append_seam, drop-append-add}
use Rattle.std.proofs.lemmas.Bool.{and_parts, or_right, ne_eqb, le-leb, leb-true, lt-ltb}
use Rattle.clnp_plan.proofs.ClnpBase.Lists.{AllByRecursion-slice_get, slice_get_some}
use Rattle.clnp_plan.specs.ClnpBase.Text.{decimal_of, is_digit}
use Rattle.hex.specs.Hex.{IsBytes}
use Rattle.clnp_plan.specs.Nsap.Prefix.{prefix_text}
use Rattle.clnp_plan.specs.Nsap.Text.{hex_text}
use Rattle.clnp_plan.specs.Pdus.declared.nsap.target.Target.{Target}
use Rattle.clnp_plan.specs.ClnpOptions.Rules.{refusal}
use Rattle.clnp_plan.specs.SystemTables.declared.forwarding.route.Route.{Route}
use Rattle.clnp_plan.specs.Configuration.{AreDistinct, IsWithin, SystemConfiguration}
use Rattle.clnp_plan.specs.Journal as journal
use Rattle.clnp_plan.specs.Journal.{line_of}
use Rattle.clnp_plan.specs.declared.ask.Ask.{Ask}
use Rattle.clnp_plan.specs.declared.config.Role.TheVariants.{Host, Router}
use Rattle.scenario.specs.ScenarioWriting.Canonical.{keyed, spelled_behind, body_text, subnet_name, system_name, word_if, options_words, ask_words, event_text}
use Rattle.clnp_plan.specs.ScenarioPlan.Plan.{Subnetwork, AsksInForm, ChangesInForm, HasNumber, InjectsInForm, IsOfVersion1, IsPlaced, IsFromHost, IsOfRouter, IsSaid, IsSaidBody, IsSaidAsk, AreSaidOptions}
use Rattle.clnp_plan.specs.ScenarioPlan.Standing.{MayCome, Standing, is_rival, is_second, runs_ahead, takes_prefix}
use Rattle.scenario.specs.Words.{wanted, found, is_name, declared_word, number_within, number_word, is_digits, address_word, prefix_word, after_prefix, is_colon, fields_at, two_fields, pattern_word, data_word, life_word, options_read, options_word, octets_behind, each_once, frame_word, target_word}
use Rattle.scenario.specs.Events.{wish_word, wish_words, wish_key, own_life, ask_of, is_host_at, host_word, is_router_at, router_word, on_word, send_line, deliver_line, tick_line, restart_line, echo_line, congest_line, inject_line, count_line, has_number, port_word, mtu_line, route_line, unroute_line, port_line, change_line, tick_system_line, ticks_line, Scene, scene_of, event_line}
use Rattle.scenario.specs.declared.code.Code.{Code}
use Rattle.scenario.specs.declared.code.Code.TheVariants as bad
use Rattle.clnp_plan.specs.declared.scenario_plan.event.Body.{Body}
use Rattle.clnp_plan.specs.declared.scenario_plan.event.Body.TheVariants.{Hex, Pattern}
use Rattle.clnp_plan.specs.declared.scenario_plan.event.Event.{Event}
use Rattle.clnp_plan.specs.declared.scenario_plan.event.Event.TheVariants as event
use Rattle.clnp_plan.specs.declared.scenario_plan.event.Event.TheVariants.{Send, Deliver, Settle, Lose, Tick, Restart, Echo, Congest, Inject}
use Rattle.scenario.specs.declared.wish.Wish.{Wish}
use Rattle.scenario.specs.declared.wish.Wish.TheVariants.{Lasting, NoReport, Whole, Options}
use Rattle.scenario.proofs.Stepping.{step, step_found, step_wanted}
use Rattle.scenario.proofs.ScenarioWriting.Written.{IsWord, spelled, decimal_is_word, decimal_digits, number_read, read_behind, number_read_behind, word_behind, keyed_is_word, address_is_word, ReadsBack, address_word_read, frame_word_read, spelled_is_word, octets_read_behind, target_is_word, target_word_read, name_is_word, declared_word_read, hex_is_word, mtu_digits, mtu_read}
use Rattle.scenario.proofs.ScenarioWriting.WrittenPrefixes.{prefix_is_word, prefix_read}
use Rattle.clnp_plan.proofs.ClnpBase.ListSteps.{slice_get_map}

-- ---- names

-- what is declared has distinct names
pub record AreNamed {X : Type 0} (name : X → List ℕ) (xs : List X) : Type 0 where
  pub distinct : AreDistinct (map name xs)
  pub names : AllByRecursion (λ x. is_name (name x) ≡ true) xs

named_read : {X : Type 0} (name : X → List ℕ) (xs : List X) (place : ℕ) (x : X) → AreNamed name xs → slice_get xs place ≡ Some x
    → declared_word (map name xs) (name x) ≡ Ok place
named_read name xs place x are there =
    declared_word_read (map name xs) (name x) place (AllByRecursion-slice_get (λ y. is_name (name y) ≡ true) xs place x there are.names) are.distinct
    (slice_get_map name xs place x there)

named_word : {X : Type 0} (name : X → List ℕ) (xs : List X) (place : ℕ) (x : X) → AreNamed name xs → slice_get xs place ≡ Some x → IsWord (name x)
named_word name xs place x are there =
    name_is_word (name x) (AllByRecursion-slice_get (λ y. is_name (name y) ≡ true) xs place x there are.names)

abbrev pub name_of_system : SystemConfiguration → List ℕ
name_of_system system = system.name

abbrev pub name_of_subnet : Subnetwork → List ℕ
name_of_subnet subnet = subnet.name

pub system_read : (systems : List SystemConfiguration) (place : ℕ) → AreNamed name_of_system systems → place < length systems
    → declared_word (map name_of_system systems) (system_name (slice_get systems place)) ≡ Ok place
system_read systems place are within =
    let found = slice_get_some systems place within in
    ap (λ (o : Option SystemConfiguration). declared_word (map name_of_system systems) (system_name o)) found.1
    ∙ named_read name_of_system systems place found.0 are found.1

pub system_is_word : (systems : List SystemConfiguration) (place : ℕ) → AreNamed name_of_system systems → place < length systems
    → IsWord (system_name (slice_get systems place))
system_is_word systems place are within =
    let found = slice_get_some systems place within in
    rw found.1 (named_word name_of_system systems place found.0 are found.1)

pub subnet_read : (subnets : List Subnetwork) (place : ℕ) → AreNamed name_of_subnet subnets → place < length subnets
    → declared_word (map name_of_subnet subnets) (subnet_name (slice_get subnets place)) ≡ Ok place
subnet_read subnets place are within =
    let found = slice_get_some subnets place within in
    ap (λ (o : Option Subnetwork). declared_word (map name_of_subnet subnets) (subnet_name o)) found.1
    ∙ named_read name_of_subnet subnets place found.0 are found.1

pub subnet_is_word : (subnets : List Subnetwork) (place : ℕ) → AreNamed name_of_subnet subnets → place < length subnets
    → IsWord (subnet_name (slice_get subnets place))
subnet_is_word subnets place are within =
    let found = slice_get_some subnets place within in
    rw found.1 (named_word name_of_subnet subnets place found.0 are found.1)

host_there : (found : Option SystemConfiguration) → option_map (λ (host : SystemConfiguration). host.role) found ≡ Some Host → is_host_at found ≡ true
host_there None e = cc e
host_there (Some system) e = let role : system.role ≡ Host = cc e in rw role refl

router_there : (found : Option SystemConfiguration) → option_map (λ (router : SystemConfiguration). router.role) found ≡ Some Router → is_router_at found ≡ true
router_there None e = cc e
router_there (Some system) e = let role : system.role ≡ Router = cc e in rw role refl

host_read : (systems : List SystemConfiguration) (place : ℕ) → AreNamed name_of_system systems → place < length systems
    → option_map (λ (host : SystemConfiguration). host.role) (slice_get systems place) ≡ Some Host
    → host_word (map name_of_system systems) systems (system_name (slice_get systems place)) ≡ Ok place
host_read systems place are within role =
    step (declared_word (map name_of_system systems) (system_name (slice_get systems place))) _ place (Ok place) (system_read systems place are within)
    (step_wanted (is_host_at (slice_get systems place)) bad.UnknownName (λ _. Ok place) (Ok place) (host_there (slice_get systems place) role) refl)

router_read : (systems : List SystemConfiguration) (place : ℕ) → AreNamed name_of_system systems → place < length systems
    → option_map (λ (router : SystemConfiguration). router.role) (slice_get systems place) ≡ Some Router
    → router_word (map name_of_system systems) systems (system_name (slice_get systems place)) ≡ Ok place
router_read systems place are within role =
    step (declared_word (map name_of_system systems) (system_name (slice_get systems place))) _ place (Ok place) (system_read systems place are within)
    (step_wanted (is_router_at (slice_get systems place)) bad.UnknownName (λ _. Ok place) (Ok place) (router_there (slice_get systems place) role) refl)

-- ---- data

digit_is_no_colon : (c : ℕ) → is_digit c ≡ true → is_colon c ≡ false
digit_is_no_colon c h =
    let p = and_parts (nat_le 48 c) (nat_le c 57) h in
    let most = leb-true c 57 p.1 in
    ne_eqb c 58 (omega arith)

colon_behind : (digits more : List ℕ) → list_all is_digit digits ≡ true → position_or_len is_colon (digits ++ (58 ∷ more)) ≡ length digits
colon_behind [] more h = refl
colon_behind (c ∷ cs) more h =
    let p = and_parts (is_digit c) (list_all is_digit cs) h in
    rw (digit_is_no_colon c p.0, colon_behind cs more p.1) (omega arith)

no_colon : (digits : List ℕ) → list_all is_digit digits ≡ true → list_any is_colon digits ≡ false
no_colon [] h = refl
no_colon (c ∷ cs) h =
    let p = and_parts (is_digit c) (list_all is_digit cs) h in
    rw (digit_is_no_colon c p.0, no_colon cs p.1) refl

colon_at : (digits more : List ℕ) → list_all is_digit digits ≡ true → position is_colon (digits ++ (58 ∷ more)) ≡ Some (length digits)
colon_at digits more h =
    let long = length-append digits (58 ∷ more) in
    rw (colon_behind digits more h, lt-ltb (length digits) (length (digits ++ (58 ∷ more))) (omega (arith, long))) refl

fields_cut : (text left right : List ℕ) (at : ℕ) → drop (at + 1) text ≡ right → take at text ≡ left → list_any is_colon right ≡ false
    → fields_at text (Some at) ≡ Some (left, right)
fields_cut text left right at d t none = rw (d, t, none) refl

pub fields_read : (first second : List ℕ) → list_all is_digit first ≡ true → list_all is_digit second ≡ true
    → two_fields (first ++ (58 ∷ second)) ≡ Some (first, second)
fields_read first second h k =
    ap (λ (o : Option ℕ). fields_at (first ++ (58 ∷ second)) o) (colon_at first second h)
    ∙ fields_cut (first ++ (58 ∷ second)) first second (length first) (drop-append-add first (58 ∷ second) 1) (take-append_seam first (58 ∷ second)) (no_colon second k)

pattern_of : (word text first second : List ℕ) (len start : ℕ) → after_prefix (codes "pat:") word ≡ Ok text → two_fields text ≡ Some (first, second)
    → number_word 0 70000 first ≡ Ok len → number_word 0 255 second ≡ Ok start → pattern_word word ≡ Ok (Pattern len start)
pattern_of word text first second len start cut fields l s =
    step (after_prefix (codes "pat:") word) _ text (Ok (Pattern len start)) cut
    (step_found (two_fields text) bad.Syntax _ (first, second) (Ok (Pattern len start)) fields
    (step (number_word 0 70000 first) _ len (Ok (Pattern len start)) l
    (step (number_word 0 255 second) (λ from. Ok (Pattern len from)) start (Ok (Pattern len start)) s refl)))

pattern_read : (len start : ℕ) → len ≤ 70000 → start < 256 → pattern_word (body_text (Pattern len start)) ≡ Ok (Pattern len start)
pattern_read len start l s =
    let text : List ℕ = decimal len ++ (58 ∷ decimal start) in
    pattern_of (body_text (Pattern len start)) text (decimal len) (decimal start) len start
    (ap (λ (word : List ℕ). after_prefix (codes "pat:") word) (append_assoc (codes "pat:") (decimal len) (58 ∷ decimal start)) ∙ read_behind (codes "pat:") text)
    (fields_read (decimal len) (decimal start) (decimal_digits len (omega arith)) (decimal_digits start (omega arith)))
    (number_read 0 70000 len (omega arith) l (omega arith))
    (number_read 0 255 start (omega arith) (omega arith) (omega arith))

hex_read : (octets : List ℕ) → IsBytes octets → data_word (spelled_behind (codes "hex:") octets) ≡ Ok (Hex octets)
hex_read octets bytes =
    step (octets_behind (codes "hex:") (spelled_behind (codes "hex:") octets)) _ octets (Ok (Hex octets)) (octets_read_behind (codes "hex:") octets bytes) refl

pub data_read : (body : Body) → IsSaidBody body → data_word (body_text body) ≡ Ok body
data_read (Hex octets) bytes = hex_read octets bytes
data_read (Pattern len start) said = pattern_read len start said.0 said.1

pub data_is_word : (body : Body) → IsSaidBody body → IsWord (body_text body)
data_is_word (Hex octets) bytes = spelled_is_word (codes "hex:") octets (spelled (codes "hex:") refl) bytes
data_is_word (Pattern len start) said =
    word_behind (keyed (codes "pat:") len) (keyed (codes ":") start)
    (keyed_is_word (codes "pat:") len (spelled (codes "pat:") refl))
    (keyed_is_word (codes ":") start (spelled (codes ":") refl)).plain

-- ---- how a unit is to be sent

wishes_cons : (word : List ℕ) (words : List (List ℕ)) (wish : Wish) (wishes : List Wish) → wish_word word ≡ Ok wish → wish_words words ≡ Ok wishes
    → wish_words (word ∷ words) ≡ Ok (wish ∷ wishes)
wishes_cons word words wish wishes e k =
    step (wish_word word) _ wish (Ok (wish ∷ wishes)) e (step (wish_words words) _ wishes (Ok (wish ∷ wishes)) k refl)

-- a wish that stands only where it is wanted
abbrev wish_if : Bool → Wish → List Wish
wish_if true wish = wish ∷ []
wish_if false wish = []

abbrev options_wishes : List ℕ → List Wish
options_wishes [] = []
options_wishes (octet ∷ octets) = Options (octet ∷ octets) ∷ []

abbrev wishes_of : Ask → List Wish
wishes_of ask = Lasting ask.life ∷ (wish_if (not ask.report) NoReport ++ (wish_if (not ask.segment) Whole ++ options_wishes ask.options))

wish_if_read : (wanted : Bool) (word : List ℕ) (wish : Wish) (words : List (List ℕ)) (wishes : List Wish) → wish_word word ≡ Ok wish → wish_words words ≡ Ok wishes
    → wish_words (word_if wanted word ++ words) ≡ Ok (wish_if wanted wish ++ wishes)
wish_if_read true word wish words wishes e k = wishes_cons word words wish wishes e k
wish_if_read false word wish words wishes e k = k

life_read : (life : ℕ) → 1 ≤ life → life ≤ 255 → wish_word (keyed (codes "life=") life) ≡ Ok (Lasting life)
unfolding wish_word
life_read life l m =
    step (life_word (keyed (codes "life=") life)) _ life (Ok (Lasting life)) (number_read_behind (codes "life=") 1 255 life l m (omega arith)) refl

no_report_read : wish_word (codes "noreport") ≡ Ok NoReport
unfolding wish_word
no_report_read = refl

whole_read : wish_word (codes "whole") ≡ Ok Whole
unfolding wish_word
whole_read = refl

accepted_read : (octets : List ℕ) → AreSaidOptions octets → options_read octets ≡ Ok octets
accepted_read octets said =
    step_wanted (nat_le (length octets) 254 && not (is_some (refusal octets 1 false))) bad.Address (λ _. Ok octets) (Ok octets)
    (rw (le-leb (length octets) 254 said.few, said.accepted) refl) refl

options_word_read : (octets : List ℕ) → AreSaidOptions octets → wish_word (spelled_behind (codes "opt=") octets) ≡ Ok (Options octets)
unfolding wish_word
options_word_read octets said =
    step (options_word (spelled_behind (codes "opt=") octets)) _ octets (Ok (Options octets))
    (step (octets_behind (codes "opt=") (spelled_behind (codes "opt=") octets)) options_read octets (Ok octets) (octets_read_behind (codes "opt=") octets said.bytes) (accepted_read octets said))
    refl

options_words_read : (octets : List ℕ) → AreSaidOptions octets → wish_words (options_words octets) ≡ Ok (options_wishes octets)
options_words_read [] said = refl
options_words_read (octet ∷ octets) said = wishes_cons (spelled_behind (codes "opt=") (octet ∷ octets)) [] (Options (octet ∷ octets)) [] (options_word_read (octet ∷ octets) said) refl

ask_words_are : (ask : Ask)
    → ask_words ask ≡ keyed (codes "life=") ask.life ∷ (word_if (not ask.report) (codes "noreport") ++ (word_if (not ask.segment) (codes "whole") ++ options_words ask.options))
ask_words_are ask =
    ap (λ (words : List (List ℕ)). keyed (codes "life=") ask.life ∷ words)
    (append_assoc (word_if (not ask.report) (codes "noreport")) (word_if (not ask.segment) (codes "whole")) (options_words ask.options))

wishes_read : (ask : Ask) → IsSaidAsk ask → wish_words (ask_words ask) ≡ Ok (wishes_of ask)
wishes_read ask said =
    ap (λ (words : List (List ℕ)). wish_words words) (ask_words_are ask)
    ∙ wishes_cons (keyed (codes "life=") ask.life) _ (Lasting ask.life) _ (life_read ask.life said.life.least said.life.most)
    (wish_if_read (not ask.report) (codes "noreport") NoReport _ _ no_report_read
    (wish_if_read (not ask.segment) (codes "whole") Whole _ _ whole_read (options_words_read ask.options said.options)))

once : (life : ℕ) (report segment : Bool) (octets : List ℕ) → each_once wish_key (Lasting life ∷ (wish_if report NoReport ++ (wish_if segment Whole ++ options_wishes octets))) ≡ true
once life true true [] = refl
once life true true (octet ∷ octets) = refl
once life true false [] = refl
once life true false (octet ∷ octets) = refl
once life false true [] = refl
once life false true (octet ∷ octets) = refl
once life false false [] = refl
once life false false (octet ∷ octets) = refl

asked : (own life : ℕ) (report segment : Bool) (octets : List ℕ)
    → ask_of own (Lasting life ∷ (wish_if (not report) NoReport ++ (wish_if (not segment) Whole ++ options_wishes octets)))
    ≡ record { life = life; report = report; segment = segment; options = octets }
asked own life true true [] = refl
asked own life true true (octet ∷ octets) = refl
asked own life true false [] = refl
asked own life true false (octet ∷ octets) = refl
asked own life false true [] = refl
asked own life false true (octet ∷ octets) = refl
asked own life false false [] = refl
asked own life false false (octet ∷ octets) = refl

word_if_is : (wanted : Bool) (word : List ℕ) (words : List (List ℕ)) → IsWord word → AllByRecursion IsWord words → AllByRecursion IsWord (word_if wanted word ++ words)
word_if_is true word words is are = (is, are)
word_if_is false word words is are = are

options_are_words : (octets : List ℕ) → AreSaidOptions octets → AllByRecursion IsWord (options_words octets)
options_are_words [] said = tt
options_are_words (octet ∷ octets) said = (spelled_is_word (codes "opt=") (octet ∷ octets) (spelled (codes "opt=") refl) said.bytes, tt)

ask_are_words : (ask : Ask) → IsSaidAsk ask → AllByRecursion IsWord (ask_words ask)
ask_are_words ask said =
    let life : IsWord (keyed (codes "life=") ask.life) = keyed_is_word (codes "life=") ask.life (spelled (codes "life=") refl) in
    subst (λ (words : List (List ℕ)). AllByRecursion IsWord words) (sym (ask_words_are ask)) (
      life,
      word_if_is (not ask.report) (codes "noreport") _ (spelled (codes "noreport") refl)
          (word_if_is (not ask.segment) (codes "whole") _ (spelled (codes "whole") refl) (options_are_words ask.options said.options)),
    )

-- ---- lines

-- an event of a scenario whose names are these, as its line may say it
pub record IsTold (subnets : List Subnetwork) (systems : List SystemConfiguration) (event : Event) : Type 0 where
  pub formed : AsksInForm event
  pub placed : IsPlaced (length systems) event
  pub sender : IsFromHost systems event
  pub congested : IsOfRouter systems event
  pub injected : InjectsInForm (length subnets) event
  pub said : IsSaid event
  pub changes : ChangesInForm (length subnets) systems event

-- the first word of its line
abbrev pub keyword_of : Event → List ℕ
keyword_of (Send system from to body ask) = codes "send"
keyword_of (Deliver copy system) = codes "deliver"
keyword_of (Settle count) = codes "settle"
keyword_of (Lose count) = codes "lose"
keyword_of (Tick count) = codes "tick"
keyword_of (Restart system) = codes "restart"
keyword_of (Echo system from to body) = codes "echo"
keyword_of (Congest system on) = codes "congest"
keyword_of (Inject subnet from to octets) = codes "inject"
keyword_of (event.Mtu subnet mtu) = codes "mtu"
keyword_of (event.Route system route) = codes "route"
keyword_of (event.Unroute system prefix) = codes "unroute"
keyword_of (event.TickSystem system count) = codes "tick"
keyword_of (event.Port system number subnet snpa) = codes "port"

-- and the others
abbrev pub others_of : List Subnetwork → List SystemConfiguration → Event → List (List ℕ)
others_of subnets systems (Send system from to body ask) =
    system_name (slice_get systems system) ∷ hex_text from ∷ hex_text to ∷ body_text body ∷ ask_words ask
others_of subnets systems (Deliver copy system) = decimal copy ∷ system_name (slice_get systems system) ∷ []
others_of subnets systems (Settle count) = decimal count ∷ []
others_of subnets systems (Lose count) = decimal count ∷ []
others_of subnets systems (Tick count) = decimal count ∷ []
others_of subnets systems (Restart system) = system_name (slice_get systems system) ∷ []
others_of subnets systems (Echo system from to body) = system_name (slice_get systems system) ∷ hex_text from ∷ hex_text to ∷ body_text body ∷ []
others_of subnets systems (Congest system on) = system_name (slice_get systems system) ∷ journal.on_or_off on ∷ []
others_of subnets systems (Inject subnet from to octets) =
    subnet_name (slice_get subnets subnet) ∷ hex_text from ∷ journal.target_text to ∷ hex_text octets ∷ []
others_of subnets systems (event.Mtu subnet mtu) = subnet_name (slice_get subnets subnet) ∷ decimal mtu ∷ []
others_of subnets systems (event.Route system route) =
    system_name (slice_get systems system) ∷ prefix_text route.prefix ∷ decimal route.port ∷ hex_text route.snpa ∷ hex_text route.title ∷ []
others_of subnets systems (event.Unroute system prefix) = system_name (slice_get systems system) ∷ prefix_text prefix ∷ []
others_of subnets systems (event.TickSystem system count) = system_name (slice_get systems system) ∷ decimal count ∷ []
others_of subnets systems (event.Port system number subnet snpa) =
    system_name (slice_get systems system) ∷ decimal number ∷ subnet_name (slice_get subnets subnet) ∷ hex_text snpa ∷ []

pub event_text_is : (subnets : List Subnetwork) (systems : List SystemConfiguration) (event : Event)
    → event_text subnets systems event ≡ line_of (keyword_of event) (others_of subnets systems event)
event_text_is subnets systems (Send system from to body ask) = refl
event_text_is subnets systems (Deliver copy system) = refl
event_text_is subnets systems (Settle count) = refl
event_text_is subnets systems (Lose count) = refl
event_text_is subnets systems (Tick count) = refl
event_text_is subnets systems (Restart system) = refl
event_text_is subnets systems (Echo system from to body) = refl
event_text_is subnets systems (Congest system on) = refl
event_text_is subnets systems (Inject subnet from to octets) = refl
event_text_is subnets systems (event.Mtu subnet mtu) = refl
event_text_is subnets systems (event.Route system route) = refl
event_text_is subnets systems (event.Unroute system prefix) = refl
event_text_is subnets systems (event.TickSystem system count) = refl
event_text_is subnets systems (event.Port system number subnet snpa) = refl

-- ---- each kind of line

send_of : (names : List (List ℕ)) (systems : List SystemConfiguration) (name source target data_text : List ℕ) (words : List (List ℕ))
    (system : ℕ) (from to : List ℕ) (body : Body) (wishes : List Wish) (ask : Ask)
    → host_word names systems name ≡ Ok system → address_word source ≡ Ok from → address_word target ≡ Ok to → data_word data_text ≡ Ok body
    → wish_words words ≡ Ok wishes → each_once wish_key wishes ≡ true → ask_of (own_life (slice_get systems system)) wishes ≡ ask
    → send_line names systems (name ∷ source ∷ target ∷ data_text ∷ words) ≡ Ok (Send system from to body ask)
unfolding send_line
send_of names systems name source target data_text words system from to body wishes ask is_system is_from is_to is_body are_wishes distinct is_ask =
    let event : Result Event Code = Ok (Send system from to body ask) in
    step (host_word names systems name) _ system event is_system
    (step (address_word source) _ from event is_from
    (step (address_word target) _ to event is_to
    (step (data_word data_text) _ body event is_body
    (step (wish_words words) _ wishes event are_wishes
    (step_wanted (each_once wish_key wishes) bad.DupName _ event distinct (ap (λ (a : Ask). Ok (Send system from to body a)) is_ask))))))

deliver_of : (names : List (List ℕ)) (count name : List ℕ) (copy system : ℕ) → number_word 1 1000000000 count ≡ Ok copy → declared_word names name ≡ Ok system
    → deliver_line names (count ∷ name ∷ []) ≡ Ok (Deliver copy system)
unfolding deliver_line
deliver_of names count name copy system is_copy is_system =
    let event : Result Event Code = Ok (Deliver copy system) in
    step (number_word 1 1000000000 count) _ copy event is_copy (step (declared_word names name) _ system event is_system refl)

count_of : (word : List ℕ) (count : ℕ) → number_word 1 100000 word ≡ Ok count → count_line (word ∷ []) ≡ Ok count
unfolding count_line
count_of word count e = e

tick_of : (word : List ℕ) (count : ℕ) → number_word 1 65535 word ≡ Ok count → tick_line (word ∷ []) ≡ Ok count
unfolding tick_line
tick_of word count e = e

all_tick_of : (scene : Scene) (word : List ℕ) (count : ℕ) → number_word 1 65535 word ≡ Ok count → ticks_line scene (word ∷ []) ≡ Ok (Tick count)
unfolding ticks_line
all_tick_of scene word count e =
    rw (or_right (scene.version == 1) true refl) (step (tick_line (word ∷ [])) (λ n. Ok (Tick n)) count (Ok (Tick count)) (tick_of word count e) refl)

one_tick_of : (scene : Scene) (name word : List ℕ) (system count : ℕ) → declared_word scene.names name ≡ Ok system → number_word 1 65535 word ≡ Ok count
    → runs_ahead system count scene.standing ≡ false → tick_system_line scene (name ∷ word ∷ []) ≡ Ok (event.TickSystem system count)
unfolding tick_system_line
one_tick_of scene name word system count is_system is_count behind =
    let given : Result Event Code = Ok (event.TickSystem system count) in
    step (declared_word scene.names name) _ system given is_system
    (step (number_word 1 65535 word) _ count given is_count
    (step_wanted (not (runs_ahead system count scene.standing)) bad.Limits _ given (rw behind refl) refl))

one_ticks_of : (scene : Scene) (name word : List ℕ) (system count : ℕ) → (scene.version ≡ 1 → ⊥) → declared_word scene.names name ≡ Ok system
    → number_word 1 65535 word ≡ Ok count → runs_ahead system count scene.standing ≡ false
    → ticks_line scene (name ∷ word ∷ []) ≡ Ok (event.TickSystem system count)
unfolding ticks_line
one_ticks_of scene name word system count later is_system is_count behind =
    rw (ne_eqb scene.version 1 later) (one_tick_of scene name word system count is_system is_count behind)

restart_of : (names : List (List ℕ)) (name : List ℕ) (system : ℕ) → declared_word names name ≡ Ok system → restart_line names (name ∷ []) ≡ Ok (Restart system)
unfolding restart_line
restart_of names name system is_system = step (declared_word names name) _ system (Ok (Restart system)) is_system refl

echo_of : (names : List (List ℕ)) (name source target data_text : List ℕ) (system : ℕ) (from to : List ℕ) (body : Body)
    → declared_word names name ≡ Ok system → address_word source ≡ Ok from → address_word target ≡ Ok to → data_word data_text ≡ Ok body
    → echo_line names (name ∷ source ∷ target ∷ data_text ∷ []) ≡ Ok (Echo system from to body)
unfolding echo_line
echo_of names name source target data_text system from to body is_system is_from is_to is_body =
    let event : Result Event Code = Ok (Echo system from to body) in
    step (declared_word names name) _ system event is_system
    (step (address_word source) _ from event is_from
    (step (address_word target) _ to event is_to
    (step (data_word data_text) _ body event is_body refl)))

on_read : (on : Bool) → on_word (journal.on_or_off on) ≡ Ok on
on_read true = refl
on_read false = refl

on_is_word : (on : Bool) → IsWord (journal.on_or_off on)
on_is_word true = spelled (codes "on") refl
on_is_word false = spelled (codes "off") refl

congest_of : (names : List (List ℕ)) (systems : List SystemConfiguration) (name word : List ℕ) (system : ℕ) (on : Bool)
    → router_word names systems name ≡ Ok system → on_word word ≡ Ok on → congest_line names systems (name ∷ word ∷ []) ≡ Ok (Congest system on)
unfolding congest_line
congest_of names systems name word system on is_system is_on =
    let event : Result Event Code = Ok (Congest system on) in
    step (router_word names systems name) _ system event is_system (step (on_word word) _ on event is_on refl)

inject_of : (names : List (List ℕ)) (name source target frame : List ℕ) (subnet : ℕ) (from : List ℕ) (to : Target) (octets : List ℕ)
    → declared_word names name ≡ Ok subnet → address_word source ≡ Ok from → target_word target ≡ Ok to → frame_word frame ≡ Ok octets → length octets ≤ 70000
    → inject_line names (name ∷ source ∷ target ∷ frame ∷ []) ≡ Ok (Inject subnet from to octets)
unfolding inject_line
inject_of names name source target frame subnet from to octets is_subnet is_from is_to is_frame few =
    let event : Result Event Code = Ok (Inject subnet from to octets) in
    step (declared_word names name) _ subnet event is_subnet
    (step (address_word source) _ from event is_from
    (step (target_word target) _ to event is_to
    (step (frame_word frame) _ octets event is_frame
    (step_wanted (nat_le (length octets) 70000) bad.Count _ event (le-leb (length octets) 70000 few) refl))))

module _ (scene : Scene) where
  mtu_of : (name text : List ℕ) (subnet mtu : ℕ) → declared_word scene.subnets name ≡ Ok subnet → is_digits text ≡ true
      → number_within 512 65535 (decimal_of text) ≡ Some mtu → change_line scene (codes "mtu") (name ∷ text ∷ []) ≡ Ok (event.Mtu subnet mtu)
  unfolding change_line mtu_line
  mtu_of name text subnet mtu is_subnet digits is_mtu =
      let given : Result Event Code = Ok (event.Mtu subnet mtu) in
      step (declared_word scene.subnets name) _ subnet given is_subnet
      (step_wanted (is_digits text) bad.Number _ given digits
      (step_found (number_within 512 65535 (decimal_of text)) bad.Mtu _ mtu given is_mtu refl))

  route_of : (name prefix_word_is port_word_is snpa_word_is title_word_is : List ℕ) (system : ℕ) (route : Route)
      → router_word scene.names scene.systems name ≡ Ok system → prefix_word prefix_word_is ≡ Ok route.prefix
      → port_word (slice_get scene.systems system) port_word_is ≡ Ok route.port → address_word snpa_word_is ≡ Ok route.snpa
      → address_word title_word_is ≡ Ok route.title → takes_prefix route.prefix (slice_get scene.standing.prefixes system) ≡ true
      → change_line scene (codes "route") (name ∷ prefix_word_is ∷ port_word_is ∷ snpa_word_is ∷ title_word_is ∷ []) ≡ Ok (event.Route system route)
  unfolding change_line route_line
  route_of name first second third fourth system route is_system is_prefix is_port is_snpa is_title room =
      let given : Result Event Code = Ok (event.Route system route) in
      step (router_word scene.names scene.systems name) _ system given is_system
      (step (prefix_word first) _ route.prefix given is_prefix
      (step (port_word (slice_get scene.systems system) second) _ route.port given is_port
      (step (address_word third) _ route.snpa given is_snpa
      (step (address_word fourth) _ route.title given is_title
      (step_wanted (takes_prefix route.prefix (slice_get scene.standing.prefixes system)) bad.Count _ given room refl)))))

  unroute_of : (name text : List ℕ) (system : ℕ) (prefix : List ℕ) → router_word scene.names scene.systems name ≡ Ok system
      → prefix_word text ≡ Ok prefix → change_line scene (codes "unroute") (name ∷ text ∷ []) ≡ Ok (event.Unroute system prefix)
  unfolding change_line unroute_line
  unroute_of name text system prefix is_system is_prefix =
      let given : Result Event Code = Ok (event.Unroute system prefix) in
      step (router_word scene.names scene.systems name) _ system given is_system (step (prefix_word text) _ prefix given is_prefix refl)

  port_of : (name text on address : List ℕ) (system number subnet : ℕ) (snpa : List ℕ) → declared_word scene.names name ≡ Ok system
      → port_word (slice_get scene.systems system) text ≡ Ok number → declared_word scene.subnets on ≡ Ok subnet → address_word address ≡ Ok snpa
      → list_any (is_second system number subnet) scene.standing.spots ≡ false
      → list_any (is_rival system number subnet snpa) scene.standing.spots ≡ false
      → change_line scene (codes "port") (name ∷ text ∷ on ∷ address ∷ []) ≡ Ok (event.Port system number subnet snpa)
  unfolding change_line port_line
  port_of name text on address system number subnet snpa is_system is_number is_subnet is_snpa second rival =
      let given : Result Event Code = Ok (event.Port system number subnet snpa) in
      step (declared_word scene.names name) _ system given is_system
      (step (port_word (slice_get scene.systems system) text) _ number given is_number
      (step (declared_word scene.subnets on) _ subnet given is_subnet
      (step (address_word address) _ snpa given is_snpa
      (step_wanted (not (list_any (is_second system number subnet) scene.standing.spots)) bad.DupName _ given (rw second refl)
      (step_wanted (not (list_any (is_rival system number subnet snpa) scene.standing.spots)) bad.DupAddress _ given (rw rival refl) refl)))))

port_read : (systems : List SystemConfiguration) (place number : ℕ) → place < length systems → HasNumber systems place number → IsWithin 0 7 number
    → port_word (slice_get systems place) (decimal number) ≡ Ok number
port_read systems place number within has said =
    let found = slice_get_some systems place within in
    let there : has_number number (slice_get systems place) ≡ true = rw found.1 (lt-ltb number (length found.0.ports) (has found.0 found.1)) in
    step (number_word 0 7 (decimal number)) _ number (Ok number) (number_read 0 7 number said.least said.most (omega (arith, said.most)))
    (step_wanted (has_number number (slice_get systems place)) bad.UnknownName (λ _. Ok number) (Ok number) there refl)

-- that an event is one of its version, and what those before it leave
pub record IsInTurn (version : ℕ) (standing : Standing) (event : Event) : Type 0 where
  pub of_version : version ≡ 1 → IsOfVersion1 event
  pub may : MayCome standing event

-- a line that is read as an event that changes the network, in a later version
later_line : (scene : Scene) (keyword : List ℕ) (words : List (List ℕ)) (event : Event) → (scene.version ≡ 1 → ⊥)
    → change_line scene keyword words ≡ Ok event → (if scene.version == 1 then Err bad.Syntax else change_line scene keyword words) ≡ Ok event
later_line scene keyword words event later is = rw (ne_eqb scene.version 1 later) is

-- the line of an event is read as the event
pub event_read : ReadsBack → (version : ℕ) (subnets : List Subnetwork) (systems : List SystemConfiguration) → AreNamed name_of_subnet subnets → AreNamed name_of_system systems
    → (standing : Standing) (event : Event) → IsTold subnets systems event → IsInTurn version standing event
    → event_line (scene_of version subnets systems standing) (keyword_of event ∷ others_of subnets systems event) ≡ Ok event
unfolding event_line
event_read law version subnets systems named_subnets named_systems standing (Send system from to body ask) told turn =
    send_of (map name_of_system systems) systems (system_name (slice_get systems system)) (hex_text from) (hex_text to) (body_text body) (ask_words ask)
    system from to body (wishes_of ask) ask
    (host_read systems system named_systems told.placed told.sender)
    (address_word_read law from told.formed.source) (address_word_read law to told.formed.destination)
    (data_read body told.said.0) (wishes_read ask told.said.1)
    (once ask.life (not ask.report) (not ask.segment) ask.options)
    (asked (own_life (slice_get systems system)) ask.life ask.report ask.segment ask.options)
event_read law version subnets systems named_subnets named_systems standing (Deliver copy system) told turn =
    deliver_of (map name_of_system systems) (decimal copy) (system_name (slice_get systems system)) copy system
    (number_read 1 1000000000 copy told.said.least told.said.most (omega (arith, told.said.most)))
    (system_read systems system named_systems told.placed)
event_read law version subnets systems named_subnets named_systems standing (Settle count) told turn =
    step (count_line (decimal count ∷ [])) (λ n. Ok (Settle n)) count (Ok (Settle count))
    (count_of (decimal count) count (number_read 1 100000 count told.said.least told.said.most (omega (arith, told.said.most)))) refl
event_read law version subnets systems named_subnets named_systems standing (Lose count) told turn =
    step (count_line (decimal count ∷ [])) (λ n. Ok (Lose n)) count (Ok (Lose count))
    (count_of (decimal count) count (number_read 1 100000 count told.said.least told.said.most (omega (arith, told.said.most)))) refl
event_read law version subnets systems named_subnets named_systems standing (Tick count) told turn =
    all_tick_of (scene_of version subnets systems standing) (decimal count) count (number_read 1 65535 count told.said.least told.said.most (omega (arith, told.said.most)))
event_read law version subnets systems named_subnets named_systems standing (Restart system) told turn =
    restart_of (map name_of_system systems) (system_name (slice_get systems system)) system (system_read systems system named_systems told.placed)
event_read law version subnets systems named_subnets named_systems standing (Echo system from to body) told turn =
    echo_of (map name_of_system systems) (system_name (slice_get systems system)) (hex_text from) (hex_text to) (body_text body) system from to body
    (system_read systems system named_systems told.placed)
    (address_word_read law from told.formed.0) (address_word_read law to told.formed.1) (data_read body told.said)
event_read law version subnets systems named_subnets named_systems standing (Congest system on) told turn =
    congest_of (map name_of_system systems) systems (system_name (slice_get systems system)) (journal.on_or_off on) system on
    (router_read systems system named_systems told.placed told.congested) (on_read on)
event_read law version subnets systems named_subnets named_systems standing (Inject subnet from to octets) told turn =
    inject_of (map name_of_subnet subnets) (subnet_name (slice_get subnets subnet)) (hex_text from) (journal.target_text to) (hex_text octets) subnet from to octets
    (subnet_read subnets subnet named_subnets told.injected.placed)
    (address_word_read law from told.injected.sender) (target_word_read law to told.injected.target)
    (frame_word_read octets told.injected.bytes) told.injected.many.most
event_read law version subnets systems named_subnets named_systems standing (event.Mtu subnet mtu) told turn =
    let scene : Scene = scene_of version subnets systems standing in
    later_line scene (codes "mtu") (subnet_name (slice_get subnets subnet) ∷ decimal mtu ∷ []) (event.Mtu subnet mtu) turn.of_version
    (mtu_of scene (subnet_name (slice_get subnets subnet)) (decimal mtu) subnet mtu
    (subnet_read subnets subnet named_subnets told.changes) (mtu_digits mtu told.said) (mtu_read mtu told.said))
event_read law version subnets systems named_subnets named_systems standing (event.Route system route) told turn =
    let scene : Scene = scene_of version subnets systems standing in
    later_line scene (codes "route") (others_of subnets systems (event.Route system route)) (event.Route system route) turn.of_version
    (route_of scene (system_name (slice_get systems system)) (prefix_text route.prefix) (decimal route.port) (hex_text route.snpa) (hex_text route.title) system route
    (router_read systems system named_systems told.placed told.congested) (prefix_read route.prefix told.changes.prefix)
    (port_read systems system route.port told.placed told.changes.there told.said)
    (address_word_read law route.snpa told.changes.next.snpa) (address_word_read law route.title told.changes.next.title) turn.may)
event_read law version subnets systems named_subnets named_systems standing (event.Unroute system prefix) told turn =
    let scene : Scene = scene_of version subnets systems standing in
    later_line scene (codes "unroute") (others_of subnets systems (event.Unroute system prefix)) (event.Unroute system prefix) turn.of_version
    (unroute_of scene (system_name (slice_get systems system)) (prefix_text prefix) system prefix
    (router_read systems system named_systems told.placed told.congested) (prefix_read prefix told.changes))
event_read law version subnets systems named_subnets named_systems standing (event.TickSystem system count) told turn =
    one_ticks_of (scene_of version subnets systems standing) (system_name (slice_get systems system)) (decimal count) system count turn.of_version
    (system_read systems system named_systems told.placed) (number_read 1 65535 count told.said.least told.said.most (omega (arith, told.said.most))) turn.may
event_read law version subnets systems named_subnets named_systems standing (event.Port system number subnet snpa) told turn =
    let scene : Scene = scene_of version subnets systems standing in
    later_line scene (codes "port") (others_of subnets systems (event.Port system number subnet snpa)) (event.Port system number subnet snpa) turn.of_version
    (port_of scene (system_name (slice_get systems system)) (decimal number) (subnet_name (slice_get subnets subnet)) (hex_text snpa) system number subnet snpa
    (system_read systems system named_systems told.placed) (port_read systems system number told.placed told.changes.there told.said)
    (subnet_read subnets subnet named_subnets told.changes.placed) (address_word_read law snpa told.changes.address) turn.may.0 turn.may.1)

pub keyword_is_word : (event : Event) → IsWord (keyword_of event)
keyword_is_word (Send system from to body ask) = spelled (codes "send") refl
keyword_is_word (Deliver copy system) = spelled (codes "deliver") refl
keyword_is_word (Settle count) = spelled (codes "settle") refl
keyword_is_word (Lose count) = spelled (codes "lose") refl
keyword_is_word (Tick count) = spelled (codes "tick") refl
keyword_is_word (Restart system) = spelled (codes "restart") refl
keyword_is_word (Echo system from to body) = spelled (codes "echo") refl
keyword_is_word (Congest system on) = spelled (codes "congest") refl
keyword_is_word (Inject subnet from to octets) = spelled (codes "inject") refl
keyword_is_word (event.Mtu subnet mtu) = spelled (codes "mtu") refl
keyword_is_word (event.Route system route) = spelled (codes "route") refl
keyword_is_word (event.Unroute system prefix) = spelled (codes "unroute") refl
keyword_is_word (event.TickSystem system count) = spelled (codes "tick") refl
keyword_is_word (event.Port system number subnet snpa) = spelled (codes "port") refl

pub others_are_words : (subnets : List Subnetwork) (systems : List SystemConfiguration) → AreNamed name_of_subnet subnets → AreNamed name_of_system systems
    → (event : Event) → IsTold subnets systems event → AllByRecursion IsWord (others_of subnets systems event)
others_are_words subnets systems named_subnets named_systems (Send system from to body ask) told = (
  system_is_word systems system named_systems told.placed,
  (
    address_is_word from told.formed.source,
    (
      address_is_word to told.formed.destination,
      (data_is_word body told.said.0, ask_are_words ask told.said.1),
    ),
  ),
)
others_are_words subnets systems named_subnets named_systems (Deliver copy system) told =
    (decimal_is_word copy, (system_is_word systems system named_systems told.placed, tt))
others_are_words subnets systems named_subnets named_systems (Settle count) told = (decimal_is_word count, tt)
others_are_words subnets systems named_subnets named_systems (Lose count) told = (decimal_is_word count, tt)
others_are_words subnets systems named_subnets named_systems (Tick count) told = (decimal_is_word count, tt)
others_are_words subnets systems named_subnets named_systems (Restart system) told = (system_is_word systems system named_systems told.placed, tt)
others_are_words subnets systems named_subnets named_systems (Echo system from to body) told =
    (system_is_word systems system named_systems told.placed, (address_is_word from told.formed.0, (address_is_word to told.formed.1, (data_is_word body told.said, tt))))
others_are_words subnets systems named_subnets named_systems (Congest system on) told = (system_is_word systems system named_systems told.placed, (on_is_word on, tt))
others_are_words subnets systems named_subnets named_systems (Inject subnet from to octets) told = (
  subnet_is_word subnets subnet named_subnets told.injected.placed,
  (
    address_is_word from told.injected.sender,
    (
      target_is_word to told.injected.target,
      (hex_is_word octets told.injected.bytes (omega (arith, told.injected.many.least)), tt),
    ),
  ),
)
others_are_words subnets systems named_subnets named_systems (event.Mtu subnet mtu) told =
    (subnet_is_word subnets subnet named_subnets told.changes, (decimal_is_word mtu, tt))
others_are_words subnets systems named_subnets named_systems (event.Route system route) told = (
  system_is_word systems system named_systems told.placed,
  (
    prefix_is_word route.prefix told.changes.prefix,
    (
      decimal_is_word route.port,
      (address_is_word route.snpa told.changes.next.snpa, (address_is_word route.title told.changes.next.title, tt)),
    ),
  ),
)
others_are_words subnets systems named_subnets named_systems (event.Unroute system prefix) told =
    (system_is_word systems system named_systems told.placed, (prefix_is_word prefix told.changes, tt))
others_are_words subnets systems named_subnets named_systems (event.TickSystem system count) told =
    (system_is_word systems system named_systems told.placed, (decimal_is_word count, tt))
others_are_words subnets systems named_subnets named_systems (event.Port system number subnet snpa) told = (
  system_is_word systems system named_systems told.placed,
  (
    decimal_is_word number,
    (subnet_is_word subnets subnet named_subnets told.changes.placed, (address_is_word snpa told.changes.address, tt)),
  ),
)
