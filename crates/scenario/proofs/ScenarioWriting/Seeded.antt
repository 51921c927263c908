-- Scenarios of seeds: the first numbers that are picked, what is declared, and that each is fit to be run.
use Rattle.std.proofs.Common.{◌≡◌, ℕ, zero, suc, ◌+◌, ◌*◌, ◌/◌, ◌^◌, ◌-◌, ◌<◌, ◌≤◌, ◌==◌, nat_lt, List, [], ◌∷◌, ◌++◌, map, Option, None, Some, option_map, slice_get, refl, subst, Result, Ok, Err, MatchResult, codes, length, length-append, append_assoc, sym, ◌∙◌, arith}
use Rattle.std.specs.List.{AllByRecursion, sum}
use Rattle.std.proofs.lemmas.List.{append-nil}
use Rattle.std.proofs.lemmas.List.Sums.{sum_by-cons}
use Rattle.std.proofs.lemmas.Result.{IfOk-at_ok}
use Rattle.hex.specs.Hex.{IsBytes, decode_pairs}
use Rattle.clnp_plan.specs.Nsap.Address.{IsAddress}
use Rattle.clnp_plan.specs.Nsap.Text.{octets_of}
use Rattle.clnp_plan.proofs.ClnpBase.Lists.{AllByRecursion-append, AllByRecursion-implies}
use Rattle.clnp_plan.specs.Configuration.{IsWithin, SystemConfiguration}
use Rattle.clnp_plan.specs.declared.config.Role.TheVariants.{Host}
use Rattle.scenario.specs.Grammar.{BadLine as Bad, plan_of, plan_at, events_from}
use Rattle.scenario.specs.Declarations.{limits_line, subnet_line, room_word, setting_word, system_line, address_line, port_line, route_line, declaration_line}
use Rattle.clnp_plan.specs.ScenarioPlan.Plan.{Plan, IsFit, AsksFairly, AsksInForm, ChangesInForm, InjectsInForm, IsOfVersion1, IsPlaced, IsFromHost, IsOfRouter, IsSaid, passed_by, ticks_of, InjectsNothing, IsClosed}
use Rattle.scenario.specs.Refusal.{Refuses}
use Rattle.clnp_plan.specs.ScenarioPlan.Standing.{EachMayCome, MayCome, Standing, standing_after, standing_of}
use Rattle.scenario.specs.declared.fault.ScenarioRefusal.{ScenarioRefusal}
use Rattle.scenario.specs.declared.fault.ScenarioRefusal.TheVariants.{BadLine}
use Rattle.scenario.specs.ScenarioWriting.Seeds.{Drawn, next, only, pick, two_networks, address_in, address_of, place_of, usual_ask, a_send, an_echo, a_delivery, a_loss, some_ticks, restart_of_one, a_restart, event_of, one_or_two, round, rounds, storm_events, storm}
use Rattle.clnp_plan.specs.declared.scenario_plan.event.Body.TheVariants.{Pattern}
use Rattle.clnp_plan.specs.declared.scenario_plan.event.Event.{Event}
use Rattle.clnp_plan.specs.declared.scenario_plan.event.Event.TheVariants as event
use Rattle.clnp_plan.specs.declared.scenario_plan.event.Event.TheVariants.{Send, Deliver, Settle, Lose, Tick, Restart, Echo, Congest, Inject}
use Rattle.scenario.proofs.Asks.{none_fair}
use Rattle.scenario.proofs.Forms.{none_formed, pattern_octets}
use Rattle.scenario.proofs.Said.{no_bytes, no_options_said}
use Rattle.clnp_plan.proofs.ClnpBase.Choices.{one_of}
use Rattle.clnp_plan.proofs.ClnpBase.Sums.{sum_front}
use Rattle.scenario.proofs.Behind.{is_within}

-- The text of what is declared.
abbrev pub declared_text : List ℕ
declared_text = codes "clnp-sim 1\nlimits 40 20 60\nsubnet lan1 1500\nsubnet mid 512\nsubnet lan2 1024\nsystem a host life=32\nsystem b host life=32\nsystem r1 router life=32\nsystem r2 router life=32\nsystem c host life=32\nsystem d host life=32\naddress a 4700270101\naddress b 4700270102\naddress r1 47002701ff\naddress r2 47002702ff\naddress c 4700270201\naddress d 4700270202\nport a 0 lan1 01\nport b 0 lan1 02\nport r1 0 lan1 0a\nport r1 1 mid 0b\nport r2 0 mid 0c\nport r2 1 lan2 0d\nport c 0 lan2 03\nport d 0 lan2 04\nroute r1 47002702 1 0c 47002702ff\nroute r2 47002701 0 0b 47002701ff\nevents\nend\n"

pub declared_text_read : plan_of declared_text ≡ Ok (two_networks [])
unfolding decode_pairs octets_of plan_at events_from limits_line subnet_line room_word setting_word system_line address_line port_line route_line declaration_line
declared_text_read = refl

-- the 31 high bits that seeds 1 and 0 give first, and the kinds of their first rounds
first_of_one : next 1 / 2 ^ 33 ≡ 908834774
unfolding next
first_of_one = refl

first_kind_of_one : (pick 10 1).0 ≡ 4
unfolding next
first_kind_of_one = refl

first_of_zero : next 0 / 2 ^ 33 ≡ 167951807
unfolding next
first_of_zero = refl

first_kind_of_zero : (pick 10 0).0 ≡ 7
unfolding next
first_kind_of_zero = refl

-- ---- each is fit to be run

abbrev the_systems : List SystemConfiguration
the_systems = (two_networks []).systems

-- an event that two networks can have, with so many ticks at most that many of them are few
record IsGood (event : Event) : Type 0 where
  pub fair : AsksFairly event
  pub formed : AsksInForm event
  pub placed : IsPlaced 6 event
  pub sender : IsFromHost the_systems event
  pub congested : IsOfRouter the_systems event
  pub injected : InjectsInForm 3 event
  pub closed : InjectsNothing event
  pub said : IsSaid event
  pub first : IsOfVersion1 event
  pub ticks : ticks_of event ≤ 200

one_more_byte : (octet : ℕ) (octets : List ℕ) → octet < 256 → IsBytes octets → IsBytes (octet ∷ octets)
one_more_byte octet octets small bytes zero = small
one_more_byte octet octets small bytes (suc i) = bytes i

in_network : (network system : ℕ) → network < 256 → system < 256 → IsAddress (address_in network system)
in_network network system n s = record {
  some = omega arith;
  few = omega arith;
  bytes =
      one_more_byte 0x47 (0 ∷ 0x27 ∷ network ∷ system ∷ []) (omega arith)
      (one_more_byte 0 (0x27 ∷ network ∷ system ∷ []) (omega arith)
      (one_more_byte 0x27 (network ∷ system ∷ []) (omega arith)
      (one_more_byte network (system ∷ []) n
      (one_more_byte system [] s no_bytes))));
}

host_addressed : (number : ℕ) → IsAddress (address_of number)
host_addressed number =
    one_of IsAddress (number == 0) _ _ (in_network 1 1 (omega arith) (omega arith))
    (one_of IsAddress (number == 1) _ _ (in_network 1 2 (omega arith) (omega arith))
    (one_of IsAddress (number == 2) _ _ (in_network 2 1 (omega arith) (omega arith)) (in_network 2 2 (omega arith) (omega arith))))

-- the place of a host
record IsHostPlace (place : ℕ) : Type 0 where
  pub within : place < 6
  pub role : option_map (λ (system : SystemConfiguration). system.role) (slice_get the_systems place) ≡ Some Host

host_placed : (number : ℕ) → IsHostPlace (place_of number)
host_placed number =
    one_of IsHostPlace (number == 0) _ _ (record { within = omega arith; role = refl })
    (one_of IsHostPlace (number == 1) _ _ (record { within = omega arith; role = refl })
    (one_of IsHostPlace (number == 2) _ _ (record { within = omega arith; role = refl }) (record { within = omega arith; role = refl })))

send_good : (from to len start : ℕ) → len ≤ 70000 → start < 256 → IsGood (Send (place_of from) (address_of from) (address_of to) (Pattern len start) usual_ask)
send_good from to len start short small = record {
  fair = none_fair;
  formed = record { source = host_addressed from; destination = host_addressed to; lifetime = omega arith; options = none_formed };
  placed = (host_placed from).within;
  sender = (host_placed from).role;
  congested = tt;
  injected = tt;
  closed = tt;
  first = tt;
  said = ((short, small), record { life = is_within 1 255 32 (omega arith) (omega arith); options = no_options_said });
  ticks = omega arith;
}

echo_good : (from to len start : ℕ) → len ≤ 70000 → start < 256 → IsGood (Echo (place_of from) (address_of from) (address_of to) (Pattern len start))
echo_good from to len start short small = record {
  fair = tt;
  formed = (host_addressed from, host_addressed to, pattern_octets len start);
  placed = (host_placed from).within;
  sender = tt;
  congested = tt;
  injected = tt;
  closed = tt;
  first = tt;
  said = (short, small);
  ticks = omega arith;
}

delivery_good : (copy system : ℕ) → IsWithin 1 1000000000 copy → system < 6 → IsGood (Deliver copy system)
delivery_good copy system said h = record { fair = tt; formed = tt; placed = h; sender = tt; congested = tt; injected = tt; closed = tt; first = tt; said = said; ticks = omega arith }

restart_good : (system : ℕ) → system < 6 → IsGood (Restart system)
restart_good system h = record { fair = tt; formed = tt; placed = h; sender = tt; congested = tt; injected = tt; closed = tt; first = tt; said = tt; ticks = omega arith }

loss_good : (count : ℕ) → IsWithin 1 100000 count → IsGood (Lose count)
loss_good count said = record { fair = tt; formed = tt; placed = tt; sender = tt; congested = tt; injected = tt; closed = tt; first = tt; said = said; ticks = omega arith }

settle_good : (count : ℕ) → IsWithin 1 100000 count → IsGood (Settle count)
settle_good count said = record { fair = tt; formed = tt; placed = tt; sender = tt; congested = tt; injected = tt; closed = tt; first = tt; said = said; ticks = omega arith }

ticks_good : (count : ℕ) → 1 ≤ count → count ≤ 200 → IsGood (Tick count)
ticks_good count l h = record { fair = tt; formed = tt; placed = tt; sender = tt; congested = tt; injected = tt; closed = tt; first = tt; said = is_within 1 65535 count l (omega arith); ticks = h }

-- what is so of each event of version 1

old_changes : (subnets : ℕ) (systems : List SystemConfiguration) (event : Event) → IsOfVersion1 event → ChangesInForm subnets systems event
old_changes subnets systems (Send system from to body ask) first = tt
old_changes subnets systems (Deliver copy system) first = tt
old_changes subnets systems (Settle count) first = tt
old_changes subnets systems (Lose count) first = tt
old_changes subnets systems (Tick count) first = tt
old_changes subnets systems (Restart system) first = tt
old_changes subnets systems (Echo system from to body) first = tt
old_changes subnets systems (Congest system on) first = tt
old_changes subnets systems (Inject subnet from to octets) first = tt
old_changes subnets systems (event.Mtu subnet mtu) first = absurd first
old_changes subnets systems (event.Route system route) first = absurd first
old_changes subnets systems (event.Unroute system prefix) first = absurd first
old_changes subnets systems (event.TickSystem system count) first = absurd first
old_changes subnets systems (event.Port system number subnet snpa) first = absurd first

old_may_come : (standing : Standing) (event : Event) → IsOfVersion1 event → MayCome standing event
old_may_come standing (Send system from to body ask) first = tt
old_may_come standing (Deliver copy system) first = tt
old_may_come standing (Settle count) first = tt
old_may_come standing (Lose count) first = tt
old_may_come standing (Tick count) first = tt
old_may_come standing (Restart system) first = tt
old_may_come standing (Echo system from to body) first = tt
old_may_come standing (Congest system on) first = tt
old_may_come standing (Inject subnet from to octets) first = tt
old_may_come standing (event.Mtu subnet mtu) first = absurd first
old_may_come standing (event.Route system route) first = absurd first
old_may_come standing (event.Unroute system prefix) first = absurd first
old_may_come standing (event.TickSystem system count) first = absurd first
old_may_come standing (event.Port system number subnet snpa) first = absurd first

old_stand : (standing : Standing) (events : List Event) → AllByRecursion IsOfVersion1 events → EachMayCome standing events
old_stand standing [] first = tt
old_stand standing (event ∷ events) first = (old_may_come standing event first.0, old_stand (standing_after event standing) events first.1)

-- what is drawn at any state has this property
abbrev Draws : {A : Type 0} → (A → Type 0) → Drawn A → Type 0
Draws P drawn = (state : ℕ) → P (drawn state).0

-- an event of a round passes few copies
abbrev IsGoodIfAny : Option Event → Type 0
IsGoodIfAny None = Unit {0}
IsGoodIfAny (Some event) = IsGood event × (passed_by event ≤ 5)

restart_drawn : Draws IsGoodIfAny a_restart
restart_drawn state =
    one_of (Draws IsGoodIfAny) ((pick 8 state).0 == 0) restart_of_one (only None) (λ next. (restart_good _ (omega arith), omega arith)) (λ next. tt) (pick 8 state).1

send_drawn : Draws IsGoodIfAny a_send
send_drawn state =
    (send_good (pick 4 state).0 (pick 4 (pick 4 state).1).0 (pick 6000 (pick 4 (pick 4 state).1).1).0 (pick 256 (pick 6000 (pick 4 (pick 4 state).1).1).1).0 (omega arith) (omega arith), omega arith)

echo_drawn : Draws IsGoodIfAny an_echo
echo_drawn state =
    (echo_good (pick 4 state).0 (pick 4 (pick 4 state).1).0 (pick 600 (pick 4 (pick 4 state).1).1).0 (pick 256 (pick 600 (pick 4 (pick 4 state).1).1).1).0 (omega arith) (omega arith), omega arith)

event_good : (kind : ℕ) → Draws IsGoodIfAny (event_of kind)
unfolding event_of
event_good kind =
    one_of (Draws IsGoodIfAny) (nat_lt kind 5) a_send _ send_drawn
    (one_of (Draws IsGoodIfAny) (kind == 5) an_echo _ echo_drawn
    (one_of (Draws IsGoodIfAny) (kind == 6) a_delivery _ (λ state. (delivery_good _ _ (is_within 1 1000000000 _ (omega arith) (omega arith)) (omega arith), omega arith))
    (one_of (Draws IsGoodIfAny) (kind == 7) a_loss _ (λ state. (loss_good _ (is_within 1 100000 _ (omega arith) (omega arith)), omega arith))
    (one_of (Draws IsGoodIfAny) (kind == 8) some_ticks a_restart (λ state. (ticks_good _ (omega arith) (omega arith), omega arith)) restart_drawn))))

-- events that two networks can have, so many at most, which pass so many copies at most
record AreGood (most passes : ℕ) (events : List Event) : Type 0 where
  pub each : AllByRecursion IsGood events
  pub few : length events ≤ most
  pub passed : sum (map passed_by events) ≤ passes

one_or_two_good : (event : Option Event) (last : Event) → IsGoodIfAny event → IsGood last → passed_by last ≤ 30 → AreGood 2 35 (one_or_two event last)
one_or_two_good None last first good few = record {
  each = (good, tt);
  few = omega arith;
  passed = rw (sum_by-cons (λ x. x) (passed_by last) []) (omega arith);
}
one_or_two_good (Some event) last first good few = record {
  each = (first.0, (good, tt));
  few = omega arith;
  passed = rw (sum_by-cons (λ x. x) (passed_by event) (passed_by last ∷ []), sum_by-cons (λ x. x) (passed_by last) []) (omega (arith, first.1, few));
}

round_good : Draws (AreGood 2 35) round
unfolding round
round_good state = one_or_two_good _ _ (event_good _ _) (settle_good _ (is_within 1 100000 _ (omega arith) (omega arith))) (omega arith)

more_good : (m n p q : ℕ) (xs ys : List Event) → AreGood m p xs → AreGood n q ys → AreGood (m + n) (p + q) (xs ++ ys)
more_good m n p q xs ys f g = record {
  each = AllByRecursion-append IsGood xs ys f.each g.each;
  few = rw (length-append xs ys) (omega (arith, f.few, g.few));
  passed = rw (sum_front passed_by xs ys) (omega (arith, f.passed, g.passed));
}

rounds_good : (count : ℕ) → Draws (AreGood (2 * count) (35 * count)) (rounds count)
unfolding rounds
rounds_good zero state = record { each = tt; few = omega arith; passed = omega arith }
rounds_good (suc count) state =
    let both = more_good 2 (2 * count) 35 (35 * count) (round state).0 (rounds count (round state).1).0 (round_good state) (rounds_good count (round state).1) in
    record { each = both.each; few = omega (arith, both.few); passed = omega (arith, both.passed) }

storm_good : (seed : ℕ) → AreGood 605 210540 (storm_events seed)
storm_good seed =
    more_good 2 603 40 210500 (Tick 1 ∷ Settle 40 ∷ []) _
    (record { each = (ticks_good 1 (omega arith) (omega arith), (settle_good 40 (is_within 1 100000 40 (omega arith) (omega arith)), tt)); few = omega arith; passed = omega arith })
    (more_good 600 3 10500 200000 (rounds 300 seed).0 _ (rounds_good 300 seed)
    (record {
      each = (settle_good 100000 all, (ticks_good 200 (omega arith) (omega arith), (settle_good 100000 all, tt)));
      few = omega arith;
      passed = omega arith;
    }))
  where
    all : IsWithin 1 100000 100000
    all = is_within 1 100000 100000 (omega arith) (omega arith)

few_ticks : (events : List Event) → AllByRecursion IsGood events → sum (map ticks_of events) ≤ 200 * length events
few_ticks [] good = omega arith
few_ticks (event ∷ events) good =
    rw (sum_by-cons (λ x. x) (ticks_of event) (map ticks_of events)) (omega (arith, good.0.ticks, few_ticks events good.1))

pub storm_fit : (seed : ℕ) → IsFit (two_networks []) → IsFit (storm seed)
storm_fit seed fit =
    let good : AreGood 605 210540 (storm_events seed) = storm_good seed in
    record {
      version = fit.version;
      limits = fit.limits;
      together = fit.together;
      systems = fit.systems;
      subnet_names = fit.subnet_names;
      system_names = fit.system_names;
      few_subnets = fit.few_subnets;
      few_systems = fit.few_systems;
      mtus = fit.mtus;
      snpas = fit.snpas;
      ports = fit.ports;
      addresses = fit.addresses;
      each_address = fit.each_address;
      named_subnets = fit.named_subnets;
      named_systems = fit.named_systems;
      different = fit.different;
      prefixes = fit.prefixes;
      ticks = omega (arith, few_ticks (storm_events seed) good.each, good.few);
      asks = AllByRecursion-implies IsGood AsksFairly (λ event is. is.fair) (storm_events seed) good.each;
      formed = AllByRecursion-implies IsGood AsksInForm (λ event is. is.formed) (storm_events seed) good.each;
      places = AllByRecursion-implies IsGood (IsPlaced 6) (λ event is. is.placed) (storm_events seed) good.each;
      senders = AllByRecursion-implies IsGood (IsFromHost the_systems) (λ event is. is.sender) (storm_events seed) good.each;
      congested = AllByRecursion-implies IsGood (IsOfRouter the_systems) (λ event is. is.congested) (storm_events seed) good.each;
      injected = AllByRecursion-implies IsGood (InjectsInForm 3) (λ event is. is.injected) (storm_events seed) good.each;
      of_version = λ _. AllByRecursion-implies IsGood IsOfVersion1 (λ event is. is.first) (storm_events seed) good.each;
      changes = AllByRecursion-implies IsGood (ChangesInForm 3 the_systems) (λ event is. old_changes 3 the_systems event is.first) (storm_events seed) good.each;
      stand = old_stand (standing_of 0 the_systems) (storm_events seed) (AllByRecursion-implies IsGood IsOfVersion1 (λ event is. is.first) (storm_events seed) good.each);
      said = AllByRecursion-implies IsGood IsSaid (λ event is. is.said) (storm_events seed) good.each;
      few_events = omega (arith, good.few);
      passed = omega (arith, good.passed);
    }

-- no frame comes from outside in a storm
pub storm_closed : (seed : ℕ) → IsClosed (storm seed)
storm_closed seed = AllByRecursion-implies IsGood InjectsNothing (λ event is. is.closed) (storm_events seed) (storm_good seed).each

-- the parts of two networks and the events of a storm
pub parts_fit : (seed : ℕ) (networks : Plan) (events : List Event) → networks ≡ two_networks [] → events ≡ storm_events seed → IsFit networks
    → IsFit (record { version = networks.version; limits = networks.limits; subnets = networks.subnets; systems = networks.systems; events = events })
parts_fit seed networks events networks_are events_are fit =
    rw (networks_are, events_are) (storm_fit seed (subst IsFit networks_are fit))

-- ---- as the code has it

abbrev IsRead : Result Plan Bad → Type 0
IsRead (Ok plan) = Unit {0}
IsRead (Err bad) = ⊥

-- what the code reads is what the grammar reads
abbrev Agrees : Result Plan Bad → Result Plan ScenarioRefusal → Type 0
Agrees reading read = MatchResult read (λ plan. reading ≡ Ok plan) (λ refusal. Refuses refusal reading)

-- what is read isn't refused
pub never_refused : (reading : Result Plan Bad) (plan : Plan) → reading ≡ Ok plan → (read : Result Plan ScenarioRefusal) (refusal : ScenarioRefusal) (line code : ℕ)
    → read ≡ Err refusal → refusal ≡ BadLine line code → Agrees reading read → ⊥
never_refused reading plan is read refusal line code refused bad agrees =
    let bad_line : Refuses (BadLine line code) reading = subst (λ r. Refuses r reading) bad (subst (Agrees reading) refused agrees) in
    subst IsRead (sym is ∙ bad_line) tt

pub read_is : (reading : Result Plan Bad) (plan : Plan) → reading ≡ Ok plan → (read : Result Plan ScenarioRefusal) (found : Plan)
    → read ≡ Ok found → Agrees reading read → found ≡ plan
read_is reading plan is read found given agrees =
    let same : Ok plan ≡ Ok found = sym is ∙ subst (Agrees reading) given agrees in
    IfOk-at_ok (λ p. p ≡ plan) same refl

-- one round more
pub goes_on : (count state : ℕ) (front all : List Event) → count < 300
    → front ++ (rounds (300 - count) state).0 ≡ all
    → (front ++ (round state).0) ++ (rounds (300 - (count + 1)) (round state).1).0 ≡ all
unfolding rounds
goes_on count state front all h is =
    let left : ℕ = 300 - (count + 1) in
    let more : 300 - count ≡ suc left = omega (arith, h) in
    append_assoc front (round state).0 (rounds left (round state).1).0 ∙ (rw more at is)

-- the last round
pub all_done : (count state : ℕ) (front all : List Event) → count ≡ 300
    → front ++ (rounds (300 - count) state).0 ≡ all → front ≡ all
unfolding rounds
all_done count state front all end is =
    let none_left : 300 - count ≡ 0 = omega (arith, end) in
    sym (append-nil front) ∙ (rw none_left at is)

pub and_then : (seed : ℕ) (front : List Event) → front ≡ Tick 1 ∷ Settle 40 ∷ (rounds 300 seed).0
    → ((front ++ Settle 100000 ∷ []) ++ Tick 200 ∷ []) ++ Settle 100000 ∷ [] ≡ storm_events seed
and_then seed front is = rw is (simp append_assoc)
