-- A system sends no ES-IS PDU but its own hello and redirects, which PDUs can carry.
use Rattle.std.proofs.Common.{◌≡◌, ◌∙◌, refl, sym, ap, subst, ℕ, ◌+◌, ◌*◌, ◌≤◌, inl, inr, Bool, true, false, List, [], ◌∷◌, ◌++◌, length, length-append, Option, None, Some, All, arith}
use Rattle.std.specs.Prelude.{◌==◌, ◌&&◌, ◌||◌, not, min, nat_le, is_none, if◌then◌else◌, slice_get, option_map}
use Rattle.std.specs.Option.{option_or}
use Rattle.std.specs.List.{AllByRecursion, flat_map, list_any, range_with_len}
use Rattle.std.proofs.lemmas.List.Elements.{recursion_from_All}
use Rattle.clnp_plan.proofs.ClnpBase.Lists.{AllByRecursion-append, AllByRecursion-contains, AllByRecursion-implies, AllByRecursion-map_any}
use Rattle.clnp_plan.specs.Nsap.Address.{IsAddress}
use Rattle.clnp_plan.specs.ClnpOptions.Edits.{target_of}
use Rattle.clnp_plan.specs.ClnpOptions.Grammar.{joined}
use Rattle.pdus.specs.declared.esis_pdus.pdu.EsisBody.{EsisBody}
use Rattle.pdus.specs.declared.esis_pdus.pdu.EsisBody.TheVariants as body
use Rattle.pdus.specs.declared.esis_pdus.pdu.EsisBody.TheVariants.{Esh, Ish}
use Rattle.pdus.specs.EsisPdus.Grammar.{HasAddresses, IsPdu, IsTitleOrNone}
use Rattle.pdus.specs.EsisPdus.Value.{EsisValue, suggested}
use Rattle.pdus.proofs.EsisPdus.Made.{esh_pdu, esh_size, ish_pdu, rd_pdu}
use Rattle.clnp_plan.specs.SystemTables.declared.forwarding.route.Route.{Route}
use Rattle.clnp_plan.specs.Forwarding.Longest.{IsLongest, longest}
use Rattle.clnp_plan.specs.SystemTables.declared.esis_tables.fact.Neighbour.{Neighbour}
use Rattle.clnp_plan.specs.SystemTables.declared.esis_tables.fact.TableKind.{TableKind}
use Rattle.clnp_plan.specs.SystemTables.declared.esis_tables.fact.TableKind.TheVariants.{Es, Is, Rd}
use Rattle.clnp_plan.specs.EsisTables.Fact.{Fact, answer, is_about, is_held, is_noted, last_of, while_held}
use Rattle.clnp_plan.specs.EsisTables.Gone.{gone}
use Rattle.clnp_plan.specs.EsisTables.NextHop.{current_neighbour, is_router, neighbour_of}
use Rattle.clnp_plan.specs.Pdus.declared.nsap.target.Target.TheVariants.{System}
use Rattle.clnp_plan.specs.Pdus.declared.pdu_header.kind.Kind.TheVariants.{Dt, Erq}
use Rattle.clnp_plan.specs.Configuration.{HasItsAddresses, IsAddressedRoute, IsSystem, SystemConfiguration}
use Rattle.clnp_plan.specs.declared.note.Note.TheVariants.{Ignored}
use Rattle.clnp_plan.specs.declared.config.Role.{Role}
use Rattle.clnp_plan.specs.declared.config.Role.TheVariants.{Host, Router}
use Rattle.clnp_machine.specs.Unit.{Packet}
use Rattle.clnp_machine.specs.Content.{Content, Esis, IsCarried, Labelled, Unlabelled}
use Rattle.clnp_machine.specs.System.{SystemState, Input, AsksToSend, AsksForEcho, FrameComes, MomentComes, IsRestarted, IsCongested, IsChanged, Output, Transmits, SendsEsis, Notes, Effect, gives, idles, then_does}
use Rattle.clnp_machine.specs.Esis.{answers_new, end_system_heard, esis_heard, esis_limits, first_of, follows, forgets, gone_note, heard_now, hearers, hears, hears_each, hello_everywhere, holding_time, intermediate_system_heard, is_silent, own_hello, redirect, redirect_heard, says_hello, tells_new, tells_of_itself, wish}
use Rattle.clnp_machine.specs.Local.{Action, discard, echo_ask, make, receive, requests_echo, tick}
use Rattle.clnp_machine.specs.Step.{Way, by_route, content_comes, hop_by, is_asked_for, octets_come, options_behind, outputs_of, packet_comes, redirects, responds, step, to_neighbour, towards, transmissions, way_of}
use Rattle.clnp_machine.specs.EveryStep.{IsFair, IsItsOwn, KnowsAddresses, SendsEsisPdus, SendsItsOwn, sends_esis, sends_frame}
use Rattle.clnp_machine.proofs.Answering.{deeds_silent, hears_notes, redirect_notes}
use Rattle.clnp_machine.proofs.Behind.{first_is}
use Rattle.clnp_machine.proofs.Deeds.{make_is, octets_are, packet_is, tick_is}
use Rattle.clnp_machine.proofs.Passing.{packet_does, redirects_are}
use Rattle.clnp_machine.proofs.Hellos.{only_hears_each, hello_is, said, same_hello}
use Rattle.clnp_plan.proofs.ClnpBase.Choices.{one_of}

-- where a source route leads to no title a packet is sent towards its destination
no_title : (destination : List ℕ) (title : Option (List ℕ)) → is_none title ≡ true → towards destination title ≡ destination
no_title destination None none = refl
no_title destination (Some title) none = absurd (cc)

-- What holds of a system's own hello, and of the redirect that may follow a packet, holds of each ES-IS value that is sent.

abbrev pub SendsSuch : (EsisValue → Type 0) → Output → Type 0
SendsSuch Q (SendsEsis port target value) = Q value
SendsSuch Q _ = Unit {0}

-- the redirect that may follow a packet that comes is such
abbrev pub RedirectsSuch : (EsisValue → Type 0) → SystemState → Content → Type 0
RedirectsSuch Q s (Labelled p following) =
    (way : Way) → s.configuration.role ≡ Router → way_of s p.unit.destination ≡ Some way → Q (redirect s p.unit.destination way.neighbour.snpa way.title)
RedirectsSuch Q s _ = Unit {0}

abbrev pub ComesSuch : (EsisValue → Type 0) → SystemState → Input → Type 0
ComesSuch Q s (FrameComes port sender to_group content) = RedirectsSuch Q s content
ComesSuch Q s _ = Unit {0}

module _ (Q : EsisValue → Type 0) (s : SystemState) (own : (seconds : ℕ) → Q (own_hello (record s { hello = seconds }))) where
  abbrev SendsIts : List Output → Type 0
  SendsIts outputs = AllByRecursion (SendsSuch Q) outputs

  silent_its : (output : Output) → sends_esis output ≡ false → SendsSuch Q output
  silent_its (Transmits port target packet) silent = tt
  silent_its (SendsEsis port target value) silent = absurd (cc)
  silent_its (Notes note) silent = tt

  noted_its : (output : Output) → sends_frame output ≡ false → SendsSuch Q output
  noted_its (Transmits port target packet) silent = tt
  noted_its (SendsEsis port target value) silent = absurd (cc)
  noted_its (Notes note) silent = tt

  deeds_its : (t : SystemState) (actions : List Action) → SendsIts (flat_map (outputs_of t) actions)
  deeds_its t actions =
      AllByRecursion-implies (λ output. sends_esis output ≡ false) (SendsSuch Q) silent_its (flat_map (outputs_of t) actions) (deeds_silent t actions)

  hears_its : (t : SystemState) (addresses : List (List ℕ)) (neighbour : Neighbour) (holding : ℕ) → SendsIts (hears_each t addresses neighbour holding).outputs
  hears_its t addresses neighbour holding =
      AllByRecursion-implies (λ output. sends_frame output ≡ false) (SendsSuch Q) noted_its (hears_each t addresses neighbour holding).outputs
      (hears_notes t addresses neighbour holding)

  its_hello : (t : SystemState) → t.configuration ≡ s.configuration → Q (own_hello t)
  its_hello t same = subst Q (sym (same_hello (record s { hello = t.hello }) t same refl)) (own t.hello)

  one_its : (test : Bool) (first second : Effect) → SendsIts first.outputs → SendsIts second.outputs → SendsIts (if test then first else second).outputs
  one_its test first second h k = one_of (λ (effect : Effect). SendsIts effect.outputs) test first second h k

  told_its : (t : SystemState) (port : ℕ) (snpa : List ℕ) → t.configuration ≡ s.configuration → SendsIts (tells_of_itself t port snpa).outputs
  told_its t port snpa same = one_its (is_silent t) (idles t) _ tt (its_hello t same, tt)

  says_its : (t : SystemState) → t.configuration ≡ s.configuration → SendsIts (says_hello t).outputs
  says_its t same =
      one_its (not (is_silent t) && nat_le t.next_hello t.moment) _ (idles t)
      (AllByRecursion-map_any (SendsSuch Q) (λ port. SendsEsis port (hearers t.configuration.role) (own_hello t))
      (range_with_len 0 (length t.attached.ports)) (λ port. its_hello t same))
      tt

  answers_its : (heard : Effect) (neighbour : Neighbour) → heard.after.configuration ≡ s.configuration → SendsIts heard.outputs → SendsIts (answers_new heard neighbour).outputs
  answers_its heard neighbour same h =
      let t = heard.after in
      AllByRecursion-append (SendsSuch Q) heard.outputs (if list_any tells_new heard.outputs then tells_of_itself t neighbour.port neighbour.snpa else idles t).outputs h
      (one_its (list_any tells_new heard.outputs) _ _ (told_its t neighbour.port neighbour.snpa same) tt)

  end_system_its : (role : Role) (neighbour : Neighbour) (holding : ℕ) (addresses : List (List ℕ)) → SendsIts (end_system_heard role s neighbour holding addresses).outputs
  end_system_its Host neighbour holding addresses = hears_its s addresses neighbour holding
  end_system_its Router neighbour holding addresses =
      answers_its (hears_each s addresses neighbour holding) neighbour (only_hears_each s addresses neighbour holding).rest.configuration (hears_its s addresses neighbour holding)

  intermediate_system_its : (role : Role) (neighbour : Neighbour) (holding : ℕ) (title : List ℕ) (timer : Option ℕ)
      → SendsIts (intermediate_system_heard role s neighbour holding title timer).outputs
  intermediate_system_its Host neighbour holding title timer =
      let heard = hears s Is title neighbour holding in
      AllByRecursion-append (SendsSuch Q) (answers_new heard neighbour).outputs [] (answers_its heard neighbour refl (tt, tt)) tt
  intermediate_system_its Router neighbour holding title timer = (tt, tt)

  heard_its : (role : Role) (neighbour : Neighbour) (holding : ℕ) (body : EsisBody) (timer : Option ℕ) → SendsIts (esis_heard role s neighbour holding body timer).outputs
  heard_its role neighbour holding (Esh addresses) timer = end_system_its role neighbour holding addresses
  heard_its role neighbour holding (Ish title) timer = intermediate_system_its role neighbour holding title timer
  heard_its role neighbour holding (body.Rd to via title) timer =
      AllByRecursion-implies (λ output. sends_frame output ≡ false) (SendsSuch Q) noted_its (redirect_heard role s neighbour holding to via).outputs
      (redirect_notes role s neighbour holding to via)

  packet_its : (came : Neighbour) (p : Packet) (following : List ℕ) → RedirectsSuch Q s (Labelled p following) → SendsIts (packet_comes s came p following).outputs
  packet_its came p following such =
      packet_does (λ effect. SendsIts effect.outputs) s came p following
      (λ reason of_none. deeds_its (discard s (Labelled p following) reason 0).after (discard s (Labelled p following) reason 0).actions)
      (λ router way port pieces there alive gives known.
      let options = options_behind s p.options in
      AllByRecursion-append (SendsSuch Q) (transmissions (hop_by way) (Some pieces)) (redirects s came p options way)
      (AllByRecursion-map_any (SendsSuch Q) (λ piece. Transmits way.neighbour.port (System way.neighbour.snpa) piece) pieces (λ piece. tt))
      (redirects_are (SendsSuch Q) s came p options way
      (λ none. such way router (ap (way_of s) (sym (no_title p.unit.destination (target_of options) none)) ∙ known.known))))
      (tt, tt) (λ mine. deeds_its (receive s p following).after (receive s p following).actions)

  content_its : (neighbour : Neighbour) (to_group : Bool) (content : Content) → RedirectsSuch Q s content → SendsIts (content_comes s neighbour to_group content).outputs
  content_its neighbour to_group (Labelled p following) such =
      let come = packet_comes s neighbour p following in
      let t = come.after in
      AllByRecursion-append (SendsSuch Q) come.outputs (responds t neighbour to_group p).outputs (packet_its neighbour p following such)
      (one_its (is_asked_for t.configuration.role t to_group p) _ _ (told_its t neighbour.port neighbour.snpa (packet_is s neighbour p following).itself.configuration) tt)
  content_its neighbour to_group (Esis value following) such =
      heard_its s.configuration.role neighbour value.holding value.body (suggested value.body value.options)
  content_its neighbour to_group (Unlabelled octets) such = deeds_its (octets_come s octets).after (octets_come s octets).actions

  pub step_its : (input : Input) → ComesSuch Q s input → SendsIts (step s input).outputs
  step_its (AsksToSend from to octets ask) such = deeds_its (make s Dt from to octets ask).after (make s Dt from to octets ask).actions
  step_its (AsksForEcho from to octets) such = deeds_its (requests_echo s from to octets).after (requests_echo s from to octets).actions
  step_its (FrameComes port sender to_group content) such = content_its (record { port = port; snpa = sender }) to_group content such
  step_its (MomentComes now) such =
      let deed = tick s now in
      let t = deed.after in
      let u = (forgets s.moment t).after in
      AllByRecursion-append (SendsSuch Q) (flat_map (outputs_of t) deed.actions) (then_does (forgets s.moment t) says_hello).outputs (deeds_its t deed.actions)
      (AllByRecursion-append (SendsSuch Q) (forgets s.moment t).outputs (says_hello u).outputs
      (AllByRecursion-map_any (SendsSuch Q) gone_note (gone s.moment t.moment t.facts) (λ key. tt))
      (says_its u (tick_is s now).itself.configuration))
  step_its IsRestarted such = (tt, tt)
  step_its (IsCongested on) such = (tt, tt)
  step_its (IsChanged change) such = tt

-- Its own hello is one that a PDU can carry.

joined_size : (addresses : List (List ℕ)) → AllByRecursion IsAddress addresses → length (joined addresses) ≤ 21 * length addresses
unfolding joined
joined_size [] each = omega arith
joined_size (address ∷ others) each =
    let one : length address ≤ 20 = each.0.few in
    let more = joined_size others each.1 in
    let all = length-append (length address ∷ address) (joined others) in
    omega arith

host_fits : (addresses : List (List ℕ)) → length addresses ≤ 8 → All IsAddress addresses → 10 + length (joined addresses) ≤ 254
host_fits addresses few each =
    let most = joined_size addresses (recursion_from_All IsAddress addresses each) in
    omega arith

pub said_pdu : (role : Role) (c : SystemConfiguration) (seconds : ℕ) → HasItsAddresses role c.addresses → All IsAddress c.addresses → IsPdu (said role c seconds)
said_pdu Host c seconds some each =
    let few : length c.addresses ≤ 8 = some.most in
    let fits = host_fits c.addresses few each in
    let size = esh_size c.addresses in
    esh_pdu (holding_time seconds) c.settings.sealed c.addresses (omega arith) each (omega arith)
said_pdu Router c seconds one each =
    ish_pdu (holding_time seconds) c.settings.sealed (first_of (slice_get c.addresses 0)) (wish c.settings.suggest) (omega arith) (first_is c.addresses one each)

pub hello_pdu : (s : SystemState) → IsSystem s.configuration → All IsAddress s.configuration.addresses → IsPdu (own_hello s)
hello_pdu s is each = subst IsPdu (sym (hello_is s)) (said_pdu s.configuration.role s.configuration s.hello is.addresses each)

-- Each is the system's own hello, or a redirect of its.

redirects_its : (s : SystemState) (content : Content) → RedirectsSuch (IsItsOwn s) s content
redirects_its s (Labelled p following) = λ way router known. inr (router, (p.unit.destination, way.neighbour.snpa, way.title, refl))
redirects_its s (Esis value following) = tt
redirects_its s (Unlabelled octets) = tt

comes_its : (s : SystemState) (input : Input) → ComesSuch (IsItsOwn s) s input
comes_its s (AsksToSend from to octets ask) = tt
comes_its s (AsksForEcho from to octets) = tt
comes_its s (FrameComes port sender to_group content) = redirects_its s content
comes_its s (MomentComes now) = tt
comes_its s IsRestarted = tt
comes_its s (IsCongested on) = tt
comes_its s (IsChanged change) = tt

sends_own : (s : SystemState) (output : Output) → SendsSuch (IsItsOwn s) output → SendsItsOwn s output
sends_own s (Transmits port target packet) h = tt
sends_own s (SendsEsis port target value) h = h
sends_own s (Notes note) h = tt

pub step_own : (s : SystemState) (input : Input) → AllByRecursion (SendsItsOwn s) (step s input).outputs
step_own s input =
    AllByRecursion-implies (SendsSuch (IsItsOwn s)) (SendsItsOwn s) (sends_own s) (step s input).outputs
    (step_its (IsItsOwn s) s (λ seconds. inl (seconds, refl)) input (comes_its s input))

-- Each is one that a PDU can carry: the next system on each way has an address, and a title that is one.

abbrev LongestIsThere : Type 0
LongestIsThere = (address : List ℕ) (routes : List Route) (route : Route) → longest address routes ≡ Some route → IsLongest address routes route

-- of a fact and what was found behind it
last_one : (P : Fact → Type 0) (fact found : Fact) (test : Bool) (behind : Option Fact) → P fact → (behind ≡ Some found → P found)
    → option_or behind (if test then Some fact else None) ≡ Some found → P found
last_one P fact found true None h later e = let same : fact ≡ found = cc in subst P same h
last_one P fact found false None h later e = absurd (cc)
last_one P fact found test (Some other) h later e = later e

last_is : (P : Fact → Type 0) (table : TableKind) (key : List ℕ) (facts : List Fact) → AllByRecursion P facts → (found : Fact)
    → last_of table key facts ≡ Some found → P found
last_is P table key [] all found e = absurd (cc)
last_is P table key (fact ∷ later) all found e =
    last_one P fact found (is_about table key fact) (last_of table key later) all.0 (last_is P table key later all.1 found) e

current_is : (P : Fact → Type 0) (now : ℕ) (found : Option Fact) → ((fact : Fact) → found ≡ Some fact → P fact) → (neighbour : Neighbour)
    → option_map neighbour_of (while_held now found) ≡ Some neighbour → (fact : Fact) × P fact × (neighbour_of fact ≡ neighbour)
current_is P now None each neighbour e = absurd (cc)
current_is P now (Some fact) each neighbour e = go (is_held now fact) e
  where
    go : (test : Bool) → option_map neighbour_of (if test then Some fact else None) ≡ Some neighbour → (fact : Fact) × P fact × (neighbour_of fact ≡ neighbour)
    go true h = (fact, each fact refl, cc)
    go false h = absurd (cc)

module _ (s : SystemState) (next : AllByRecursion IsAddressedRoute s.attached.routes) (knows : KnowsAddresses s) (law : LongestIsThere) where
  neighbour_addressed : (to : List ℕ) (neighbour : Neighbour) → current_neighbour s.moment Es to s.facts ≡ Some neighbour → IsAddress neighbour.snpa
  neighbour_addressed to neighbour e =
      let found = current_is (λ (fact : Fact). IsAddress fact.neighbour.snpa) s.moment (last_of Es to s.facts)
      (λ fact there. last_is (λ (fact : Fact). IsAddress fact.neighbour.snpa) Es to s.facts knows fact there) neighbour e in
      subst (λ (p : Neighbour). IsAddress p.snpa) found.2 found.1

  route_addressed : (to : List ℕ) (route : Route) → longest to s.attached.routes ≡ Some route → IsAddressedRoute route
  route_addressed to route e = AllByRecursion-contains IsAddressedRoute s.attached.routes route (law to s.attached.routes route e).within next

  pub way_addressed : (to : List ℕ) (way : Way) → way_of s to ≡ Some way → IsAddress way.neighbour.snpa × IsTitleOrNone way.title
  way_addressed to way e = go (current_neighbour s.moment Es to s.facts) refl (longest to s.attached.routes) refl e
    where
      go : (near : Option Neighbour) → current_neighbour s.moment Es to s.facts ≡ near → (far : Option Route) → longest to s.attached.routes ≡ far
          → option_or (option_map to_neighbour near) (option_map by_route far) ≡ Some way → IsAddress way.neighbour.snpa × IsTitleOrNone way.title
      go (Some neighbour) there far found h =
          let same : to_neighbour neighbour ≡ way = cc in
          subst (λ (w : Way). IsAddress w.neighbour.snpa × IsTitleOrNone w.title) same (neighbour_addressed to neighbour there, tt)
      go None there (Some route) found h =
          let both = route_addressed to route found in
          let same : by_route route ≡ way = cc in
          subst (λ (w : Way). IsAddress w.neighbour.snpa × IsTitleOrNone w.title) same (both.snpa, both.title)
      go None there None found h = absurd (cc)

  module _ (system : IsSystem s.configuration) (each : All IsAddress s.configuration.addresses) where
    redirect_is_pdu : (to : List ℕ) (way : Way) → IsAddress to → way_of s to ≡ Some way → IsPdu (redirect s to way.neighbour.snpa way.title)
    redirect_is_pdu to way address known =
        let both = way_addressed to way known in
        let most : s.configuration.settings.rhold ≤ 65535 = system.settings.rhold.most in
        rd_pdu s.configuration.settings.rhold s.configuration.settings.sealed to way.neighbour.snpa way.title (omega arith) address both.0 both.1

    redirects_pdus : (content : Content) → IsCarried content → RedirectsSuch IsPdu s content
    redirects_pdus (Labelled p following) carried = λ way router known. redirect_is_pdu p.unit.destination way carried.pdu.destination known
    redirects_pdus (Esis value following) carried = tt
    redirects_pdus (Unlabelled octets) carried = tt

    comes_pdus : (input : Input) → IsFair input → ComesSuch IsPdu s input
    comes_pdus (AsksToSend from to octets ask) fair = tt
    comes_pdus (AsksForEcho from to octets) fair = tt
    comes_pdus (FrameComes port sender to_group content) fair = redirects_pdus content fair.1
    comes_pdus (MomentComes now) fair = tt
    comes_pdus IsRestarted fair = tt
    comes_pdus (IsCongested on) fair = tt
    comes_pdus (IsChanged change) fair = tt

    such_pdus : (output : Output) → SendsSuch IsPdu output → SendsEsisPdus output
    such_pdus (Transmits port target packet) h = tt
    such_pdus (SendsEsis port target value) h = h
    such_pdus (Notes note) h = tt

    pub step_pdus : (input : Input) → IsFair input → AllByRecursion SendsEsisPdus (step s input).outputs
    step_pdus input fair =
        AllByRecursion-implies (SendsSuch IsPdu) SendsEsisPdus such_pdus (step s input).outputs
        (step_its IsPdu s (λ seconds. hello_pdu (record s { hello = seconds }) system each) input (comes_pdus input fair))

-- What a system heard of stays at addresses.

abbrev AtAddresses : List Fact → Type 0
AtAddresses facts = AllByRecursion (λ (fact : Fact). IsAddress fact.neighbour.snpa) facts

one_known : (test : Bool) (facts : List Fact) (fact : Fact) → AtAddresses facts → IsAddress fact.neighbour.snpa
    → AtAddresses (if test then facts ++ fact ∷ [] else facts)
one_known true facts fact knows address = AllByRecursion-append (λ (fact : Fact). IsAddress fact.neighbour.snpa) facts (fact ∷ []) knows (address, tt)
one_known false facts fact knows address = knows

hears_known : (s : SystemState) (table : TableKind) (key : List ℕ) (neighbour : Neighbour) (holding : ℕ) → KnowsAddresses s → IsAddress neighbour.snpa
    → KnowsAddresses (hears s table key neighbour holding).after
hears_known s table key neighbour holding knows address =
    let fact = heard_now s table key neighbour holding in
    one_known (is_noted (answer (esis_limits s) fact s.facts)) s.facts fact knows address

hears_each_known : (s : SystemState) (addresses : List (List ℕ)) (neighbour : Neighbour) (holding : ℕ) → KnowsAddresses s → IsAddress neighbour.snpa
    → KnowsAddresses (hears_each s addresses neighbour holding).after
hears_each_known s [] neighbour holding knows address = knows
hears_each_known s (first ∷ others) neighbour holding knows address =
    hears_each_known (hears s Es first neighbour holding).after others neighbour holding (hears_known s Es first neighbour holding knows address) address

told_known : (t : SystemState) (test : Bool) (port : ℕ) (snpa : List ℕ) → KnowsAddresses t
    → KnowsAddresses (if test then tells_of_itself t port snpa else idles t).after
told_known t true port snpa knows = go (is_silent t)
  where
    go : (silent : Bool) → KnowsAddresses (if silent then idles t else gives t (SendsEsis port (System snpa) (own_hello t) ∷ [])).after
    go true = knows
    go false = knows
told_known t false port snpa knows = knows

follows_known : (s : SystemState) (timer : Option ℕ) → KnowsAddresses s → KnowsAddresses (follows s timer)
follows_known s None knows = knows
follows_known s (Some seconds) knows = go (seconds == 0 || is_silent s)
  where
    go : (test : Bool)
        → KnowsAddresses (if test then s else record s { hello = seconds; next_hello = min s.next_hello (s.moment + 2 * seconds) })
    go true = knows
    go false = knows

redirect_known : (role : Role) (s : SystemState) (neighbour : Neighbour) (holding : ℕ) (to via : List ℕ) → KnowsAddresses s → IsAddress via
    → KnowsAddresses (redirect_heard role s neighbour holding to via).after
redirect_known Host s neighbour holding to via knows address = go (is_router s.moment neighbour.snpa s.facts)
  where
    better : Neighbour
    better = record { port = neighbour.port; snpa = via }

    go : (test : Bool) → KnowsAddresses (if test then hears s Rd to better holding else gives s (Notes (Ignored true) ∷ [])).after
    go true = hears_known s Rd to better holding knows address
    go false = knows
redirect_known Router s neighbour holding to via knows address = knows

heard_known : (role : Role) (s : SystemState) (neighbour : Neighbour) (holding : ℕ) (told : EsisBody) (timer : Option ℕ) → KnowsAddresses s
    → IsAddress neighbour.snpa → HasAddresses told → KnowsAddresses (esis_heard role s neighbour holding told timer).after
heard_known Host s neighbour holding (Esh addresses) timer knows address has = hears_each_known s addresses neighbour holding knows address
heard_known Router s neighbour holding (Esh addresses) timer knows address has =
    let heard = hears_each s addresses neighbour holding in
    told_known heard.after (list_any tells_new heard.outputs) neighbour.port neighbour.snpa (hears_each_known s addresses neighbour holding knows address)
heard_known Host s neighbour holding (Ish title) timer knows address has =
    let heard = hears s Is title neighbour holding in
    let answered = answers_new heard neighbour in
    follows_known answered.after timer
    (told_known heard.after (list_any tells_new heard.outputs) neighbour.port neighbour.snpa (hears_known s Is title neighbour holding knows address))
heard_known Router s neighbour holding (Ish title) timer knows address has = knows
heard_known role s neighbour holding (body.Rd to via title) timer knows address has = redirect_known role s neighbour holding to via knows has.1

content_known : (s : SystemState) (neighbour : Neighbour) (to_group : Bool) (content : Content) → IsAddress neighbour.snpa → IsCarried content → KnowsAddresses s
    → KnowsAddresses (content_comes s neighbour to_group content).after
content_known s neighbour to_group (Labelled p following) address carried knows =
    let come = packet_comes s neighbour p following in
    told_known come.after (is_asked_for come.after.configuration.role come.after to_group p) neighbour.port neighbour.snpa
    (subst AtAddresses (sym (packet_is s neighbour p following).heard.facts) knows)
content_known s neighbour to_group (Esis value following) address carried knows =
    heard_known s.configuration.role s neighbour value.holding value.body (suggested value.body value.options) knows address carried.addresses
content_known s neighbour to_group (Unlabelled octets) address carried knows = subst AtAddresses (sym (octets_are s octets).heard.facts) knows

pub says_known : (s : SystemState) → KnowsAddresses s → KnowsAddresses (says_hello s).after
says_known s knows = go (not (is_silent s) && nat_le s.next_hello s.moment)
  where
    go : (test : Bool)
        → KnowsAddresses (if test then gives (record s { next_hello = s.moment + 2 * s.hello }) (hello_everywhere s) else idles s).after
    go true = knows
    go false = knows

pub step_known : (s : SystemState) (input : Input) → IsFair input → KnowsAddresses s → KnowsAddresses (step s input).after
step_known s (AsksToSend from to octets ask) fair knows = subst AtAddresses (sym (make_is s Dt from to octets ask).heard.facts) knows
step_known s (AsksForEcho from to octets) fair knows =
    subst AtAddresses (sym (make_is s Erq from to octets (echo_ask s from to (length octets) true)).heard.facts) knows
step_known s (FrameComes port sender to_group content) fair knows =
    content_known s (record { port = port; snpa = sender }) to_group content fair.0 fair.1 knows
step_known s (MomentComes now) fair knows =
    let t = (tick s now).after in
    says_known (forgets s.moment t).after (subst AtAddresses (sym (tick_is s now).heard.facts) knows)
step_known s IsRestarted fair knows = tt
step_known s (IsCongested on) fair knows = knows
step_known s (IsChanged change) fair knows = knows
