-- What a system sends in answer to what comes in a frame.
use Rattle.std.proofs.Common.{◌≡◌, ◌∙◌, refl, sym, ap, subst, ℕ, ◌+◌, ◌*◌, ◌⊎◌, inl, inr, Bool, true, false, List, [], ◌∷◌, ◌++◌, append-nil, map, Option, None, Some}
use Rattle.std.specs.Prelude.{◌==◌, ◌||◌, min, if◌then◌else◌, slice_get}
use Rattle.std.specs.List.{AllByRecursion, filter, flat_map, list_any}
use Rattle.std.proofs.lemmas.List.Elements.{filter-append}
use Rattle.std.proofs.lemmas.List.Folds.{list_any-append}
use Rattle.clnp_plan.proofs.ClnpBase.Lists.{AllByRecursion-append}
use Rattle.clnp_plan.specs.ClnpOptions.Parameter.{Parameter}
use Rattle.clnp_plan.specs.Pdus.declared.clnp_options.judge.OptionRefusal.{OptionRefusal}
use Rattle.pdus.specs.declared.esis_pdus.pdu.EsisBody.{EsisBody}
use Rattle.pdus.specs.declared.esis_pdus.pdu.EsisBody.TheVariants as body
use Rattle.pdus.specs.declared.esis_pdus.pdu.EsisBody.TheVariants.{Esh, Ish}
use Rattle.pdus.specs.EsisPdus.Value.{EsisValue, suggested}
use Rattle.clnp_plan.specs.SystemTables.declared.esis_tables.fact.Neighbour.{Neighbour}
use Rattle.clnp_plan.specs.SystemTables.declared.esis_tables.fact.TableKind.TheVariants.{Es, Is, Rd}
use Rattle.clnp_plan.specs.EsisTables.Fact.{answer}
use Rattle.clnp_plan.specs.EsisTables.NextHop.{is_router}
use Rattle.clnp_plan.specs.Pdus.declared.nsap.target.Target.TheVariants.{System}
use Rattle.clnp_plan.specs.PduHeader.Rules.{is_reportable, octet, refusal as rule_broken}
use Rattle.pdus.specs.EsisPdus.Rules.{why_refused}
use Rattle.clnp_plan.specs.declared.note.Note.{Note}
use Rattle.clnp_plan.specs.declared.note.Note.TheVariants.{Discard, Ignored}
use Rattle.clnp_plan.specs.Configuration.{SystemConfiguration}
use Rattle.clnp_plan.specs.declared.config.PortConfig.{PortConfig}
use Rattle.clnp_plan.specs.declared.config.Role.{Role}
use Rattle.clnp_plan.specs.declared.config.Role.TheVariants.{Host, Router}
use Rattle.clnp_machine.specs.Unit.{DataUnit, Packet, whole_packet, cut}
use Rattle.clnp_machine.specs.Content.{Labelled, Unlabelled}
use Rattle.clnp_machine.specs.System.{SystemState, Output, Transmits, SendsEsis, Notes, Effect, idles, gives, then_does}
use Rattle.clnp_machine.specs.Esis.{answers_new, end_system_heard, esis_comes, esis_heard, esis_limits, follows, heard_now, hears, hears_each, intermediate_system_heard, is_silent, own_hello, redirect, redirect_heard, tells_new, tells_of_itself}
use Rattle.clnp_machine.specs.Local.{Action, Sends, Tells, Deed, and_then, discard, made_in, receive, tells}
use Rattle.clnp_machine.specs.Step.{Hop, Way, discard_refused, first_sent, hop_by, is_asked_for, is_redirected, octets_come, options_behind, outputs_of, packet_comes, redirects, responds, sent_on, transmissions, unheard_note, unit_hop}
use Rattle.clnp_machine.specs.EveryStep.{IsAtMostItsHello, IsAtMostOneTo, IsAtMostReportOf, IsItsRedirect, sends_esis, sends_frame}
use Rattle.clnp_machine.proofs.Asked.{discard_makes, not_reported}
use Rattle.clnp_machine.proofs.Deeds.{packet_is}
use Rattle.clnp_machine.proofs.Hellos.{only_comes, only_hears_each, same_hello}
use Rattle.clnp_machine.proofs.Passing.{packet_does}
use Rattle.clnp_machine.proofs.Known.{IsKnown, all_known, becomes_known, none_new, not_new, told_old}
use Rattle.clnp_plan.proofs.ClnpBase.Choices.{one_of}

-- where no output passes a test, none is left by it

abbrev pub NonePasses : (Output → Bool) → List Output → Type 0
NonePasses p outputs = AllByRecursion (λ output. p output ≡ false) outputs

pub none_left : (p : Output → Bool) (outputs : List Output) → NonePasses p outputs → filter p outputs ≡ []
none_left p [] none = refl
none_left p (output ∷ outputs) none = rw none.0 (none_left p outputs none.1)

pub none_before : (p : Output → Bool) (outputs more : List Output) → NonePasses p outputs → filter p (outputs ++ more) ≡ filter p more
none_before p outputs more none =
    filter-append p outputs more ∙ ap (λ (front : List Output). front ++ filter p more) (none_left p outputs none)

-- hearing is only noted

pub hears_notes : (s : SystemState) (addresses : List (List ℕ)) (neighbour : Neighbour) (holding : ℕ) → NonePasses sends_frame (hears_each s addresses neighbour holding).outputs
hears_notes s [] neighbour holding = tt
hears_notes s (address ∷ others) neighbour holding = (refl, hears_notes (hears s Es address neighbour holding).after others neighbour holding)

pub hears_hello : (s : SystemState) (addresses : List (List ℕ)) (neighbour : Neighbour) (holding : ℕ) → (hears_each s addresses neighbour holding).after.hello ≡ s.hello
hears_hello s [] neighbour holding = refl
hears_hello s (address ∷ others) neighbour holding = hears_hello (hears s Es address neighbour holding).after others neighbour holding

-- and a system tells of itself by its own hello, or doesn't

abbrev pub At : (Output → Bool) → SystemState → Neighbour → Effect → Type 0
At p s neighbour effect = IsAtMostItsHello s neighbour (filter p effect.outputs)

told_frame : (s : SystemState) (neighbour : Neighbour) → At sends_frame s neighbour (tells_of_itself s neighbour.port neighbour.snpa)
told_frame s neighbour = go (is_silent s)
  where
    go : (silent : Bool) → At sends_frame s neighbour (if silent then idles s else gives s (SendsEsis neighbour.port (System neighbour.snpa) (own_hello s) ∷ []))
    go true = inl refl
    go false = inr refl

told_esis : (s : SystemState) (neighbour : Neighbour) → At sends_esis s neighbour (tells_of_itself s neighbour.port neighbour.snpa)
told_esis s neighbour = go (is_silent s)
  where
    go : (silent : Bool) → At sends_esis s neighbour (if silent then idles s else gives s (SendsEsis neighbour.port (System neighbour.snpa) (own_hello s) ∷ []))
    go true = inl refl
    go false = inr refl

at_one_of : (p : Output → Bool) (s : SystemState) (neighbour : Neighbour) (test : Bool) (first second : Effect) → At p s neighbour first → At p s neighbour second
    → At p s neighbour (if test then first else second)
at_one_of p s neighbour test first second h k = one_of (At p s neighbour) test first second h k

-- the same hello, where it is as often said by the same configuration
at_same : (s t : SystemState) (neighbour : Neighbour) (sent : List Output) → t.configuration ≡ s.configuration → t.hello ≡ s.hello
    → IsAtMostItsHello t neighbour sent → IsAtMostItsHello s neighbour sent
at_same s t neighbour sent same often (inl none) = inl none
at_same s t neighbour sent same often (inr one) =
    inr (one ∙ ap (λ (v : EsisValue). SendsEsis neighbour.port (System neighbour.snpa) v ∷ []) (same_hello s t same often))

answers_at : (s : SystemState) (neighbour : Neighbour) (heard : Effect) → NonePasses sends_frame heard.outputs → heard.after.configuration ≡ s.configuration
    → heard.after.hello ≡ s.hello → At sends_frame s neighbour (answers_new heard neighbour)
answers_at s neighbour heard notes same often =
    let t = heard.after in
    let told = (if list_any tells_new heard.outputs then tells_of_itself t neighbour.port neighbour.snpa else idles t) in
    subst (IsAtMostItsHello s neighbour) (sym (none_before sends_frame heard.outputs told.outputs notes))
    (at_same s t neighbour (filter sends_frame told.outputs) same often
    (at_one_of sends_frame t neighbour (list_any tells_new heard.outputs) _ _ (told_frame t neighbour) (inl refl)))

end_system_at : (role : Role) (s : SystemState) (neighbour : Neighbour) (holding : ℕ) (addresses : List (List ℕ))
    → At sends_frame s neighbour (end_system_heard role s neighbour holding addresses)
end_system_at Host s neighbour holding addresses = inl (none_left sends_frame _ (hears_notes s addresses neighbour holding))
end_system_at Router s neighbour holding addresses =
    answers_at s neighbour (hears_each s addresses neighbour holding) (hears_notes s addresses neighbour holding)
    (only_hears_each s addresses neighbour holding).rest.configuration (hears_hello s addresses neighbour holding)

at_front : (s : SystemState) (neighbour : Neighbour) (effect : Effect) (next : SystemState → Effect) → (next effect.after).outputs ≡ [] → At sends_frame s neighbour effect
    → At sends_frame s neighbour (then_does effect next)
at_front s neighbour effect next none h =
    let same : filter sends_frame (effect.outputs ++ (next effect.after).outputs) ≡ filter sends_frame effect.outputs =
    ap (λ (more : List Output). filter sends_frame (effect.outputs ++ more)) none ∙ ap (filter sends_frame) (append-nil effect.outputs) in
    subst (IsAtMostItsHello s neighbour) (sym same) h

intermediate_system_at : (role : Role) (s : SystemState) (neighbour : Neighbour) (holding : ℕ) (title : List ℕ) (timer : Option ℕ)
    → At sends_frame s neighbour (intermediate_system_heard role s neighbour holding title timer)
intermediate_system_at Host s neighbour holding title timer =
    at_front s neighbour (answers_new (hears s Is title neighbour holding) neighbour) (λ t. idles (follows t timer)) refl
    (answers_at s neighbour (hears s Is title neighbour holding) (refl, tt) refl refl)
intermediate_system_at Router s neighbour holding title timer = inl refl

pub redirect_notes : (role : Role) (s : SystemState) (neighbour : Neighbour) (holding : ℕ) (to via : List ℕ)
    → NonePasses sends_frame (redirect_heard role s neighbour holding to via).outputs
redirect_notes Host s neighbour holding to via = go (is_router s.moment neighbour.snpa s.facts)
  where
    go : (test : Bool)
        → NonePasses sends_frame
        (if test then hears s Rd to (record { port = neighbour.port; snpa = via }) holding else gives s (Notes (Ignored true) ∷ [])).outputs
    go true = (refl, tt)
    go false = (refl, tt)
redirect_notes Router s neighbour holding to via = (refl, tt)

heard_at : (role : Role) (s : SystemState) (neighbour : Neighbour) (holding : ℕ) (body : EsisBody) (timer : Option ℕ)
    → At sends_frame s neighbour (esis_heard role s neighbour holding body timer)
heard_at role s neighbour holding (Esh addresses) timer = end_system_at role s neighbour holding addresses
heard_at role s neighbour holding (Ish title) timer = intermediate_system_at role s neighbour holding title timer
heard_at role s neighbour holding (body.Rd to via title) timer = inl (none_left sends_frame _ (redirect_notes role s neighbour holding to via))

pub hello_causes : (s : SystemState) (neighbour : Neighbour) (v : EsisValue) → At sends_frame s neighbour (esis_comes s neighbour v)
hello_causes s neighbour v = heard_at s.configuration.role s neighbour v.holding v.body (suggested v.body v.options)

-- What a system does at its addresses sends no ES-IS PDU.

pub pieces_silent : (hop : Hop) (pieces : List Packet) → NonePasses sends_esis (map (λ piece. Transmits hop.port hop.target piece) pieces)
pieces_silent hop [] = tt
pieces_silent hop (piece ∷ pieces) = (refl, pieces_silent hop pieces)

transmissions_silent : (hop : Hop) (pieces : Option (List Packet)) → NonePasses sends_esis (transmissions hop pieces)
transmissions_silent hop None = (refl, tt)
transmissions_silent hop (Some pieces) = pieces_silent hop pieces

sent_silent : (hop : Hop) (port : Option PortConfig) (u : DataUnit) → NonePasses sends_esis (sent_on hop port u)
sent_silent hop None u = (refl, tt)
sent_silent hop (Some port) u = transmissions_silent hop (cut (whole_packet u) port.mtu)

first_silent : (s : SystemState) (u : DataUnit) (hop : Option Hop) → NonePasses sends_esis (first_sent s u hop)
first_silent s u None = (refl, tt)
first_silent s u (Some hop) = sent_silent hop (slice_get s.attached.ports hop.port) u

pub deeds_silent : (s : SystemState) (actions : List Action) → NonePasses sends_esis (flat_map (outputs_of s) actions)
deeds_silent s [] = tt
deeds_silent s (Tells told ∷ actions) = (refl, deeds_silent s actions)
deeds_silent s (Sends u ∷ actions) =
    AllByRecursion-append (λ output. sends_esis output ≡ false) (first_sent s u (unit_hop s u)) (flat_map (outputs_of s) actions)
    (first_silent s u (unit_hop s u)) (deeds_silent s actions)

-- A packet makes it send at most one redirect by itself, as a router.

abbrev pub SilentOrRedirects : SystemState → Neighbour → List Output → Type 0
SilentOrRedirects s neighbour outputs =
    NonePasses sends_esis outputs
    ⊎ ((value : EsisValue) × IsItsRedirect s value × (filter sends_esis outputs ≡ SendsEsis neighbour.port (System neighbour.snpa) value ∷ []))

redirects_or_none : (s : SystemState) (came : Neighbour) (p : Packet) (options : List Parameter) (way : Way) → s.configuration.role ≡ Router
    → (front : List Output) → NonePasses sends_esis front → SilentOrRedirects s came (front ++ redirects s came p options way)
redirects_or_none s came p options way router front silent = go (is_redirected s came p options way)
  where
    value : EsisValue
    value = redirect s p.unit.destination way.neighbour.snpa way.title

    go : (test : Bool)
        → SilentOrRedirects s came (front ++ (if test then SendsEsis came.port (System came.snpa) value ∷ [] else []))
    go true =
        inr (
          value,
          (router, (p.unit.destination, way.neighbour.snpa, way.title, refl)),
          none_before sends_esis front (SendsEsis came.port (System came.snpa) value ∷ []) silent,
        )
    go false = inl (AllByRecursion-append (λ output. sends_esis output ≡ false) front [] silent tt)

pub packet_sends : (s : SystemState) (came : Neighbour) (p : Packet) (following : List ℕ) → SilentOrRedirects s came (packet_comes s came p following).outputs
packet_sends s came p following =
    packet_does (λ effect. SilentOrRedirects s came effect.outputs) s came p following
    (λ reason of_none. inl (deeds_silent (discard s (Labelled p following) reason 0).after (discard s (Labelled p following) reason 0).actions))
    (λ router way port pieces there alive gives known.
    redirects_or_none s came p (options_behind s p.options) way router (transmissions (hop_by way) (Some pieces)) (pieces_silent (hop_by way) pieces))
    (inl (refl, tt))
    (λ own. inl (deeds_silent (receive s p following).after (receive s p following).actions))

-- a router doesn't tell of itself then
router_tells_nothing : (t : SystemState) (neighbour : Neighbour) (to_group : Bool) (p : Packet) → t.configuration.role ≡ Router
    → (responds t neighbour to_group p).outputs ≡ []
router_tells_nothing t neighbour to_group p router =
    ap (λ (role : Role). (if is_asked_for role t to_group p then tells_of_itself t neighbour.port neighbour.snpa else idles t).outputs) router

pub packet_causes : (s : SystemState) (neighbour : Neighbour) (to_group : Bool) (p : Packet) (following : List ℕ)
    → IsAtMostOneTo s neighbour
    (filter sends_esis ((packet_comes s neighbour p following).outputs ++ (responds (packet_comes s neighbour p following).after neighbour to_group p).outputs))
packet_causes s neighbour to_group p following = go (packet_sends s neighbour p following)
  where
    come : Effect
    come = packet_comes s neighbour p following

    answer : Effect
    answer = responds come.after neighbour to_group p

    itself : come.after.configuration ≡ s.configuration
    itself = (packet_is s neighbour p following).itself.configuration

    go : SilentOrRedirects s neighbour come.outputs → IsAtMostOneTo s neighbour (filter sends_esis (come.outputs ++ answer.outputs))
    go (inl silent) =
        inl (subst (IsAtMostItsHello s neighbour)
        (sym (none_before sends_esis come.outputs answer.outputs silent))
        (at_same s come.after neighbour (filter sends_esis answer.outputs) itself (packet_is s neighbour p following).heard.hello
        (at_one_of sends_esis come.after neighbour (is_asked_for come.after.configuration.role come.after to_group p) _ _ (told_esis come.after neighbour) (inl refl))))
    go (inr one) =
        let role : come.after.configuration.role ≡ Router = ap (λ (c : SystemConfiguration). c.role) itself ∙ one.1.0 in
        inr (
          one.0,
          one.1,
          ap (λ (more : List Output). filter sends_esis (come.outputs ++ more)) (router_tells_nothing come.after neighbour to_group p role)
              ∙ ap (filter sends_esis) (append-nil come.outputs) ∙ one.2,
        )

-- Octets that are no PDU are answered by nothing but the report of their discard.

pub octets_silent : (s : SystemState) (octets : List ℕ) → filter sends_esis (flat_map (outputs_of (octets_come s octets).after) (octets_come s octets).actions) ≡ []
octets_silent s octets = none_left sends_esis _ (deeds_silent (octets_come s octets).after (octets_come s octets).actions)

-- a property of what is done with octets
pub octets_do : (P : Deed → Type 0) (s : SystemState) (octets : List ℕ) → ((reason place : ℕ) → P (discard s (Unlabelled octets) reason place))
    → ((told : Note) → P (tells s told)) → P (octets_come s octets)
octets_do P s octets discarded told = go (octet octets 1 == 0x81) (rule_broken octets)
  where
    go : (begun : Bool) (broken : Option OptionRefusal) → P (if begun then discard_refused s octets broken else tells s (unheard_note (why_refused octets)))
    go true None = discarded _ _
    go true (Some broken) = discarded _ _
    go false broken = told _

abbrev Unanswered : Deed → Type 0
Unanswered deed = filter sends_frame (flat_map (outputs_of deed.after) deed.actions) ≡ []

pub octets_unanswered : (s : SystemState) (octets : List ℕ) → is_reportable octets ≡ false → Unanswered (octets_come s octets)
octets_unanswered s octets e =
    octets_do Unanswered s octets
    (λ reason place. subst (λ (deed : Deed). Unanswered (and_then (tells s (Discard reason place)) (λ t. deed))) (sym (not_reported s octets reason place e)) refl)
    (λ told. refl)

pub octets_reported : (s : SystemState) (octets : List ℕ) → IsAtMostReportOf octets (made_in (octets_come s octets).actions)
octets_reported s octets =
    octets_do (λ deed. IsAtMostReportOf octets (made_in deed.actions)) s octets (discard_makes s (Unlabelled octets)) (λ told. inl refl)

-- What isn't new is answered by nothing.

answered_no_more : (heard : Effect) (neighbour : Neighbour) → NonePasses sends_frame heard.outputs → list_any tells_new heard.outputs ≡ false
    → filter sends_frame (answers_new heard neighbour).outputs ≡ []
answered_no_more heard neighbour notes old =
    let t = heard.after in
    ap (λ (test : Bool). filter sends_frame (heard.outputs ++ (if test then tells_of_itself t neighbour.port neighbour.snpa else idles t).outputs)) old
    ∙ none_before sends_frame heard.outputs [] notes

-- of what is given out in two parts, the first tells nothing new where both don't
first_old : (outputs more : List Output) → list_any tells_new (outputs ++ more) ≡ false → list_any tells_new outputs ≡ false
first_old outputs more old = go (list_any tells_new outputs) (list_any tells_new more) (sym (list_any-append tells_new outputs more) ∙ old)
  where
    go : (a b : Bool) → (a || b) ≡ false → a ≡ false
    go true b h = absurd (cc)
    go false b h = refl

abbrev told_where : Effect → Neighbour → Bool → Effect
told_where heard neighbour test = if test then tells_of_itself heard.after neighbour.port neighbour.snpa else idles heard.after

old_end_system : (role : Role) (s : SystemState) (neighbour : Neighbour) (holding : ℕ) (addresses : List (List ℕ))
    → list_any tells_new (end_system_heard role s neighbour holding addresses).outputs ≡ false
    → filter sends_frame (end_system_heard role s neighbour holding addresses).outputs ≡ []
old_end_system Host s neighbour holding addresses old = none_left sends_frame _ (hears_notes s addresses neighbour holding)
old_end_system Router s neighbour holding addresses old =
    answered_no_more (hears_each s addresses neighbour holding) neighbour (hears_notes s addresses neighbour holding)
    (first_old (hears_each s addresses neighbour holding).outputs
    (told_where (hears_each s addresses neighbour holding) neighbour (list_any tells_new (hears_each s addresses neighbour holding).outputs)).outputs old)

old_intermediate_system : (role : Role) (s : SystemState) (neighbour : Neighbour) (holding : ℕ) (title : List ℕ) (timer : Option ℕ)
    → list_any tells_new (intermediate_system_heard role s neighbour holding title timer).outputs ≡ false
    → filter sends_frame (intermediate_system_heard role s neighbour holding title timer).outputs ≡ []
old_intermediate_system Host s neighbour holding title timer old =
    let heard = hears s Is title neighbour holding in
    let answered = answers_new heard neighbour in
    ap (filter sends_frame) (append-nil answered.outputs)
    ∙ answered_no_more heard neighbour (refl, tt) (first_old heard.outputs (told_where heard neighbour (list_any tells_new heard.outputs)).outputs (first_old answered.outputs [] old))
old_intermediate_system Router s neighbour holding title timer old = refl

old_heard : (role : Role) (s : SystemState) (neighbour : Neighbour) (holding : ℕ) (body : EsisBody) (timer : Option ℕ)
    → list_any tells_new (esis_heard role s neighbour holding body timer).outputs ≡ false
    → filter sends_frame (esis_heard role s neighbour holding body timer).outputs ≡ []
old_heard role s neighbour holding (Esh addresses) timer old = old_end_system role s neighbour holding addresses old
old_heard role s neighbour holding (Ish title) timer old = old_intermediate_system role s neighbour holding title timer old
old_heard role s neighbour holding (body.Rd to via title) timer old = none_left sends_frame _ (redirect_notes role s neighbour holding to via)

pub old_unanswered : (s : SystemState) (neighbour : Neighbour) (v : EsisValue) → list_any tells_new (esis_comes s neighbour v).outputs ≡ false
    → filter sends_frame (esis_comes s neighbour v).outputs ≡ []
old_unanswered s neighbour v old = old_heard s.configuration.role s neighbour v.holding v.body (suggested v.body v.options) old

-- What comes again at the same moment is answered by nothing.

pub told_after : (s : SystemState) (port : ℕ) (snpa : List ℕ) → (tells_of_itself s port snpa).after ≡ s
told_after s port snpa = go (is_silent s)
  where
    go : (silent : Bool) → (if silent then idles s else gives s (SendsEsis port (System snpa) (own_hello s) ∷ [])).after ≡ s
    go true = refl
    go false = refl

pub answers_itself : (heard : Effect) (neighbour : Neighbour) → (answers_new heard neighbour).after ≡ heard.after
answers_itself heard neighbour = go (list_any tells_new heard.outputs)
  where
    go : (test : Bool) → (if test then tells_of_itself heard.after neighbour.port neighbour.snpa else idles heard.after).after ≡ heard.after
    go true = told_after heard.after neighbour.port neighbour.snpa
    go false = refl

again_end_system : (role : Role) (s : SystemState) (neighbour : Neighbour) (holding : ℕ) (addresses : List (List ℕ))
    → filter sends_frame (end_system_heard role (end_system_heard role s neighbour holding addresses).after neighbour holding addresses).outputs ≡ []
again_end_system Host s neighbour holding addresses = none_left sends_frame _ (hears_notes (hears_each s addresses neighbour holding).after addresses neighbour holding)
again_end_system Router s neighbour holding addresses =
    let heard = hears_each s addresses neighbour holding in
    let P : SystemState → Type 0 = λ t. filter sends_frame (answers_new (hears_each t addresses neighbour holding) neighbour).outputs ≡ [] in
    subst P (sym (answers_itself heard neighbour))
    (answered_no_more (hears_each heard.after addresses neighbour holding) neighbour (hears_notes heard.after addresses neighbour holding)
    (none_new neighbour holding heard.after addresses (all_known neighbour holding s addresses)))

-- an intermediate system of which nothing new can be heard
abbrev RouterKnown : Neighbour → ℕ → List ℕ → SystemState → Type 0
RouterKnown neighbour holding title s = IsKnown (esis_limits s) s.moment Is neighbour holding title s.facts

known_followed : (neighbour : Neighbour) (holding : ℕ) (title : List ℕ) (s : SystemState) (timer : Option ℕ) → RouterKnown neighbour holding title s
    → RouterKnown neighbour holding title (follows s timer)
known_followed neighbour holding title s None known = known
known_followed neighbour holding title s (Some seconds) known = go (seconds == 0 || is_silent s)
  where
    go : (test : Bool) → RouterKnown neighbour holding title (if test then s else record s { hello = seconds; next_hello = min s.next_hello (s.moment + 2 * seconds) })
    go true = known
    go false = known

again_known : (s : SystemState) (neighbour : Neighbour) (holding : ℕ) (title : List ℕ) (timer : Option ℕ) → RouterKnown neighbour holding title s
    → filter sends_frame (intermediate_system_heard Host s neighbour holding title timer).outputs ≡ []
again_known s neighbour holding title timer known =
    let heard = hears s Is title neighbour holding in
    ap (filter sends_frame) (append-nil (answers_new heard neighbour).outputs)
    ∙ answered_no_more heard neighbour (refl, tt)
    (ap (λ (first : Bool). first || false)
    (told_old Is title (answer (esis_limits s) (heard_now s Is title neighbour holding) s.facts) (not_new (esis_limits s) s.moment Is neighbour holding title s.facts known)))

again_intermediate_system : (role : Role) (s : SystemState) (neighbour : Neighbour) (holding : ℕ) (title : List ℕ) (timer : Option ℕ)
    → filter sends_frame (intermediate_system_heard role (intermediate_system_heard role s neighbour holding title timer).after neighbour holding title timer).outputs ≡ []
again_intermediate_system Host s neighbour holding title timer =
    let heard = hears s Is title neighbour holding in
    let t = (answers_new heard neighbour).after in
    let known = subst (RouterKnown neighbour holding title) (sym (answers_itself heard neighbour)) (becomes_known (esis_limits s) s.moment Is neighbour holding title s.facts) in
    again_known (follows t timer) neighbour holding title timer (known_followed neighbour holding title t timer known)
again_intermediate_system Router s neighbour holding title timer = refl

again_heard : (role : Role) (s : SystemState) (neighbour : Neighbour) (holding : ℕ) (body : EsisBody) (timer : Option ℕ)
    → filter sends_frame (esis_heard role (esis_heard role s neighbour holding body timer).after neighbour holding body timer).outputs ≡ []
again_heard role s neighbour holding (Esh addresses) timer = again_end_system role s neighbour holding addresses
again_heard role s neighbour holding (Ish title) timer = again_intermediate_system role s neighbour holding title timer
again_heard role s neighbour holding (body.Rd to via title) timer =
    none_left sends_frame _ (redirect_notes role (redirect_heard role s neighbour holding to via).after neighbour holding to via)

pub again_unanswered : (s : SystemState) (neighbour : Neighbour) (v : EsisValue) → filter sends_frame (esis_comes (esis_comes s neighbour v).after neighbour v).outputs ≡ []
again_unanswered s neighbour v =
    let t = (esis_comes s neighbour v).after in
    let timer = suggested v.body v.options in
    let role_is : t.configuration.role ≡ s.configuration.role = ap (λ (c : SystemConfiguration). c.role) (only_comes s neighbour v).rest.configuration in
    let P : Role → Type 0 = λ role. filter sends_frame (esis_heard role t neighbour v.holding v.body timer).outputs ≡ [] in
    subst P (sym role_is) (again_heard s.configuration.role s neighbour v.holding v.body timer)
