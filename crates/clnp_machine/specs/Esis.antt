-- What a system says of itself, and hears of others (ISO 9542, section 6).
use Rattle.std.specs.Prelude.{ℕ, ◌+◌, ◌*◌, ◌==◌, ◌&&◌, ◌||◌, min, nat_le, not, Bool, true, false, if◌then◌else◌, List, [], ◌∷◌, length, map, slice_get, Option, None, Some}
use Rattle.std.specs.List.{list_any, range_with_len}
use Rattle.clnp_plan.specs.Pdus.declared.nsap.target.Target.{Target}
use Rattle.clnp_plan.specs.Pdus.declared.nsap.target.Target.TheVariants.{System, EndSystems, Routers}
use Rattle.pdus.specs.declared.esis_pdus.pdu.EsisBody.{EsisBody}
use Rattle.pdus.specs.declared.esis_pdus.pdu.EsisBody.TheVariants as body
use Rattle.pdus.specs.declared.esis_pdus.pdu.EsisBody.TheVariants.{Esh, Ish}
use Rattle.pdus.specs.EsisPdus.Making.{value, timer_options}
use Rattle.pdus.specs.EsisPdus.Value.{EsisValue, suggested}
use Rattle.clnp_plan.specs.SystemTables.declared.esis_tables.fact.EsisLimits.{EsisLimits}
use Rattle.clnp_plan.specs.SystemTables.declared.esis_tables.fact.Gone.{Gone}
use Rattle.clnp_plan.specs.SystemTables.declared.esis_tables.fact.Heard.TheVariants.{New}
use Rattle.clnp_plan.specs.SystemTables.declared.esis_tables.fact.Neighbour.{Neighbour}
use Rattle.clnp_plan.specs.SystemTables.declared.esis_tables.fact.TableKind.{TableKind}
use Rattle.clnp_plan.specs.SystemTables.declared.esis_tables.fact.TableKind.TheVariants.{Es, Is, Rd}
use Rattle.clnp_plan.specs.EsisTables.Fact as facts
use Rattle.clnp_plan.specs.EsisTables.Gone.{gone}
use Rattle.clnp_plan.specs.EsisTables.NextHop.{is_router}
use Rattle.clnp_plan.specs.declared.config.Role.{Role}
use Rattle.clnp_plan.specs.declared.config.Role.TheVariants.{Host, Router}
use Rattle.clnp_plan.specs.declared.note.Note.TheVariants as note
use Rattle.clnp_machine.specs.System.{SystemState, Output, SendsEsis, Notes, Effect, idles, gives, then_does}

-- Hellos.

-- The holding time of a hello is twice its period, so that one of them may be lost; the field holds no more than 65,535 seconds
-- (section 6.1.2).
abbrev pub holding_time : ℕ → ℕ
holding_time period = min 65535 (2 * period)

-- an end system tells all its addresses (section 6.2.1)
abbrev pub end_system_hello : SystemState → EsisValue
end_system_hello s =
    value (holding_time s.hello) s.configuration.settings.sealed (Esh s.configuration.addresses) []

abbrev pub first_of : Option (List ℕ) → List ℕ
first_of None = []
first_of (Some address) = address

-- the title of a system is its first address
abbrev pub title_of : SystemState → List ℕ
title_of s = first_of (slice_get s.configuration.addresses 0)

-- how often end systems are asked to say hello, unless there is no wish
abbrev pub wish : ℕ → Option ℕ
wish seconds = if seconds == 0 then None else Some seconds

-- an intermediate system tells its title, and its wish (section 6.2.2; the wish by ISO 9542:1988)
abbrev pub intermediate_system_hello : SystemState → EsisValue
intermediate_system_hello s =
    value (holding_time s.hello) s.configuration.settings.sealed (Ish (title_of s))
    (timer_options (wish s.configuration.settings.suggest))

abbrev pub hello_of : Role → SystemState → EsisValue
hello_of Host s = end_system_hello s
hello_of Router s = intermediate_system_hello s

-- a system's own hello
abbrev pub own_hello : SystemState → EsisValue
own_hello s = hello_of s.configuration.role s

-- whom the hello of a system is for (section 6.2)
abbrev pub hearers : Role → Target
hearers Host = Routers
hearers Router = EndSystems

-- whether a system says hello at all
abbrev pub is_silent : SystemState → Bool
is_silent s = s.hello == 0

-- a hello to one system, unless the system is silent
abbrev pub tells_of_itself : SystemState → (port : ℕ) → (snpa : List ℕ) → Effect
tells_of_itself s port snpa =
    if is_silent s then idles s else gives s (SendsEsis port (System snpa) (own_hello s) ∷ [])

-- the system's hello on each of its ports, in order
abbrev pub hello_everywhere : SystemState → List Output
hello_everywhere s =
    map (λ port. SendsEsis port (hearers s.configuration.role) (own_hello s)) (range_with_len 0 (length s.attached.ports))

-- The hello is said where it is due, and the next one is due a period later, from this moment on (section 6.1.1).
abbrev pub says_hello : SystemState → Effect
says_hello s =
    if not (is_silent s) && nat_le s.next_hello s.moment
    then gives (record s { next_hello = s.moment + 2 * s.hello }) (hello_everywhere s)
    else idles s

-- Redirects.

-- A redirect tells of the better way to an address: where the next system on it is, and its title where that isn't the system
-- of the address itself (section 6.8).
abbrev pub redirect : SystemState → (to via : List ℕ) → (title : Option (List ℕ)) → EsisValue
redirect s to via title =
    value s.configuration.settings.rhold s.configuration.settings.sealed (body.Rd to via title) []

-- Hearing.

-- the most entries of each kind that a system keeps in mind
abbrev pub esis_limits : SystemState → EsisLimits
esis_limits s =
    record {
      neighbours = s.configuration.settings.neighbours;
      routers = s.configuration.settings.routers;
      redirects = s.configuration.settings.redirects;
    }

-- what is heard of a key at this moment (section 6.3)
abbrev pub heard_now : SystemState → TableKind → (key : List ℕ) → Neighbour → (holding : ℕ) → facts.Fact
heard_now s table key neighbour holding = facts.hearing s.moment table key neighbour holding

-- it is kept in mind, and noted
abbrev pub hears : SystemState → TableKind → (key : List ℕ) → Neighbour → (holding : ℕ) → Effect
hears s table key neighbour holding =
    gives (record s { facts = facts.after (esis_limits s) (heard_now s table key neighbour holding) s.facts })
    (Notes (note.Hear table key (facts.answer (esis_limits s) (heard_now s table key neighbour holding) s.facts)) ∷ [])

-- each address of an end system is heard, in order
abbrev pub hears_each : SystemState → (addresses : List (List ℕ)) → Neighbour → (holding : ℕ) → Effect
hears_each s [] neighbour holding = idles s
hears_each s (address ∷ others) neighbour holding =
    then_does (hears s Es address neighbour holding) (λ t. hears_each t others neighbour holding)

-- whether an output says that something new was heard
abbrev pub tells_new : Output → Bool
tells_new (Notes (note.Hear table key New)) = true
tells_new _ = false

-- where something new was heard, the system tells of itself there (section 6.7)
abbrev pub answers_new : Effect → Neighbour → Effect
answers_new heard neighbour =
    then_does heard (λ t. if list_any tells_new heard.outputs then tells_of_itself t neighbour.port neighbour.snpa else idles t)

-- A suggested timer counts where it is above 0 and the system says hello. It is then the period, and the next hello is due no
-- later than one such period from now (ISO 9542:1988).
abbrev pub follows : SystemState → Option ℕ → SystemState
follows s None = s
follows s (Some seconds) =
    if seconds == 0 || is_silent s then s
    else record s { hello = seconds; next_hello = min s.next_hello (s.moment + 2 * seconds) }

-- an end system hello comes: routers answer what is new in it
abbrev pub end_system_heard : Role → SystemState → Neighbour → (holding : ℕ) → (addresses : List (List ℕ)) → Effect
end_system_heard Host s neighbour holding addresses = hears_each s addresses neighbour holding
end_system_heard Router s neighbour holding addresses = answers_new (hears_each s addresses neighbour holding) neighbour

-- an intermediate system hello comes: hosts answer a new one, and then follow its wish; routers don't hear other routers
abbrev pub intermediate_system_heard : Role → SystemState → Neighbour → (holding : ℕ) → (title : List ℕ)
    → (timer : Option ℕ) → Effect
intermediate_system_heard Host s neighbour holding title timer =
    then_does (answers_new (hears s Is title neighbour holding) neighbour) (λ t. idles (follows t timer))
intermediate_system_heard Router s neighbour holding title timer = gives s (Notes (note.Ignored false) ∷ [])

-- A redirect comes: an end system hears it from a router that it knows, and keeps in mind where the better hop to that address
-- is (section 6.9); routers hear none.
abbrev pub redirect_heard : Role → SystemState → Neighbour → (holding : ℕ) → (to via : List ℕ) → Effect
redirect_heard Host s neighbour holding to via =
    if is_router s.moment neighbour.snpa s.facts then hears s Rd to (record { port = neighbour.port; snpa = via }) holding
    else gives s (Notes (note.Ignored true) ∷ [])
redirect_heard Router s neighbour holding to via = gives s (Notes (note.Ignored true) ∷ [])

-- an ES-IS PDU comes from a place
abbrev pub esis_heard : Role → SystemState → Neighbour → (holding : ℕ) → EsisBody → (timer : Option ℕ) → Effect
esis_heard role s neighbour holding (Esh addresses) timer = end_system_heard role s neighbour holding addresses
esis_heard role s neighbour holding (Ish title) timer = intermediate_system_heard role s neighbour holding title timer
esis_heard role s neighbour holding (body.Rd to via title) timer = redirect_heard role s neighbour holding to via

abbrev pub esis_comes : SystemState → Neighbour → EsisValue → Effect
esis_comes s neighbour v = esis_heard s.configuration.role s neighbour v.holding v.body (suggested v.body v.options)

-- Forgetting.

abbrev pub gone_note : Gone → Output
gone_note key = Notes (note.Gone key.table key.key)

-- the keys whose holding time has ended since a moment are noted (sections 6.4 and 6.11)
abbrev pub forgets : (before : ℕ) → SystemState → Effect
forgets before s = gives s (map gone_note (gone before s.moment s.facts))
