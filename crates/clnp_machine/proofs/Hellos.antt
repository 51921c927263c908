-- What is said and heard between systems (ISO 9542) leaves all else as it is, makes no unit and sends no packet.
use Rattle.std.proofs.Common.{sym, ◌≡◌, ◌∙◌, refl, ap, ℕ, ◌+◌, ◌*◌, Bool, true, false, List, [], ◌∷◌, ◌++◌, length, map, Option, None, Some}
use Rattle.std.specs.Prelude.{◌==◌, ◌&&◌, ◌||◌, not, nat_le, min, slice_get, if◌then◌else◌}
use Rattle.std.specs.List.{AllByRecursion, list_any, range_with_len}
use Rattle.clnp_plan.proofs.ClnpBase.Lists.{AllByRecursion-append, AllByRecursion-map_any}
use Rattle.pdus.specs.declared.esis_pdus.pdu.EsisBody.{EsisBody}
use Rattle.pdus.specs.declared.esis_pdus.pdu.EsisBody.TheVariants as body
use Rattle.pdus.specs.declared.esis_pdus.pdu.EsisBody.TheVariants.{Esh, Ish}
use Rattle.pdus.specs.EsisPdus.Value.{EsisValue, suggested}
use Rattle.clnp_plan.specs.SystemTables.declared.esis_tables.fact.Neighbour.{Neighbour}
use Rattle.clnp_plan.specs.SystemTables.declared.esis_tables.fact.TableKind.{TableKind}
use Rattle.clnp_plan.specs.SystemTables.declared.esis_tables.fact.TableKind.TheVariants.{Es, Is, Rd}
use Rattle.clnp_plan.specs.EsisTables.Gone.{gone}
use Rattle.clnp_plan.specs.EsisTables.NextHop.{is_router}
use Rattle.pdus.specs.EsisPdus.Making.{timer_options, value}
use Rattle.clnp_plan.specs.Configuration.{SystemConfiguration}
use Rattle.clnp_plan.specs.declared.config.Role.{Role}
use Rattle.clnp_plan.specs.declared.config.Role.TheVariants.{Host, Router}
use Rattle.clnp_machine.specs.Unit.{Packet}
use Rattle.clnp_machine.specs.System.{SystemState, Output, SendsEsis, Effect, idles, gives, then_does}
use Rattle.clnp_machine.specs.Esis.{tells_of_itself, is_silent, own_hello, hearers, hello_everywhere, says_hello, hears, hears_each, tells_new, answers_new, follows, redirect_heard, end_system_heard, intermediate_system_heard, esis_heard, esis_comes, gone_note, forgets, first_of, hello_of, holding_time, wish}
use Rattle.clnp_machine.specs.Step.{is_asked_for, responds}
use Rattle.clnp_machine.specs.EveryStep.{IsOfHellos, LeavesTheRest, OnlyHellos}
use Rattle.clnp_plan.proofs.ClnpBase.Choices.{one_of}

-- nothing is left but the rest

pub rest-itself : (s : SystemState) → LeavesTheRest s s
rest-itself s = record { place = refl; configuration = refl; hold = refl; moment = refl; count = refl; identifiers = refl; buffers = refl; pending = refl; congested = refl; attached = refl }

pub rest-on : (s t u : SystemState) → LeavesTheRest s t → LeavesTheRest t u → LeavesTheRest s u
rest-on s t u h k = record {
  place = k.place ∙ h.place;
  configuration = k.configuration ∙ h.configuration;
  hold = k.hold ∙ h.hold;
  moment = k.moment ∙ h.moment;
  count = k.count ∙ h.count;
  identifiers = k.identifiers ∙ h.identifiers;
  buffers = k.buffers ∙ h.buffers;
  pending = k.pending ∙ h.pending;
  congested = k.congested ∙ h.congested;
  attached = k.attached ∙ h.attached;
}

pub only_idles : (s : SystemState) → OnlyHellos s (idles s)
only_idles s = record { rest = rest-itself s; outputs = tt; units = refl }

pub only_gives : (s t : SystemState) (outputs : List Output) → LeavesTheRest s t → AllByRecursion IsOfHellos outputs → OnlyHellos s (gives t outputs)
only_gives s t outputs rest all = record { rest = rest; outputs = all; units = refl }

pub only_then : (s : SystemState) (effect : Effect) (next : SystemState → Effect) → OnlyHellos s effect → OnlyHellos effect.after (next effect.after)
    → OnlyHellos s (then_does effect next)
only_then s effect next h k = record {
  rest = rest-on s effect.after (next effect.after).after h.rest k.rest;
  outputs = AllByRecursion-append IsOfHellos effect.outputs (next effect.after).outputs h.outputs k.outputs;
  units = ap (λ us. us ++ (next effect.after).units) h.units ∙ k.units;
}

only_one_of : (s : SystemState) (test : Bool) (first second : Effect) → OnlyHellos s first → OnlyHellos s second → OnlyHellos s (if test then first else second)
only_one_of s test first second h k = one_of (OnlyHellos s) test first second h k

-- what is said

pub only_tells : (s : SystemState) (port : ℕ) (snpa : List ℕ) → OnlyHellos s (tells_of_itself s port snpa)
only_tells s port snpa = only_one_of s (is_silent s) _ _ (only_idles s) (only_gives s s _ (rest-itself s) (tt, tt))

pub only_says_hello : (s : SystemState) → OnlyHellos s (says_hello s)
only_says_hello s =
    only_one_of s (not (is_silent s) && nat_le s.next_hello s.moment) _ _
    (only_gives s (record s { next_hello = s.moment + 2 * s.hello }) (hello_everywhere s)
    (record { place = refl; configuration = refl; hold = refl; moment = refl; count = refl; identifiers = refl; buffers = refl; pending = refl; congested = refl; attached = refl })
    (AllByRecursion-map_any IsOfHellos (λ port. SendsEsis port (hearers s.configuration.role) (own_hello s)) (range_with_len 0 (length s.attached.ports))
    (λ port. tt)))
    (only_idles s)

-- what is heard

pub only_hears : (s : SystemState) (table : TableKind) (key : List ℕ) (neighbour : Neighbour) (holding : ℕ) → OnlyHellos s (hears s table key neighbour holding)
only_hears s table key neighbour holding = record {
  rest = record { place = refl; configuration = refl; hold = refl; moment = refl; count = refl; identifiers = refl; buffers = refl; pending = refl; congested = refl; attached = refl };
  outputs = (tt, tt);
  units = refl;
}

pub only_hears_each : (s : SystemState) (addresses : List (List ℕ)) (neighbour : Neighbour) (holding : ℕ) → OnlyHellos s (hears_each s addresses neighbour holding)
only_hears_each s [] neighbour holding = only_idles s
only_hears_each s (address ∷ others) neighbour holding =
    only_then s (hears s Es address neighbour holding) (λ t. hears_each t others neighbour holding) (only_hears s Es address neighbour holding)
    (only_hears_each (hears s Es address neighbour holding).after others neighbour holding)

pub only_answers : (s : SystemState) (heard : Effect) (neighbour : Neighbour) → OnlyHellos s heard → OnlyHellos s (answers_new heard neighbour)
only_answers s heard neighbour h =
    only_then s heard (λ t. if list_any tells_new heard.outputs then tells_of_itself t neighbour.port neighbour.snpa else idles t) h
    (only_one_of heard.after (list_any tells_new heard.outputs) _ _ (only_tells heard.after neighbour.port neighbour.snpa) (only_idles heard.after))

rest_followed : (s t : SystemState) (test : Bool) → LeavesTheRest s t → LeavesTheRest s (if test then s else t)
rest_followed s t true h = rest-itself s
rest_followed s t false h = h

pub rest_follows : (s : SystemState) (timer : Option ℕ) → LeavesTheRest s (follows s timer)
rest_follows s None = rest-itself s
rest_follows s (Some seconds) =
    rest_followed s (record s { hello = seconds; next_hello = min s.next_hello (s.moment + 2 * seconds) }) (seconds == 0 || is_silent s)
    (record { place = refl; configuration = refl; hold = refl; moment = refl; count = refl; identifiers = refl; buffers = refl; pending = refl; congested = refl; attached = refl })

only_end_system : (role : Role) (s : SystemState) (neighbour : Neighbour) (holding : ℕ) (addresses : List (List ℕ))
    → OnlyHellos s (end_system_heard role s neighbour holding addresses)
only_end_system Host s neighbour holding addresses = only_hears_each s addresses neighbour holding
only_end_system Router s neighbour holding addresses =
    only_answers s (hears_each s addresses neighbour holding) neighbour (only_hears_each s addresses neighbour holding)

only_intermediate_system : (role : Role) (s : SystemState) (neighbour : Neighbour) (holding : ℕ) (title : List ℕ) (timer : Option ℕ)
    → OnlyHellos s (intermediate_system_heard role s neighbour holding title timer)
only_intermediate_system Host s neighbour holding title timer =
    let heard = answers_new (hears s Is title neighbour holding) neighbour in
    only_then s heard (λ t. idles (follows t timer))
    (only_answers s (hears s Is title neighbour holding) neighbour (only_hears s Is title neighbour holding))
    (record { rest = rest_follows heard.after timer; outputs = tt; units = refl })
only_intermediate_system Router s neighbour holding title timer = only_gives s s _ (rest-itself s) (tt, tt)

only_redirect : (role : Role) (s : SystemState) (neighbour : Neighbour) (holding : ℕ) (to via : List ℕ) → OnlyHellos s (redirect_heard role s neighbour holding to via)
only_redirect Host s neighbour holding to via =
    only_one_of s (is_router s.moment neighbour.snpa s.facts) _ _ (only_hears s Rd to (record { port = neighbour.port; snpa = via }) holding)
    (only_gives s s _ (rest-itself s) (tt, tt))
only_redirect Router s neighbour holding to via = only_gives s s _ (rest-itself s) (tt, tt)

pub only_heard : (role : Role) (s : SystemState) (neighbour : Neighbour) (holding : ℕ) (body : EsisBody) (timer : Option ℕ)
    → OnlyHellos s (esis_heard role s neighbour holding body timer)
only_heard role s neighbour holding (Esh addresses) timer = only_end_system role s neighbour holding addresses
only_heard role s neighbour holding (Ish title) timer = only_intermediate_system role s neighbour holding title timer
only_heard role s neighbour holding (body.Rd to via title) timer = only_redirect role s neighbour holding to via

pub only_comes : (s : SystemState) (neighbour : Neighbour) (v : EsisValue) → OnlyHellos s (esis_comes s neighbour v)
only_comes s neighbour v = only_heard s.configuration.role s neighbour v.holding v.body (suggested v.body v.options)

-- what is forgotten

pub only_forgets : (before : ℕ) (s : SystemState) → OnlyHellos s (forgets before s)
only_forgets before s = only_gives s s (map gone_note (gone before s.moment s.facts)) (rest-itself s) (AllByRecursion-map_any IsOfHellos gone_note _ (λ key. tt))

-- the answer to a packet for a group

pub only_responds : (s : SystemState) (neighbour : Neighbour) (to_group : Bool) (p : Packet) → OnlyHellos s (responds s neighbour to_group p)
only_responds s neighbour to_group p =
    only_one_of s (is_asked_for s.configuration.role s to_group p) _ _ (only_tells s neighbour.port neighbour.snpa) (only_idles s)

-- A system's own hello goes by its configuration and by how often it is said.

abbrev pub said : Role → SystemConfiguration → ℕ → EsisValue
said Host c seconds = value (holding_time seconds) c.settings.sealed (Esh c.addresses) []
said Router c seconds =
    value (holding_time seconds) c.settings.sealed (Ish (first_of (slice_get c.addresses 0))) (timer_options (wish c.settings.suggest))

said_by : (role : Role) (s : SystemState) → hello_of role s ≡ said role s.configuration s.hello
said_by Host s = refl
said_by Router s = refl

pub hello_is : (s : SystemState) → own_hello s ≡ said s.configuration.role s.configuration s.hello
hello_is s = said_by s.configuration.role s

pub same_hello : (s t : SystemState) → t.configuration ≡ s.configuration → t.hello ≡ s.hello → own_hello t ≡ own_hello s
same_hello s t same often =
    hello_is t
    ∙ ap (λ (c : SystemConfiguration). said c.role c t.hello) same
    ∙ ap (λ (seconds : ℕ). said s.configuration.role s.configuration seconds) often
    ∙ sym (hello_is s)
