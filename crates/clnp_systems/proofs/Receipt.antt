-- What comes of a packet for the system, and of one whose lifetime is over.
use Rattle.std.proofs.Common.{◌≡◌, ◌∙◌, refl, ap, ℕ, Bool, true, false, List, ◌++◌, if◌then◌else◌}
use Rattle.std.specs.Prelude.{◌==◌, ◌&&◌, not}
use Rattle.std.proofs.lemmas.List.{append-nil}
use Rattle.clnp_machine.specs.SystemTables.declared.esis_tables.fact.Neighbour.{Neighbour}
use Rattle.clnp_machine.specs.ClnpPlan.declared.config.Role.{Role}
use Rattle.clnp_machine.specs.ClnpPlan.declared.config.Role.TheVariants.{Host, Router}
use Rattle.clnp_machine.specs.Content.{Labelled}
use Rattle.clnp_machine.specs.Esis.{tells_of_itself, is_silent}
use Rattle.clnp_machine.specs.Local.{Deed, discard, is_own, receive}
use Rattle.clnp_machine.specs.Step.{content_comes, effect_of, is_asked_for, packet_comes, passes_by, responds}
use Rattle.clnp_machine.specs.System.{SystemState, Effect, idles}
use Rattle.clnp_machine.specs.Unit.{Packet}
use Rattle.clnp_machine.specs.ClnpOptions.Reasons.{reason_code}
use Rattle.clnp_machine.specs.Pdus.declared.clnp_options.reasons.Reason.TheVariants.{LifetimeExpiredInTransit}
use Rattle.clnp_machine.proofs.ClnpBase.Choices.{one_of}

-- ---- answers to a group

one_stays : (b : Bool) (t : SystemState) (first second : Effect) → first.after ≡ t → second.after ≡ t → (if b then first else second).after ≡ t
one_stays b t first second h k = one_of (λ (effect : Effect). effect.after ≡ t) b first second h k

pub responds_stays : (t : SystemState) (neighbour : Neighbour) (group : Bool) (p : Packet) → (responds t neighbour group p).after ≡ t
responds_stays t neighbour group p =
    one_stays (is_asked_for t.configuration.role t group p) t (tells_of_itself t neighbour.port neighbour.snpa) (idles t)
    (one_stays (is_silent t) t (idles t) _ refl refl) refl

asked_is : (t : SystemState) (neighbour : Neighbour) (group : Bool) (p : Packet) (role : Role) (asked : Bool) → t.configuration.role ≡ role
    → is_asked_for role t group p ≡ asked
    → responds t neighbour group p ≡ (if asked then tells_of_itself t neighbour.port neighbour.snpa else idles t)
asked_is t neighbour group p role asked is same =
    ap (λ (r : Role). if is_asked_for r t group p then tells_of_itself t neighbour.port neighbour.snpa else idles t) is
    ∙ ap (λ (b : Bool). if b then tells_of_itself t neighbour.port neighbour.snpa else idles t) same

pub host_responds : (t : SystemState) (neighbour : Neighbour) (group : Bool) (p : Packet) → t.configuration.role ≡ Host → group ≡ true → (p.lifetime == 0) ≡ false
    → is_own t p.unit.destination ≡ true → responds t neighbour group p ≡ tells_of_itself t neighbour.port neighbour.snpa
host_responds t neighbour group p role asked alive own =
    asked_is t neighbour group p Host true role
    (ap (λ (b : Bool). b && (not (p.lifetime == 0) && is_own t p.unit.destination)) asked
    ∙ ap (λ (b : Bool). true && (not b && is_own t p.unit.destination)) alive ∙ ap (λ (b : Bool). true && (not false && b)) own)

pub router_is_quiet : (t : SystemState) (neighbour : Neighbour) (group : Bool) (p : Packet) → t.configuration.role ≡ Router → responds t neighbour group p ≡ idles t
router_is_quiet t neighbour group p role = asked_is t neighbour group p Router false role refl

none_alone : (t : SystemState) (p : Packet) (role : Role) → is_asked_for role t false p ≡ false
none_alone t p Host = refl
none_alone t p Router = refl

pub alone_is_quiet : (t : SystemState) (neighbour : Neighbour) (group : Bool) (p : Packet) → group ≡ false → responds t neighbour group p ≡ idles t
alone_is_quiet t neighbour group p alone =
    asked_is t neighbour group p t.configuration.role false refl
    (ap (λ (b : Bool). is_asked_for t.configuration.role t b p) alone ∙ none_alone t p t.configuration.role)

none_over : (t : SystemState) (group : Bool) (p : Packet) (role : Role) → (p.lifetime == 0) ≡ true → is_asked_for role t group p ≡ false
none_over t true p Host over = ap (λ (b : Bool). true && (not b && is_own t p.unit.destination)) over
none_over t false p Host over = refl
none_over t group p Router over = refl

pub over_is_quiet : (t : SystemState) (neighbour : Neighbour) (group : Bool) (p : Packet) → (p.lifetime == 0) ≡ true → responds t neighbour group p ≡ idles t
over_is_quiet t neighbour group p over = asked_is t neighbour group p t.configuration.role false refl (none_over t group p t.configuration.role over)

-- ---- packets

abbrev other : SystemState → Neighbour → Packet → List ℕ → Effect
other s came p following = passes_by s.configuration.role s came p following

abbrev over_deed : SystemState → Packet → List ℕ → Deed
over_deed s p following = discard s (Labelled p following) (reason_code LifetimeExpiredInTransit) 0

own_effect : (s : SystemState) (came : Neighbour) (p : Packet) (following : List ℕ) → (p.lifetime == 0) ≡ false → is_own s p.unit.destination ≡ true
    → packet_comes s came p following ≡ effect_of (receive s p following)
own_effect s came p following alive own =
    ap (λ (b : Bool). if b then effect_of (over_deed s p following)
    else (if is_own s p.unit.destination then effect_of (receive s p following) else other s came p following)) alive
    ∙ ap (λ (b : Bool). if b then effect_of (receive s p following) else other s came p following) own

expired_effect : (s : SystemState) (came : Neighbour) (p : Packet) (following : List ℕ) → (p.lifetime == 0) ≡ true
    → packet_comes s came p following ≡ effect_of (over_deed s p following)
expired_effect s came p following over =
    ap (λ (b : Bool). if b then effect_of (over_deed s p following)
    else (if is_own s p.unit.destination then effect_of (receive s p following) else other s came p following)) over

-- what comes of a packet for the system
pub received_after : (s : SystemState) (p : Packet) (following : List ℕ) (neighbour : Neighbour) (group : Bool) → (p.lifetime == 0) ≡ false
    → is_own s p.unit.destination ≡ true → (content_comes s neighbour group (Labelled p following)).after ≡ (receive s p following).after
received_after s p following neighbour group alive own =
    responds_stays (packet_comes s neighbour p following).after neighbour group p ∙ ap (λ (e : Effect). e.after) (own_effect s neighbour p following alive own)

pub received_outputs : (s : SystemState) (p : Packet) (following : List ℕ) (neighbour : Neighbour) (group : Bool) → (p.lifetime == 0) ≡ false
    → is_own s p.unit.destination ≡ true
    → (content_comes s neighbour group (Labelled p following)).outputs
    ≡ (effect_of (receive s p following)).outputs ++ (responds (receive s p following).after neighbour group p).outputs
received_outputs s p following neighbour group alive own =
    ap (λ (e : Effect). e.outputs ++ (responds e.after neighbour group p).outputs) (own_effect s neighbour p following alive own)

-- what comes of one whose lifetime is over
pub expired_after : (s : SystemState) (p : Packet) (following : List ℕ) (neighbour : Neighbour) (group : Bool) → (p.lifetime == 0) ≡ true
    → (content_comes s neighbour group (Labelled p following)).after ≡ (over_deed s p following).after
expired_after s p following neighbour group over =
    responds_stays (packet_comes s neighbour p following).after neighbour group p ∙ ap (λ (e : Effect). e.after) (expired_effect s neighbour p following over)

pub expired_outputs : (s : SystemState) (p : Packet) (following : List ℕ) (neighbour : Neighbour) (group : Bool) → (p.lifetime == 0) ≡ true
    → (content_comes s neighbour group (Labelled p following)).outputs ≡ (effect_of (over_deed s p following)).outputs
expired_outputs s p following neighbour group over =
    ap (λ (e : Effect). e.outputs ++ (responds e.after neighbour group p).outputs) (expired_effect s neighbour p following over)
    ∙ ap (λ (e : Effect). (effect_of (over_deed s p following)).outputs ++ e.outputs) (over_is_quiet (over_deed s p following).after neighbour group p over)
    ∙ append-nil (effect_of (over_deed s p following)).outputs
