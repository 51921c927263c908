-- What comes of a packet for another address, at a host.
use Rattle.std.proofs.Common.{◌≡◌, ◌∙◌, refl, sym, ap, subst, ℕ, Bool, true, false, List, [], ◌∷◌, if◌then◌else◌}
use Rattle.std.specs.Prelude.{◌==◌, ◌&&◌, not}
use Rattle.clnp_machine.specs.SystemTables.declared.esis_tables.fact.Neighbour.{Neighbour}
use Rattle.clnp_machine.specs.ClnpOptions.Reasons.{reason_code}
use Rattle.clnp_machine.specs.Pdus.declared.clnp_options.reasons.Reason.TheVariants.{LifetimeExpiredInTransit}
use Rattle.clnp_machine.specs.ClnpPlan.declared.config.Role.{Role}
use Rattle.clnp_machine.specs.ClnpPlan.declared.config.Role.TheVariants.{Host}
use Rattle.clnp_machine.specs.ClnpPlan.declared.note.Note.TheVariants.{NotMine}
use Rattle.clnp_machine.specs.Content.{Content, Labelled}
use Rattle.clnp_machine.specs.Esis.{tells_of_itself}
use Rattle.clnp_machine.specs.Local.{is_own, receive, tells}
use Rattle.clnp_machine.specs.Step.{content_comes, discards, effect_of, is_asked_for, packet_comes, passes_by, responds}
use Rattle.clnp_machine.specs.System.{Effect, Notes, SystemState, gives, idles, then_does}
use Rattle.clnp_machine.specs.Unit.{Packet}
use Rattle.clnp_systems.specs.Comes.{IsForOther}
use Rattle.clnp_systems.specs.declared.passing.Passing.{Passing}

-- nobody was asked for by a packet for another address
asks_no_other : (group over own : Bool) → own ≡ false → (group && (not over && own)) ≡ false
asks_no_other true true own e = refl
asks_no_other true false own e = e
asks_no_other false over own e = refl

is_quiet : (s : SystemState) (neighbour : Neighbour) (group : Bool) (p : Packet) → s.configuration.role ≡ Host → is_own s p.unit.destination ≡ false
    → responds s neighbour group p ≡ idles s
is_quiet s neighbour group p role other =
    ap (λ (r : Role). if is_asked_for r s group p then tells_of_itself s neighbour.port neighbour.snpa else idles s) role
    ∙ ap (λ (b : Bool). if b then tells_of_itself s neighbour.port neighbour.snpa else idles s)
    (asks_no_other group (p.lifetime == 0) (is_own s p.unit.destination) other)

is_noted : (s : SystemState) (came : Neighbour) (p : Packet) (following : List ℕ) → s.configuration.role ≡ Host → (p.lifetime == 0) ≡ false
    → is_own s p.unit.destination ≡ false → packet_comes s came p following ≡ effect_of (tells s (NotMine p.unit.destination))
is_noted s came p following role alive other =
    ap (λ (b : Bool). if b then discards s p following (reason_code LifetimeExpiredInTransit)
    else (if is_own s p.unit.destination then effect_of (receive s p following) else passes_by s.configuration.role s came p following)) alive
    ∙ ap (λ (b : Bool). if b then effect_of (receive s p following) else passes_by s.configuration.role s came p following) other
    ∙ ap (λ (r : Role). passes_by r s came p following) role

passes : (s : SystemState) (neighbour : Neighbour) (group : Bool) (p : Packet) (following : List ℕ) → s.configuration.role ≡ Host
    → (p.lifetime == 0) ≡ false → is_own s p.unit.destination ≡ false
    → content_comes s neighbour group (Labelled p following) ≡ gives s (Notes (NotMine p.unit.destination) ∷ [])
passes s neighbour group p following role alive other =
    ap (λ (effect : Effect). then_does effect (λ t. responds t neighbour group p)) (is_noted s neighbour p following role alive other)
    ∙ ap (λ (effect : Effect). then_does (effect_of (tells s (NotMine p.unit.destination))) (λ t. effect))
    (is_quiet s neighbour group p role other)

-- it is noted, and nothing else is done
pub passed : (s : SystemState) (neighbour : Neighbour) (group : Bool) (content : Content) (passing : Passing) → IsForOther s content passing
    → s.configuration.role ≡ Host → content_comes s neighbour group content ≡ gives s (Notes (NotMine passing.to) ∷ [])
passed s neighbour group content passing other role =
    subst (λ (c : Content). content_comes s neighbour group c ≡ gives s (Notes (NotMine passing.to) ∷ [])) (sym other.content_is)
    (subst (λ (t : List ℕ). content_comes s neighbour group (Labelled other.packet other.following) ≡ gives s (Notes (NotMine t) ∷ []))
    other.has_value.destination
    (passes s neighbour group other.packet other.following role other.alive other.not_own))
