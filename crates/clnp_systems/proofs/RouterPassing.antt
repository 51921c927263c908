-- What comes of a packet for another address, at a router.
use Rattle.std.proofs.Common.{◌≡◌, ◌∙◌, sym, ap, ℕ, Bool, false, List, ◌++◌, if◌then◌else◌}
use Rattle.std.specs.Prelude.{◌==◌}
use Rattle.std.proofs.lemmas.List.{append-nil}
use Rattle.clnp_machine.specs.SystemTables.declared.esis_tables.fact.Neighbour.{Neighbour}
use Rattle.clnp_machine.specs.ClnpOptions.Reasons.{reason_code}
use Rattle.clnp_machine.specs.Pdus.declared.clnp_options.reasons.Reason.TheVariants.{LifetimeExpiredInTransit}
use Rattle.clnp_machine.specs.ClnpPlan.Configuration.{SystemConfiguration}
use Rattle.clnp_machine.specs.ClnpPlan.declared.config.Role.{Role}
use Rattle.clnp_machine.specs.ClnpPlan.declared.config.Role.TheVariants.{Router}
use Rattle.clnp_machine.specs.Content.{Labelled}
use Rattle.clnp_machine.specs.Local.{is_own, receive}
use Rattle.clnp_machine.specs.Step.{content_comes, discards, effect_of, goes_on, packet_comes, passes_by, responds}
use Rattle.clnp_machine.specs.System.{Effect, SystemState}
use Rattle.clnp_machine.specs.Unit.{Packet}
use Rattle.clnp_systems.proofs.Receipt.{responds_stays, router_is_quiet}

-- it is all that is done

abbrev pub onward : SystemState → (came : Neighbour) → Packet → List ℕ → Effect
onward s came p following = goes_on s came p following

forwards : (s : SystemState) (came : Neighbour) (p : Packet) (following : List ℕ) → s.configuration.role ≡ Router → (p.lifetime == 0) ≡ false
    → is_own s p.unit.destination ≡ false → packet_comes s came p following ≡ onward s came p following
forwards s came p following role alive other =
    ap (λ (b : Bool). if b then discards s p following (reason_code LifetimeExpiredInTransit)
    else (if is_own s p.unit.destination then effect_of (receive s p following) else passes_by s.configuration.role s came p following)) alive
    ∙ ap (λ (b : Bool). if b then effect_of (receive s p following) else passes_by s.configuration.role s came p following) other
    ∙ ap (λ (r : Role). passes_by r s came p following) role

pub passed_after : (s : SystemState) (neighbour : Neighbour) (group : Bool) (p : Packet) (following : List ℕ) → s.configuration.role ≡ Router
    → (p.lifetime == 0) ≡ false → is_own s p.unit.destination ≡ false
    → (onward s neighbour p following).after ≡ (content_comes s neighbour group (Labelled p following)).after
passed_after s neighbour group p following role alive other =
    sym (responds_stays (onward s neighbour p following).after neighbour group p)
    ∙ ap (λ (e : Effect). (responds e.after neighbour group p).after) (sym (forwards s neighbour p following role alive other))

pub passed_outputs : (s : SystemState) (neighbour : Neighbour) (group : Bool) (p : Packet) (following : List ℕ) → s.configuration.role ≡ Router
    → (p.lifetime == 0) ≡ false → is_own s p.unit.destination ≡ false
    → (packet_comes s neighbour p following).after.configuration ≡ s.configuration
    → (onward s neighbour p following).outputs ≡ (content_comes s neighbour group (Labelled p following)).outputs
passed_outputs s neighbour group p following role alive other itself =
    let e : Effect = onward s neighbour p following in
    let still : e.after.configuration.role ≡ Router =
    ap (λ (d : Effect). d.after.configuration.role) (sym (forwards s neighbour p following role alive other))
    ∙ ap (λ (c : SystemConfiguration). c.role) itself ∙ role in
    sym (append-nil e.outputs) ∙ ap (λ (answer : Effect). e.outputs ++ answer.outputs) (sym (router_is_quiet e.after neighbour group p still))
    ∙ ap (λ (d : Effect). d.outputs ++ (responds d.after neighbour group p).outputs) (sym (forwards s neighbour p following role alive other))
