use Rattle.std.proofs.Common.{ℕ, [], ◌∷◌, Option, sym, ap, subst}
use Rattle.clnp_machine.specs.ClnpOptions.Reasons.{reason_code}
use Rattle.clnp_machine.specs.Pdus.declared.clnp_options.reasons.Reason.TheVariants.{LifetimeExpiredInReassembly}
use Rattle.clnp_machine.specs.ClnpPlan.declared.note.Note.TheVariants.{Expired}
use Rattle.clnp_machine.specs.Reassembly.Buffer.{held}
use Rattle.clnp_machine.specs.Unit.{Packet}
use Rattle.clnp_machine.specs.Content.{Labelled}
use Rattle.clnp_machine.specs.Local.{Tells, discard, discard_first}
use Rattle.clnp_systems.specs.LocalState.{EntityState}
use Rattle.clnp_systems.specs.Endpoint.{StandsWith}
use Rattle.clnp_systems.specs.Local.{Appends, Stands}
use Rattle.clnp_systems.proofs.Appending.{appends-more, appends-note}
use Rattle.clnp_systems.proofs.Expiry.{began}
use Rattle.clnp_systems.proofs.local.Local.end.Goals as goal

pub returns-clause-stands : goal.returns-clause-stands
returns-clause-stands c s other stands same =
    let here = subst (λ (e : EntityState). Stands e s) (sym c.self.view_is) stands in
    let (p, is, shown) = began c.args.first c.in-Some.first other c.in-Some.is same in
    subst (λ (first : Option Packet). StandsWith c.self.inside.table c.discard.new.self (discard_first s first).after) (sym is)
    (subst (λ (reason : ℕ). StandsWith c.self.inside.table c.discard.new.self (discard s (Labelled p []) reason 0).after) c.code-reason.ensures
    (c.discard.ensures.stands c.self.inside.table s (Labelled p []) here shown))

pub returns-clause-actions : goal.returns-clause-actions
returns-clause-actions c s other stands same =
    let here = subst (λ (e : EntityState). Stands e s) (sym c.self.view_is) stands in
    let (p, is, shown) = began c.args.first c.in-Some.first other c.in-Some.is same in
    subst (λ (first : Option Packet). Appends c.args.out.now.items c.discard.new.out.items (Tells (Expired c.args.id (held s.buffers)) ∷ (discard_first s first).actions)) (sym is)
    (appends-more c.args.out.now.items c.note.new.out.items c.discard.new.out.items (Tells (Expired c.args.id (held s.buffers)) ∷ [])
    (discard s (Labelled p []) (reason_code LifetimeExpiredInReassembly) 0).actions
    (appends-note c.args.out.now.items c.note.new.out.items _ _ c.note.ensures.noted
    (ap (λ (n : ℕ). Expired c.args.id n) (c.held-held.ensures.held s stands)))
    (subst (λ (reason : ℕ). Appends c.note.new.out.items c.discard.new.out.items (discard s (Labelled p []) reason 0).actions) c.code-reason.ensures
    (c.discard.ensures.actions c.self.inside.table s (Labelled p []) here shown)))
