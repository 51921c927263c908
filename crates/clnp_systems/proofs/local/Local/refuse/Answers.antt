use Rattle.std.proofs.Common.{ℕ, List, [], ◌∷◌, refl, sym, subst}
use Rattle.clnp_machine.specs.ClnpOptions.Reasons.{reason_code}
use Rattle.clnp_machine.specs.Local.{Tells, discard}
use Rattle.clnp_systems.specs.declared.action.Action.{Action}
use Rattle.clnp_systems.specs.LocalState.{EntityState}
use Rattle.clnp_systems.specs.Local.{Appends, Stands}
use Rattle.clnp_systems.proofs.Appending.{appends-more, appends-note}
use Rattle.clnp_systems.proofs.local.Local.refuse.Goals as goal

pub returns-clause-actions : goal.returns-clause-actions
returns-clause-actions c s content stands same =
    let here = subst (λ (e : EntityState). Stands e s) (sym c.self.view_is) stands in
    subst (λ (before : List Action). Appends before c.discard.new.out.items (Tells c.args.why ∷ (discard s content (reason_code c.args.reason) 0).actions))
    c.reserve_exact.ensures.items
    (appends-more c.reserve_exact.new.self.items c.note.new.out.items c.discard.new.out.items (Tells c.args.why ∷ [])
    (discard s content (reason_code c.args.reason) 0).actions
    (appends-note c.reserve_exact.new.self.items c.note.new.out.items _ _ c.note.ensures.noted refl)
    (subst (λ (reason : ℕ). Appends c.note.new.out.items c.discard.new.out.items (discard s content reason 0).actions) c.code.ensures
    (c.discard.ensures.actions c.self.inside.table s content here same)))
