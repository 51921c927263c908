use Rattle.std.proofs.Common.{◌∙◌, List, sym, ap, subst}
use Rattle.std.proofs.Math.Seq.{take-length}
use Rattle.clnp_machine.specs.ClnpViews.Extent.{Extent, seen}
use Rattle.clnp_machine.specs.Local.{discard}
use Rattle.clnp_systems.specs.declared.action.Action.{Action}
use Rattle.clnp_systems.specs.LocalState.{EntityState}
use Rattle.clnp_systems.specs.Local.{Appends, Stands}
use Rattle.clnp_systems.proofs.local.Local.discard.Goals as goal

pub returns-clause-stands : goal.returns-clause-stands
returns-clause-stands c s content stands moment carried same =
    c.discard.ensures.stands c.self.inside.table s content (subst (λ (e : EntityState). Stands e s) (sym c.self.view_is) stands)
    (same ∙ sym (ap (λ (e : Extent). seen e) c.in_ok-frame.ensures ∙ take-length c.args.frame.now))

pub returns-clause-actions : goal.returns-clause-actions
returns-clause-actions c s content stands moment carried same =
    subst (λ (before : List Action). Appends before c.discard.new.out.items (discard s content c.args.reason c.args.place).actions)
    c.reserve_exact.ensures.items
    (c.discard.ensures.actions c.self.inside.table s content (subst (λ (e : EntityState). Stands e s) (sym c.self.view_is) stands)
    (same ∙ sym (ap (λ (e : Extent). seen e) c.in_ok-frame.ensures ∙ take-length c.args.frame.now)))
