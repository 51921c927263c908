-- The buffer whose time ended first is taken out.
use Rattle.std.proofs.Common.{sym, subst}
use Rattle.clnp_systems.proofs.Expiry.{expired_appends, expired_stands, none_appends, none_stands}
use Rattle.clnp_systems.specs.Local.{Stands}
use Rattle.clnp_systems.specs.LocalState.{EntityState}
use Rattle.clnp_systems.specs.LocalSeen.{state_of}
use Rattle.clnp_systems.proofs.local.Local.give_up.Goals as goal

pub returns-in_default-clause-stands : goal.returns-in_default-clause-stands
returns-in_default-clause-stands c s stands moment =
    let here = subst (λ (e : EntityState). Stands e s) (sym c.self.view_is) stands in
    none_stands (state_of c.self.inside) c.args.now s here moment c.expire.new.self c.expire.ensures.limits
    (c.in_default.ensures.ended here.buffers here.table) (c.expire.ensures.stands here.buffers here.table)

pub returns-in_default-clause-actions : goal.returns-in_default-clause-actions
returns-in_default-clause-actions c s stands moment =
    let here = subst (λ (e : EntityState). Stands e s) (sym c.self.view_is) stands in
    none_appends (state_of c.self.inside) c.args.now s here moment c.args.out.now.items (c.in_default.ensures.ended here.buffers here.table)

pub returns-clause-stands : goal.returns-clause-stands
returns-clause-stands c s stands moment =
    let here = subst (λ (e : EntityState). Stands e s) (sym c.self.view_is) stands in
    expired_stands (state_of c.self.inside) c.args.now s here moment c.expire.new.self c.expire.ensures.limits c.in-Some.ended
    (c.in-Some.ensures.ended here.buffers here.table) (c.expire.ensures.stands here.buffers here.table) c.end.new.self c.end.ensures.stands

pub returns-clause-actions : goal.returns-clause-actions
returns-clause-actions c s stands moment =
    let here = subst (λ (e : EntityState). Stands e s) (sym c.self.view_is) stands in
    expired_appends (state_of c.self.inside) c.args.now s here moment c.expire.new.self c.expire.ensures.limits c.in-Some.ended
    (c.in-Some.ensures.ended here.buffers here.table) (c.expire.ensures.stands here.buffers here.table)
    c.args.out.now.items c.end.new.out.items c.end.ensures.actions
