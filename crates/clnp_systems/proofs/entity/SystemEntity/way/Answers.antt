-- A neighbour was heard of, or a route leads there.
use Rattle.std.proofs.Common.{◌∙◌, sym, ap, subst, ℕ, ◌≤◌, None, Some}
use Rattle.std.specs.Option.{option_copied}
use Rattle.clnp_machine.specs.declared.way.Way.{Way}
use Rattle.clnp_systems.specs.EntityState.{SystemEntityState}
use Rattle.clnp_systems.specs.EntityStands.{PartsStandSince}
use Rattle.clnp_systems.proofs.Hops.{way_heard, way_routed}
use Rattle.clnp_systems.proofs.entity.SystemEntity.way.Goals as goal

pub returns-in-Some : goal.returns-in-Some
returns-in-Some c = λ s before h.
    let p = subst (λ (e : SystemEntityState). PartsStandSince before e s) (sym c.self.view_is) h in
    ap (λ (way : Way). Some way) c.to_neighbour.ensures
    ∙ way_heard s c.self.inside.moment c.args.to.now c.in-Some.neighbour p.moment
    (sym c.in-Some.is ∙ c.neighbour.ensures s before p.esis (subst (λ (n : ℕ). before ≤ n) (sym p.moment) p.since))

pub returns-in_default-longest : goal.returns-in_default-longest
returns-in_default-longest c = λ s before h.
    let p = subst (λ (e : SystemEntityState). PartsStandSince before e s) (sym c.self.view_is) h in
    way_routed s c.self.inside.moment c.args.to.now None p.moment
    (sym c.in_default.is ∙ c.neighbour.ensures s before p.esis (subst (λ (n : ℕ). before ≤ n) (sym p.moment) p.since))
    (sym (ap option_copied c.in_default-longest.is)
    ∙ c.longest.ensures s.attached.routes p.routes)

pub returns : goal.returns
returns c = λ s before h.
    let p = subst (λ (e : SystemEntityState). PartsStandSince before e s) (sym c.self.view_is) h in
    ap (λ (way : Way). Some way) c.by_route.ensures
    ∙ way_routed s c.self.inside.moment c.args.to.now (Some c.in-Some-longest.route.now) p.moment
    (sym c.in_default.is ∙ c.neighbour.ensures s before p.esis (subst (λ (n : ℕ). before ≤ n) (sym p.moment) p.since))
    (sym (ap option_copied c.in-Some-longest.is)
    ∙ c.longest.ensures s.attached.routes p.routes)
