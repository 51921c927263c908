-- What was heard tells it.
use Rattle.std.proofs.Common.{◌∙◌, sym, ap, subst, ℕ, ◌≤◌}
use Rattle.clnp_machine.specs.SystemTables.declared.esis_tables.fact.TableKind.TheVariants.{Es}
use Rattle.clnp_machine.specs.EsisTables.NextHop.{current_neighbour}
use Rattle.clnp_systems.specs.EntityState.{SystemEntityState}
use Rattle.clnp_systems.specs.EntityStands.{PartsStandSince}
use Rattle.clnp_systems.proofs.entity.SystemEntity.neighbour.Goals as goal

pub returns : goal.returns
returns c = λ s before h.
    let p = subst (λ (e : SystemEntityState). PartsStandSince before e s) (sym c.self.view_is) h in
    c.neighbour.ensures s before p.esis (subst (λ (n : ℕ). before ≤ n) (sym p.moment) p.since)
    ∙ ap (λ (now : ℕ). current_neighbour now Es c.args.of.now s.facts) p.moment
