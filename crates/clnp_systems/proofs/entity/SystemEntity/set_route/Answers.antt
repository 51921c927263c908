-- The route is set, or memory was refused and all is as it was.
use Rattle.clnp_systems.specs.Seen.{state_of}
use Rattle.clnp_systems.proofs.Changing.{set_or_kept}
use Rattle.clnp_systems.proofs.entity.SystemEntity.set_route.Goals as goal

pub invariant_of-self : goal.invariant_of-self
invariant_of-self c = record {
  moment = c.self.invariant.moment;
  wide = c.self.invariant.wide;
  number = c.self.invariant.number;
  some = λ free.
      let r = c.self.invariant.some free in
      let routes = r.state.attached.routes in
      let some = set_or_kept c.set.result (state_of c.self.inside) c.set.new.self c.args.route r.state
      (c.set.ensures.stands routes r.stands.parts.routes) (c.set.ensures.same routes r.stands.parts.routes) r.stands.parts in
      record { state = some.0; stands = record { not_spent = r.stands.not_spent; parts = some.1 } };
}
