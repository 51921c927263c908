use Rattle.std.proofs.Common.{◌∙◌, length, ap, arith, refl}
use Rattle.clnp_systems.proofs.Appending.{appends-made}
use Rattle.clnp_systems.proofs.endpoint.Endpoint.send.Goals as goal

pub push_reserved-requires : goal.push_reserved-requires
push_reserved-requires c = omega (arith, c.requires.room)

pub push_reserved-requires-2 : goal.push_reserved-requires-2
push_reserved-requires-2 c = omega (arith, c.requires.room, c.push_reserved.ensures.len, c.push_reserved.ensures.capacity)

pub returns-clause-number : goal.returns-clause-number
returns-clause-number c = c.saturating_add-unit.ensures

pub returns-clause-counted : goal.returns-clause-counted
returns-clause-counted c = refl

pub returns-clause-actions : goal.returns-clause-actions
returns-clause-actions c u is number =
    appends-made c.args.out.now.items c.push_reserved.new.self.items c.push_reserved-2.new.self.items u _ _ c.push_reserved.ensures.items
    c.push_reserved-2.ensures.items
    (rw (is.kind, number, is.identifier, is.source, is.destination, c.len.ensures.octets ∙ ap length is.shown) refl)
    (number, is.destination, is.spells, is.shown)

pub returns-clause-len : goal.returns-clause-len
returns-clause-len c = omega (arith, c.push_reserved.ensures.len, c.push_reserved-2.ensures.len)

pub returns-clause-capacity : goal.returns-clause-capacity
returns-clause-capacity c = omega (arith, c.push_reserved.ensures.capacity, c.push_reserved-2.ensures.capacity)
