use Rattle.std.proofs.Common.{◌∙◌, List, ap, arith}
use Rattle.std.specs.List.{remove}
use Rattle.clnp_systems.specs.declared.pending.Request.{Request}
use Rattle.clnp_systems.proofs.pending.Pending.take_out.Goals as goal

pub invariant_of-self : goal.invariant_of-self
invariant_of-self c = omega (arith, c.remove.ensures.capacity, c.self.invariant)

pub returns-clause-left : goal.returns-clause-left
returns-clause-left c = c.remove.ensures.items ∙ ap (λ (l : List Request). remove l c.args.place) c.self.view_is
