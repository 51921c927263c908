-- The system is quiet until identifiers have rested.
use Rattle.std.proofs.Common.{◌+◌, ℕ, arith, subst}
use Rattle.clnp_machine.specs.System.{first_state}
use Rattle.clnp_systems.specs.Stands as clnp_systems
use Rattle.clnp_program.proofs.live_node.node.LiveNode.new.Goals as goal

pub new-requires-clause-quiet : goal.new-requires-clause-quiet
new-requires-clause-quiet c = omega (arith, c.from.ensures, c.requires.reuse, c.requires.start)

pub returns-clause-system : goal.returns-clause-system
returns-clause-system c =
    subst (λ (rest : ℕ). clnp_systems.Stands c.in_ok-system.system (first_state 0 c.args.config.now c.args.limits.now c.args.start (c.args.start + rest)))
    c.from.ensures (c.in_ok-system.ensures.stands 0)
