-- The port is read, or there is none at its number.
use Rattle.std.proofs.Common.{arith}
use Rattle.std.proofs.lemmas.Result.{on_ok_weaker}
use Rattle.clnp_program.proofs.ClnpWorld.PutSteps.{copies_past, copies_read}
use Rattle.clnp_program.proofs.clnp_world.network.Network.put_copy.Goals as goal

pub returns-then-number-ports-clause-puts : goal.returns-then-number-ports-clause-puts
returns-then-number-ports-clause-puts c = λ model system h there.
    copies_past c.args.self.now c.ports_at-ports.result.now system.attached.ports c.from-number.result c.args.port c.args.target c.args.origin c.args.frame
    (c.ports_at-ports.ensures.ports model system h there) (omega arith) (omega arith)

pub returns-clause-puts : goal.returns-clause-puts
returns-clause-puts c =
    on_ok_weaker c.push_copy.result (λ put model system h there.
    copies_read c.args.self.now c.push_copy.new.self c.ports_at-ports.result.now system.attached.ports c.from-number.result c.args.port
    c.index-ports-number.result c.args.target c.args.origin c.args.frame
    (c.ports_at-ports.ensures.ports model system h there) (omega arith) (omega arith)
    c.index-ports-number.is put)
    c.push_copy.ensures.puts
