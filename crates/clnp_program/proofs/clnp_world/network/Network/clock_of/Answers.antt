-- The maker's own clock, where it has one.
use Rattle.std.proofs.Common.{arith}
use Rattle.clnp_program.proofs.ClnpWorld.TickSteps.{clock_past, clock_there}
use Rattle.clnp_program.proofs.clnp_world.network.Network.clock_of.Goals as goal

pub returns-then-place-len : goal.returns-then-place-len
returns-then-place-len c =
    clock_past c.args.self.now c.args.maker c.in-Some.place c.in-Some.is (omega (arith, c.args.self.now.systems.ok.0))

pub returns : goal.returns
returns c =
    clock_there c.args.self.now c.args.maker c.in-Some.place c.moment_at.result c.in-Some.is (omega (arith, c.args.self.now.systems.ok.0))
    c.moment_at.ensures.moment
