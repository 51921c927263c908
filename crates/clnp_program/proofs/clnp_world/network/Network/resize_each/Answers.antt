-- One system after another.
use Rattle.std.proofs.Common.{◌∙◌, arith}
use Rattle.clnp_program.proofs.ClnpWorld.ChangeSteps.{resizes_all, resizes_more}
use Rattle.clnp_program.proofs.clnp_world.network.Network.resize_each.Goals as goal

pub loop-place-preserved : goal.loop-place-preserved
loop-place-preserved c = record {
  changes = resizes_more c.args.self.now c.loop-place.self c.resize_at.new.self c.loop-place.place c.args.subnet c.args.mtu
      c.loop-place.invariant.changes c.resize_at.ensures.changes;
  systems = c.resize_at.ensures.systems ∙ c.loop-place.invariant.systems;
}

pub returns : goal.returns
returns c =
    resizes_all c.args.self.now c.loop-place.self c.loop-place.place c.args.subnet c.args.mtu c.loop-place.invariant.changes
    (omega (arith, c.args.self.now.systems.ok.0))
