-- One port after another.
use Rattle.std.proofs.Common.{ap, arith, length, refl}
use Rattle.std.proofs.lemmas.Option.{slice_get_read}
use Rattle.clnp_program.proofs.ClnpWorld.ChangeSteps.{takes_all, takes_more}
use Rattle.clnp_program.proofs.clnp_world.network.Network.resize_at.Goals as goal

pub loop-number-preserved : goal.loop-number-preserved
loop-number-preserved c =
    let mid = c.loop-number.self in
    let node = c.index_mut.result.now in
    record {
      changes = takes_more c.args.self.now mid c.args.place c.loop-number.number c.args.subnet c.args.mtu node c.take_mtu.new.system
          c.loop-number.invariant.changes
          (slice_get_read mid.systems.items _ c.args.place node refl (omega (arith, mid.systems.ok.0, c.args.self.now.systems.ok.0, c.loop-number.invariant.systems)) c.index_mut.ensures.value)
          c.take_mtu.ensures;
      systems = c.loop-number.invariant.systems;
    }

pub returns-clause-changes : goal.returns-clause-changes
returns-clause-changes c =
    takes_all c.args.self.now c.loop-number.self c.args.place c.loop-number.number (length c.ports_at-count.result.now) c.args.subnet c.args.mtu
    (omega (arith, c.args.self.now.systems.ok.0)) c.loop-number.invariant.changes
    (λ model system h there. ap length (c.ports_at-count.ensures.ports model system h there)) (omega arith)
