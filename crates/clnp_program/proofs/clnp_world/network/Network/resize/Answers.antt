-- The subnetwork takes such frames, each port on it does, and its line is written.
use Rattle.std.proofs.Common.{◌≡◌, ◌∷◌, ℕ, List, [], Some, arith, refl, subst}
use Rattle.std.specs.Prelude.{slice_get, slice_set}
use Rattle.std.proofs.lemmas.Option.{slice_get_read}
use Rattle.std.proofs.lemmas.Result.{on_ok_weaker}
use Rattle.clnp_machine.specs.ClnpPlan.Journal.{Resized}
use Rattle.clnp_program.specs.ClnpWorld.Lines.{Gains}
use Rattle.clnp_program.proofs.ClnpWorld.ChangeSteps.{resizes_none, resizes_there}
use Rattle.clnp_program.proofs.clnp_world.network.Network.resize.Goals as goal

pub returns-then-at-subnets : goal.returns-then-at-subnets
returns-then-at-subnets g c = resizes_none c.args.self.now (g.L.LineSink.taken c.args.lines.now) c.args.subnets.now c.args.subnet c.args.mtu (omega arith)

pub returns : goal.returns
returns g c =
    let old = c.args.self.now in
    let mid = c.keep_mtu.new.self in
    let code = c.resize_each.new.self in
    let declared = c.index-subnets-at.result in
    on_ok_weaker c.take.result (λ line.
    resizes_there old mid code (g.L.LineSink.taken c.args.lines.now) (g.L.LineSink.taken c.take.new.self) c.args.subnets.now c.args.subnet c.args.mtu declared
    (subst (λ (at : ℕ). slice_get c.args.subnets.now at ≡ Some declared) c.from-at.ensures
    (slice_get_read c.args.subnets.now _ c.from-at.result declared refl (omega arith) c.index-subnets-at.is))
    c.requires
    (subst (λ (at : ℕ). mid.mtus.items ≡ slice_set old.mtus.items at c.args.mtu) c.from-at.ensures c.keep_mtu.ensures.mtus)
    c.keep_mtu.ensures.others c.resize_each.ensures
    (subst (λ (name : List ℕ). Gains (g.L.LineSink.taken c.args.lines.now) (g.L.LineSink.taken c.take.new.self) (Resized code.clock name c.args.mtu ∷ [])) c.name.ensures line))
    c.take.ensures
