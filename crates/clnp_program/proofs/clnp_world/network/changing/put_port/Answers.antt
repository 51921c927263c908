-- The port is read, and put elsewhere.
use Rattle.std.proofs.Common.{◌≡◌, ℕ, List, Some, arith, refl, subst}
use Rattle.std.specs.Prelude.{slice_get}
use Rattle.std.proofs.lemmas.Option.{slice_get_read}
use Rattle.clnp_machine.specs.ClnpPlan.declared.config.PortConfig.{PortConfig}
use Rattle.clnp_program.proofs.clnp_world.network.changing.put_port.Goals as goal

pub returns : goal.returns
returns c = λ s h.
    let ports = c.ports-ports.result.now in
    let port = c.index-ports-at.result in
    let there = subst (λ (number : ℕ). slice_get ports number ≡ Some port) c.from-at.ensures
    (slice_get_read ports _ c.from-at.result port refl (omega arith) c.index-ports-at.is) in
    record {
      port = port;
      there = subst (λ (own : List PortConfig). slice_get own c.args.number ≡ Some port) (c.ports-ports.ensures.stands s h) there;
      goes = c.set_port.ensures.stands s h;
    }
