use Rattle.std.proofs.Common.{◌≡◌, subst}
use Rattle.clnp_machine.specs.Reassembly.Buffer.{held}
use Rattle.clnp_machine.specs.System.{SystemState}
use Rattle.clnp_systems.specs.Local.{Stands}
use Rattle.clnp_systems.specs.LocalState.{EntityState}
use Rattle.clnp_systems.specs.LocalSeen.{state_of}
use Rattle.clnp_systems.proofs.Held.{held_of}
use Rattle.clnp_systems.proofs.local.Local.held.Goals as goal

pub returns : goal.returns
returns c = record {
  held = subst (λ (e : EntityState). (s : SystemState) → Stands e s → c.held.result ≡ held s.buffers) c.self.view_is
      (held_of (state_of c.self.inside) c.held.result c.held.ensures.held);
}
