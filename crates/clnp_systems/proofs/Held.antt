-- What an entity holds for reassembly.
use Rattle.std.proofs.Common.{◌≡◌, ℕ, List, sym, ap, ◌∙◌}
use Rattle.clnp_machine.specs.ClnpViews.Extent.{Extent, seen}
use Rattle.clnp_machine.specs.Reassembly.Buffer.{Buffer, held}
use Rattle.clnp_machine.specs.Reassembly.State as table
use Rattle.clnp_machine.specs.Unit.{wire}
use Rattle.clnp_machine.specs.System.{SystemState}
use Rattle.clnp_systems.specs.LocalState.{EntityState}
use Rattle.clnp_systems.specs.Local.{Stands}
use Rattle.clnp_systems.proofs.Buffers.{held-mapped}

-- the frames that are held are those of the packets
pub held_of : (local : EntityState) (octets : ℕ) → ((buffers : List (Buffer Extent)) → table.Stands local.table buffers → octets ≡ held buffers)
    → (s : SystemState) → Stands local s → octets ≡ held s.buffers
held_of local octets told s stands =
    told stands.buffers stands.table
    ∙ sym (held-mapped seen stands.buffers)
    ∙ ap held stands.shown
    ∙ held-mapped wire s.buffers
