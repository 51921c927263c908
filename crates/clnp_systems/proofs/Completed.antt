-- The buffer that a segment makes whole, and the data that are handed up from it.
use Rattle.std.proofs.Common.{◌≡◌, ℕ, List, Some, refl, sym, subst}
use Rattle.clnp_machine.specs.ClnpViews.Extent.{Extent}
use Rattle.clnp_machine.specs.SystemTables.declared.reassembly.segment.Key.{Key}
use Rattle.clnp_machine.specs.SystemTables.declared.reassembly.table.TableLimits.{TableLimits}
use Rattle.clnp_machine.specs.Reassembly.Arrival.{Arrival, octet_in}
use Rattle.clnp_machine.specs.Reassembly.Buffer.{Buffer, Whole, after, answer, buffer_of, data_of}
use Rattle.clnp_machine.specs.Reassembly.State.{Names, Stands, TableState}
use Rattle.clnp_systems.specs.Receipt.{AreDataAt}
use Rattle.clnp_systems.proofs.Buffers.{key_found, made_whole}

module _ {C : Type 0} where
  -- the buffer of a segment's key
  pub record IsCompleted (arrival : Arrival C) (buffers : List (Buffer C)) : Type 0 where
    pub buffer : Buffer C
    pub found : buffer_of arrival.key buffers ≡ Some buffer
    pub key : buffer.key ≡ arrival.key

  pub completed : (limits : TableLimits) (now : ℕ) (arrival : Arrival C) (buffers : List (Buffer C)) → answer limits now arrival buffers ≡ Whole
      → IsCompleted arrival (after limits now arrival buffers)
  completed limits now arrival buffers told =
      let made = made_whole limits now arrival buffers told in
      record { buffer = made.buffer; found = made.found; key = key_found arrival.key (after limits now arrival buffers) made.buffer made.found }

-- its data stand at the slot that names its key
pub data_at : (table : TableState) (slot : ℕ) (arrival : Arrival Extent) (buffers : List (Buffer Extent)) → Stands table buffers
    → Names table slot arrival.key → (done : IsCompleted arrival buffers) → AreDataAt table slot (data_of octet_in done.buffer)
data_at table slot arrival buffers stands named done = record {
  buffers = buffers;
  stands = stands;
  buffer = done.buffer;
  is_there = subst (λ (k : Key). buffer_of k buffers ≡ Some done.buffer) (sym done.key) done.found;
  named = subst (λ (k : Key). Names table slot k) (sym done.key) named;
  octets_are = refl;
}
