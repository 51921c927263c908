-- Buffers of views show the very octets that the packets of other buffers spell: whatever is done with both, they still do.
use Rattle.std.proofs.Common.{◌≡◌, ℕ, List, length, sym, ap, ◌∙◌}
use Rattle.std.specs.Prelude.{option_map}
use Rattle.std.proofs.lemmas.List.{length-map}
use Rattle.clnp_machine.specs.ClnpViews.Extent.{Extent, seen}
use Rattle.clnp_machine.specs.SystemTables.declared.reassembly.segment.Key.{Key}
use Rattle.clnp_machine.specs.SystemTables.declared.reassembly.table.TableLimits.{TableLimits}
use Rattle.clnp_machine.specs.Reassembly.Arrival.{Arrival}
use Rattle.clnp_machine.specs.Reassembly.Buffer.{Buffer, after, answer, buffer_of, due, without}
use Rattle.clnp_machine.specs.Reassembly.Mapped.{map_arrival, map_buffer, map_buffers}
use Rattle.clnp_machine.specs.Unit.{Packet, wire}
use Rattle.clnp_systems.proofs.Buffers.{after-mapped, answer-mapped, buffer_of-mapped, due-mapped, without-mapped}

-- the buffers show the octets of others
abbrev pub Show : List (Buffer Extent) → List (Buffer Packet) → Type 0
Show buffers others = map_buffers seen buffers ≡ map_buffers wire others

module _ (buffers : List (Buffer Extent)) (others : List (Buffer Packet)) (show : Show buffers others) where
  pub length_shown : length buffers ≡ length others
  length_shown = sym (length-map buffers (map_buffer seen)) ∙ ap length show ∙ length-map others (map_buffer wire)

  pub without_shown : (key : Key) → Show (without key buffers) (without key others)
  without_shown key = sym (without-mapped seen key buffers) ∙ ap (without key) show ∙ without-mapped wire key others

  pub buffer_of_shown : (key : Key) → option_map (map_buffer seen) (buffer_of key buffers) ≡ option_map (map_buffer wire) (buffer_of key others)
  buffer_of_shown key = sym (buffer_of-mapped seen key buffers) ∙ ap (buffer_of key) show ∙ buffer_of-mapped wire key others

  pub due_shown : (now : ℕ) → option_map (map_buffer seen) (due now buffers) ≡ option_map (map_buffer wire) (due now others)
  due_shown now = sym (due-mapped seen now buffers) ∙ ap (due now) show ∙ due-mapped wire now others

  module _ (limits : TableLimits) (now : ℕ) (arrival : Arrival Extent) (other : Arrival Packet) (same : map_arrival seen arrival ≡ map_arrival wire other) where
    pub answer_shown : answer limits now arrival buffers ≡ answer limits now other others
    answer_shown =
        sym (answer-mapped seen limits now arrival buffers)
        ∙ ap (λ (a : Arrival (List ℕ)). answer limits now a (map_buffers seen buffers)) same
        ∙ ap (answer limits now (map_arrival wire other)) show
        ∙ answer-mapped wire limits now other others

    pub after_shown : Show (after limits now arrival buffers) (after limits now other others)
    after_shown =
        sym (after-mapped seen limits now arrival buffers)
        ∙ ap (λ (a : Arrival (List ℕ)). after limits now a (map_buffers seen buffers)) same
        ∙ ap (after limits now (map_arrival wire other)) show
        ∙ after-mapped wire limits now other others
