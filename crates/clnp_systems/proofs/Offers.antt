-- Packets that are kept are as they were offered.
use Rattle.std.proofs.Common.{◌≡◌, ℕ, not, List, [], ◌∷◌, Option, Some, None, inl, inr}
use Rattle.std.specs.List.{AllByRecursion}
use Rattle.std.proofs.lemmas.Bool.{cases_Bool}
use Rattle.clnp_machine.specs.SystemTables.declared.reassembly.segment.Key.{Key}
use Rattle.clnp_machine.specs.SystemTables.declared.reassembly.table.TableLimits.{TableLimits}
use Rattle.clnp_machine.specs.Reassembly.Arrival.{Arrival, same_key}
use Rattle.clnp_machine.specs.Reassembly.Buffer.{Answer, Buffer, after, buffer_of, buffers_of, refusal, with_kept, without}
use Rattle.clnp_machine.proofs.ClnpBase.Filters.{AllByRecursion-filter}
use Rattle.clnp_machine.proofs.ClnpBase.Lists.{AllByRecursion-find, AllByRecursion-push}

module _ {C : Type 0} (P : Arrival C → Type 0) where
  -- each kept segment is so
  abbrev pub AllKept : List (Buffer C) → Type 0
  AllKept buffers = AllByRecursion (λ (buffer : Buffer C). AllByRecursion P buffer.kept) buffers

  all_with : (limits : TableLimits) (now : ℕ) (arrival : Arrival C) (buffers : List (Buffer C)) → AllKept buffers → P arrival
      → AllKept (with_kept limits now arrival buffers)
  all_with limits now arrival [] all here = ((here, tt), tt)
  all_with limits now arrival (buffer ∷ others) all here =
      elim (cases_Bool (same_key buffer.key arrival.key)) [
        | inl same ↦ rw same (AllByRecursion-push P buffer.kept arrival all.0 here, all.1)
        | inr other ↦ rw other (all.0, all_with limits now arrival others all.1 here)
      ]

  all_by : (refused : Option Answer) (before later : List (Buffer C)) → AllKept before → AllKept later → AllKept (buffers_of refused before later)
  all_by None before later all all_later = all_later
  all_by (Some told) before later all all_later = all

  pub all_after : (limits : TableLimits) (now : ℕ) (arrival : Arrival C) (buffers : List (Buffer C)) → AllKept buffers → P arrival
      → AllKept (after limits now arrival buffers)
  all_after limits now arrival buffers all here =
      all_by (refusal limits arrival buffers) buffers (with_kept limits now arrival buffers) all (all_with limits now arrival buffers all here)

  pub all_without : (key : Key) (buffers : List (Buffer C)) → AllKept buffers → AllKept (without key buffers)
  all_without key buffers all =
      AllByRecursion-filter (λ (b : Buffer C). not (same_key b.key key)) (λ (b : Buffer C). AllByRecursion P b.kept) (λ (b : Buffer C). AllByRecursion P b.kept)
      (λ b t k. k) buffers all

  pub all_found : (key : Key) (buffers : List (Buffer C)) (buffer : Buffer C) → buffer_of key buffers ≡ Some buffer → AllKept buffers → AllByRecursion P buffer.kept
  all_found key buffers buffer found all =
      AllByRecursion-find (λ (b : Buffer C). AllByRecursion P b.kept) (λ (b : Buffer C). same_key b.key key) buffers buffer found all
