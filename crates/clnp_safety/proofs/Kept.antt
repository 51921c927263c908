-- What holds of each buffer once a segment was offered, by the machine's laws.
use Rattle.clnp_machine.proofs.ClnpBase.Filters.{AllByRecursion-filter}
use Rattle.clnp_machine.proofs.ClnpBase.Lists.{AllByRecursion-contains, AllByRecursion-implies}
use Rattle.std.proofs.Common.{◌≡◌, sym, subst, ℕ, inl, inr, Bool, true, not, List, [], ◌∷◌, ◌++◌, Some, Contains}
use Rattle.std.specs.List.{AllByRecursion, find}
use Rattle.std.proofs.lemmas.Bool.{cases_Bool}
use Rattle.std.proofs.lemmas.Option.{none-some, same_Some}
use Rattle.clnp_machine.specs.SystemTables.declared.reassembly.segment.Key.{Key}
use Rattle.clnp_machine.specs.SystemTables.declared.reassembly.table.TableLimits.{TableLimits}
use Rattle.clnp_machine.specs.Reassembly.Arrival.{Arrival, same_key}
use Rattle.clnp_machine.specs.Reassembly.Buffer.{Buffer, after, opened_by, with_kept, without}
use Rattle.clnp_machine.specs.Unit.{Packet}
use Rattle.clnp_machine.specs.Told.{WasThereOrTakes}
use Rattle.clnp_safety.specs.StepLaws.{StepLaws}
pub use Rattle.clnp_machine.proofs.Reassembly.Shared.{due_is, made_whole, none_due, none_whole-after, same_key-refl, same_key-true}

pub find_passes : {X : Type 0} (p : X → Bool) (xs : List X) (x : X) → find p xs ≡ Some x → p x ≡ true
find_passes p [] x e = absurd (none-some x e)
find_passes p (y ∷ ys) x e =
    elim (cases_Bool (p y)) [
      | inl t ↦ subst (λ z. p z ≡ true) (same_Some y x (rw t at e)) t
      | inr f ↦ find_passes p ys x (rw f at e)
    ]

-- what holds of all buffers holds of those that are left where one is taken out
pub all_without : (P : Buffer Packet → Type 0) (key : Key) (buffers : List (Buffer Packet)) → AllByRecursion P buffers → AllByRecursion P (without key buffers)
all_without P key buffers h = AllByRecursion-filter (λ (b : Buffer Packet). not (same_key b.key key)) P P (λ b t k. k) buffers h

-- P holds of the buffer that is opened for a segment, and of that in which it is kept
pub record KeptIn (limits : TableLimits) (moment : ℕ) (arrival : Arrival Packet) (P : Buffer Packet → Type 0) : Type 0 where
  pub new : P (opened_by limits moment arrival)
  pub more : (buffer : Buffer Packet) → P buffer → same_key buffer.key arrival.key ≡ true → P (record buffer { kept = buffer.kept ++ arrival ∷ [] })

module _ (laws : StepLaws) (limits : TableLimits) (moment : ℕ) (arrival : Arrival Packet) (P : Buffer Packet → Type 0) where
  pub all_after : KeptIn limits moment arrival P → (buffers : List (Buffer Packet)) → AllByRecursion P buffers
      → AllByRecursion P (after limits moment arrival buffers)
  all_after keeps buffers all =
      AllByRecursion-implies (WasThereOrTakes limits moment arrival buffers) P
      (λ later was.
      elim was [
        | inl there ↦ AllByRecursion-contains P buffers later there all
        | inr (inl opened) ↦ subst P (sym opened) keeps.new
        | inr (inr takes) ↦
            subst P (sym takes.more) (keeps.more takes.before (AllByRecursion-contains P buffers takes.before takes.there all) takes.same)
      ])
      (after limits moment arrival buffers) (laws.segments.buffers limits moment arrival buffers)

  -- the buffers without that in which the segment was kept are some of those that were there
  pub others_with_kept : (buffers : List (Buffer Packet)) → AllByRecursion P buffers → AllByRecursion P (without arrival.key (with_kept limits moment arrival buffers))
  others_with_kept buffers all =
      AllByRecursion-implies (Contains buffers) P (λ b there. AllByRecursion-contains P buffers b there all)
      (without arrival.key (with_kept limits moment arrival buffers)) (laws.segments.others limits moment arrival buffers)
