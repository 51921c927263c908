-- No buffer is whole until an answer says so, and none is when that is undone.
use Rattle.std.proofs.Common.{◌≡◌, ℕ, ◌+◌, ◌&&◌, Bool, true, false, not, cond, List, [], ◌∷◌, ◌++◌, Option, Some, None, length, nat_le, nat_lt, ap, sym, ◌∙◌, refl, subst, inl, inr}
use Rattle.std.specs.Prelude.{is_none}
use Rattle.std.specs.List.{AllByRecursion}
use Rattle.std.proofs.lemmas.Bool.{cases_Bool}
use Rattle.pdus.specs.ClnpViews.Extent.{Extent}
use Rattle.system_tables.specs.declared.reassembly.segment.Key.{Key}
use Rattle.system_tables.specs.declared.reassembly.segment.Segment.{Segment}
use Rattle.system_tables.specs.declared.reassembly.table.TableLimits.{TableLimits}
use Rattle.system_tables.specs.Reassembly.Arrival.{Arrival, are_covered, arrival_of, same_key}
use Rattle.system_tables.specs.Reassembly.Buffer.{Answer, Buffer, Crowded, Held, Interference, Many, NoSlot, Repeat, Whole, after, answer, answer_of, buffer_of, buffers_of, clashes, held, holding, is_whole, is_whole_in, kept, kept_answer, kept_in, refusal, shape_in, undone, with_kept, without, without_due}
use Rattle.system_tables.specs.declared.reassembly.table.Accept.{Accept}
use Rattle.system_tables.specs.declared.reassembly.table.Accept.TheVariants as accept
use Rattle.system_tables.specs.declared.reassembly.table.SlotNo.{SlotNo}
use Rattle.system_tables.specs.Reassembly.Claims.{IsMadeWhole}
use Rattle.system_tables.specs.Reassembly.State.{IsWholeSlot, Names, Stands, TableState, said}
use Rattle.system_tables.proofs.ReassemblyFacts.Keys.{same_key-like}
use Rattle.pdus.proofs.ClnpBase.Filters.{AllByRecursion-filter}
use Rattle.system_tables.proofs.ReassemblyFacts.LawBuffers.{but_last-push, key_found, others_with_kept}

-- a chain of tests that doesn't come to an answer of a whole unit
cond_not_whole : (test : Bool) (told : Answer) (others : Option Answer) → (told ≡ Whole → ⊥) → (others ≡ Some Whole → ⊥)
    → cond test (Some told) others ≡ Some Whole → ⊥
cond_not_whole true told others here there e = here (let f : Some told ≡ Some Whole = e in cc)
cond_not_whole false told others here there e = there e

module _ {C : Type 0} where
  abbrev pub IsNotWhole : Buffer C → Type 0
  IsNotWhole buffer = is_whole buffer ≡ false

  -- a kept segment makes no other buffer whole than that of its key
  pub none_whole-with : (limits : TableLimits) (now : ℕ) (arrival : Arrival C) (buffers : List (Buffer C)) → AllByRecursion IsNotWhole buffers
      → is_whole_in (buffer_of arrival.key (with_kept limits now arrival buffers)) ≡ false
      → AllByRecursion IsNotWhole (with_kept limits now arrival buffers)
  none_whole-with limits now arrival [] none not =
      (rw (same_key-like arrival.key arrival.key refl) at not, tt)
  none_whole-with limits now arrival (buffer ∷ others) none not =
      elim (cases_Bool (same_key buffer.key arrival.key)) [
        | inl same ↦ (let not_here = rw same at not in let here = rw same at not_here in rw same (here, none.1))
        | inr other ↦ (let not_here = rw other at not in let there = rw other at not_here in
            rw other (none.0, none_whole-with limits now arrival others none.1 there))
      ]

  -- a refusal says nothing of a whole unit
  pub refusal_not_whole : (limits : TableLimits) (arrival : Arrival C) (buffers : List (Buffer C)) → refusal limits arrival buffers ≡ Some Whole → ⊥
  refusal_not_whole limits arrival buffers =
      cond_not_whole (clashes (buffer_of arrival.key buffers) arrival.shape) (Interference (shape_in (buffer_of arrival.key buffers) arrival.shape) arrival.shape) _
      (λ e. cc)
      (cond_not_whole (are_covered (kept_in (buffer_of arrival.key buffers)) arrival.offset arrival.len) Repeat _ (λ e. cc)
      (cond_not_whole (is_none (buffer_of arrival.key buffers) && nat_le limits.slots (length buffers)) (NoSlot (length buffers)) _ (λ e. cc)
      (cond_not_whole (nat_lt limits.budget (held buffers + arrival.size)) (Crowded (held buffers) arrival.size) _ (λ e. cc)
      (cond_not_whole (nat_le limits.segments (kept buffers)) (Many (kept buffers)) None (λ e. cc) (λ e. cc)))))

  kept_answer-false : (key : Key) (buffers : List (Buffer C)) (whole : Bool) → is_whole_in (buffer_of key buffers) ≡ whole
      → (kept_answer key buffers ≡ Whole → ⊥) → is_whole_in (buffer_of key buffers) ≡ false
  kept_answer-false key buffers true e not = absurd (not (ap (λ (b : Bool). cond b Whole Held) e))
  kept_answer-false key buffers false e not = e

  none_whole-by : (limits : TableLimits) (now : ℕ) (arrival : Arrival C) (buffers : List (Buffer C)) (refused : Option Answer)
      → AllByRecursion IsNotWhole buffers
      → (answer_of refused arrival.key (with_kept limits now arrival buffers) ≡ Whole → ⊥)
      → AllByRecursion IsNotWhole (buffers_of refused buffers (with_kept limits now arrival buffers))
  none_whole-by limits now arrival buffers (Some told) none not = none
  none_whole-by limits now arrival buffers None none not =
      none_whole-with limits now arrival buffers none
      (kept_answer-false arrival.key (with_kept limits now arrival buffers) _ refl not)

  -- where the answer isn't that a unit is whole, none is
  pub none_whole-after : (limits : TableLimits) (now : ℕ) (arrival : Arrival C) (buffers : List (Buffer C)) → AllByRecursion IsNotWhole buffers
      → (answer limits now arrival buffers ≡ Whole → ⊥) → AllByRecursion IsNotWhole (after limits now arrival buffers)
  none_whole-after limits now arrival buffers none not = none_whole-by limits now arrival buffers (refusal limits arrival buffers) none not

  pub record IsWholeIn (key : Key) (buffers : List (Buffer C)) : Type 0 where
    pub buffer : Buffer C
    pub found : buffer_of key buffers ≡ Some buffer
    pub whole : is_whole buffer ≡ true

  kept_answer-whole : (key : Key) (buffers : List (Buffer C)) (found : Option (Buffer C)) → buffer_of key buffers ≡ found
      → cond (is_whole_in found) Whole Held ≡ Whole → IsWholeIn key buffers
  kept_answer-whole key buffers None e told = absurd (cc)
  kept_answer-whole key buffers (Some buffer) e told =
      elim (cases_Bool (is_whole buffer)) [
        | inl whole ↦ record { buffer = buffer; found = e; whole = whole }
        | inr not ↦ absurd (let f : Held ≡ Whole = sym (ap (λ (b : Bool). cond b Whole Held) not) ∙ told in cc)
      ]

  made_whole-by : (limits : TableLimits) (now : ℕ) (arrival : Arrival C) (buffers : List (Buffer C)) (refused : Option Answer)
      → refusal limits arrival buffers ≡ refused → answer_of refused arrival.key (with_kept limits now arrival buffers) ≡ Whole
      → IsMadeWhole limits now arrival buffers
  made_whole-by limits now arrival buffers (Some told) e whole = absurd (refusal_not_whole limits arrival buffers (e ∙ ap (λ (t : Answer). Some t) whole))
  made_whole-by limits now arrival buffers None e whole =
      let kept = kept_answer-whole arrival.key (with_kept limits now arrival buffers) (buffer_of arrival.key (with_kept limits now arrival buffers)) refl whole in
      let same : after limits now arrival buffers ≡ with_kept limits now arrival buffers
      = ap (λ (refused : Option Answer). buffers_of refused buffers (with_kept limits now arrival buffers)) e in
      record { after_is = same; buffer = kept.buffer; found = ap (λ (l : List (Buffer C)). buffer_of arrival.key l) same ∙ kept.found; whole = kept.whole }

  -- where it is, the segment was kept, and the buffer of its key is whole
  pub made_whole : (limits : TableLimits) (now : ℕ) (arrival : Arrival C) (buffers : List (Buffer C)) → answer limits now arrival buffers ≡ Whole
      → IsMadeWhole limits now arrival buffers
  made_whole limits now arrival buffers whole = made_whole-by limits now arrival buffers (refusal limits arrival buffers) refl whole

  -- a buffer that is taken out makes no other whole
  pub none_whole-without : (key : Key) (buffers : List (Buffer C)) → AllByRecursion IsNotWhole buffers → AllByRecursion IsNotWhole (without key buffers)
  none_whole-without key buffers none = AllByRecursion-filter (λ (b : Buffer C). not (same_key b.key key)) IsNotWhole IsNotWhole (λ b t k. k) buffers none

  pub none_whole-without_due : (ended : Option (Buffer C)) (buffers : List (Buffer C)) → AllByRecursion IsNotWhole buffers
      → AllByRecursion IsNotWhole (without_due ended buffers)
  none_whole-without_due None buffers none = none
  none_whole-without_due (Some ended) buffers none = none_whole-without ended.key buffers none

  pub none_whole-released : (limits : TableLimits) (now : ℕ) (arrival : Arrival C) (buffers : List (Buffer C)) → AllByRecursion IsNotWhole buffers
      → answer limits now arrival buffers ≡ Whole → AllByRecursion IsNotWhole (without arrival.key (after limits now arrival buffers))
  none_whole-released limits now arrival buffers none whole =
      rw ((made_whole limits now arrival buffers whole).after_is) (others_with_kept IsNotWhole limits now arrival buffers none)

  -- a segment that is kept and taken out again leaves no other buffers than there were
  all_holding : (P : Buffer C → Type 0) (buffer : Buffer C) (arrivals : List (Arrival C)) (others : List (Buffer C)) → P (record buffer { kept = arrivals })
      → AllByRecursion P others → AllByRecursion P (holding arrivals buffer ++ others)
  all_holding P buffer [] others here all = all
  all_holding P buffer (arrival ∷ more) others here all = (here, all)

  pub all_undone : (P : Buffer C → Type 0) (limits : TableLimits) (now : ℕ) (arrival : Arrival C) (buffers : List (Buffer C)) → AllByRecursion P buffers
      → AllByRecursion P (undone arrival.key (with_kept limits now arrival buffers))
  all_undone P limits now arrival [] all = rw (same_key-like arrival.key arrival.key refl) tt
  all_undone P limits now arrival (buffer ∷ others) all =
      elim (cases_Bool (same_key buffer.key arrival.key)) [
        | inl same ↦ rw same (rw (same, but_last-push buffer.kept arrival) (all_holding P (record buffer { kept = buffer.kept ++ arrival ∷ [] }) buffer.kept others all.0 all.1))
        | inr other ↦ rw other (rw other (all.0, all_undone P limits now arrival others all.1))
      ]

  pub none_whole-undone : (limits : TableLimits) (now : ℕ) (arrival : Arrival C) (buffers : List (Buffer C)) → AllByRecursion IsNotWhole buffers
      → answer limits now arrival buffers ≡ Whole → AllByRecursion IsNotWhole (undone arrival.key (after limits now arrival buffers))
  none_whole-undone limits now arrival buffers none whole =
      rw ((made_whole limits now arrival buffers whole).after_is) (all_undone IsNotWhole limits now arrival buffers none)

-- what the code says is that a unit is whole only where it gives a slot
pub said_not_whole : (told : Accept) → ((slot : SlotNo) → told ≡ accept.Whole slot → ⊥) → said told ≡ Whole → ⊥
said_not_whole accept.Held not e = cc
said_not_whole accept.Repeat not e = cc
said_not_whole (accept.Whole slot) not e = not slot refl
said_not_whole (accept.Interference kept offered) not e = cc
said_not_whole (accept.NoSlot live) not e = cc
said_not_whole (accept.Crowded held size) not e = cc
said_not_whole (accept.Many kept) not e = cc

-- the slot that the code gives is that of the whole buffer
pub whole_slot : (table : TableState) (slot : ℕ) (limits : TableLimits) (now : ℕ) (segment : Segment) (buffers : List (Buffer Extent))
    → Stands table (after limits now (arrival_of segment) buffers) → Names table slot segment.key
    → answer limits now (arrival_of segment) buffers ≡ Whole → IsWholeSlot table slot
whole_slot table slot limits now segment buffers stands named told =
    let made = made_whole limits now (arrival_of segment) buffers told in
    let key = (key_found segment.key (after limits now (arrival_of segment) buffers) made.buffer made.found) in
    record {
      buffers = after limits now (arrival_of segment) buffers;
      stands = stands;
      buffer = made.buffer;
      is_there = subst (λ (k : Key). buffer_of k (after limits now (arrival_of segment) buffers) ≡ Some made.buffer) (sym key) made.found;
      named = subst (λ (k : Key). Names table slot k) (sym key) named;
      whole = made.whole;
    }
