-- What keeping a segment and taking one out do to the buffers.
use Rattle.std.proofs.Common.{◌≡◌, ◌≢◌, ℕ, ◌+◌, ◌<◌, ◌≤◌, Bool, true, false, cond, List, [], ◌∷◌, ◌++◌, Option, Some, None, length, map, refl, sym, ap, ◌∙◌, inl, inr, arith}
use Rattle.std.specs.Prelude.{is_none, not, nat_le, nat_lt, ◌&&◌}
use Rattle.std.specs.List.{sum}
use Rattle.std.proofs.lemmas.List.{length_push, length-append}
use Rattle.std.proofs.lemmas.Bool.{cases_Bool, leb-false, ltb-false}
use Rattle.system_tables.specs.declared.reassembly.segment.Key.{Key}
use Rattle.system_tables.specs.declared.reassembly.table.TableLimits.{TableLimits}
use Rattle.system_tables.specs.Reassembly.Arrival.{Arrival, same_key, are_covered}
use Rattle.system_tables.specs.Reassembly.Buffer.{Buffer, Answer, Many, buffer_of, kept_in, clashes, size_of, held, kept, refusal, opened_by, with_kept, after, buffers_of, without, but_last, holding, undone}
use Rattle.system_tables.specs.Reassembly.Claims.{KeepTo, MayBeKept}
pub use Rattle.pdus.proofs.ClnpBase.Choices.{if_none, none_is}
use Rattle.pdus.proofs.ClnpBase.Sums.{length_filter, sum_cons, sum_filter, sum_front, sum_one, sum_push}

room_for : (new full : Bool) (n m : ℕ) → (new && full) ≡ false → full ≡ nat_le m n → new ≡ true → n < m
room_for true full n m e f new = leb-false m n (sym f ∙ e)
room_for false full n m e f new = absurd (cc)

module _ {C : Type 0} where
  -- what is so of the buffers as they were, and of those with the segment kept where it isn't refused, is so after
  pub kept_or_not : (P : List (Buffer C) → Type 0) (refused : Option Answer) (before later : List (Buffer C))
      → P before → (refused ≡ None → P later) → P (buffers_of refused before later)
  kept_or_not P None before later old new = new refl
  kept_or_not P (Some answer) before later old new = old

  -- why a segment may be kept
  pub may_be_kept : (limits : TableLimits) (arrival : Arrival C) (buffers : List (Buffer C))
      → refusal limits arrival buffers ≡ None → MayBeKept limits arrival buffers
  may_be_kept limits arrival buffers e =
      let a = if_none (clashes (buffer_of arrival.key buffers) arrival.shape) _ _ e in
      let b = if_none (are_covered (kept_in (buffer_of arrival.key buffers)) arrival.offset arrival.len) _ _ a.1 in
      let c = if_none (is_none (buffer_of arrival.key buffers) && nat_le limits.slots (length buffers)) _ _ b.1 in
      let d = if_none (nat_lt limits.budget (held buffers + arrival.size)) _ _ c.1 in
      let f = if_none (nat_le limits.segments (kept buffers)) (Many (kept buffers)) None d.1 in
      record {
        slot = λ none. room_for (is_none (buffer_of arrival.key buffers)) (nat_le limits.slots (length buffers)) (length buffers) limits.slots c.0 refl (ap is_none none);
        budget = ltb-false limits.budget (held buffers + arrival.size) d.0;
        few = leb-false limits.segments (kept buffers) f.0;
      }

  -- one buffer more where there was none of the key
  pub length-with_kept : (limits : TableLimits) (now : ℕ) (arrival : Arrival C) (buffers : List (Buffer C))
      → length (with_kept limits now arrival buffers) ≡ length buffers + cond (is_none (buffer_of arrival.key buffers)) 1 0
  length-with_kept limits now arrival [] = omega arith
  length-with_kept limits now arrival (buffer ∷ others) =
      let ih = length-with_kept limits now arrival others in
      elim (cases_Bool (same_key buffer.key arrival.key)) [
        | inl same ↦ rw same (omega arith)
        | inr other ↦ rw other (omega arith)
      ]

  kept_cons : (buffer : Buffer C) (others : List (Buffer C)) → kept (buffer ∷ others) ≡ length buffer.kept + kept others
  kept_cons buffer others = sum_cons (λ (b : Buffer C). length b.kept) buffer others

  held_cons : (buffer : Buffer C) (others : List (Buffer C)) → held (buffer ∷ others) ≡ size_of buffer + held others
  held_cons buffer others = sum_cons size_of buffer others

  pub kept-with_kept : (limits : TableLimits) (now : ℕ) (arrival : Arrival C) (buffers : List (Buffer C))
      → kept (with_kept limits now arrival buffers) ≡ kept buffers + 1
  kept-with_kept limits now arrival [] = refl
  kept-with_kept limits now arrival (buffer ∷ others) =
      let ih = kept-with_kept limits now arrival others in
      let b = kept_cons buffer others in
      elim (cases_Bool (same_key buffer.key arrival.key)) [
        | inl same ↦
            rw same
            (let a = kept_cons (record buffer { kept = buffer.kept ++ arrival ∷ [] }) others in
            let l = length_push buffer.kept arrival in
            omega arith)
        | inr other ↦ rw other (let a = kept_cons buffer (with_kept limits now arrival others) in omega arith)
      ]

  pub held-with_kept : (limits : TableLimits) (now : ℕ) (arrival : Arrival C) (buffers : List (Buffer C))
      → held (with_kept limits now arrival buffers) ≡ held buffers + arrival.size
  held-with_kept limits now arrival [] =
      let a = held_cons (opened_by limits now arrival) [] in
      let s = sum_one (λ (a : Arrival C). a.size) arrival in
      let z : held {C = C} [] ≡ 0 = refl in
      omega arith
  held-with_kept limits now arrival (buffer ∷ others) =
      let ih = held-with_kept limits now arrival others in
      let b = held_cons buffer others in
      elim (cases_Bool (same_key buffer.key arrival.key)) [
        | inl same ↦
            rw same
            (let a = held_cons (record buffer { kept = buffer.kept ++ arrival ∷ [] }) others in
            let s = sum_push (λ (a : Arrival C). a.size) buffer.kept arrival in
            omega arith)
        | inr other ↦ rw other (let a = held_cons buffer (with_kept limits now arrival others) in omega arith)
      ]

  slots_within : (limits : TableLimits) (now : ℕ) (arrival : Arrival C) (buffers : List (Buffer C))
      → KeepTo limits buffers → MayBeKept limits arrival buffers → length (with_kept limits now arrival buffers) ≤ limits.slots
  slots_within limits now arrival buffers within may =
      rw length-with_kept
      (elim (cases_Bool (is_none (buffer_of arrival.key buffers))) [
        | inl new ↦ rw new (let room = may.slot (none_is (buffer_of arrival.key buffers) new) in omega arith)
        | inr old ↦ rw old (let l = within.slots in omega arith)
      ])

  pub kept_within : (limits : TableLimits) (now : ℕ) (arrival : Arrival C) (buffers : List (Buffer C))
      → KeepTo limits buffers → KeepTo limits (after limits now arrival buffers)
  kept_within limits now arrival buffers within =
      kept_or_not (KeepTo limits) (refusal limits arrival buffers) buffers (with_kept limits now arrival buffers) within
      (λ e.
      let may = may_be_kept limits arrival buffers e in
      record {
        slots = slots_within limits now arrival buffers within may;
        segments = (let a = kept-with_kept limits now arrival buffers in let f = may.few in omega arith);
        budget = (let a = held-with_kept limits now arrival buffers in let f = may.budget in omega arith);
      })

  pub without_within : (limits : TableLimits) (key : Key) (buffers : List (Buffer C))
      → KeepTo limits buffers → KeepTo limits (without key buffers)
  without_within limits key buffers within =
      record {
        slots = (let a = length_filter (λ (b : Buffer C). not (same_key b.key key)) buffers in let w = within.slots in omega arith);
        segments = (
            let a = sum_filter (λ (b : Buffer C). length b.kept) (λ (b : Buffer C). not (same_key b.key key)) buffers in
            let w = within.segments in omega arith
            );
        budget = (
            let a = sum_filter size_of (λ (b : Buffer C). not (same_key b.key key)) buffers in
            let w = within.budget in omega arith
            );
      }

  -- a segment that isn't refused is counted once
  pub held-after : (limits : TableLimits) (now : ℕ) (arrival : Arrival C) (buffers : List (Buffer C))
      → refusal limits arrival buffers ≡ None → held (after limits now arrival buffers) ≡ held buffers + arrival.size
  held-after limits now arrival buffers e =
      ap (λ refused. held (buffers_of refused buffers (with_kept limits now arrival buffers))) e ∙ held-with_kept limits now arrival buffers

  pub kept-after : (limits : TableLimits) (now : ℕ) (arrival : Arrival C) (buffers : List (Buffer C))
      → refusal limits arrival buffers ≡ None → kept (after limits now arrival buffers) ≡ kept buffers + 1
  kept-after limits now arrival buffers e =
      ap (λ refused. kept (buffers_of refused buffers (with_kept limits now arrival buffers))) e ∙ kept-with_kept limits now arrival buffers

  -- one that is refused changes nothing
  pub refused_changes_nothing : (refused : Option Answer) (before later : List (Buffer C)) → refused ≢ None → buffers_of refused before later ≡ before
  refused_changes_nothing None before later some = absurd (some refl)
  refused_changes_nothing (Some answer) before later some = refl

  length-but_last : (arrivals : List (Arrival C)) → length (but_last arrivals) ≤ length arrivals
  length-but_last [] = omega arith
  length-but_last (arrival ∷ []) = omega arith
  length-but_last (arrival ∷ next ∷ others) = let ih = length-but_last (next ∷ others) in omega arith

  size-but_last : (arrivals : List (Arrival C))
      → sum (map (λ arrival. arrival.size) (but_last arrivals)) ≤ sum (map (λ arrival. arrival.size) arrivals)
  size-but_last [] = omega arith
  size-but_last (arrival ∷ []) =
      let a = sum_one (λ (a : Arrival C). a.size) arrival in let z : sum (map (λ (a : Arrival C). a.size) []) ≡ 0 = refl in omega arith
  size-but_last (arrival ∷ next ∷ others) =
      let ih = size-but_last (next ∷ others) in
      let a = sum_cons (λ (a : Arrival C). a.size) arrival (next ∷ others) in
      let b = sum_cons (λ (a : Arrival C). a.size) arrival (but_last (next ∷ others)) in
      omega arith

  length-holding : (arrivals : List (Arrival C)) (buffer : Buffer C) → length (holding arrivals buffer) ≤ 1
  length-holding [] buffer = omega arith
  length-holding (arrival ∷ others) buffer = omega arith

  kept-holding : (arrivals : List (Arrival C)) (buffer : Buffer C) → kept (holding arrivals buffer) ≡ length arrivals
  kept-holding [] buffer = refl
  kept-holding (arrival ∷ others) buffer = sum_one (λ (b : Buffer C). length b.kept) (record buffer { kept = arrival ∷ others })

  held-holding : (arrivals : List (Arrival C)) (buffer : Buffer C)
      → held (holding arrivals buffer) ≡ sum (map (λ arrival. arrival.size) arrivals)
  held-holding [] buffer = refl
  held-holding (arrival ∷ others) buffer = sum_one size_of (record buffer { kept = arrival ∷ others })

  length-undone : (key : Key) (buffers : List (Buffer C)) → length (undone key buffers) ≤ length buffers
  length-undone key [] = omega arith
  length-undone key (buffer ∷ others) =
      let ih = length-undone key others in
      elim (cases_Bool (same_key buffer.key key)) [
        | inl same ↦
            rw (same, length-append (holding (but_last buffer.kept) buffer) others)
            (let l = length-holding (but_last buffer.kept) buffer in omega arith)
        | inr other ↦ rw other (omega arith)
      ]

  kept-undone : (key : Key) (buffers : List (Buffer C)) → kept (undone key buffers) ≤ kept buffers
  kept-undone key [] = omega arith
  kept-undone key (buffer ∷ others) =
      let ih = kept-undone key others in
      let b = kept_cons buffer others in
      elim (cases_Bool (same_key buffer.key key)) [
        | inl same ↦
            rw same
            (let a = sum_front (λ (b : Buffer C). length b.kept) (holding (but_last buffer.kept) buffer) others in
            let h = kept-holding (but_last buffer.kept) buffer in
            let l = length-but_last buffer.kept in
            omega arith)
        | inr other ↦ rw other (let a = kept_cons buffer (undone key others) in omega arith)
      ]

  held-undone : (key : Key) (buffers : List (Buffer C)) → held (undone key buffers) ≤ held buffers
  held-undone key [] = omega arith
  held-undone key (buffer ∷ others) =
      let ih = held-undone key others in
      let b = held_cons buffer others in
      elim (cases_Bool (same_key buffer.key key)) [
        | inl same ↦
            rw same
            (let a = sum_front size_of (holding (but_last buffer.kept) buffer) others in
            let h = held-holding (but_last buffer.kept) buffer in
            let l = size-but_last buffer.kept in
            omega arith)
        | inr other ↦ rw other (let a = held_cons buffer (undone key others) in omega arith)
      ]

  pub undone_within : (limits : TableLimits) (key : Key) (buffers : List (Buffer C))
      → KeepTo limits buffers → KeepTo limits (undone key buffers)
  undone_within limits key buffers within =
      record {
        slots = (let a = length-undone key buffers in let w = within.slots in omega arith);
        segments = (let a = kept-undone key buffers in let w = within.segments in omega arith);
        budget = (let a = held-undone key buffers in let w = within.budget in omega arith);
      }
