-- What keeping and taking out leave of the buffers: their deadlines, their segments, and the buffers as they were.
use Rattle.std.proofs.Common.{◌≡◌, ℕ, not, subst, ◌<◌, List, [], ◌∷◌, ◌++◌, Some, None, length, refl, ap, ◌∙◌, inl, inr, arith}
use Rattle.std.proofs.lemmas.Bool.{cases_Bool}
use Rattle.std.proofs.lemmas.List.{length_push}
use Rattle.system_tables.specs.declared.reassembly.segment.Key.{Key}
use Rattle.system_tables.specs.declared.reassembly.table.TableLimits.{TableLimits}
use Rattle.system_tables.specs.Reassembly.Arrival.{Arrival, same_key}
use Rattle.system_tables.specs.Reassembly.Buffer.{Buffer, buffer_of, refusal, with_kept, after, buffers_of, without, but_last, holding, undone}
use Rattle.system_tables.specs.Reassembly.Claims.{StaysWithDeadline, NoneIsEmpty}
use Rattle.system_tables.proofs.ReassemblyFacts.Keys.{same_key-refl, same_key-true}
use Rattle.system_tables.proofs.ReassemblyFacts.LawKept.{kept_or_not}
use Rattle.std.proofs.lemmas.Option.{same_Some}
use Rattle.pdus.proofs.ClnpBase.Filters.{AllByRecursion-filter}
use Rattle.std.specs.List.{AllByRecursion}

module _ {C : Type 0} where
  -- the buffer of a key as it was, found among later buffers
  pub record IsThere (key : Key) (later : List (Buffer C)) (buffer : Buffer C) : Type 0 where
    pub now : Buffer C
    pub found : buffer_of key later ≡ Some now
    pub opened : now.opened ≡ buffer.opened
    pub deadline : now.deadline ≡ buffer.deadline

  there_with_kept : (limits : TableLimits) (now : ℕ) (arrival : Arrival C) (key : Key) (buffers : List (Buffer C)) (buffer : Buffer C)
      → buffer_of key buffers ≡ Some buffer → IsThere key (with_kept limits now arrival buffers) buffer
  there_with_kept limits now arrival key [] buffer e = absurd (cc)
  there_with_kept limits now arrival key (first ∷ others) buffer e =
      elim (cases_Bool (same_key first.key arrival.key)) [
        | inl same ↦
            rw same
            (elim (cases_Bool (same_key first.key key)) [
              | inl is ↦
                  let s = same_Some first buffer (rw is at e) in
                  record {
                    now = record first { kept = first.kept ++ arrival ∷ [] };
                    found = rw is;
                    opened = ap (λ (b : Buffer C). b.opened) s;
                    deadline = ap (λ (b : Buffer C). b.deadline) s;
                  }
              | inr isnt ↦ record { now = buffer; found = rw isnt (rw isnt at e); opened = refl; deadline = refl }
            ])
        | inr other ↦
            rw other
            (elim (cases_Bool (same_key first.key key)) [
              | inl is ↦ record { now = buffer; found = rw is (rw is at e); opened = refl; deadline = refl }
              | inr isnt ↦
                  let ih = there_with_kept limits now arrival key others buffer (rw isnt at e) in
                  record { now = ih.now; found = rw isnt ih.found; opened = ih.opened; deadline = ih.deadline }
            ])
      ]

  pub stays_with_deadline : (limits : TableLimits) (now : ℕ) (arrival : Arrival C) (buffers : List (Buffer C)) (key : Key)
      → StaysWithDeadline key buffers (after limits now arrival buffers)
  stays_with_deadline limits now arrival buffers key buffer e =
      let there : IsThere key (after limits now arrival buffers) buffer =
      kept_or_not (λ later. IsThere key later buffer) (refusal limits arrival buffers) buffers (with_kept limits now arrival buffers)
      (record { now = buffer; found = e; opened = refl; deadline = refl })
      (λ kept. there_with_kept limits now arrival key buffers buffer e)
      in (there.now, there.found, there.opened, there.deadline)

  none_empty-with_kept : (limits : TableLimits) (now : ℕ) (arrival : Arrival C) (buffers : List (Buffer C))
      → NoneIsEmpty buffers → NoneIsEmpty (with_kept limits now arrival buffers)
  none_empty-with_kept limits now arrival [] full = (omega arith, tt)
  none_empty-with_kept limits now arrival (buffer ∷ others) full =
      elim (cases_Bool (same_key buffer.key arrival.key)) [
        | inl same ↦ rw same ((let l = length_push buffer.kept arrival in omega arith), full.1)
        | inr other ↦ rw other (full.0, none_empty-with_kept limits now arrival others full.1)
      ]

  pub none_empty-after : (limits : TableLimits) (now : ℕ) (arrival : Arrival C) (buffers : List (Buffer C))
      → NoneIsEmpty buffers → NoneIsEmpty (after limits now arrival buffers)
  none_empty-after limits now arrival buffers full =
      kept_or_not NoneIsEmpty (refusal limits arrival buffers) buffers (with_kept limits now arrival buffers) full
      (λ e. none_empty-with_kept limits now arrival buffers full)

  pub none_empty-without : (key : Key) (buffers : List (Buffer C)) → NoneIsEmpty buffers → NoneIsEmpty (without key buffers)
  none_empty-without key [] full = tt
  none_empty-without key (buffer ∷ others) full =
      let ih = none_empty-without key others full.1 in
      elim (cases_Bool (same_key buffer.key key)) [
        | inl same ↦ rw same ih
        | inr other ↦ rw other (full.0, ih)
      ]

  none_empty-holding : (arrivals : List (Arrival C)) (buffer : Buffer C) (others : List (Buffer C))
      → NoneIsEmpty others → NoneIsEmpty (holding arrivals buffer ++ others)
  none_empty-holding [] buffer others full = full
  none_empty-holding (arrival ∷ more) buffer others full = (omega arith, full)

  pub none_empty-undone : (key : Key) (buffers : List (Buffer C)) → NoneIsEmpty buffers → NoneIsEmpty (undone key buffers)
  none_empty-undone key [] full = tt
  none_empty-undone key (buffer ∷ others) full =
      elim (cases_Bool (same_key buffer.key key)) [
        | inl same ↦ rw same (none_empty-holding (but_last buffer.kept) buffer others full.1)
        | inr other ↦ rw other (full.0, none_empty-undone key others full.1)
      ]

  pub but_last-push : (arrivals : List (Arrival C)) (arrival : Arrival C) → but_last (arrivals ++ arrival ∷ []) ≡ arrivals
  but_last-push [] arrival = refl
  but_last-push (first ∷ []) arrival = refl
  but_last-push (first ∷ next ∷ others) arrival = ap (λ rest. first ∷ rest) (but_last-push (next ∷ others) arrival)

  -- the buffer of a key has that key
  pub key_found : (key : Key) (buffers : List (Buffer C)) (buffer : Buffer C) → buffer_of key buffers ≡ Some buffer → buffer.key ≡ key
  key_found key [] buffer found = absurd (cc)
  key_found key (first ∷ others) buffer found =
      elim (cases_Bool (same_key first.key key)) [
        | inl same ↦
            subst (λ (b : Buffer C). b.key ≡ key) (same_Some first buffer (rw same at found)) (same_key-true first.key key same)
        | inr other ↦ key_found key others buffer (rw other at found)
      ]

  -- the buffers without that in which a segment was kept are some of those that were there
  pub others_with_kept : (P : Buffer C → Type 0) (limits : TableLimits) (now : ℕ) (arrival : Arrival C) (buffers : List (Buffer C)) → AllByRecursion P buffers
      → AllByRecursion P (without arrival.key (with_kept limits now arrival buffers))
  others_with_kept P limits now arrival [] all = rw (same_key-refl arrival.key) tt
  others_with_kept P limits now arrival (buffer ∷ others) all =
      elim (cases_Bool (same_key buffer.key arrival.key)) [
        | inl same ↦ rw (same, same) (AllByRecursion-filter (λ b. not (same_key b.key arrival.key)) P P (λ b t h. h) others all.1)
        | inr other ↦ rw (other, other) (all.0, others_with_kept P limits now arrival others all.1)
      ]

  holding-its_own : (buffer : Buffer C) (arrivals : List (Arrival C)) → 0 < length buffer.kept
      → arrivals ≡ buffer.kept → (others : List (Arrival C))
      → holding arrivals (record buffer { kept = others }) ≡ buffer ∷ []
  holding-its_own buffer [] full e others = absurd (let l = ap length e in omega arith)
  holding-its_own buffer (arrival ∷ more) full e others = ap (λ k. record buffer { kept = k } ∷ []) e

  undone-with_kept : (limits : TableLimits) (now : ℕ) (arrival : Arrival C) (buffers : List (Buffer C))
      → NoneIsEmpty buffers → undone arrival.key (with_kept limits now arrival buffers) ≡ buffers
  undone-with_kept limits now arrival [] full = rw (same_key-refl arrival.key)
  undone-with_kept limits now arrival (buffer ∷ others) full =
      elim (cases_Bool (same_key buffer.key arrival.key)) [
        | inl same ↦
            rw (same, same)
            (ap (λ front. front ++ others)
            (holding-its_own buffer (but_last (buffer.kept ++ arrival ∷ [])) full.0 (but_last-push buffer.kept arrival) (buffer.kept ++ arrival ∷ [])))
        | inr other ↦ rw (other, other) (ap (λ rest. buffer ∷ rest) (undone-with_kept limits now arrival others full.1))
      ]

  pub undone-after : (limits : TableLimits) (now : ℕ) (arrival : Arrival C) (buffers : List (Buffer C))
      → NoneIsEmpty buffers → refusal limits arrival buffers ≡ None
      → undone arrival.key (after limits now arrival buffers) ≡ buffers
  undone-after limits now arrival buffers full e =
      ap (λ refused. undone arrival.key (buffers_of refused buffers (with_kept limits now arrival buffers))) e
      ∙ undone-with_kept limits now arrival buffers full
