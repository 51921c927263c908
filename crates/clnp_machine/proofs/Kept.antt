-- What holds of each buffer once a segment was offered.
use Rattle.clnp_plan.proofs.ClnpBase.Filters.{AllByRecursion-filter}
use Rattle.clnp_plan.proofs.ClnpBase.Lists.{AllByRecursion-implies}
use Rattle.std.proofs.Common.{◌≡◌, subst, ℕ, ◌+◌, ◌≤◌, inl, inr, Bool, true, false, cond, List, [], ◌∷◌, ◌++◌, length, Option, None, Some, Contains, refl, arith}
use Rattle.std.specs.Prelude.{◌&&◌, is_none, nat_le, nat_lt}
use Rattle.std.specs.List.{AllByRecursion, filter}
use Rattle.std.proofs.lemmas.Bool.{cases_Bool}
use Rattle.std.proofs.lemmas.List.Elements.{All-contains_itself, recursion_from_All}
use Rattle.system_tables.specs.declared.reassembly.table.TableLimits.{TableLimits}
use Rattle.system_tables.specs.Reassembly.Arrival.{Arrival, are_covered, same_key}
use Rattle.system_tables.specs.Reassembly.Buffer.{Answer, Buffer, Crowded, Held, Many, NoSlot, Repeat, Whole, after, answer, answer_of, buffer_of, clashes, due, held, is_whole_in, kept, kept_in, opened_by, refusal, sooner, soonest, with_kept, without}
use Rattle.clnp_machine.specs.Unit.{Packet}
use Rattle.clnp_machine.specs.Told.{TellsNoInterference, WasThereOrTakes}
use Rattle.system_tables.proofs.ReassemblyFacts.Shared.{held-with_kept, kept_or_not, may_be_kept, others_with_kept}
use Rattle.clnp_plan.proofs.ClnpBase.Choices.{one_of}

pub all_contained : {X : Type 0} (xs : List X) → AllByRecursion (Contains xs) xs
all_contained xs = recursion_from_All (Contains xs) xs (λ i d within. All-contains_itself xs i d within)

abbrev NoneInterferes : Option Answer → Type 0
NoneInterferes None = Unit {0}
NoneInterferes (Some told) = TellsNoInterference told

cond_without : (test : Bool) (told : Answer) (others : Option Answer) → TellsNoInterference told → NoneInterferes others
    → NoneInterferes (cond test (Some told) others)
cond_without test told others here there = one_of NoneInterferes test (Some told) others here there

whole_or_held : (whole : Bool) → TellsNoInterference (cond whole Whole Held)
whole_or_held true = tt
whole_or_held false = tt

module _ {C : Type 0} (limits : TableLimits) (moment : ℕ) (arrival : Arrival C) where
  refusal_without : (buffers : List (Buffer C)) → clashes (buffer_of arrival.key buffers) arrival.shape ≡ false → NoneInterferes (refusal limits arrival buffers)
  refusal_without buffers fits =
      rw fits
      (cond_without (are_covered (kept_in (buffer_of arrival.key buffers)) arrival.offset arrival.len) Repeat _ tt
      (cond_without (is_none (buffer_of arrival.key buffers) && nat_le limits.slots (length buffers)) (NoSlot (length buffers)) _ tt
      (cond_without (nat_lt limits.budget (held buffers + arrival.size)) (Crowded (held buffers) arrival.size) _ tt
      (cond_without (nat_le limits.segments (kept buffers)) (Many (kept buffers)) None tt tt))))

  answer_by : (refused : Option Answer) (later : List (Buffer C)) → NoneInterferes refused → TellsNoInterference (answer_of refused arrival.key later)
  answer_by None later none = whole_or_held (is_whole_in (buffer_of arrival.key later))
  answer_by (Some told) later none = none

  -- where the buffer of its key is one of its shape
  pub answer_without : (buffers : List (Buffer C)) → clashes (buffer_of arrival.key buffers) arrival.shape ≡ false
      → TellsNoInterference (answer limits moment arrival buffers)
  answer_without buffers fits =
      answer_by (refusal limits arrival buffers) (with_kept limits moment arrival buffers) (refusal_without buffers fits)

  module _ (P : Buffer C → Type 0) where
    -- P holds of the new buffer and of that in which the segment is kept
    pub record KeptIn : Type 0 where
      pub new : P (opened_by limits moment arrival)
      pub more : (buffer : Buffer C) → P buffer → same_key buffer.key arrival.key ≡ true → P (record buffer { kept = buffer.kept ++ arrival ∷ [] })

    pub all_with_kept : KeptIn → (buffers : List (Buffer C)) → AllByRecursion P buffers → AllByRecursion P (with_kept limits moment arrival buffers)
    all_with_kept keeps [] all = (keeps.new, tt)
    all_with_kept keeps (buffer ∷ others) all =
        elim (cases_Bool (same_key buffer.key arrival.key)) [
          | inl same ↦ rw same (keeps.more buffer all.0 same, all.1)
          | inr other ↦ rw other (all.0, all_with_kept keeps others all.1)
        ]

    pub all_after : KeptIn → (buffers : List (Buffer C)) → AllByRecursion P buffers → AllByRecursion P (after limits moment arrival buffers)
    all_after keeps buffers all =
        kept_or_not (AllByRecursion P) (refusal limits arrival buffers) buffers (with_kept limits moment arrival buffers) all
        (λ kept. all_with_kept keeps buffers all)

  pub held_after : (buffers : List (Buffer C)) → held buffers ≤ limits.budget → held (after limits moment arrival buffers) ≤ limits.budget
  held_after buffers within =
      kept_or_not (λ later. held later ≤ limits.budget) (refusal limits arrival buffers) buffers (with_kept limits moment arrival buffers) within
      (λ e. let more = held-with_kept limits moment arrival buffers in let room = (may_be_kept limits arrival buffers e).budget in omega arith)

-- the buffer whose time has ended is one of those that there are

module _ {C : Type 0} (P : Buffer C → Type 0) where
  sooner_of : (b : Buffer C) (found : Option (Buffer C)) → P b → ((other : Buffer C) → found ≡ Some other → P other) → P (sooner b found)
  sooner_of b None h k = h
  sooner_of b (Some other) h k = go (nat_le b.deadline other.deadline)
    where
      go : (test : Bool) → P (cond test b other)
      go true = h
      go false = k other refl

  soonest_of : (buffers : List (Buffer C)) (ended : Buffer C) → soonest buffers ≡ Some ended → AllByRecursion P buffers → P ended
  soonest_of [] ended e h = absurd (cc)
  soonest_of (b ∷ others) ended e h =
      let same : sooner b (soonest others) ≡ ended = cc in
      subst P same (sooner_of b (soonest others) h.0 (λ other found. soonest_of others other found h.1))

  pub due_of : (moment : ℕ) (buffers : List (Buffer C)) (ended : Buffer C) → due moment buffers ≡ Some ended → AllByRecursion P buffers → P ended
  due_of moment buffers ended e h =
      soonest_of (filter (λ b. nat_le b.deadline moment) buffers) ended e
      (AllByRecursion-filter (λ b. nat_le b.deadline moment) P P (λ b t k. k) buffers h)

-- which buffers there are then

pub taking : (limits : TableLimits) (moment : ℕ) (arrival : Arrival Packet) (buffers : List (Buffer Packet))
    → AllByRecursion (WasThereOrTakes limits moment arrival buffers) (after limits moment arrival buffers)
taking limits moment arrival buffers =
    kept_or_not (AllByRecursion (WasThereOrTakes limits moment arrival buffers)) (refusal limits arrival buffers) buffers
    (with_kept limits moment arrival buffers)
    (AllByRecursion-implies (Contains buffers) (WasThereOrTakes limits moment arrival buffers) (λ b there. inl there) buffers (all_contained buffers))
    (λ kept. with_kept_takes buffers buffers (all_contained buffers))
  where
    with_kept_takes : (all some : List (Buffer Packet)) → AllByRecursion (Contains all) some
        → AllByRecursion (WasThereOrTakes limits moment arrival all) (with_kept limits moment arrival some)
    with_kept_takes all [] there = (inr (inl refl), tt)
    with_kept_takes all (buffer ∷ others) there =
        let rest = AllByRecursion-implies (Contains all) (WasThereOrTakes limits moment arrival all) (λ b h. inl h) others there.1 in
        elim (cases_Bool (same_key buffer.key arrival.key)) [
          | inl same ↦ rw same (inr (inr (record { before = buffer; there = there.0; same = same; more = refl })), rest)
          | inr other ↦ rw other (inl there.0, with_kept_takes all others there.1)
        ]

pub others_stay : (limits : TableLimits) (moment : ℕ) (arrival : Arrival Packet) (buffers : List (Buffer Packet))
    → AllByRecursion (Contains buffers) (without arrival.key (with_kept limits moment arrival buffers))
others_stay limits moment arrival buffers = others_with_kept (Contains buffers) limits moment arrival buffers (all_contained buffers)
