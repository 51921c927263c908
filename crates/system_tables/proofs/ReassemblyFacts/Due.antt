-- The due buffer, and the first opening with the least deadline.
use Rattle.std.proofs.Common.{◌≡◌, ◌∙◌, sym, ap, subst, refl, ℕ, zero, suc, ◌+◌, ◌≤◌, ◌<◌, inl, inr, Bool, true, false, List, [], ◌∷◌, length, take, get_or, arith, Option, Some, None, IfNone, IfSome, MatchOption}
use Rattle.std.specs.Prelude.{filter, nat_le, nat_lt, slice_get}
use Rattle.std.specs.List.{All, AllByRecursion}
use Rattle.std.proofs.lemmas.Bool.{cases_Bool, false≢true, le-leb, lt-leb, ltb-false, ltb-true}
use Rattle.std.proofs.lemmas.List.{take_all}
use Rattle.std.proofs.lemmas.List.Elements.{All-more, All-nil, All-weaker}
use Rattle.std.proofs.lemmas.Option.{none-some, same_Some, slice_get_read}
use Rattle.system_tables.specs.declared.reassembly.openings.Opening.{Opening}
use Rattle.system_tables.specs.Reassembly.Openings.{IsSoonest}
use Rattle.system_tables.specs.Reassembly.Buffer.{Buffer, due, sooner, soonest}
use Rattle.pdus.proofs.ClnpBase.Filters.{AllByRecursion-filter}

module _ {C : Type 0} where
  pub no_due : (now : ℕ) (buffers : List (Buffer C)) → AllByRecursion (λ b. now < b.deadline) buffers → due now buffers ≡ None
  no_due now [] h = refl
  no_due now (first ∷ others) h = rw (lt-leb first.deadline now h.0) (no_due now others h.1)

  sooner_above : (least : ℕ) (first : Buffer C) (other : Option (Buffer C)) → least ≤ first.deadline → IfSome other (λ b. least ≤ b.deadline) → least ≤ (sooner first other).deadline
  sooner_above least first None h k = h
  sooner_above least first (Some other) h k =
      elim (cases_Bool (nat_le first.deadline other.deadline)) [ inl t ↦ rw t h | inr f ↦ rw f k ]

  soonest_above : (least : ℕ) (buffers : List (Buffer C)) → AllByRecursion (λ b. least ≤ b.deadline) buffers → IfSome (soonest buffers) (λ b. least ≤ b.deadline)
  soonest_above least [] h = tt
  soonest_above least (first ∷ others) h =
      sooner_above least first (soonest others) h.0 (soonest_above least others h.1)

  sooner-first : (first : Buffer C) (other : Option (Buffer C)) → IfSome other (λ b. first.deadline ≤ b.deadline) → sooner first other ≡ first
  sooner-first first None h = refl
  sooner-first first (Some other) h = rw (le-leb first.deadline other.deadline h) refl

  sooner-other : (first other : Buffer C) → other.deadline < first.deadline → sooner first (Some other) ≡ other
  sooner-other first other h = rw (lt-leb first.deadline other.deadline h) refl

  pub due_at : (now : ℕ) (buffers : List (Buffer C)) (slot : ℕ) (ended : Buffer C) → slice_get buffers slot ≡ Some ended → ended.deadline ≤ now
      → AllByRecursion (λ b. ended.deadline ≤ b.deadline) buffers → AllByRecursion (λ b. ended.deadline < b.deadline) (take slot buffers)
      → due now buffers ≡ Some ended
  due_at now [] slot ended e h all before = absurd (none-some ended e)
  due_at now (first ∷ others) zero ended e h all before =
      let same = same_Some first ended e in
      let least : AllByRecursion (λ b. ended.deadline ≤ b.deadline) (filter (λ b. nat_le b.deadline now) others) =
      AllByRecursion-filter (λ b. nat_le b.deadline now) (λ b. ended.deadline ≤ b.deadline) (λ b. ended.deadline ≤ b.deadline) (λ b t k. k) others all.1 in
      let passes : nat_le first.deadline now ≡ true = le-leb first.deadline now (subst (λ b. b.deadline ≤ now) (sym same) h) in
      let above = soonest_above ended.deadline (filter (λ b. nat_le b.deadline now) others) least in
      rw passes (ap Some (sooner-first first (soonest (filter (λ b. nat_le b.deadline now) others))
      (subst (λ b. IfSome (soonest (filter (λ b. nat_le b.deadline now) others)) (λ c. b.deadline ≤ c.deadline)) (sym same) above)) ∙ e)
  due_at now (first ∷ others) (suc slot) ended e h all before =
      let rest = due_at now others slot ended e h all.1 before.1 in
      elim (cases_Bool (nat_le first.deadline now)) [
        | inl t ↦ rw t (ap (λ o. Some (sooner first o)) rest ∙ ap Some (sooner-other first ended before.0))
        | inr f ↦ rw f rest
      ]

-- the opening found so far, among the first `n`
abbrev pub IsFoundAt : List Opening → ℕ → ℕ → Type 0
IsFoundAt openings n slot =
    (slot < n) × ((opening : Opening) × (slice_get openings slot ≡ Some opening)
    × All (λ other. opening.deadline ≤ other.deadline) (take n openings) × All (λ other. opening.deadline < other.deadline) (take slot openings))

abbrev pub IsFound : List Opening → ℕ → Option ℕ → Type 0
IsFound openings n found = MatchOption found (n ≡ 0) (IsFoundAt openings n)

-- what is known of a deadline beside that of the opening found so far
abbrev pub IsSooner : List Opening → Option ℕ → ℕ → Bool → Type 0
IsSooner openings found deadline answer =
    MatchOption found (answer ≡ true) (λ slot. (opening : Opening) → slice_get openings slot ≡ Some opening → answer ≡ nat_lt deadline opening.deadline)

module _ (openings : List Opening) (n : ℕ) (next : Opening) (within : n < length openings) (read : next ≡ get_or openings n next) where
  one_more : (P : Opening → Type 0) → All P (take n openings) → P next → All P (take (n + 1) openings)
  one_more P h at = All-more P openings n next within h (subst P read at)

  -- the next opening isn't sooner
  pub found_stays : (found : Option ℕ) → IsSooner openings found next.deadline false → IsFound openings n found → IsFound openings (n + 1) found
  found_stays None sooner h = absurd (false≢true sooner)
  found_stays (Some slot) sooner h =
      let above = ltb-false next.deadline h.1.0.deadline (sym (sooner h.1.0 h.1.1)) in
      (omega (arith, h.0), (h.1.0, h.1.1, one_more (λ o. h.1.0.deadline ≤ o.deadline) h.1.2 above, h.1.3))

  -- it is sooner
  pub found_next : (found : Option ℕ) → IsSooner openings found next.deadline true → IsFound openings n found → IsFoundAt openings (n + 1) n
  found_next None sooner h =
      let none : take n openings ≡ [] = ap (λ k. take k openings) h in (
        omega arith,
        (
          next,
          slice_get_read openings (length openings) n next refl within read,
          one_more (λ o. next.deadline ≤ o.deadline) (subst (All (λ o. next.deadline ≤ o.deadline)) (sym none) (All-nil (λ o. next.deadline ≤ o.deadline))) (omega arith),
          subst (All (λ o. next.deadline < o.deadline)) (sym none) (All-nil (λ o. next.deadline < o.deadline)),
        ),
      )
  found_next (Some slot) sooner h =
      let below : next.deadline < h.1.0.deadline = ltb-true next.deadline h.1.0.deadline (sym (sooner h.1.0 h.1.1)) in (
        omega arith,
        (
          next,
          slice_get_read openings (length openings) n next refl within read,
          one_more (λ o. next.deadline ≤ o.deadline) (All-weaker (λ o. h.1.0.deadline ≤ o.deadline) (λ o. next.deadline ≤ o.deadline) (λ o k. omega arith) (take n openings) h.1.2) (omega arith),
          All-weaker (λ o. h.1.0.deadline ≤ o.deadline) (λ o. next.deadline < o.deadline) (λ o k. omega arith) (take n openings) h.1.2,
        ),
      )

-- what is found among all openings
nothing_of : (openings : List Opening) → length openings ≤ 0 → openings ≡ []
nothing_of [] all = refl
nothing_of (first ∷ others) all = absurd (omega arith)

pub found_none : (openings : List Opening) (n : ℕ) (found : Option ℕ) → length openings ≤ n → IsFound openings n found → IfNone found (openings ≡ [])
found_none openings n None all h = nothing_of openings (omega (arith, all, h))
found_none openings n (Some slot) all h = tt

pub found_some : (openings : List Opening) (n : ℕ) (found : Option ℕ) → length openings ≤ n → IsFound openings n found → IfSome found (IsSoonest openings)
found_some openings n None all h = tt
found_some openings n (Some slot) all h =
    (h.1.0, h.1.1, subst (All (λ o. h.1.0.deadline ≤ o.deadline)) (take_all n openings all) h.1.2, h.1.3)
