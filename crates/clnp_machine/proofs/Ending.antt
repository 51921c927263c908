-- When a moment comes, each buffer whose time has ended is taken out, and no other; and a restart leaves a system as at its start.
use Rattle.std.proofs.Common.{◌≡◌, ◌∙◌, refl, sym, ap, subst, ℕ, zero, suc, ◌<◌, ◌≤◌, ◌⊎◌, inl, inr, Bool, true, false, not, List, [], ◌∷◌, ◌++◌, length, Option, None, Some, Contains, arith}
use Rattle.std.specs.List.{AllByRecursion, filter}
use Rattle.std.proofs.lemmas.Bool.{cases_Bool, not-false}
use Rattle.std.proofs.lemmas.List.Elements.{Contains-append_right}
use Rattle.clnp_plan.proofs.ClnpBase.Filters.{AllByRecursion-filter, filter-fewer}
use Rattle.clnp_plan.proofs.ClnpBase.Lists.{AllByRecursion-contains, AllByRecursion-implies}
use Rattle.system_tables.specs.declared.reassembly.segment.Key.{Key}
use Rattle.system_tables.specs.Reassembly.Arrival.{same_key}
use Rattle.system_tables.specs.Reassembly.Buffer.{Buffer, due, held, without}
use Rattle.system_tables.proofs.ReassemblyFacts.Shared.{due_is, same_key-refl, same_key-true}
use Rattle.clnp_plan.specs.declared.config.Limits.{Limits}
use Rattle.clnp_plan.specs.declared.note.Note.TheVariants.{Expired}
use Rattle.clnp_machine.specs.Unit.{Packet}
use Rattle.clnp_machine.specs.System.{SystemState, IsRestarted, MomentComes}
use Rattle.clnp_machine.specs.Esis.{forgets, says_hello}
use Rattle.clnp_machine.specs.Local.{Deed, Tells, at_moment, expire, give_up_due, gives_up, rests, tick}
use Rattle.clnp_machine.specs.Step.{step}
use Rattle.clnp_machine.specs.Due.{HasEnded, StaysUnlessEnded, begun_anew}
use Rattle.clnp_machine.proofs.Deeds.{given_up_after}
use Rattle.clnp_machine.proofs.Hellos.{only_forgets, only_says_hello, only_then}
use Rattle.clnp_machine.proofs.Kept.{all_contained}

-- there are fewer without the due one
pub without_fewer : (key : Key) (buffers before behind : List (Buffer Packet)) (ended : Buffer Packet) → buffers ≡ before ++ ended ∷ behind → ended.key ≡ key
    → length (without key buffers) < length buffers
without_fewer key buffers before behind ended stands is =
    subst (λ l. length (without key l) < length l) (sym stands)
    (filter-fewer (λ (b : Buffer Packet). not (same_key b.key key)) before ended behind (ap not (subst (λ k. same_key ended.key k ≡ true) is (same_key-refl ended.key))))

no_buffer : (now : ℕ) (buffers : List (Buffer Packet)) → length buffers ≤ 0 → due now buffers ≡ None
no_buffer now [] few = refl
no_buffer now (b ∷ buffers) few = absurd (omega arith)

-- what holds of each element that passes, and of each that doesn't
pub each_passes_or_not : {X : Type 0} (p : X → Bool) (P Q : X → Type 0) → ((x : X) → p x ≡ true → Q x → P x) → ((x : X) → p x ≡ false → P x) → (xs : List X)
    → AllByRecursion Q (filter p xs) → AllByRecursion P xs
each_passes_or_not p P Q passes fails [] h = tt
each_passes_or_not p P Q passes fails (x ∷ xs) h =
    elim (cases_Bool (p x)) [
      | inl t ↦ let k = rw t at h in (passes x t k.0, each_passes_or_not p P Q passes fails xs k.1)
      | inr f ↦ (fails x f, each_passes_or_not p P Q passes fails xs (rw f at h))
    ]

ended_before : (now : ℕ) (before after : List (Buffer Packet)) (buffer : Buffer Packet) → AllByRecursion (Contains before) after → HasEnded now after buffer
    → HasEnded now before buffer
ended_before now before after buffer all is = record {
  ended = is.ended;
  there = AllByRecursion-contains (Contains before) after is.ended is.there all;
  due = is.due;
  same = is.same;
}

module _ (now : ℕ) where
  -- the state that is left where the due buffer is taken out
  abbrev left : SystemState → Buffer Packet → SystemState
  left t ended = record t { buffers = without ended.key t.buffers; count = (gives_up t ended).after.count }

  left_fewer : (most : ℕ) (t : SystemState) (ended : Buffer Packet) → due t.moment t.buffers ≡ Some ended → length t.buffers ≤ suc most
      → length (left t ended).buffers ≤ most
  left_fewer most t ended e few =
      let there = due_is t.moment t.buffers ended e in
      let fewer = without_fewer ended.key t.buffers there.before there.behind ended there.stands_there refl in
      omega arith

  -- where a property of the buffers that are left holds of those of `left`
  by_left : (P : List (Buffer Packet) → Type 0) (most : ℕ) (t : SystemState) (ended : Buffer Packet) → P (expire most (left t ended)).after.buffers
      → P (give_up_due (Some ended) t (expire most)).after.buffers
  by_left P most t ended h = subst (λ (u : SystemState). P (expire most u).after.buffers) (sym (given_up_after t ended)) h

  none_left_due : (most : ℕ) (t : SystemState) → t.moment ≡ now → length t.buffers ≤ most → due now (expire most t).after.buffers ≡ None
  none_left_due zero t at few = no_buffer now t.buffers few
  none_left_due (suc most) t at few = go (none_left_due most) (due t.moment t.buffers) refl
    where
      go : ((v : SystemState) → v.moment ≡ now → length v.buffers ≤ most → due now (expire most v).after.buffers ≡ None) → (found : Option (Buffer Packet)) → due t.moment t.buffers ≡ found → due now (give_up_due found t (expire most)).after.buffers ≡ None
      go later None e = subst (λ (n : ℕ). due n t.buffers ≡ None) at e
      go later (Some ended) e =
          by_left (λ (buffers : List (Buffer Packet)). due now buffers ≡ None) most t ended
          (later (left t ended) at (left_fewer most t ended e few))

  each_was_there : (P : Buffer Packet → Type 0) (most : ℕ) (t : SystemState) → AllByRecursion P t.buffers → AllByRecursion P (expire most t).after.buffers
  each_was_there P zero t h = h
  each_was_there P (suc most) t h = go (each_was_there P most) (due t.moment t.buffers)
    where
      go : ((v : SystemState) → AllByRecursion P v.buffers → AllByRecursion P (expire most v).after.buffers) → (found : Option (Buffer Packet)) → AllByRecursion P (give_up_due found t (expire most)).after.buffers
      go later None = h
      go later (Some ended) =
          by_left (AllByRecursion P) most t ended
          (later (left t ended) (AllByRecursion-filter (λ b. not (same_key b.key ended.key)) P P (λ b t k. k) t.buffers h))

  -- a buffer is left where the due ones are taken out, or one of its key has ended, and that is told
  abbrev pub StaysOrEnds : SystemState → Deed → Buffer Packet → Type 0
  StaysOrEnds t deed b =
      Contains deed.after.buffers b ⊎ (HasEnded now t.buffers b × ((left : ℕ) × Contains deed.actions (Tells (Expired b.key.id left))))

  all_stay : (t : SystemState) → AllByRecursion (StaysOrEnds t (rests t)) t.buffers
  all_stay t = AllByRecursion-implies (Contains t.buffers) (StaysOrEnds t (rests t)) (λ b there. inl there) t.buffers (all_contained t.buffers)

  pub each_stays_or_ends : (most : ℕ) (t : SystemState) → t.moment ≡ now → AllByRecursion (StaysOrEnds t (expire most t)) t.buffers
  each_stays_or_ends zero t at = all_stay t
  each_stays_or_ends (suc most) t at = go (each_stays_or_ends most) (due t.moment t.buffers) refl
    where
      go : ((v : SystemState) → v.moment ≡ now → AllByRecursion (StaysOrEnds v (expire most v)) v.buffers) → (found : Option (Buffer Packet))
          → due t.moment t.buffers ≡ found → AllByRecursion (StaysOrEnds t (give_up_due found t (expire most))) t.buffers
      go behind None e = all_stay t
      go behind (Some ended) e =
          let there = due_is t.moment t.buffers ended e in
          let has_ended : ended.deadline ≤ now = subst (λ (n : ℕ). ended.deadline ≤ n) at there.has_ended in
          let contains : Contains t.buffers ended =
          subst (λ (l : List (Buffer Packet)). Contains l ended) (sym there.stands_there)
          (Contains-append_right there.before (ended ∷ there.behind) ended (0, omega arith, refl)) in
          let passes : Buffer Packet → Bool = λ b. not (same_key b.key ended.key) in
          let rest : List (Buffer Packet) = without ended.key t.buffers in
          let first : Deed = gives_up t ended in
          let whole : SystemState → Deed = λ v. record { after = (expire most v).after; actions = first.actions ++ (expire most v).actions } in
          let were : AllByRecursion (Contains t.buffers) rest =
          AllByRecursion-filter passes (Contains t.buffers) (Contains t.buffers) (λ b p k. k) t.buffers (all_contained t.buffers) in
          subst (λ (v : SystemState). AllByRecursion (StaysOrEnds t (whole v)) t.buffers) (sym (given_up_after t ended))
          (each_passes_or_not passes (StaysOrEnds t (whole (left t ended))) (StaysOrEnds (left t ended) (expire most (left t ended)))
          (λ b p h. elim h [
            | inl stays ↦ inl stays
            | inr is ↦ inr (
              ended_before now t.buffers rest b were is.0,
              (is.1.0, Contains-append_right first.actions (expire most (left t ended)).actions (Tells (Expired b.key.id is.1.0)) is.1.1),
            )
          ])
          (λ b f.
          let same : same_key b.key ended.key ≡ true = not-false (same_key b.key ended.key) f in
          let id : ended.key.id ≡ b.key.id = ap (λ (k : Key). k.id) (sym (same_key-true b.key ended.key same)) in
          let told : Contains (first.actions ++ (expire most (left t ended)).actions) (Tells (Expired ended.key.id (held rest))) = (0, omega arith, refl) in
          inr (
            record { ended = ended; there = contains; due = has_ended; same = same },
            (held rest, subst (λ (n : ℕ). Contains (first.actions ++ (expire most (left t ended)).actions) (Tells (Expired n (held rest)))) id told),
          )) t.buffers (behind (left t ended) at))

-- What is said and heard afterwards leaves the buffers.

module _ (s : SystemState) (now : ℕ) where
  pub buffers_kept : (step s (MomentComes now)).after.buffers ≡ (tick s now).after.buffers
  buffers_kept =
      let ticked = (tick s now).after in
      (only_then ticked (forgets s.moment ticked) says_hello (only_forgets s.moment ticked) (only_says_hello ticked)).rest.buffers

  pub none_is_due : due now (step s (MomentComes now)).after.buffers ≡ None
  none_is_due = ap (due now) buffers_kept ∙ none_left_due now (length s.buffers) (at_moment now s) refl (omega arith)

  pub were_there : AllByRecursion (Contains s.buffers) (step s (MomentComes now)).after.buffers
  were_there =
      subst (AllByRecursion (Contains s.buffers)) (sym buffers_kept)
      (each_was_there now (Contains s.buffers) (length s.buffers) (at_moment now s) (all_contained s.buffers))

  pub stay_unless_ended : AllByRecursion (StaysUnlessEnded now s.buffers (step s (MomentComes now)).after.buffers) s.buffers
  stay_unless_ended =
      subst (λ (buffers : List (Buffer Packet)). AllByRecursion (StaysUnlessEnded now s.buffers buffers) s.buffers) (sym buffers_kept)
      (AllByRecursion-implies (StaysOrEnds now (at_moment now s) (tick s now)) (StaysUnlessEnded now s.buffers (tick s now).after.buffers)
      (λ b h. elim h [ inl stays ↦ inl stays | inr is ↦ inr is.0 ]) s.buffers
      (each_stays_or_ends now (length s.buffers) (at_moment now s) refl))

-- A restart.

pub restarted_anew : (s : SystemState) (limits : Limits) → limits.hold ≡ s.hold → limits.reuse ≡ s.identifiers.reuse
    → (step s IsRestarted).after ≡ begun_anew s limits
restarted_anew s limits hold reuse = rw (hold, reuse) refl
