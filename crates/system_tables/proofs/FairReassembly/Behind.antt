-- One frame more: what it changes of the buffers of its class, and of the tables that stand for them.
use Rattle.std.proofs.Common.{◌≡◌, ◌≢◌, ℕ, ◌==◌, true, false, List, [], ◌∷◌, ◌++◌, Option, None, Some, refl, sym, ap, ◌∙◌, subst, inl, inr, append-nil}
use Rattle.std.specs.Prelude.{slice_get}
use Rattle.std.proofs.lemmas.Bool.{cases_Bool}
use Rattle.std.proofs.lemmas.List.Elements.{filter-append}
use Rattle.std.proofs.lemmas.List.Sums.{fold-append}
use Rattle.std.proofs.lemmas.Option.{same_Some}
use Rattle.pdus.proofs.ClnpBase.Choices.{equal_is, is_equal}
use Rattle.pdus.proofs.ClnpBase.Lists.{set_each}
use Rattle.pdus.specs.ClnpViews.Extent.{Extent}
use Rattle.system_tables.specs.declared.reassembly.table.TableLimits.{TableLimits}
use Rattle.system_tables.specs.Reassembly.Buffer.{Buffer}
use Rattle.system_tables.specs.Reassembly.State.{Stands, TableState}
use Rattle.system_tables.specs.declared.fair_reassembly.came.Came.{Came}
use Rattle.system_tables.specs.FairReassembly.Behind.{StandBehind, Undergoes}
use Rattle.system_tables.specs.FairReassembly.Classes.{Shares, buffers_behind, class_buffers, class_of, comes, frames_of, is_class, is_of, limits_at}
use Rattle.system_tables.proofs.FairReassembly.Alone.{one_fails, one_passes}
use Rattle.system_tables.specs.FairReassembly.Tables.{ChangesTable, FairState, Keeps}

of_another : (class : Option ℕ) (place : ℕ) → class ≢ Some place → is_class place class ≡ false
of_another None place other = refl
of_another (Some at) place other =
    elim (cases_Bool (at == place)) [ inl t ↦ absurd (other (ap (λ (n : ℕ). Some n) (is_equal at place t))) | inr f ↦ f ]

module _ (s : Shares) (place : ℕ) (before : List Came) (came : Came) where
  pub own_changes : class_of s came ≡ Some place
      → class_buffers s place (before ++ came ∷ []) ≡ (comes (limits_at s place) came (class_buffers s place before)).buffers
  own_changes is =
      let here : is_of s place came ≡ true = ap (is_class place) is ∙ equal_is place place refl in
      let frames : frames_of s place (before ++ came ∷ []) ≡ frames_of s place before ++ came ∷ []
      = filter-append (is_of s place) before (came ∷ []) ∙ ap (λ (l : List Came). frames_of s place before ++ l) (one_passes (is_of s place) came here) in
      ap (buffers_behind (limits_at s place)) frames
      ∙ fold-append (λ (buffers : List (Buffer Extent)) (came : Came). (comes (limits_at s place) came buffers).buffers) [] (frames_of s place before) (came ∷ [])

  pub others_stay_so : class_of s came ≢ Some place → class_buffers s place (before ++ came ∷ []) ≡ class_buffers s place before
  others_stay_so other =
      let frames : frames_of s place (before ++ came ∷ []) ≡ frames_of s place before
      = filter-append (is_of s place) before (came ∷ [])
      ∙ ap (λ (l : List Came). frames_of s place before ++ l) (one_fails (is_of s place) came (of_another (class_of s came) place other))
      ∙ append-nil (frames_of s place before) in
      ap (buffers_behind (limits_at s place)) frames

pub behind_unread : (s : Shares) (before : List Came) (came : Came) (state : FairState) → class_of s came ≡ None
    → StandBehind s before state → StandBehind s (before ++ came ∷ []) state
behind_unread s before came state none behind = record {
  sources = behind.sources;
  each = λ place table at.
      subst (λ (buffers : List (Buffer Extent)). Keeps (limits_at s place) buffers table)
      (sym (others_stay_so s place before came (λ e. let both : None ≡ Some place = sym none ∙ e in cc)))
      (behind.each place table at);
}

-- the table that an effect came over
kept_behind : (s : Shares) (place : ℕ) (before : List Came) (came : Came) (old new : TableState) → class_of s came ≡ Some place
    → Keeps (limits_at s place) (class_buffers s place before) old → Undergoes (λ limits buffers. comes limits came buffers) old new
    → Keeps (limits_at s place) (class_buffers s place (before ++ came ∷ [])) new
kept_behind s place before came old new is kept changes = record {
  stands = subst (λ (buffers : List (Buffer Extent)). Stands new buffers) (sym (own_changes s place before came is))
      (subst (λ (limits : TableLimits). Stands new (comes limits came (class_buffers s place before)).buffers) kept.limits_are
      (changes.stands (class_buffers s place before) kept.stands));
  none_whole = changes.none_whole kept.none_whole;
  limits_are = changes.limits ∙ kept.limits_are;
}

pub behind_comes : (s : Shares) (place : ℕ) (before : List Came) (came : Came) (old new : FairState) → class_of s came ≡ Some place
    → StandBehind s before old → ChangesTable place old new (Undergoes (λ limits buffers. comes limits came buffers))
    → StandBehind s (before ++ came ∷ []) new
behind_comes s place before came old new is behind changed =
    let P : ℕ → TableState → Type 0 = λ at table. Keeps (limits_at s at) (class_buffers s at before) table in
    let Q : ℕ → TableState → Type 0 = λ at table. Keeps (limits_at s at) (class_buffers s at (before ++ came ∷ [])) table in
    record {
      sources = ap (λ (state : FairState). state.sources) changed.rest ∙ behind.sources;
      each = λ at table there.
          set_each P Q old.tables place changed.new behind.each
          (λ other kept not_place h.
          subst (λ (buffers : List (Buffer Extent)). Keeps (limits_at s other) buffers kept)
          (sym (others_stay_so s other before came (λ e. not_place (sym (same_Some place other (sym is ∙ e))))))
          h)
          (kept_behind s place before came changed.old changed.new is (behind.each place changed.old changed.stood) changed.changes)
          at table (sym (ap (λ (state : FairState). slice_get state.tables at) changed.rest) ∙ there);
    }
