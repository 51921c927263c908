-- What stands after an opening or a segment was taken out of a table.
use Rattle.std.proofs.Common.{◌≡◌, ◌≢◌, ◌∙◌, sym, ap, subst, refl, ℕ, ◌⊎◌, inl, inr, List, [], ◌∷◌, length, Some}
use Rattle.std.specs.Prelude.{filter, slice_get}
use Rattle.std.specs.List.{remove}
use Rattle.pdus.specs.ClnpViews.Extent.{Extent}
use Rattle.system_tables.specs.declared.reassembly.segment.Key.{Key}
use Rattle.system_tables.specs.declared.reassembly.segment.Segment.{Segment}
use Rattle.system_tables.specs.declared.reassembly.openings.Opening.{Opening}
use Rattle.system_tables.specs.declared.reassembly.table.TableLimits.{TableLimits}
use Rattle.system_tables.specs.Reassembly.Arrival.{same_key}
use Rattle.system_tables.specs.Reassembly.Buffer.{Buffer, buffer_of, first_carried, undone, without}
use Rattle.system_tables.specs.Reassembly.Offered.{total_size}
use Rattle.system_tables.specs.Reassembly.Sound.{IsSound}
use Rattle.system_tables.specs.Reassembly.State.{TableState, IsAt, KeepsSegments, Stands, segments_of}
use Rattle.system_tables.specs.Reassembly.Ending.{first_pdu, others_of, without_last}
use Rattle.pdus.proofs.ClnpBase.Lists.{AllByRecursion-find}
use Rattle.system_tables.proofs.ReassemblyFacts.Undoing.{without_last-none_left}
use Rattle.system_tables.proofs.ReassemblyFacts.Ended.{buffers-once, first_of, sound_without, stands_without}
use Rattle.system_tables.proofs.ReassemblyFacts.Standing.{key_at}
use Rattle.system_tables.proofs.ReassemblyFacts.Undone.{sound_undone, stands_undone, undone_is_without}

pub empty_or_not : (segments : List Segment) → (segments ≡ []) ⊎ (segments ≢ [])
empty_or_not [] = inl refl
empty_or_not (segment ∷ others) = inr (λ e. cc)

module _ (limits : TableLimits) (openings : List Opening) (slots : List ℕ) (segments : List Segment) (held slot : ℕ) (closed : Opening) (table : TableState)
    (view_is : record { limits = limits; openings = openings; slots = slots; segments = segments } ≡ table) (sound : IsSound limits openings segments held)
    (at : slice_get openings slot ≡ Some closed) (left_slots : List ℕ) where
  abbrev kept_table : TableState
  kept_table = record { limits = limits; openings = openings; slots = slots; segments = segments }

  -- the key at the place is that of the opening which was read there
  named_key : (key : Key) → IsAt table slot key → closed.key ≡ key
  named_key key names = key_at table slot closed key (ap (λ t. slice_get t.openings slot) (sym view_is) ∙ at) names

  stands_here : (buffers : List (Buffer Extent)) → Stands table buffers → Stands kept_table buffers
  stands_here buffers = subst (λ t. Stands t buffers) (sym view_is)

  pub once : (buffers : List (Buffer Extent)) → Stands table buffers → length (filter (λ b. same_key b.key closed.key) buffers) ≡ 1
  once buffers stands = buffers-once openings slot closed at closed.key refl sound.distinct limits segments slots buffers (stands_here buffers stands)

  -- all segments of the key, and its opening, were taken out
  module _ (after : List Opening) (left : List Segment) (removed : after ≡ remove openings slot) (others : left ≡ others_of closed.key segments) where
    pub left_sound : (size : ℕ) → size ≡ total_size left → IsSound limits after left size
    left_sound size e =
        let h = sound_without openings slot closed at closed.key refl sound.distinct limits segments held sound in
        subst (λ n. IsSound limits after left n) (sym e)
        (subst (λ l. IsSound limits l left (total_size left)) (sym removed)
        (subst (λ l. IsSound limits (remove openings slot) l (total_size l)) (sym others) h))

    pub left_stands : (buffers : List (Buffer Extent)) (key : Key) → Stands table buffers → IsAt table slot key
        → Stands (record { limits = limits; openings = after; slots = left_slots; segments = left }) (without key buffers)
    left_stands buffers key stands names =
        let h = stands_without openings slot closed at closed.key refl sound.distinct limits segments slots buffers (stands_here buffers stands) left_slots in
        subst (λ k. Stands (record { limits = limits; openings = after; slots = left_slots; segments = left }) (without k buffers)) (named_key key names)
        (subst (λ l. Stands (record { limits = limits; openings = l; slots = left_slots; segments = left }) (without closed.key buffers)) (sym removed)
        (subst (λ l. Stands (record { limits = limits; openings = remove openings slot; slots = left_slots; segments = l }) (without closed.key buffers)) (sym others) h))

  pub left_first : (buffers : List (Buffer Extent)) (taken : Buffer Extent) → Stands table buffers → IsAt table slot taken.key
      → buffer_of taken.key buffers ≡ Some taken → first_pdu closed.key segments ≡ first_carried taken
  left_first buffers taken stands names is_there =
      ap (λ k. first_pdu k segments) (named_key taken.key names)
      ∙ first_of kept_table taken
      (AllByRecursion-find (KeepsSegments kept_table) (λ b. same_key b.key taken.key) buffers taken is_there (stands_here buffers stands).segments)

  -- the last segment of the key was taken out
  module _ (left : List Segment) (undo : left ≡ without_last closed.key segments) where
    pub undone_sound : (size : ℕ) → size ≡ total_size left → IsSound limits openings left size
    undone_sound size e =
        subst (λ n. IsSound limits openings left n) (sym e)
        (subst (λ l. IsSound limits openings l (total_size l)) (sym undo) (sound_undone closed.key limits openings segments held sound))

    pub undone_stands : (buffers : List (Buffer Extent)) (key : Key) → segments_of closed.key left ≢ [] → Stands table buffers → IsAt table slot key
        → Stands (record { limits = limits; openings = openings; slots = left_slots; segments = left }) (undone key buffers)
    undone_stands buffers key more stands names =
        let some : segments_of closed.key (without_last closed.key segments) ≢ [] = λ e. more (ap (segments_of closed.key) undo ∙ e) in
        subst (λ k. Stands (record { limits = limits; openings = openings; slots = left_slots; segments = left }) (undone k buffers)) (named_key key names)
        (subst (λ l. Stands (record { limits = limits; openings = openings; slots = left_slots; segments = l }) (undone closed.key buffers)) (sym undo)
        (stands_undone closed.key limits segments openings openings slots left_slots buffers (once buffers stands) (stands_here buffers stands) some refl))

    -- it was the only one
    module _ (after : List Opening) (removed : after ≡ remove openings slot) (none : segments_of closed.key left ≡ []) where
      none_left : segments_of closed.key (without_last closed.key segments) ≡ []
      none_left = ap (segments_of closed.key) (sym undo) ∙ none

      all_others : left ≡ others_of closed.key segments
      all_others = undo ∙ without_last-none_left closed.key segments none_left

      pub emptied_sound : (size : ℕ) → size ≡ total_size left → IsSound limits after left size
      emptied_sound = left_sound after left removed all_others

      pub emptied_stands : (buffers : List (Buffer Extent)) (key : Key) → Stands table buffers → IsAt table slot key
          → Stands (record { limits = limits; openings = after; slots = left_slots; segments = left }) (undone key buffers)
      emptied_stands buffers key stands names =
          let e = undone_is_without closed.key limits segments openings openings slots left_slots buffers (once buffers stands) (stands_here buffers stands) none_left in
          subst (Stands (record { limits = limits; openings = after; slots = left_slots; segments = left }))
          (ap (λ k. without k buffers) (sym (named_key key names)) ∙ sym e ∙ ap (λ k. undone k buffers) (named_key key names))
          (left_stands after left removed all_others buffers key stands names)

    -- its opening was taken out with it where it was the only one
    module _ (after : List Opening) (closed_now : segments_of closed.key left ≡ [] → after ≡ remove openings slot) (open_still : segments_of closed.key left ≢ [] → after ≡ openings) where
      pub undo_sound : (size : ℕ) → size ≡ total_size left → IsSound limits after left size
      undo_sound size e =
          elim (empty_or_not (segments_of closed.key left)) [
            | inl none ↦ emptied_sound after (closed_now none) none size e
            | inr more ↦ subst (λ l. IsSound limits l left size) (sym (open_still more)) (undone_sound size e)
          ]

      pub undo_stands : (buffers : List (Buffer Extent)) (key : Key) → Stands table buffers → IsAt table slot key
          → Stands (record { limits = limits; openings = after; slots = left_slots; segments = left }) (undone key buffers)
      undo_stands buffers key stands names =
          elim (empty_or_not (segments_of closed.key left)) [
            | inl none ↦ emptied_stands after (closed_now none) none buffers key stands names
            | inr more ↦ subst (λ l. Stands (record { limits = limits; openings = l; slots = left_slots; segments = left }) (undone key buffers)) (sym (open_still more))
                (undone_stands buffers key more stands names)
          ]
