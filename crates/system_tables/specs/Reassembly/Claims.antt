-- What is claimed of buffers beside how segments are kept.
use Rattle.std.specs.Prelude.{◌≡◌, ◌↔◌, ◌⊎◌, ℕ, ◌+◌, ◌≤◌, ◌<◌, true, false, List, ◌∷◌, ◌++◌, length, None, Some, IsTrue, slice_get}
use Rattle.std.specs.List.{All, AllByRecursion, Contains}
use Rattle.system_tables.specs.declared.reassembly.segment.Key.{Key}
use Rattle.system_tables.specs.declared.reassembly.table.TableLimits.{TableLimits}
use Rattle.system_tables.specs.Reassembly.Arrival.{Arrival, data_len, has, is_covered}
use Rattle.system_tables.specs.Reassembly.Buffer.{Buffer, held, kept, is_whole, buffer_of, with_kept, after}

module _ {C : Type 0} where
  -- a place is covered exactly where one of the segments has it
  abbrev pub IsCoveredBySome : List (Arrival C) → ℕ → Type 0
  IsCoveredBySome arrivals place =
      IsTrue (is_covered arrivals place) ↔ ((arrival : Arrival C) × Contains arrivals arrival × IsTrue (has place arrival))

  -- a buffer is whole exactly where each place of its unit's data is covered
  abbrev pub IsWholeWhereCovered : Buffer C → Type 0
  IsWholeWhereCovered buffer =
      IsTrue (is_whole buffer) ↔ ((place : ℕ) → place < data_len buffer.shape → IsTrue (is_covered buffer.kept place))

  -- no number of the limits is passed
  pub record KeepTo (limits : TableLimits) (buffers : List (Buffer C)) : Type 0 where
    pub slots : length buffers ≤ limits.slots
    pub segments : kept buffers ≤ limits.segments
    pub budget : held buffers ≤ limits.budget

  -- each buffer has a segment
  abbrev pub NoneIsEmpty : List (Buffer C) → Type 0
  NoneIsEmpty buffers = AllByRecursion (λ buffer. 0 < length buffer.kept) buffers

  -- the two lists have the same segments, in whatever order and how often
  abbrev pub HaveTheSame : List (Arrival C) → List (Arrival C) → Type 0
  HaveTheSame arrivals others = (arrival : Arrival C) → Contains arrivals arrival ↔ Contains others arrival

  -- segments that have the same place have the same octet there
  abbrev pub Agree : (Arrival C → ℕ → ℕ) → List (Arrival C) → Type 0
  Agree read arrivals =
      (a b : Arrival C) (place : ℕ) → Contains arrivals a → Contains arrivals b
      → IsTrue (has place a) → IsTrue (has place b) → read a place ≡ read b place

  -- a buffer that is there stays, with the moment of its opening and its deadline
  abbrev pub StaysWithDeadline : Key → List (Buffer C) → List (Buffer C) → Type 0
  StaysWithDeadline key before after =
      (buffer : Buffer C) → buffer_of key before ≡ Some buffer
      → (later : Buffer C) × (buffer_of key after ≡ Some later) × (later.opened ≡ buffer.opened) × (later.deadline ≡ buffer.deadline)

  -- the buffer is in the list, its time has ended, no buffer has an earlier deadline, and those before it have later ones
  pub record IsDue (now : ℕ) (buffers : List (Buffer C)) (ended : Buffer C) : Type 0 where
    pub before : List (Buffer C)
    pub behind : List (Buffer C)
    pub stands_there : buffers ≡ before ++ ended ∷ behind
    pub has_ended : ended.deadline ≤ now
    pub soonest : All (λ buffer. ended.deadline ≤ buffer.deadline) buffers
    pub first : All (λ buffer. ended.deadline < buffer.deadline) before

  -- The time of a buffer ends once the hold time or the lifetime of its first segment is over, whichever is over first,
  -- from its opening on.
  pub record EndsInTime (limits : TableLimits) (buffer : Buffer C) : Type 0 where
    pub first : Arrival C
    pub came_first : slice_get buffer.kept 0 ≡ Some first
    pub hold : buffer.deadline ≤ buffer.opened + limits.hold
    pub lifetime : buffer.deadline ≤ buffer.opened + first.lifetime
    pub no_sooner : (buffer.opened + limits.hold ≤ buffer.deadline) ⊎ (buffer.opened + first.lifetime ≤ buffer.deadline)

  abbrev pub AllEndInTime : TableLimits → List (Buffer C) → Type 0
  AllEndInTime limits buffers = AllByRecursion (EndsInTime limits) buffers

  abbrev pub NoneIsWhole : List (Buffer C) → Type 0
  NoneIsWhole buffers = AllByRecursion (λ buffer. is_whole buffer ≡ false) buffers

  -- a segment was kept, and the buffer of its key is whole
  pub record IsMadeWhole (limits : TableLimits) (now : ℕ) (arrival : Arrival C) (buffers : List (Buffer C)) : Type 0 where
    pub after_is : after limits now arrival buffers ≡ with_kept limits now arrival buffers
    pub buffer : Buffer C
    pub found : buffer_of arrival.key (after limits now arrival buffers) ≡ Some buffer
    pub whole : is_whole buffer ≡ true

  -- a segment may be kept: no number of the limits is passed with it
  pub record MayBeKept (limits : TableLimits) (arrival : Arrival C) (buffers : List (Buffer C)) : Type 0 where
    pub slot : buffer_of arrival.key buffers ≡ None → length buffers < limits.slots
    pub budget : held buffers + arrival.size ≤ limits.budget
    pub few : kept buffers < limits.segments
