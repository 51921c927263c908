-- Reassembly buffers, and which segments are kept (ISO 8473, sections 6.8 and 6.9).
use Rattle.std.specs.Prelude.{ℕ, ◌+◌, ◌==◌, ◌&&◌, not, min, nat_le, nat_lt, Bool, false, if◌then◌else◌, List, [], ◌∷◌, ◌++◌, length, map, filter, sum, Option, None, Some, option_map, is_none}
use Rattle.std.specs.List.{find, range_with_len}
use Rattle.system_tables.specs.declared.reassembly.segment.Key.{Key}
use Rattle.system_tables.specs.declared.reassembly.segment.Shape.{Shape}
use Rattle.system_tables.specs.declared.reassembly.table.TableLimits.{TableLimits}
use Rattle.system_tables.specs.Reassembly.Arrival.{Arrival, same_key, same_shape, data_len, are_covered, earliest}

-- The segments of one unit that are kept, in the order in which they came. `opened` and `deadline` are moments.
pub record Buffer (C : Type 0) : Type 0 where
  pub key : Key
  pub shape : Shape
  pub opened : ℕ
  pub deadline : ℕ
  pub kept : List (Arrival C)

-- What comes of a segment that is offered.
pub data Answer : Type 0 where
  Held : Answer
  Whole : Answer
  Interference : (kept offered : Shape) → Answer
  Repeat : Answer
  NoSlot : (live : ℕ) → Answer
  Crowded : (held size : ℕ) → Answer
  Many : (kept : ℕ) → Answer

module _ {C : Type 0} where
  -- whether each place of the unit's data is covered
  abbrev pub is_whole : Buffer C → Bool
  is_whole buffer = are_covered buffer.kept 0 (data_len buffer.shape)

  -- the buffer of a key, if there is one
  abbrev pub buffer_of : Key → List (Buffer C) → Option (Buffer C)
  buffer_of key buffers = find (λ buffer. same_key buffer.key key) buffers

  -- the segments that are kept under a key
  abbrev pub kept_in : Option (Buffer C) → List (Arrival C)
  kept_in None = []
  kept_in (Some buffer) = buffer.kept

  -- how many octets the segments of a buffer came in, and those of all buffers
  abbrev pub size_of : Buffer C → ℕ
  size_of buffer = sum (map (λ arrival. arrival.size) buffer.kept)

  abbrev pub held : List (Buffer C) → ℕ
  held buffers = sum (map size_of buffers)

  -- how many segments are kept
  abbrev pub kept : List (Buffer C) → ℕ
  kept buffers = sum (map (λ buffer. length buffer.kept) buffers)

  -- whether the buffer of the key is one of a unit of another shape
  abbrev pub clashes : Option (Buffer C) → Shape → Bool
  clashes None shape = false
  clashes (Some buffer) shape = not (same_shape buffer.shape shape)

  abbrev pub shape_in : Option (Buffer C) → Shape → Shape
  shape_in None shape = shape
  shape_in (Some buffer) shape = buffer.shape

  -- Why a segment isn't kept, where it isn't: the first of these that holds. The buffer of its key is of another shape;
  -- it has no octet that isn't there yet; no buffer is left for it; too many octets are held; too many segments are kept.
  abbrev pub refusal : TableLimits → Arrival C → List (Buffer C) → Option Answer
  refusal limits arrival buffers =
      if clashes (buffer_of arrival.key buffers) arrival.shape
      then Some (Interference (shape_in (buffer_of arrival.key buffers) arrival.shape) arrival.shape)
      else if are_covered (kept_in (buffer_of arrival.key buffers)) arrival.offset arrival.len then Some Repeat
      else if is_none (buffer_of arrival.key buffers) && nat_le limits.slots (length buffers) then Some (NoSlot (length buffers))
      else if nat_lt limits.budget (held buffers + arrival.size) then Some (Crowded (held buffers) arrival.size)
      else if nat_le limits.segments (kept buffers) then Some (Many (kept buffers))
      else None

  -- A buffer with this segment alone. Its deadline never moves.
  abbrev pub opened_by : TableLimits → ℕ → Arrival C → Buffer C
  opened_by limits now arrival =
      record {
        key = arrival.key;
        shape = arrival.shape;
        opened = now;
        deadline = now + min limits.hold arrival.lifetime;
        kept = arrival ∷ [];
      }

  -- the buffers with a segment kept in that of its key: a new one, at the end, where there was none
  abbrev pub with_kept : TableLimits → ℕ → Arrival C → List (Buffer C) → List (Buffer C)
  with_kept limits now arrival [] = opened_by limits now arrival ∷ []
  with_kept limits now arrival (buffer ∷ others) =
      if same_key buffer.key arrival.key
      then record buffer { kept = buffer.kept ++ arrival ∷ [] } ∷ others
      else buffer ∷ with_kept limits now arrival others

  abbrev pub is_whole_in : Option (Buffer C) → Bool
  is_whole_in None = false
  is_whole_in (Some buffer) = is_whole buffer

  -- the answer to a segment that is kept
  abbrev pub kept_answer : Key → List (Buffer C) → Answer
  kept_answer key buffers = if is_whole_in (buffer_of key buffers) then Whole else Held

  -- What comes of a segment that is offered: the answer, and the buffers after it.
  abbrev pub answer_of : Option Answer → Key → List (Buffer C) → Answer
  answer_of (Some answer) key buffers = answer
  answer_of None key buffers = kept_answer key buffers

  abbrev pub buffers_of : Option Answer → List (Buffer C) → List (Buffer C) → List (Buffer C)
  buffers_of (Some answer) before after = before
  buffers_of None before after = after

  abbrev pub answer : TableLimits → ℕ → Arrival C → List (Buffer C) → Answer
  answer limits now arrival buffers =
      answer_of (refusal limits arrival buffers) arrival.key (with_kept limits now arrival buffers)

  abbrev pub after : TableLimits → ℕ → Arrival C → List (Buffer C) → List (Buffer C)
  after limits now arrival buffers =
      buffers_of (refusal limits arrival buffers) buffers (with_kept limits now arrival buffers)

  -- the buffers without that of a key
  abbrev pub without : Key → List (Buffer C) → List (Buffer C)
  without key buffers = filter (λ buffer. not (same_key buffer.key key)) buffers

  -- the list without its last
  abbrev pub but_last : List (Arrival C) → List (Arrival C)
  but_last [] = []
  but_last (arrival ∷ []) = []
  but_last (arrival ∷ next ∷ others) = arrival ∷ but_last (next ∷ others)

  -- a buffer with these segments, and none where there are no segments
  abbrev pub holding : List (Arrival C) → Buffer C → List (Buffer C)
  holding [] buffer = []
  holding (arrival ∷ others) buffer = record buffer { kept = arrival ∷ others } ∷ []

  -- the buffers where the last segment that came into that of a key is taken out again
  abbrev pub undone : Key → List (Buffer C) → List (Buffer C)
  undone key [] = []
  undone key (buffer ∷ others) =
      if same_key buffer.key key
      then holding (but_last buffer.kept) buffer ++ others
      else buffer ∷ undone key others

  -- the one with the earlier deadline, the first of equals
  abbrev pub sooner : Buffer C → Option (Buffer C) → Buffer C
  sooner buffer None = buffer
  sooner buffer (Some other) = if nat_le buffer.deadline other.deadline then buffer else other

  abbrev pub soonest : List (Buffer C) → Option (Buffer C)
  soonest [] = None
  soonest (buffer ∷ others) = Some (sooner buffer (soonest others))

  -- the buffer whose time has ended at a moment: the one with the earliest deadline, the first of equals
  abbrev pub due : ℕ → List (Buffer C) → Option (Buffer C)
  due now buffers = soonest (filter (λ buffer. nat_le buffer.deadline now) buffers)

  -- the buffers without the due one, if there is one
  abbrev pub without_due : Option (Buffer C) → List (Buffer C) → List (Buffer C)
  without_due None buffers = buffers
  without_due (Some ended) buffers = without ended.key buffers

  -- what the earliest segment at the beginning of the unit carries
  abbrev pub first_carried : Buffer C → Option C
  first_carried buffer = option_map (λ arrival. arrival.carried) (find (λ arrival. arrival.offset == 0) buffer.kept)

  -- the octet at a place, as the earliest segment that has it says
  abbrev pub octet_by : (Arrival C → ℕ → ℕ) → ℕ → Option (Arrival C) → ℕ
  octet_by read place None = 0
  octet_by read place (Some arrival) = read arrival place

  -- the data of a whole unit, where segments are read so
  abbrev pub data_of : (Arrival C → ℕ → ℕ) → Buffer C → List ℕ
  data_of read buffer =
      map (λ place. octet_by read place (earliest buffer.kept place)) (range_with_len 0 (data_len buffer.shape))
