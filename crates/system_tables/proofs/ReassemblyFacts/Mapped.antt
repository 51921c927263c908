-- What segments carry doesn't matter: a function over it goes through all that is done with buffers, whatever types it
-- is from and to. So a table over octets stands for buffers of labelled packets whose octets these are.
use Rattle.std.proofs.Common.{◌≡◌, ℕ, List, [], ◌∷◌, ◌++◌, Option, Some, None, length, map, refl, sym, ap, ◌∙◌, inl, inr}
use Rattle.std.specs.Prelude.{option_map, is_none, nat_le, not, ◌==◌}
use Rattle.std.specs.List.{sum, filter, find, range_with_len}
use Rattle.std.proofs.lemmas.Bool.{cases_Bool}
use Rattle.std.proofs.lemmas.List.{map-append, length-map}
use Rattle.system_tables.specs.declared.reassembly.segment.Key.{Key}
use Rattle.system_tables.specs.declared.reassembly.segment.Shape.{Shape}
use Rattle.system_tables.specs.declared.reassembly.table.TableLimits.{TableLimits}
use Rattle.system_tables.specs.Reassembly.Arrival.{Arrival, same_key, data_len, has, is_covered, are_covered, earliest}
use Rattle.system_tables.specs.Reassembly.Buffer.{Buffer, Answer, is_whole, buffer_of, kept_in, size_of, held, kept, clashes, shape_in, refusal, with_kept, is_whole_in, kept_answer, answer_of, buffers_of, answer, after, without, but_last, holding, undone, sooner, soonest, due, without_due, first_carried, octet_by, data_of}
use Rattle.system_tables.specs.Reassembly.Mapped.{map_arrival, map_buffer, map_buffers}
use Rattle.pdus.proofs.ClnpBase.Maps.{filter-map, find-map, list_all-agree, list_any-map, map-agree, map-map}

module _ {C D : Type 0} (f : C → D) where
  -- ---- what is asked of buffers

  pub is_covered-mapped : (arrivals : List (Arrival C)) (place : ℕ) → is_covered (map (map_arrival f) arrivals) place ≡ is_covered arrivals place
  is_covered-mapped arrivals place = list_any-map (map_arrival f) (has place) arrivals

  pub are_covered-mapped : (arrivals : List (Arrival C)) (from len : ℕ)
      → are_covered (map (map_arrival f) arrivals) from len ≡ are_covered arrivals from len
  are_covered-mapped arrivals from len =
      list_all-agree (is_covered (map (map_arrival f) arrivals)) (is_covered arrivals) (range_with_len from len)
      (λ place. is_covered-mapped arrivals place)

  pub earliest-mapped : (arrivals : List (Arrival C)) (place : ℕ)
      → earliest (map (map_arrival f) arrivals) place ≡ option_map (map_arrival f) (earliest arrivals place)
  earliest-mapped arrivals place = find-map (map_arrival f) (has place) arrivals

  pub is_whole-mapped : (buffer : Buffer C) → is_whole (map_buffer f buffer) ≡ is_whole buffer
  is_whole-mapped buffer = are_covered-mapped buffer.kept 0 (data_len buffer.shape)

  pub buffer_of-mapped : (key : Key) (buffers : List (Buffer C))
      → buffer_of key (map_buffers f buffers) ≡ option_map (map_buffer f) (buffer_of key buffers)
  buffer_of-mapped key buffers = find-map (map_buffer f) (λ buffer. same_key buffer.key key) buffers

  pub size_of-mapped : (buffer : Buffer C) → size_of (map_buffer f buffer) ≡ size_of buffer
  size_of-mapped buffer = ap sum (map-map (map_arrival f) (λ arrival. arrival.size) buffer.kept)

  sizes-mapped : (buffers : List (Buffer C)) → map size_of (map_buffers f buffers) ≡ map size_of buffers
  sizes-mapped [] = refl
  sizes-mapped (buffer ∷ others) = let a = size_of-mapped buffer in let b = sizes-mapped others in cc

  pub held-mapped : (buffers : List (Buffer C)) → held (map_buffers f buffers) ≡ held buffers
  held-mapped buffers = ap sum (sizes-mapped buffers)

  lengths-mapped : (buffers : List (Buffer C)) → map (λ buffer. length buffer.kept) (map_buffers f buffers) ≡ map (λ buffer. length buffer.kept) buffers
  lengths-mapped [] = refl
  lengths-mapped (buffer ∷ others) = let a = length-map buffer.kept (map_arrival f) in let b = lengths-mapped others in cc

  pub kept-mapped : (buffers : List (Buffer C)) → kept (map_buffers f buffers) ≡ kept buffers
  kept-mapped buffers = ap sum (lengths-mapped buffers)

  clashes-mapped : (found : Option (Buffer C)) (shape : Shape) → clashes (option_map (map_buffer f) found) shape ≡ clashes found shape
  clashes-mapped None shape = refl
  clashes-mapped (Some buffer) shape = refl

  shape_in-mapped : (found : Option (Buffer C)) (shape : Shape) → shape_in (option_map (map_buffer f) found) shape ≡ shape_in found shape
  shape_in-mapped None shape = refl
  shape_in-mapped (Some buffer) shape = refl

  kept_in-mapped : (found : Option (Buffer C)) → kept_in (option_map (map_buffer f) found) ≡ map (map_arrival f) (kept_in found)
  kept_in-mapped None = refl
  kept_in-mapped (Some buffer) = refl

  is_none-mapped : (found : Option (Buffer C)) → is_none (option_map (map_buffer f) found) ≡ is_none found
  is_none-mapped None = refl
  is_none-mapped (Some buffer) = refl

  is_whole_in-mapped : (found : Option (Buffer C)) → is_whole_in (option_map (map_buffer f) found) ≡ is_whole_in found
  is_whole_in-mapped None = refl
  is_whole_in-mapped (Some buffer) = is_whole-mapped buffer

  -- ---- keeping

  pub refusal-mapped : (limits : TableLimits) (arrival : Arrival C) (buffers : List (Buffer C))
      → refusal limits (map_arrival f arrival) (map_buffers f buffers) ≡ refusal limits arrival buffers
  refusal-mapped limits arrival buffers =
      rw (
        buffer_of-mapped arrival.key buffers,
        clashes-mapped (buffer_of arrival.key buffers) arrival.shape,
        shape_in-mapped (buffer_of arrival.key buffers) arrival.shape,
        kept_in-mapped (buffer_of arrival.key buffers),
        are_covered-mapped (kept_in (buffer_of arrival.key buffers)) arrival.offset arrival.len,
        is_none-mapped (buffer_of arrival.key buffers),
        length-map buffers (map_buffer f),
        held-mapped buffers,
        kept-mapped buffers,
      )

  pub with_kept-mapped : (limits : TableLimits) (now : ℕ) (arrival : Arrival C) (buffers : List (Buffer C))
      → with_kept limits now (map_arrival f arrival) (map_buffers f buffers) ≡ map_buffers f (with_kept limits now arrival buffers)
  with_kept-mapped limits now arrival [] = refl
  with_kept-mapped limits now arrival (buffer ∷ others) =
      elim (cases_Bool (same_key buffer.key arrival.key)) [
        | inl same ↦
            rw same
            (ap (λ arrivals. record (map_buffer f buffer) { kept = arrivals } ∷ map_buffers f others)
            (sym (map-append (map_arrival f) buffer.kept (arrival ∷ []))))
        | inr other ↦ rw other (ap (λ rest. map_buffer f buffer ∷ rest) (with_kept-mapped limits now arrival others))
      ]

  kept_answer-mapped : (key : Key) (buffers : List (Buffer C)) → kept_answer key (map_buffers f buffers) ≡ kept_answer key buffers
  kept_answer-mapped key buffers = rw (buffer_of-mapped key buffers, is_whole_in-mapped (buffer_of key buffers))

  answer_of-mapped : (refused : Option Answer) (key : Key) (buffers : List (Buffer C))
      → answer_of refused key (map_buffers f buffers) ≡ answer_of refused key buffers
  answer_of-mapped (Some refused) key buffers = refl
  answer_of-mapped None key buffers = kept_answer-mapped key buffers

  buffers_of-mapped : (refused : Option Answer) (before later : List (Buffer C))
      → buffers_of refused (map_buffers f before) (map_buffers f later) ≡ map_buffers f (buffers_of refused before later)
  buffers_of-mapped (Some refused) before later = refl
  buffers_of-mapped None before later = refl

  pub answer-mapped : (limits : TableLimits) (now : ℕ) (arrival : Arrival C) (buffers : List (Buffer C))
      → answer limits now (map_arrival f arrival) (map_buffers f buffers) ≡ answer limits now arrival buffers
  answer-mapped limits now arrival buffers =
      ap (λ refused. answer_of refused arrival.key (with_kept limits now (map_arrival f arrival) (map_buffers f buffers)))
      (refusal-mapped limits arrival buffers)
      ∙ ap (λ later. answer_of (refusal limits arrival buffers) arrival.key later) (with_kept-mapped limits now arrival buffers)
      ∙ answer_of-mapped (refusal limits arrival buffers) arrival.key (with_kept limits now arrival buffers)

  pub after-mapped : (limits : TableLimits) (now : ℕ) (arrival : Arrival C) (buffers : List (Buffer C))
      → after limits now (map_arrival f arrival) (map_buffers f buffers) ≡ map_buffers f (after limits now arrival buffers)
  after-mapped limits now arrival buffers =
      ap (λ refused. buffers_of refused (map_buffers f buffers) (with_kept limits now (map_arrival f arrival) (map_buffers f buffers)))
      (refusal-mapped limits arrival buffers)
      ∙ ap (λ later. buffers_of (refusal limits arrival buffers) (map_buffers f buffers) later) (with_kept-mapped limits now arrival buffers)
      ∙ buffers_of-mapped (refusal limits arrival buffers) buffers (with_kept limits now arrival buffers)

  -- ---- taking out

  pub without-mapped : (key : Key) (buffers : List (Buffer C)) → without key (map_buffers f buffers) ≡ map_buffers f (without key buffers)
  without-mapped key buffers = filter-map (map_buffer f) (λ buffer. not (same_key buffer.key key)) buffers

  but_last-mapped : (arrivals : List (Arrival C)) → but_last (map (map_arrival f) arrivals) ≡ map (map_arrival f) (but_last arrivals)
  but_last-mapped [] = refl
  but_last-mapped (arrival ∷ []) = refl
  but_last-mapped (arrival ∷ next ∷ others) = ap (λ rest. map_arrival f arrival ∷ rest) (but_last-mapped (next ∷ others))

  holding-mapped : (arrivals : List (Arrival C)) (buffer : Buffer C)
      → holding (map (map_arrival f) arrivals) (map_buffer f buffer) ≡ map_buffers f (holding arrivals buffer)
  holding-mapped [] buffer = refl
  holding-mapped (arrival ∷ others) buffer = refl

  pub undone-mapped : (key : Key) (buffers : List (Buffer C)) → undone key (map_buffers f buffers) ≡ map_buffers f (undone key buffers)
  undone-mapped key [] = refl
  undone-mapped key (buffer ∷ others) =
      elim (cases_Bool (same_key buffer.key key)) [
        | inl same ↦
            rw same
            (ap (λ arrivals. holding arrivals (map_buffer f buffer) ++ map_buffers f others) (but_last-mapped buffer.kept)
            ∙ ap (λ front. front ++ map_buffers f others) (holding-mapped (but_last buffer.kept) buffer)
            ∙ sym (map-append (map_buffer f) (holding (but_last buffer.kept) buffer) others))
        | inr other ↦ rw other (ap (λ rest. map_buffer f buffer ∷ rest) (undone-mapped key others))
      ]

  sooner-mapped : (buffer : Buffer C) (found : Option (Buffer C))
      → sooner (map_buffer f buffer) (option_map (map_buffer f) found) ≡ map_buffer f (sooner buffer found)
  sooner-mapped buffer None = refl
  sooner-mapped buffer (Some other) =
      elim (cases_Bool (nat_le buffer.deadline other.deadline)) [
        | inl first ↦ rw first
        | inr later ↦ rw later
      ]

  soonest-mapped : (buffers : List (Buffer C)) → soonest (map_buffers f buffers) ≡ option_map (map_buffer f) (soonest buffers)
  soonest-mapped [] = refl
  soonest-mapped (buffer ∷ others) =
      ap (λ found. Some (sooner (map_buffer f buffer) found)) (soonest-mapped others)
      ∙ ap Some (sooner-mapped buffer (soonest others))

  pub due-mapped : (now : ℕ) (buffers : List (Buffer C)) → due now (map_buffers f buffers) ≡ option_map (map_buffer f) (due now buffers)
  due-mapped now buffers =
      ap soonest (filter-map (map_buffer f) (λ buffer. nat_le buffer.deadline now) buffers)
      ∙ soonest-mapped (filter (λ buffer. nat_le buffer.deadline now) buffers)

  pub without_due-mapped : (found : Option (Buffer C)) (buffers : List (Buffer C))
      → without_due (option_map (map_buffer f) found) (map_buffers f buffers) ≡ map_buffers f (without_due found buffers)
  without_due-mapped None buffers = refl
  without_due-mapped (Some ended) buffers = without-mapped ended.key buffers

  -- ---- joining

  carried-mapped : (found : Option (Arrival C))
      → option_map (λ arrival. arrival.carried) (option_map (map_arrival f) found) ≡ option_map f (option_map (λ arrival. arrival.carried) found)
  carried-mapped None = refl
  carried-mapped (Some arrival) = refl

  pub first_carried-mapped : (buffer : Buffer C) → first_carried (map_buffer f buffer) ≡ option_map f (first_carried buffer)
  first_carried-mapped buffer =
      ap (option_map (λ (arrival : Arrival D). arrival.carried)) (find-map (map_arrival f) (λ arrival. arrival.offset == 0) buffer.kept)
      ∙ carried-mapped (find (λ arrival. arrival.offset == 0) buffer.kept)

  octet_by-mapped : (read : Arrival C → ℕ → ℕ) (read_mapped : Arrival D → ℕ → ℕ)
      → ((arrival : Arrival C) (place : ℕ) → read_mapped (map_arrival f arrival) place ≡ read arrival place)
      → (place : ℕ) (found : Option (Arrival C))
      → octet_by read_mapped place (option_map (map_arrival f) found) ≡ octet_by read place found
  octet_by-mapped read read_mapped same place None = refl
  octet_by-mapped read read_mapped same place (Some arrival) = same arrival place

  pub data_of-mapped : (read : Arrival C → ℕ → ℕ) (read_mapped : Arrival D → ℕ → ℕ) (buffer : Buffer C)
      → ((arrival : Arrival C) (place : ℕ) → read_mapped (map_arrival f arrival) place ≡ read arrival place)
      → data_of read_mapped (map_buffer f buffer) ≡ data_of read buffer
  data_of-mapped read read_mapped buffer same =
      map-agree (λ place. octet_by read_mapped place (earliest (map (map_arrival f) buffer.kept) place))
      (λ place. octet_by read place (earliest buffer.kept place)) (range_with_len 0 (data_len buffer.shape))
      (λ place.
      ap (octet_by read_mapped place) (earliest-mapped buffer.kept place)
      ∙ octet_by-mapped read read_mapped same place (earliest buffer.kept place))
