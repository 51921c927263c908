-- The buffers that a table stands for, without one of them.
use Rattle.std.proofs.Common.{◌≡◌, ◌∙◌, sym, ap, subst, refl, ℕ, zero, suc, ◌≤◌, ◌<◌, Bool, true, false, not, ◌==◌, List, [], ◌∷◌, length, map, take, arith, Option, Some, None}
use Rattle.std.specs.Prelude.{filter, slice_get}
use Rattle.std.specs.List.{All, AllByRecursion, find, remove}
use Rattle.std.specs.Option.{option_map}
use Rattle.std.proofs.lemmas.Bool.{not-true, not_from_false}
use Rattle.std.proofs.lemmas.List.{length-map, take-map}
use Rattle.std.proofs.lemmas.List.Elements.{recursion_from_All}
use Rattle.std.proofs.lemmas.Option.{none-some, same_Some}
use Rattle.pdus.specs.ClnpViews.Extent.{Extent}
use Rattle.system_tables.specs.declared.reassembly.segment.Key.{Key}
use Rattle.system_tables.specs.declared.reassembly.segment.Segment.{Segment}
use Rattle.system_tables.specs.declared.reassembly.openings.Opening.{Opening}
use Rattle.system_tables.specs.declared.reassembly.table.TableLimits.{TableLimits}
use Rattle.system_tables.specs.Reassembly.Arrival.{Arrival, arrival_of, same_key}
use Rattle.system_tables.specs.Reassembly.Buffer.{Buffer, due, first_carried, without}
use Rattle.system_tables.specs.Reassembly.Offered.{MayCome, openings_of, total_size}
use Rattle.system_tables.specs.Reassembly.Sound.{IsSound}
use Rattle.system_tables.specs.Reassembly.State.{TableState, KeepsSegments, Stands, opening_of, segments_of}
use Rattle.system_tables.specs.Reassembly.Ending.{first_pdu, others_of}
use Rattle.pdus.proofs.ClnpBase.Filters.{AllByRecursion-filter, filter-filter, find-filter, remove-only}
use Rattle.pdus.proofs.ClnpBase.Lists.{AllByRecursion-map, AllByRecursion-slice_get}
use Rattle.pdus.proofs.ClnpBase.Maps.{filter-map, find-map}
use Rattle.pdus.proofs.ClnpBase.Sums.{length_filter, sum_filter}
use Rattle.system_tables.proofs.ReassemblyFacts.Due.{due_at, no_due}
use Rattle.system_tables.proofs.ReassemblyFacts.Keys.{same_key-like, same_key-true}

-- what isn't of a key passes the test for its own key and fails that for the key
others_stay : (a key own : Key) → same_key own key ≡ false → same_key a own ≡ true → not (same_key a key) ≡ true
others_stay a key own f t = not_from_false (same_key a key) (ap (λ k. same_key k key) (same_key-true a own t) ∙ f)

pub segments_of-others : (own key : Key) → same_key own key ≡ false → (segments : List Segment) → segments_of own (others_of key segments) ≡ segments_of own segments
segments_of-others own key f segments =
    filter-filter (λ s. same_key s.key own) (λ s. not (same_key s.key key)) (λ s t. others_stay s.key key own f t) segments

module _ (openings : List Opening) (slot : ℕ) (opening : Opening) (at : slice_get openings slot ≡ Some opening) (key : Key) (is : opening.key ≡ key)
    (distinct : AllByRecursion (λ o. openings_of o.key openings ≡ 1) openings) where
  pub counted-once : openings_of key openings ≡ 1
  counted-once = subst (λ k. openings_of k openings ≡ 1) is (AllByRecursion-slice_get (λ o. openings_of o.key openings ≡ 1) openings slot opening at distinct)

  pub remove-slot : remove openings slot ≡ filter (λ o. not (same_key o.key key)) openings
  remove-slot = remove-only (λ o. same_key o.key key) openings slot opening at (same_key-like opening.key key is) counted-once

  openings_of-others : (own : Key) → same_key own key ≡ false → openings_of own (remove openings slot) ≡ openings_of own openings
  openings_of-others own f =
      rw remove-slot
      (ap length (filter-filter (λ o. same_key o.key own) (λ o. not (same_key o.key key)) (λ o t. others_stay o.key key own f t) openings))

  pub sound_without : (limits : TableLimits) (segments : List Segment) (held : ℕ) → IsSound limits openings segments held
      → IsSound limits (remove openings slot) (others_of key segments) (total_size (others_of key segments))
  sound_without limits segments held h = record {
    distinct = subst (AllByRecursion (λ o. openings_of o.key (remove openings slot) ≡ 1)) (sym remove-slot)
        (AllByRecursion-filter (λ o. not (same_key o.key key)) (λ o. openings_of o.key openings ≡ 1) (λ o. openings_of o.key (remove openings slot) ≡ 1)
        (λ o t once. openings_of-others o.key (not-true (same_key o.key key) t) ∙ once) openings h.distinct);
    shaped = subst (AllByRecursion (λ o. o.shape.head_len < o.shape.total)) (sym remove-slot)
        (AllByRecursion-filter (λ o. not (same_key o.key key)) (λ o. o.shape.head_len < o.shape.total) (λ o. o.shape.head_len < o.shape.total)
        (λ o t k. k) openings h.shaped);
    owned = AllByRecursion-filter (λ s. not (same_key s.key key)) (λ s. openings_of s.key openings ≡ 1) (λ s. openings_of s.key (remove openings slot) ≡ 1)
        (λ s t once. openings_of-others s.key (not-true (same_key s.key key) t) ∙ once) segments h.owned;
    came = AllByRecursion-filter (λ s. not (same_key s.key key)) MayCome MayCome (λ s t k. k) segments h.came;
    held_is = refl;
    budget = omega (arith, sum_filter (λ (s : Segment). length s.pdu.frame) (λ s. not (same_key s.key key)) segments, h.held_is, h.budget);
    few_segments = omega (arith, length_filter (λ s. not (same_key s.key key)) segments, h.few_segments);
    few_openings = rw remove-slot (omega (arith, length_filter (λ o. not (same_key o.key key)) openings, h.few_openings));
    budget_fits = h.budget_fits;
    segments_fit = h.segments_fit;
    slots_fit = h.slots_fit;
  }

  module _ (limits : TableLimits) (segments : List Segment) (slots : List ℕ) (buffers : List (Buffer Extent))
      (stands : Stands (record { limits = limits; openings = openings; slots = slots; segments = segments }) buffers) where
    pub buffers-once : length (filter (λ b. same_key b.key key) buffers) ≡ 1
    buffers-once =
        sym (length-map (filter (λ b. same_key b.key key) buffers) opening_of) ∙ ap length (sym (filter-map opening_of (λ o. same_key o.key key) buffers))
        ∙ ap (openings_of key) (sym stands.openings) ∙ counted-once

    pub stands_without : (left : List ℕ) → Stands (record { limits = limits; openings = remove openings slot; slots = left; segments = others_of key segments }) (without key buffers)
    stands_without left = record {
      openings = remove-slot ∙ ap (filter (λ o. not (same_key o.key key))) stands.openings ∙ filter-map opening_of (λ o. not (same_key o.key key)) buffers;
      segments = AllByRecursion-filter (λ b. not (same_key b.key key))
          (KeepsSegments (record { limits = limits; openings = openings; slots = slots; segments = segments }))
          (KeepsSegments (record { limits = limits; openings = remove openings slot; slots = left; segments = others_of key segments }))
          (λ b t k. k ∙ ap (map arrival_of) (sym (segments_of-others b.key key (not-true (same_key b.key key) t) segments))) buffers stands.segments;
    }

carried_pdu : (found : Option Segment) → option_map (λ a. a.carried) (option_map arrival_of found) ≡ option_map (λ s. s.pdu) found
carried_pdu None = refl
carried_pdu (Some segment) = refl

-- what the earliest segment at the beginning of a buffer's unit carries
pub first_of : (table : TableState) (buffer : Buffer Extent) → KeepsSegments table buffer → first_pdu buffer.key table.segments ≡ first_carried buffer
first_of table buffer keeps =
    let begins : Arrival Extent → Bool = λ a. a.offset == 0 in
    sym (ap (λ l. option_map (λ a. a.carried) (find begins l)) keeps
    ∙ ap (option_map (λ a. a.carried)) (find-map arrival_of begins (segments_of buffer.key table.segments))
    ∙ carried_pdu (find (λ s. begins (arrival_of s)) (segments_of buffer.key table.segments))
    ∙ ap (option_map (λ s. s.pdu)) (find-filter (λ s. same_key s.key buffer.key) (λ s. begins (arrival_of s)) table.segments))

-- the buffer of an opening
pub buffer_at : (buffers : List (Buffer Extent)) (slot : ℕ) (opening : Opening) → slice_get (map opening_of buffers) slot ≡ Some opening
    → (buffer : Buffer Extent) × (slice_get buffers slot ≡ Some buffer) × (opening_of buffer ≡ opening)
buffer_at [] slot opening e = absurd (none-some opening e)
buffer_at (first ∷ others) zero opening e = (first, refl, same_Some (opening_of first) opening e)
buffer_at (first ∷ others) (suc slot) opening e = buffer_at others slot opening e

-- the first of the openings with the least deadline is that of the due buffer
pub due_of : (now : ℕ) (openings : List Opening) (buffers : List (Buffer Extent)) (slot : ℕ) (opening : Opening) → openings ≡ map opening_of buffers
    → slice_get openings slot ≡ Some opening → opening.deadline ≤ now → All (λ o. opening.deadline ≤ o.deadline) openings
    → All (λ o. opening.deadline < o.deadline) (take slot openings)
    → (ended : Buffer Extent) × (due now buffers ≡ Some ended) × (ended.key ≡ opening.key) × (slice_get buffers slot ≡ Some ended)
due_of now openings buffers slot opening same at has_ended least first =
    let found = buffer_at buffers slot opening (subst (λ l. slice_get l slot ≡ Some opening) same at) in
    let ended = found.0 in
    let deadline : ended.deadline ≡ opening.deadline = ap (λ o. o.deadline) found.2 in
    let all : AllByRecursion (λ b. ended.deadline ≤ b.deadline) buffers =
    AllByRecursion-map (λ o. ended.deadline ≤ o.deadline) opening_of buffers
    (subst (AllByRecursion (λ o. ended.deadline ≤ o.deadline)) same
    (recursion_from_All (λ o. ended.deadline ≤ o.deadline) openings (subst (λ d. All (λ o. d ≤ o.deadline) openings) (sym deadline) least))) in
    let before : AllByRecursion (λ b. ended.deadline < b.deadline) (take slot buffers) =
    AllByRecursion-map (λ o. ended.deadline < o.deadline) opening_of (take slot buffers)
    (subst (AllByRecursion (λ o. ended.deadline < o.deadline)) (ap (take slot) same ∙ take-map opening_of slot buffers)
    (recursion_from_All (λ o. ended.deadline < o.deadline) (take slot openings) (subst (λ d. All (λ o. d < o.deadline) (take slot openings)) (sym deadline) first))) in
    (ended, due_at now buffers slot ended found.1 (omega arith) all before, ap (λ o. o.key) found.2, found.1)

pub none_due_of : (now : ℕ) (openings : List Opening) (buffers : List (Buffer Extent)) → openings ≡ map opening_of buffers
    → All (λ o. now < o.deadline) openings → due now buffers ≡ None
none_due_of now openings buffers same later =
    no_due now buffers (AllByRecursion-map (λ o. now < o.deadline) opening_of buffers
    (subst (AllByRecursion (λ o. now < o.deadline)) same (recursion_from_All (λ o. now < o.deadline) openings later)))
