-- Each kept segment is counted in exactly one buffer.
use Rattle.std.proofs.Common.{◌≡◌, ℕ, ◌+◌, cond, List, [], ◌∷◌, map, length, ap, sym, ◌∙◌, refl, zero-add, inl, inr, arith}
use Rattle.std.specs.Prelude.{sum}
use Rattle.std.specs.List.{AllByRecursion}
use Rattle.std.proofs.lemmas.Bool.{cases_Bool}
use Rattle.std.proofs.lemmas.Simd.{map-map}
use Rattle.pdus.specs.ClnpViews.Extent.{Extent}
use Rattle.system_tables.specs.declared.reassembly.segment.Segment.{Segment}
use Rattle.system_tables.specs.declared.reassembly.openings.Opening.{Opening}
use Rattle.system_tables.specs.Reassembly.Arrival.{Arrival, arrival_of, same_key}
use Rattle.system_tables.specs.Reassembly.Buffer.{Buffer, held, kept, size_of}
use Rattle.system_tables.specs.Reassembly.Offered.{openings_of, total_size}
use Rattle.system_tables.specs.Reassembly.State.{KeepsSegments, Stands, TableState, opening_of, segments_of}
use Rattle.system_tables.proofs.ReassemblyFacts.Keys.{same_key-sym}
use Rattle.system_tables.proofs.ReassemblyFacts.Slots.{openings_of-same, openings_of-other}
use Rattle.pdus.proofs.ClnpBase.Sums.{sum-cons}

-- the weights of the segments of each opening
abbrev pub weights : (Segment → ℕ) → List Segment → List Opening → List ℕ
weights weight segments openings = map (λ opening. sum (map weight (segments_of opening.key segments))) openings

-- the weight of a segment at each opening of its key
abbrev pub shares : (Segment → ℕ) → Segment → List Opening → List ℕ
shares weight segment openings = map (λ opening. cond (same_key opening.key segment.key) (weight segment) 0) openings

no_share : (weight : Segment → ℕ) (segment : Segment) (openings : List Opening) → openings_of segment.key openings ≡ 0
    → sum (shares weight segment openings) ≡ 0
no_share weight segment [] none = refl
no_share weight segment (opening ∷ others) none =
    elim (cases_Bool (same_key opening.key segment.key)) [
      | inl same ↦ absurd (let one = openings_of-same segment.key opening others same in omega arith)
      | inr other ↦ (let rest = no_share weight segment others (sym (openings_of-other segment.key opening others other) ∙ none) in
          sum-cons (cond (same_key opening.key segment.key) (weight segment) 0) (shares weight segment others) ∙ rw other (omega arith))
    ]

one_share : (weight : Segment → ℕ) (segment : Segment) (openings : List Opening) → openings_of segment.key openings ≡ 1
    → sum (shares weight segment openings) ≡ weight segment
one_share weight segment [] one = absurd (omega arith)
one_share weight segment (opening ∷ others) one =
    elim (cases_Bool (same_key opening.key segment.key)) [
      | inl same ↦ (let e = openings_of-same segment.key opening others same in
          let rest = no_share weight segment others (omega arith) in
          sum-cons (cond (same_key opening.key segment.key) (weight segment) 0) (shares weight segment others) ∙ rw same (omega arith))
      | inr other ↦ (let rest = one_share weight segment others (sym (openings_of-other segment.key opening others other) ∙ one) in
          sum-cons (cond (same_key opening.key segment.key) (weight segment) 0) (shares weight segment others) ∙ rw other (omega arith))
    ]

-- the weight of an opening's segments with one more before them
with_first : (weight : Segment → ℕ) (segment : Segment) (others : List Segment) (opening : Opening)
    → sum (map weight (segments_of opening.key (segment ∷ others)))
    ≡ cond (same_key opening.key segment.key) (weight segment) 0 + sum (map weight (segments_of opening.key others))
with_first weight segment others opening =
    elim (cases_Bool (same_key opening.key segment.key)) [
      | inl same ↦ (let back = same_key-sym segment.key opening.key ∙ same in
          rw (same, back) (sum-cons (weight segment) (map weight (segments_of opening.key others))))
      | inr other ↦ (let back = same_key-sym segment.key opening.key ∙ other in rw (other, back) (sym (zero-add _)))
    ]

-- a segment before the others adds its weight at each opening of its key
adds_shares : (weight : Segment → ℕ) (segment : Segment) (others : List Segment) (openings : List Opening)
    → sum (weights weight (segment ∷ others) openings) ≡ sum (shares weight segment openings) + sum (weights weight others openings)
adds_shares weight segment others [] = refl
adds_shares weight segment others (opening ∷ more) =
    let rest = adds_shares weight segment others more in
    let here = with_first weight segment others opening in
    let a = sum-cons (sum (map weight (segments_of opening.key (segment ∷ others)))) (weights weight (segment ∷ others) more) in
    let b = sum-cons (cond (same_key opening.key segment.key) (weight segment) 0) (shares weight segment more) in
    let d = sum-cons (sum (map weight (segments_of opening.key others))) (weights weight others more) in
    omega arith

no_weights : (weight : Segment → ℕ) (openings : List Opening) → sum (weights weight [] openings) ≡ 0
no_weights weight [] = refl
no_weights weight (opening ∷ others) = sum-cons 0 (weights weight [] others) ∙ (zero-add _ ∙ no_weights weight others)

pub counted_once : (weight : Segment → ℕ) (openings : List Opening) (segments : List Segment)
    → AllByRecursion (λ segment. openings_of segment.key openings ≡ 1) segments
    → sum (weights weight segments openings) ≡ sum (map weight segments)
counted_once weight openings [] owned = no_weights weight openings
counted_once weight openings (segment ∷ others) owned =
    let here = one_share weight segment openings owned.0 in
    let step = adds_shares weight segment others openings in
    let rest = counted_once weight openings others owned.1 in
    let add = sum-cons (weight segment) (map weight others) in
    omega arith

-- sums over the arrivals of segments
sizes_of : (segments : List Segment)
    → sum (map (λ (arrival : Arrival Extent). arrival.size) (map arrival_of segments)) ≡ sum (map (λ segment. length segment.pdu.frame) segments)
sizes_of segments = ap sum (map-map (λ (arrival : Arrival Extent). arrival.size) arrival_of segments)

numbers_of : (segments : List Segment) → length (map arrival_of segments) ≡ sum (map (λ (segment : Segment). 1) segments)
numbers_of [] = refl
numbers_of (segment ∷ others) =
    let rest = numbers_of others in let add = sum-cons 1 (map (λ (segment : Segment). 1) others) in omega arith

pub ones : (segments : List Segment) → sum (map (λ (segment : Segment). 1) segments) ≡ length segments
ones [] = refl
ones (segment ∷ others) = let rest = ones others in let add = sum-cons 1 (map (λ (segment : Segment). 1) others) in omega arith

held_by_openings : (table : TableState) (buffers : List (Buffer Extent)) → AllByRecursion (KeepsSegments table) buffers
    → held buffers ≡ sum (weights (λ segment. length segment.pdu.frame) table.segments (map opening_of buffers))
held_by_openings table [] keeps = refl
held_by_openings table (buffer ∷ others) keeps =
    let here : size_of buffer ≡ sum (map (λ segment. length segment.pdu.frame) (segments_of buffer.key table.segments))
    = ap (λ (xs : List (Arrival Extent)). sum (map (λ arrival. arrival.size) xs)) keeps.0 ∙ sizes_of (segments_of buffer.key table.segments) in
    let rest = held_by_openings table others keeps.1 in
    let a = sum-cons (size_of buffer) (map size_of others) in
    let b = sum-cons (sum (map (λ segment. length segment.pdu.frame) (segments_of buffer.key table.segments)))
    (weights (λ segment. length segment.pdu.frame) table.segments (map opening_of others)) in
    omega arith

kept_by_openings : (table : TableState) (buffers : List (Buffer Extent)) → AllByRecursion (KeepsSegments table) buffers
    → kept buffers ≡ sum (weights (λ (segment : Segment). 1) table.segments (map opening_of buffers))
kept_by_openings table [] keeps = refl
kept_by_openings table (buffer ∷ others) keeps =
    let here : length buffer.kept ≡ sum (map (λ (segment : Segment). 1) (segments_of buffer.key table.segments))
    = ap length keeps.0 ∙ numbers_of (segments_of buffer.key table.segments) in
    let rest = kept_by_openings table others keeps.1 in
    let a = sum-cons (length buffer.kept) (map (λ (buffer : Buffer Extent). length buffer.kept) others) in
    let b = sum-cons (sum (map (λ (segment : Segment). 1) (segments_of buffer.key table.segments)))
    (weights (λ (segment : Segment). 1) table.segments (map opening_of others)) in
    omega arith

-- the buffers hold what the table does
pub held_there : (table : TableState) (buffers : List (Buffer Extent)) → Stands table buffers
    → AllByRecursion (λ segment. openings_of segment.key table.openings ≡ 1) table.segments
    → held buffers ≡ total_size table.segments
held_there table buffers stands owned =
    held_by_openings table buffers stands.segments
    ∙ ap (λ (openings : List Opening). sum (weights (λ segment. length segment.pdu.frame) table.segments openings)) (sym stands.openings)
    ∙ counted_once (λ segment. length segment.pdu.frame) table.openings table.segments owned

pub number_there : (table : TableState) (buffers : List (Buffer Extent)) → Stands table buffers
    → AllByRecursion (λ segment. openings_of segment.key table.openings ≡ 1) table.segments
    → kept buffers ≡ length table.segments
number_there table buffers stands owned =
    kept_by_openings table buffers stands.segments
    ∙ ap (λ (openings : List Opening). sum (weights (λ (segment : Segment). 1) table.segments openings)) (sym stands.openings)
    ∙ (counted_once (λ segment. 1) table.openings table.segments owned ∙ ones table.segments)
