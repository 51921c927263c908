-- The openings of a key, and the segments of it.
use Rattle.std.proofs.Common.{◌≡◌, ℕ, suc, ◌+◌, ◌≤◌, true, false, List, [], ◌∷◌, Option, Some, None, slice_get, ap, ◌∙◌, refl, inl, inr, arith}
use Rattle.std.specs.List.{AllByRecursion, position_from}
use Rattle.std.proofs.lemmas.Bool.{cases_Bool}
use Rattle.system_tables.specs.declared.reassembly.segment.Key.{Key}
use Rattle.system_tables.specs.declared.reassembly.segment.Segment.{Segment}
use Rattle.system_tables.specs.declared.reassembly.openings.Opening.{Opening}
use Rattle.system_tables.specs.Reassembly.Arrival.{same_key}
use Rattle.system_tables.specs.Reassembly.Offered.{openings_of}
use Rattle.system_tables.specs.Reassembly.State.{segments_of}
use Rattle.system_tables.proofs.ReassemblyFacts.Keys.{same_key-true}

-- the place of the first opening of a key
abbrev pub slot_from : Key → ℕ → List Opening → Option ℕ
slot_from key n openings = position_from (λ opening. same_key opening.key key) n openings

-- how the count of openings goes on by one
pub openings_of-same : (key : Key) (opening : Opening) (others : List Opening) → same_key opening.key key ≡ true
    → openings_of key (opening ∷ others) ≡ suc (openings_of key others)
openings_of-same key opening others e = rw e refl

pub openings_of-other : (key : Key) (opening : Opening) (others : List Opening) → same_key opening.key key ≡ false
    → openings_of key (opening ∷ others) ≡ openings_of key others
openings_of-other key opening others e = rw e refl

-- what stands at the place of a key's first opening
pub record StandsFirst (key : Key) (n slot : ℕ) (openings : List Opening) : Type 0 where
  pub at : ℕ
  pub opening : Opening
  pub counted : n + at ≡ slot
  pub stands_at : slice_get openings at ≡ Some opening
  pub key_is : opening.key ≡ key
  pub some : 1 ≤ openings_of key openings

pub slot_there : (key : Key) (n slot : ℕ) (openings : List Opening) → slot_from key n openings ≡ Some slot → StandsFirst key n slot openings
slot_there key n slot [] e = absurd (cc)
slot_there key n slot (opening ∷ others) e =
    elim (cases_Bool (same_key opening.key key)) [
      | inl same ↦ (let here : n ≡ slot = (let f : Some n ≡ Some slot = rw same at e in cc) in
          record {
            at = 0;
            opening = opening;
            counted = omega arith;
            stands_at = refl;
            key_is = same_key-true opening.key key same;
            some = (let one = openings_of-same key opening others same in omega arith);
          })
      | inr other ↦ (let f : slot_from key (n + 1) others ≡ Some slot = rw other at e in
          let there = slot_there key (n + 1) slot others f in
          record {
            at = suc there.at;
            opening = there.opening;
            counted = (let c = there.counted in omega arith);
            stands_at = there.stands_at;
            key_is = there.key_is;
            some = (let one = openings_of-other key opening others other in let s = there.some in omega arith);
          })
    ]

pub slot_missing : (key : Key) (n : ℕ) (openings : List Opening) → slot_from key n openings ≡ None → openings_of key openings ≡ 0
slot_missing key n [] e = refl
slot_missing key n (opening ∷ others) e =
    elim (cases_Bool (same_key opening.key key)) [
      | inl same ↦ absurd (let f : Some n ≡ None = rw same at e in cc)
      | inr other ↦ openings_of-other key opening others other ∙ slot_missing key (n + 1) others (rw other at e)
    ]

-- where a key has no opening it has no segment, since each segment has its opening
pub no_segments : (key : Key) (openings : List Opening) (segments : List Segment) → openings_of key openings ≡ 0
    → AllByRecursion (λ segment. openings_of segment.key openings ≡ 1) segments → segments_of key segments ≡ []
no_segments key openings [] none owned = refl
no_segments key openings (segment ∷ others) none owned =
    elim (cases_Bool (same_key segment.key key)) [
      | inl same ↦ absurd (let e = ap (λ (k : Key). openings_of k openings) (same_key-true segment.key key same) in
          let one = owned.0 in omega arith)
      | inr other ↦ rw other (no_segments key openings others none owned.1)
    ]
