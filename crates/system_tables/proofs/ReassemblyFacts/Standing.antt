-- The buffers that a table stands for.
use Rattle.std.proofs.Common.{◌≡◌, ℕ, suc, ◌+◌, List, [], ◌∷◌, Option, Some, None, map, slice_get, ap, sym, ◌∙◌, refl, subst, inl, inr, arith}
use Rattle.std.specs.List.{AllByRecursion}
use Rattle.std.proofs.lemmas.Bool.{cases_Bool}
use Rattle.std.proofs.lemmas.Option.{same_Some}
use Rattle.pdus.specs.ClnpViews.Extent.{Extent}
use Rattle.system_tables.specs.declared.reassembly.segment.Key.{Key}
use Rattle.system_tables.specs.declared.reassembly.openings.Opening.{Opening}
use Rattle.system_tables.specs.Reassembly.Arrival.{arrival_of, same_key}
use Rattle.system_tables.specs.Reassembly.Buffer.{Buffer, buffer_of, kept_in}
use Rattle.system_tables.specs.Reassembly.Offered.{openings_of}
use Rattle.system_tables.specs.Reassembly.State.{IsAt, KeepsSegments, Stands, TableState, opening_of, segments_of}
use Rattle.system_tables.proofs.ReassemblyFacts.Keys.{same_key-true}
use Rattle.system_tables.proofs.ReassemblyFacts.Slots.{slot_from, openings_of-same, openings_of-other, no_segments}

-- the key at a place is that of the opening there
pub key_at : (table : TableState) (place : ℕ) (opening : Opening) (key : Key) → slice_get table.openings place ≡ Some opening → IsAt table place key
    → opening.key ≡ key
key_at table place opening key at is =
    ap (λ (o : Opening). o.key) (same_Some opening is.opening (sym at ∙ is.stands_at)) ∙ is.key_is

-- the buffer of a key is the one at the place of the key's first opening
pub record IsThere (key : Key) (n slot : ℕ) (buffers : List (Buffer Extent)) : Type 0 where
  pub at : ℕ
  pub buffer : Buffer Extent
  pub counted : n + at ≡ slot
  pub stands_at : slice_get (map opening_of buffers) at ≡ Some (opening_of buffer)
  pub found : buffer_of key buffers ≡ Some buffer
  pub key_is : buffer.key ≡ key

pub buffer_there : (key : Key) (n slot : ℕ) (buffers : List (Buffer Extent)) → slot_from key n (map opening_of buffers) ≡ Some slot
    → IsThere key n slot buffers
buffer_there key n slot [] e = absurd (cc)
buffer_there key n slot (buffer ∷ others) e =
    elim (cases_Bool (same_key buffer.key key)) [
      | inl same ↦ (let here : n ≡ slot = (let f : Some n ≡ Some slot = rw same at e in cc) in
          record {
            at = 0;
            buffer = buffer;
            counted = omega arith;
            stands_at = refl;
            found = rw same refl;
            key_is = same_key-true buffer.key key same;
          })
      | inr other ↦ (let f : slot_from key (n + 1) (map opening_of others) ≡ Some slot = rw other at e in
          let there = buffer_there key (n + 1) slot others f in
          record {
            at = suc there.at;
            buffer = there.buffer;
            counted = (let c = there.counted in omega arith);
            stands_at = there.stands_at;
            found = rw other there.found;
            key_is = there.key_is;
          })
    ]

-- a key without openings has no buffer, and back
pub buffer_missing : (key : Key) (buffers : List (Buffer Extent)) → openings_of key (map opening_of buffers) ≡ 0
    → buffer_of key buffers ≡ None
buffer_missing key [] none = refl
buffer_missing key (buffer ∷ others) none =
    elim (cases_Bool (same_key buffer.key key)) [
      | inl same ↦ absurd (let one = openings_of-same key (opening_of buffer) (map opening_of others) same in omega arith)
      | inr other ↦ rw other (buffer_missing key others (sym (openings_of-other key (opening_of buffer) (map opening_of others) other) ∙ none))
    ]

pub no_opening : (key : Key) (buffers : List (Buffer Extent)) → buffer_of key buffers ≡ None
    → openings_of key (map opening_of buffers) ≡ 0
no_opening key [] none = refl
no_opening key (buffer ∷ others) none =
    elim (cases_Bool (same_key buffer.key key)) [
      | inl same ↦ absurd (let f : Some buffer ≡ None = rw same at none in cc)
      | inr other ↦ openings_of-other key (opening_of buffer) (map opening_of others) other ∙ no_opening key others (rw other at none)
    ]

-- what holds of each buffer holds of the buffer of a key, whose key it is
pub of_found : (P : Buffer Extent → Type 0) (key : Key) (buffers : List (Buffer Extent)) (buffer : Buffer Extent)
    → AllByRecursion P buffers → buffer_of key buffers ≡ Some buffer → P buffer × (buffer.key ≡ key)
of_found P key [] buffer all found = absurd (cc)
of_found P key (first ∷ others) buffer all found =
    elim (cases_Bool (same_key first.key key)) [
      | inl same ↦ (let f : Some first ≡ Some buffer = rw same at found in let e : first ≡ buffer = cc in
          subst (λ (b : Buffer Extent). P b × (b.key ≡ key)) e (all.0, same_key-true first.key key same))
      | inr other ↦ of_found P key others buffer all.1 (rw other at found)
    ]

-- the segments that are kept under a key are those of the key
pub kept_there : (table : TableState) (key : Key) (buffers : List (Buffer Extent)) (found : Option (Buffer Extent))
    → Stands table buffers → AllByRecursion (λ segment. openings_of segment.key table.openings ≡ 1) table.segments
    → buffer_of key buffers ≡ found → kept_in found ≡ map arrival_of (segments_of key table.segments)
kept_there table key buffers None stands owned e =
    let none : openings_of key table.openings ≡ 0 = rw stands.openings (no_opening key buffers e) in
    sym (ap (map arrival_of) (no_segments key table.openings table.segments none owned))
kept_there table key buffers (Some buffer) stands owned e =
    let there = of_found (KeepsSegments table) key buffers buffer stands.segments e in
    there.0 ∙ ap (λ (k : Key). map arrival_of (segments_of k table.segments)) there.1
