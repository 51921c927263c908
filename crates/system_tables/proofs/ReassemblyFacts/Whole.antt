-- The buffer at a slot of the table.
use Rattle.std.proofs.Common.{◌≡◌, ℕ, zero, suc, ◌≤◌, List, [], ◌∷◌, Some, map, slice_get, ap, sym, ◌∙◌, subst, inl, inr, arith}
use Rattle.std.specs.List.{AllByRecursion}
use Rattle.std.proofs.lemmas.Bool.{cases_Bool}
use Rattle.pdus.specs.ClnpViews.Extent.{Extent}
use Rattle.system_tables.specs.declared.reassembly.segment.Key.{Key}
use Rattle.system_tables.specs.declared.reassembly.openings.Opening.{Opening}
use Rattle.system_tables.specs.Reassembly.Arrival.{same_key}
use Rattle.system_tables.specs.Reassembly.Buffer.{Buffer, buffer_of}
use Rattle.system_tables.specs.Reassembly.Offered.{openings_of}
use Rattle.system_tables.specs.Reassembly.State.{IsAt, Stands, TableState, opening_of}
use Rattle.system_tables.proofs.ReassemblyFacts.Keys.{same_key-like}
use Rattle.system_tables.proofs.ReassemblyFacts.Slots.{openings_of-other, openings_of-same}
use Rattle.pdus.proofs.ClnpBase.Lists.{AllByRecursion-slice_get}

-- an opening in the list is one of its key
pub some_at : (openings : List Opening) (slot : ℕ) (opening : Opening) → slice_get openings slot ≡ Some opening → 1 ≤ openings_of opening.key openings
some_at [] slot opening e = absurd (cc)
some_at (first ∷ others) zero opening e =
    let here : first ≡ opening = cc in
    let one = openings_of-same opening.key first others (same_key-like first.key opening.key (ap (λ (o : Opening). o.key) here)) in
    omega arith
some_at (first ∷ others) (suc slot) opening e =
    let rest = some_at others slot opening e in
    elim (cases_Bool (same_key first.key opening.key)) [
      | inl same ↦ (let one = openings_of-same opening.key first others same in omega arith)
      | inr other ↦ (let one = openings_of-other opening.key first others other in omega arith)
    ]

-- where a key has one opening, the opening at a slot is that of the buffer of its key
opening_there : (key : Key) (buffers : List (Buffer Extent)) (slot : ℕ) (opening : Opening) (buffer : Buffer Extent)
    → openings_of key (map opening_of buffers) ≡ 1 → buffer_of key buffers ≡ Some buffer
    → slice_get (map opening_of buffers) slot ≡ Some opening → opening.key ≡ key → opening ≡ opening_of buffer
opening_there key [] slot opening buffer one found e key_is = absurd (cc)
opening_there key (first ∷ others) zero opening buffer one found e key_is =
    let here : opening_of first ≡ opening = cc in
    let same = same_key-like first.key key (ap (λ (o : Opening). o.key) here ∙ key_is) in
    let f : Some first ≡ Some buffer = rw same at found in
    let g : first ≡ buffer = cc in
    sym here ∙ ap opening_of g
opening_there key (first ∷ others) (suc slot) opening buffer one found e key_is =
    elim (cases_Bool (same_key first.key key)) [
      | inl same ↦ absurd (let more = openings_of-same key (opening_of first) (map opening_of others) same in
          let some = subst (λ (k : Key). 1 ≤ openings_of k (map opening_of others)) key_is (some_at (map opening_of others) slot opening e) in omega arith)
      | inr other ↦ opening_there key others slot opening buffer
          (sym (openings_of-other key (opening_of first) (map opening_of others) other) ∙ one) (rw other at found) e key_is
    ]

pub named_there : (table : TableState) (buffers : List (Buffer Extent)) (buffer : Buffer Extent) (slot : ℕ) → Stands table buffers
    → AllByRecursion (λ opening. openings_of opening.key table.openings ≡ 1) table.openings
    → buffer_of buffer.key buffers ≡ Some buffer → IsAt table slot buffer.key → slice_get table.openings slot ≡ Some (opening_of buffer)
named_there table buffers buffer slot stands distinct found named =
    let one = subst (λ (k : Key). openings_of k table.openings ≡ 1) named.key_is
    (AllByRecursion-slice_get (λ (opening : Opening). openings_of opening.key table.openings ≡ 1) table.openings slot named.opening named.stands_at distinct) in
    named.stands_at ∙ ap (λ (opening : Opening). Some opening)
    (opening_there buffer.key buffers slot named.opening buffer
    (subst (λ (openings : List Opening). openings_of buffer.key openings ≡ 1) stands.openings one) found
    (subst (λ (openings : List Opening). slice_get openings slot ≡ Some named.opening) stands.openings named.stands_at) named.key_is)
