-- The data of a whole buffer are those of its unit, and so are those of a packet that is all of its unit.
use Rattle.clnp_machine.proofs.ClnpBase.Lists.{AllByRecursion-find}
use Rattle.std.proofs.Common.{◌≡◌, ◌∙◌, sym, ap, subst, refl, ℕ, ◌+◌, ◌-◌, ◌<◌, ◌≤◌, true, false, List, length, map, take, drop, get_or, Option, None, Some, arith}
use Rattle.std.specs.Prelude.{◌==◌, ◌&&◌, ◌||◌, not, is_none, slice_index}
use Rattle.std.specs.List.{AllByRecursion, range_with_len}
use Rattle.std.proofs.lemmas.Bool.{and_parts, eqb-true, ltb-false, not-true}
use Rattle.std.proofs.lemmas.List.{ext_get_or, take_all}
use Rattle.std.proofs.lemmas.List.FromFn.{length-map-range_with_len, get_or-map-range_with_len}
use Rattle.clnp_machine.specs.PduHeader.Spelling.{header_length}
use Rattle.clnp_machine.specs.Reassembly.Arrival.{Arrival, data_len, has, is_covered, earliest}
use Rattle.clnp_machine.specs.Reassembly.Buffer.{Buffer, data_of, is_whole, octet_by}
use Rattle.clnp_machine.proofs.ClnpBase.Ranges.{each_place}
use Rattle.clnp_machine.proofs.ClnpBase.Found.{find_any}
use Rattle.clnp_machine.specs.Unit.{DataUnit, Packet, more_follows, value_of, value_with}
use Rattle.clnp_machine.specs.Local.{header_size, is_all, octet_of}
use Rattle.clnp_safety.specs.Invariant.{IsOfUnit}
use Rattle.clnp_machine.specs.EveryStep.{IsRangeOf}
use Rattle.clnp_safety.specs.StepLaws.{StepLaws}

-- the octet at a place of a unit's data
abbrev unit_octet : ℕ → DataUnit → ℕ
unit_octet place u = slice_index u.octets (place - u.first_position)

module _ (units : List DataUnit) (u : DataUnit) (first : u.first_position ≡ 0) where
  octet_of_unit : (kept : List (Arrival Packet)) (place : ℕ) → AllByRecursion (IsOfUnit units u) kept → is_covered kept place ≡ true
      → octet_by octet_of place (earliest kept place) ≡ get_or u.octets place 0
  octet_of_unit kept place all covered =
      let found = find_any (has place) kept covered in
      let from_start : place - u.first_position ≡ place = omega arith in
      ap (octet_by octet_of place) found.1.is
      ∙ ap (unit_octet place) (AllByRecursion-find (IsOfUnit units u) (has place) kept found.0 found.1.is all).unit
      ∙ ap (slice_index u.octets) from_start

  pub joined_is_unit : (buffer : Buffer Packet) → AllByRecursion (IsOfUnit units u) buffer.kept → data_len buffer.shape ≡ length u.octets
      → is_whole buffer ≡ true → data_of octet_of buffer ≡ u.octets
  joined_is_unit buffer all len whole =
      let read : ℕ → ℕ = λ place. octet_by octet_of place (earliest buffer.kept place) in
      let size : length (map read (range_with_len 0 (data_len buffer.shape))) ≡ data_len buffer.shape = length-map-range_with_len read 0 (data_len buffer.shape) in
      ext_get_or 0 (data_of octet_of buffer) u.octets (size ∙ len)
      (λ place within.
      let low : place < data_len buffer.shape = subst (λ n. place < n) size within in
      get_or-map-range_with_len read 0 (data_len buffer.shape) place place 0 low (omega arith)
      ∙ octet_of_unit buffer.kept place all (each_place (is_covered buffer.kept) (data_len buffer.shape) whole place low))

module _ (laws : StepLaws) (units : List DataUnit) (p : Packet) (sound : IsRangeOf units p) (first : p.unit.first_position ≡ 0)
    (total : p.unit.total ≡ header_size p.unit + length p.unit.octets) where
  body_of_all : p.offset ≡ 0 → length p.unit.octets ≤ p.length → (value_of p).body ≡ p.unit.octets
  body_of_all start most =
      let none : p.offset - p.unit.first_position ≡ 0 = omega arith in
      ap (λ k. take p.length (drop k p.unit.octets)) none ∙ take_all p.length p.unit.octets most

  -- no data follow behind a range that reaches to their end
  none_follows : (identifier : ℕ) → p.unit.identifier ≡ Some identifier → (value_of p).more ≡ false → length p.unit.octets ≤ p.offset + p.length
  none_follows identifier is none =
      let reaches = ltb-false (p.offset + p.length) (p.unit.total - header_length (value_with p false)) (ap (more_follows p) (sym is) ∙ none) in
      let same : header_length (value_with p false) ≡ header_size p.unit = laws.headers.header p sound.options in
      omega arith

  whole_by : (identifier : Option ℕ) → p.unit.identifier ≡ identifier → (is_none identifier || ((p.offset == 0) && not (value_of p).more)) ≡ true
      → (value_of p).body ≡ p.unit.octets
  whole_by None is all = let whole = sound.whole is in body_of_all whole.0 (let len = whole.1 in omega arith)
  whole_by (Some identifier) is all =
      let parts = and_parts (p.offset == 0) (not (value_of p).more) all in
      let start = eqb-true p.offset 0 parts.0 in
      body_of_all start (let reaches = none_follows identifier is (not-true (value_of p).more parts.1) in omega arith)

  pub whole_is_unit : is_all p ≡ true → (value_of p).body ≡ p.unit.octets
  whole_is_unit all = whole_by p.unit.identifier refl all
