-- The order in which segments came tells nothing of which places are covered, nor of the octets there.
use Rattle.std.proofs.Common.{◌≡◌, ℕ, List, map, sym, ap, ◌∙◌, inl, inr}
use Rattle.std.specs.List.{find, range_with_len}
use Rattle.std.proofs.lemmas.Bool.{cases_Bool}
use Rattle.system_tables.specs.Reassembly.Arrival.{Arrival, data_len, has, is_covered, are_covered}
use Rattle.system_tables.specs.Reassembly.Buffer.{Buffer, is_whole, data_of, octet_by}
use Rattle.system_tables.specs.Reassembly.Claims.{IsCoveredBySome, IsWholeWhereCovered, HaveTheSame, Agree}
use Rattle.pdus.proofs.ClnpBase.Choices.{same_true}
use Rattle.pdus.proofs.ClnpBase.Found.{any_contains, contains_any, find_any, find_none}
use Rattle.pdus.proofs.ClnpBase.Maps.{list_all-agree, map-agree}
use Rattle.pdus.proofs.ClnpBase.Ranges.{each_place, from_each_place}

module _ {C : Type 0} where
  pub covered_by_some : (arrivals : List (Arrival C)) (place : ℕ) → IsCoveredBySome arrivals place
  covered_by_some arrivals place =
      ((λ e. any_contains (has place) arrivals e), (λ some. contains_any (has place) arrivals some.0 some.1 some.2))

  pub whole_where_covered : (buffer : Buffer C) → IsWholeWhereCovered buffer
  whole_where_covered buffer = (
    (λ e. each_place (is_covered buffer.kept) (data_len buffer.shape) e),
    (λ each. from_each_place (is_covered buffer.kept) (data_len buffer.shape) each),
  )

  pub same_covered : (arrivals others : List (Arrival C)) (place : ℕ) → HaveTheSame arrivals others
      → is_covered arrivals place ≡ is_covered others place
  same_covered arrivals others place same =
      same_true (is_covered arrivals place) (is_covered others place)
      (λ e. let some = any_contains (has place) arrivals e in contains_any (has place) others some.0 ((same some.0).0 some.1) some.2)
      (λ e. let some = any_contains (has place) others e in contains_any (has place) arrivals some.0 ((same some.0).1 some.1) some.2)

  pub same_octet : (read : Arrival C → ℕ → ℕ) (arrivals others : List (Arrival C)) (place : ℕ)
      → HaveTheSame arrivals others → Agree read arrivals
      → octet_by read place (find (has place) arrivals) ≡ octet_by read place (find (has place) others)
  same_octet read arrivals others place same agree =
      elim (cases_Bool (is_covered arrivals place)) [
        | inl covered ↦
            let a = find_any (has place) arrivals covered in
            let b = find_any (has place) others (sym (same_covered arrivals others place same) ∙ covered) in
            ap (octet_by read place) a.1.is
            ∙ agree a.0 b.0 place a.1.within ((same b.0).1 b.1.within) a.1.passes b.1.passes
            ∙ ap (octet_by read place) (sym b.1.is)
        | inr bare ↦
            ap (octet_by read place) (find_none (has place) arrivals bare)
            ∙ ap (octet_by read place) (sym (find_none (has place) others (sym (same_covered arrivals others place same) ∙ bare)))
      ]

  pub same_data : (read : Arrival C → ℕ → ℕ) (buffer other : Buffer C) → buffer.shape ≡ other.shape
      → HaveTheSame buffer.kept other.kept → Agree read buffer.kept → data_of read buffer ≡ data_of read other
  same_data read buffer other shapes same agree =
      map-agree (λ place. octet_by read place (find (has place) buffer.kept))
      (λ place. octet_by read place (find (has place) other.kept)) (range_with_len 0 (data_len buffer.shape))
      (λ place. same_octet read buffer.kept other.kept place same agree)
      ∙ ap (λ shape. map (λ place. octet_by read place (find (has place) other.kept)) (range_with_len 0 (data_len shape))) shapes

  pub same_whole : (buffer other : Buffer C) → buffer.shape ≡ other.shape
      → HaveTheSame buffer.kept other.kept → is_whole buffer ≡ is_whole other
  same_whole buffer other shapes same =
      list_all-agree (is_covered buffer.kept) (is_covered other.kept) (range_with_len 0 (data_len buffer.shape))
      (λ place. same_covered buffer.kept other.kept place same)
      ∙ ap (λ shape. are_covered other.kept 0 (data_len shape)) shapes
