-- Where the table of a source stands.
use Rattle.std.proofs.Common.{◌≡◌, ◌<◌, ℕ, ◌+◌, Bool, List, length, Option, None, Some, refl, sym, ap, ◌∙◌, subst, arith}
use Rattle.std.specs.Prelude.{slice_get, IfSome}
use Rattle.std.specs.List.{position_from}
use Rattle.std.specs.Str.{bytes_eq}
use Rattle.std.proofs.lemmas.Bool.{true≢false}
use Rattle.pdus.proofs.ClnpBase.SameOctets.{same-itself, same_from}
use Rattle.std.proofs.lemmas.Option.{get_or_from_slice_get, slice_get_within}
use Rattle.std.proofs.lemmas.List.{length-set}
use Rattle.pdus.proofs.ClnpBase.Found.{contains_any, is_first, none_found}
use Rattle.pdus.proofs.ClnpBase.Lists.{slice_get-set_other, slice_get_some}
use Rattle.system_tables.specs.Reassembly.State.{TableState}
use Rattle.system_tables.specs.FairReassembly.Claims.{OthersStay}
use Rattle.system_tables.specs.FairReassembly.Tables.{AreDistinct, FairState, place_behind, place_of, with_table}

-- the place is that of a table
pub place_within : (found : Option ℕ) (sources : List (List ℕ)) → IfSome found (λ at. at < length sources) → place_behind found < length sources + 1
place_within None sources h = omega arith
place_within (Some at) sources h = omega (arith, h)

-- another table changes no other one
pub others_stay : (place : ℕ) (state : FairState) (new : TableState) → OthersStay place state (with_table place new state)
others_stay place state new = record {
  sources = refl;
  tables = length-set state.tables place new;
  others = λ other not. slice_get-set_other state.tables place other new (λ same. not (sym same));
}

module _ (sources : List (List ℕ)) (i : ℕ) (source : List ℕ) (distinct : AreDistinct sources) (there : slice_get sources i ≡ Some source) where
  is_it : List ℕ → Bool
  is_it other = bytes_eq other source

  by : (found : Option ℕ) → position_from (λ other. bytes_eq other source) 0 sources ≡ found → place_behind found ≡ i + 1
  by None e =
      let none = none_found (λ other. bytes_eq other source) 0 sources e in
      let within : i < length sources = slice_get_within sources i source there in
      let some = contains_any (λ other. bytes_eq other source) sources source
      (i, within, get_or_from_slice_get sources i source source there) (same-itself source) in
      absurd (true≢false (sym some ∙ none))
  by (Some at) e =
      let first = is_first (λ other. bytes_eq other source) at sources e in
      let found = slice_get_some sources at first.within in
      let same : found.0 ≡ source = same_from found.0 source (first.passes found.0 (sym (get_or_from_slice_get sources at found.0 found.0 found.1))) in
      ap (λ (n : ℕ). n + 1) (distinct at i source (subst (λ (x : List ℕ). slice_get sources at ≡ Some x) same found.1) there)

  pub has_its_table : place_of sources source ≡ i + 1
  has_its_table = by (position_from (λ other. bytes_eq other source) 0 sources) refl

  belongs : (found : Option ℕ) (from : List ℕ) → position_from (λ other. bytes_eq other from) 0 sources ≡ found → place_behind found ≡ i + 1 → from ≡ source
  belongs None from e place = absurd (omega arith)
  belongs (Some at) from e place =
      let first = is_first (λ other. bytes_eq other from) at sources e in
      let here : at ≡ i = omega arith in
      let stands : slice_get sources at ≡ Some source = ap (slice_get sources) here ∙ there in
      sym (same_from source from (first.passes source (sym (get_or_from_slice_get sources at source source stands))))

  -- and no other source has it
  pub has_it_alone : (from : List ℕ) → place_of sources from ≡ i + 1 → from ≡ source
  has_it_alone from place = belongs (position_from (λ other. bytes_eq other from) 0 sources) from refl place
