-- A list put in the order of addresses: the first octets that differ decide, and a beginning of an address comes before it.
use Rattle.std.specs.Prelude.{◌≡◌, ℕ, Bool, true, if◌then◌else◌, List, [], ◌∷◌, fold}
use Rattle.std.specs.List.{AllByRecursion}
use Rattle.std.specs.Cmp.Lexicographic.{slice_cmp}
use Rattle.std.specs.Ordering.{nat_cmp, is_lt}

-- whether an address comes before another
abbrev pub is_before : List ℕ → List ℕ → Bool
is_before a b = is_lt (slice_cmp nat_cmp a b)

module _ {X : Type 0} where
  -- a rising list with one more item
  abbrev pub put_in : (X → List ℕ) → X → List X → List X
  put_in key item [] = item ∷ []
  put_in key item (first ∷ rest) =
      if is_before (key item) (key first) then item ∷ first ∷ rest else first ∷ put_in key item rest

  -- the items of a list, by rising key
  abbrev pub in_order : (X → List ℕ) → List X → List X
  in_order key items = fold (λ sorted item. put_in key item sorted) [] items

  -- each key is before those behind it
  abbrev pub IsRising : (X → List ℕ) → List X → Type 0
  IsRising key [] = Unit {0}
  IsRising key (item ∷ behind) =
      AllByRecursion (λ other. is_before (key item) (key other) ≡ true) behind × IsRising key behind
