-- A unit that has one page.
use Rattle.std.proofs.Common.{◌≡◌, ℕ, zero, suc, ◌≤◌, ◌<◌, List, [], ◌∷◌, ◌++◌, length, map, take, drop, get_or, refl, sym, ap, ◌∙◌, arith}
use Rattle.std.specs.Prelude.{slice_set}
use Rattle.std.proofs.lemmas.List.{append-nil, length-map}
use Rattle.system_tables.specs.declared.reassembly.runs.Run.{Run}
use Rattle.system_tables.specs.Reassembly.Pages.{on_pages, wanting}
use Rattle.system_tables.specs.Reassembly.Runs.{cut, filled, marked}
use Rattle.system_tables.proofs.ReassemblyFacts.Paged.{cut_longer}

one_part : {X : Type 0} (xs : List X) (i : ℕ) (d : X) → i < length xs → take 1 (drop i xs) ≡ get_or xs i d ∷ []
one_part [] i d within = absurd (omega arith)
one_part (x ∷ []) zero d within = refl
one_part (x ∷ y ∷ xs) zero d within = refl
one_part (x ∷ xs) (suc i) d within = one_part xs i d (omega arith)

one_set : {X : Type 0} (xs : List X) (i : ℕ) (x : X) → i < length xs → slice_set xs i x ≡ take i xs ++ ((x ∷ []) ++ drop 1 (drop i xs))
one_set [] i x within = absurd (omega arith)
one_set (y ∷ []) zero x within = refl
one_set (y ∷ z ∷ xs) zero x within = refl
one_set (y ∷ xs) (suc i) x within = ap (λ l. y ∷ l) (one_set xs i x (omega arith))

pub filled_longer : (from to by : ℕ) (runs : List Run) → length runs ≤ length (filled from to by runs)
filled_longer from to by runs =
    omega (arith, cut_longer from runs, cut_longer to (cut from runs), length-map (cut to (cut from runs)) (marked from to by))

module _ (pages : List (List Run)) (start count : ℕ) (one : count ≡ 1) (within : start < length pages) where
  unit_is : take count (drop start pages) ≡ get_or pages start [] ∷ []
  unit_is = ap (λ n. take n (drop start pages)) one ∙ one_part pages start [] within

  pub alone_is : on_pages (take count (drop start pages)) ≡ get_or pages start []
  alone_is = ap on_pages unit_is ∙ append-nil (get_or pages start [])

  pub alone_set : (after : List (List Run)) (new : List Run) → after ≡ slice_set pages start new
      → after ≡ take start pages ++ ((new ∷ []) ++ drop count (drop start pages))
  alone_set after new is =
      is ∙ one_set pages start new within ∙ ap (λ n. take start pages ++ ((new ∷ []) ++ drop n (drop start pages))) (sym one)

  pub alone_wanting : (new : List Run) → length (get_or pages start []) ≤ length new → wanting (new ∷ []) ≤ wanting (take count (drop start pages))
  alone_wanting new more = omega (arith, ap wanting unit_is, more)
