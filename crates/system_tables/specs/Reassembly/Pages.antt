-- Pages of runs, and the units that have them.
use Rattle.std.specs.Prelude.{◌≡◌, ◌⊎◌, ℕ, ◌+◌, ◌-◌, ◌*◌, ◌^◌, ◌≤◌, ◌<◌, ◌==◌, nat_lt, Bool, false, if◌then◌else◌, List, [], ◌∷◌, ◌++◌, length, map, sum, take, drop, slice_index_or, slice_set, insert}
use Rattle.std.specs.List.{AllByRecursion}
use Rattle.system_tables.specs.declared.reassembly.runs.Run.{Run}
use Rattle.system_tables.specs.Reassembly.Runs.{cut}

-- the runs on some pages
abbrev pub on_pages : List (List Run) → List Run
on_pages [] = []
on_pages (page ∷ others) = page ++ on_pages others

-- a list cut into parts of these lengths
module _ {X : Type 0} where
  abbrev pub groups_of : List ℕ → List X → List (List X)
  groups_of [] items = []
  groups_of (count ∷ counts) items = take count items ∷ groups_of counts (drop count items)

-- whether the last run ends behind a place
abbrev pub ends_behind : ℕ → List Run → Bool
ends_behind place [] = false
ends_behind place (run ∷ []) = nat_lt place run.to
ends_behind place (run ∷ next ∷ others) = ends_behind place (next ∷ others)

-- each run ends by the first place, or each begins from the second place on
abbrev pub IsApart : ℕ → ℕ → List Run → Type 0
IsApart from to runs = AllByRecursion (λ run. run.to ≤ from) runs ⊎ AllByRecursion (λ run. to ≤ run.from) runs

-- how many runs the pages have less than half of what there is room for
abbrev pub wanting : List (List Run) → ℕ
wanting [] = 0
wanting (page ∷ others) = (32 - length page) + wanting others

abbrev pub IsDense : List (List Run) → Type 0
IsDense pages = wanting pages ≤ 32

-- The pages are those of the units, in their order, and there may be as many as so many units and runs want: where a unit
-- has several, they are at least half full.
pub record ArePages (counts : List ℕ) (pages : List (List Run)) (slots room most : ℕ) : Type 0 where
  pub number : sum counts ≡ length pages
  pub dense : AllByRecursion IsDense (groups_of counts pages)
  pub few_units : length counts ≤ slots
  pub enough : room + 32 * slots + 32 ≤ 32 * most
  pub fit : (length pages ≤ most) × (most < 2 ^ 64)

-- a hole is cut on one of `count` pages from `start` on, which are `counted` then
pub record AreCut (place start count counted : ℕ) (pages after : List (List Run)) : Type 0 where
  pub new : List (List Run)
  pub pages_are : after ≡ take start pages ++ (new ++ drop count (drop start pages))
  pub number : counted ≡ length new
  pub runs : on_pages new ≡ cut place (on_pages (take count (drop start pages)))
  pub dense : wanting new ≤ wanting (take count (drop start pages))

-- a page is halved: its halves have these runs
pub record AreHalves (runs : List Run) (at : ℕ) (pages after : List (List Run)) : Type 0 where
  pub first : List Run
  pub second : List Run
  pub pages_are : after ≡ insert (slice_set pages at first) (at + 1) second
  pub runs_are : first ++ second ≡ runs
  pub first_half : 32 ≤ length first
  pub second_half : 32 ≤ length second

-- the pages in their order, and how many there may be
pub record PagesState : Type 0 where
  pub items : List (List Run)
  pub most : ℕ

-- the pages with these numbers
abbrev pub numbered : List (List Run) → List ℕ → List (List Run)
numbered store numbers = map (λ number. slice_index_or store number []) numbers

-- how many times a number is in a list
abbrev pub times : ℕ → List ℕ → ℕ
times number [] = 0
times number (other ∷ others) = (if number == other then 1 else 0) + times number others

-- Each page that was made stands in the list or is free, and none is there twice.
pub record AreKept (order free : List ℕ) (made most : ℕ) : Type 0 where
  pub once : (number : ℕ) → times number order + times number free ≤ 1
  pub below : AllByRecursion (λ number. number < made) order
  pub free_below : AllByRecursion (λ number. number < made) free
  pub all : length order + length free ≡ made
  pub few : made ≤ most

-- a page is taken: the last of those that are free, or one that is made where none is
abbrev pub IsTaken : (number : ℕ) (made : List (List Run)) (free : List ℕ) (after : List (List Run)) (free_after : List ℕ) → Type 0
IsTaken number made free after free_after =
    ((after ≡ made) × (free ≡ free_after ++ number ∷ []))
    ⊎ ((after ≡ made ++ [] ∷ []) × ((number ≡ length made) × ((free ≡ []) × (free_after ≡ []))))
