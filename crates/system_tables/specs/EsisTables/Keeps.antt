-- Which facts one table keeps.
use Rattle.std.specs.Prelude.{◌≡◌, ℕ, ◌<◌, ◌==◌, nat_le, not, false, if◌then◌else◌, List, [], ◌∷◌, ◌++◌, length, filter, map}
use Rattle.std.specs.List.{AllByRecursion, list_any}
use Rattle.system_tables.specs.declared.esis_tables.fact.Heard.{Heard}
use Rattle.system_tables.specs.declared.esis_tables.fact.Heard.TheVariants.{New, Again, Zero, Full}
use Rattle.system_tables.specs.declared.esis_tables.table.Entry.{Entry}
use Rattle.system_tables.specs.EsisTables.Fact.{Fact, has_key, is_noted}
use Rattle.system_tables.specs.EsisTables.Order.{in_order}
use Rattle.system_tables.specs.EsisTables.State.{TableState, entry_for, key_in}

-- the entries of facts, by the numbers under which their keys were heard
abbrev pub entries_of : (List ℕ → ℕ) → List Fact → List Entry
entries_of number facts = map (λ fact. entry_for fact (number fact.key)) facts

-- each fact has a greater number than those before it
abbrev pub AreNumbered : (List ℕ → ℕ) → List Fact → Type 0
AreNumbered number [] = Unit {0}
AreNumbered number (fact ∷ later) =
    AllByRecursion (λ other. number fact.key < number other.key) later × AreNumbered number later

-- no two facts have one key
abbrev pub AreDistinct : List Fact → Type 0
AreDistinct [] = Unit {0}
AreDistinct (fact ∷ later) = AllByRecursion (λ other. has_key fact.key other ≡ false) later × AreDistinct later

-- a table keeps these facts, which stand in the order of hearing: their numbers rise
pub record Keeps (table : TableState) (facts : List Fact) : Type 0 where
  pub number : List ℕ → ℕ
  pub entries : table.entries ≡ in_order key_in (entries_of number facts)
  pub numbered : AreNumbered number facts
  pub distinct : AreDistinct facts

-- the kept facts but those of a key
abbrev pub without : List ℕ → List Fact → List Fact
without key kept = filter (λ fact. not (has_key key fact)) kept

-- what comes of a hearing where these facts are kept
abbrev pub answer_of : ℕ → Fact → List Fact → Heard
answer_of limit fact kept =
    if fact.holding == 0 then Zero
    else if list_any (has_key fact.key) kept then Again
    else if nat_le limit (length kept) then Full (length kept)
    else New

abbrev pub kept_with : Fact → List Fact → List Fact
kept_with fact kept = without fact.key kept ++ fact ∷ []

-- which facts are kept after it
abbrev pub kept_after : ℕ → Fact → List Fact → List Fact
kept_after limit fact kept =
    if fact.holding == 0 then without fact.key kept
    else if is_noted (answer_of limit fact kept) then kept_with fact kept
    else kept
