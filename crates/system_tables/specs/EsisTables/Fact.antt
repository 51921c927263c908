-- What was heard since the last restart, and what of it is current (ISO 9542, sections 6.3, 6.4 and 6.9).
use Rattle.std.specs.Prelude.{ℕ, ◌+◌, ◌*◌, ◌==◌, ◌&&◌, nat_lt, nat_le, Bool, true, false, is_none, is_some, if◌then◌else◌, List, [], ◌∷◌, ◌++◌, length, filter, Option, None, Some}
use Rattle.std.specs.Option.{option_or}
use Rattle.std.specs.Str.{bytes_eq}
use Rattle.system_tables.specs.declared.esis_tables.fact.EsisLimits.{EsisLimits}
use Rattle.system_tables.specs.declared.esis_tables.fact.Neighbour.{Neighbour}
use Rattle.system_tables.specs.declared.esis_tables.fact.TableKind.{TableKind}
use Rattle.system_tables.specs.declared.esis_tables.fact.TableKind.TheVariants.{Es, Is, Rd}
use Rattle.system_tables.specs.declared.esis_tables.fact.Heard.{Heard}
use Rattle.system_tables.specs.declared.esis_tables.fact.Heard.TheVariants.{New, Again, Zero, Full}

-- A hearing: that the system of this key is reached at this place. It was heard at a moment in ticks of 500 ms, and is to be
-- held for a time in seconds.
pub record Fact : Type 0 where
  pub table : TableKind
  pub key : List ℕ
  pub neighbour : Neighbour
  pub moment : ℕ
  pub holding : ℕ

-- what is heard at a moment
abbrev pub hearing : ℕ → TableKind → List ℕ → Neighbour → ℕ → Fact
hearing now table key neighbour holding = record { table = table; key = key; neighbour = neighbour; moment = now; holding = holding }

abbrev pub same_table : TableKind → TableKind → Bool
same_table Es Es = true
same_table Is Is = true
same_table Rd Rd = true
same_table _ _ = false

-- a second is two ticks
abbrev pub end_of : Fact → ℕ
end_of fact = fact.moment + 2 * fact.holding

-- whether the holding time of a fact hasn't ended
abbrev pub is_held : ℕ → Fact → Bool
is_held now fact = nat_lt now (end_of fact)

abbrev pub has_key : List ℕ → Fact → Bool
has_key key fact = bytes_eq fact.key key

-- whether a fact speaks of a key of a table
abbrev pub is_about : TableKind → List ℕ → Fact → Bool
is_about table key fact = same_table fact.table table && has_key key fact

-- the last fact of a key
abbrev pub last_of : TableKind → List ℕ → List Fact → Option Fact
last_of table key [] = None
last_of table key (fact ∷ later) =
    option_or (last_of table key later) (if is_about table key fact then Some fact else None)

abbrev pub while_held : ℕ → Option Fact → Option Fact
while_held now None = None
while_held now (Some fact) = if is_held now fact then Some fact else None

-- the current fact of a key: the last one, while it is held
abbrev pub current : ℕ → TableKind → List ℕ → List Fact → Option Fact
current now table key facts = while_held now (last_of table key facts)

-- the last facts of all keys of a table, in the order in which they were heard
abbrev pub latest : TableKind → List Fact → List Fact
latest table [] = []
latest table (fact ∷ later) =
    if same_table fact.table table && is_none (last_of table fact.key later) then fact ∷ latest table later else latest table later

-- the current facts of a table, in the order in which they were heard
abbrev pub currents : ℕ → TableKind → List Fact → List Fact
currents now table facts = filter (is_held now) (latest table facts)

abbrev pub limit_of : TableKind → EsisLimits → ℕ
limit_of Es limits = limits.neighbours
limit_of Is limits = limits.routers
limit_of Rd limits = limits.redirects

-- what comes of a hearing
abbrev pub answer : EsisLimits → Fact → List Fact → Heard
answer limits fact facts =
    let kept = length (currents fact.moment fact.table facts) in
    if fact.holding == 0 then Zero
    else if is_some (current fact.moment fact.table fact.key facts) then Again
    else if nat_le (limit_of fact.table limits) kept then Full kept
    else New

abbrev pub is_noted : Heard → Bool
is_noted (Full entries) = false
is_noted _ = true

-- the facts after a hearing, which becomes one of them unless the table is full
abbrev pub after : EsisLimits → Fact → List Fact → List Fact
after limits fact facts = if is_noted (answer limits fact facts) then facts ++ fact ∷ [] else facts
