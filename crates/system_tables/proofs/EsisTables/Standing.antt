-- What the three tables stand for.
use Rattle.std.proofs.Common.{◌≡◌, ℕ, ◌≤◌, List, [], ◌∷◌, None, Some, refl, sym, ap, subst, ◌∙◌}
use Rattle.std.specs.List.{filter, find, list_any}
use Rattle.system_tables.specs.EsisTables.Order.{IsRising}
use Rattle.std.specs.Option.{option_map}
use Rattle.system_tables.specs.declared.esis_tables.fact.Gone.{Gone}
use Rattle.system_tables.specs.declared.esis_tables.fact.TableKind.{TableKind}
use Rattle.system_tables.specs.declared.esis_tables.fact.TableKind.TheVariants.{Es, Is, Rd}
use Rattle.system_tables.specs.declared.esis_tables.tables.Tables.{Tables}
use Rattle.system_tables.specs.EsisTables.Fact.{Fact, currents, is_held}
use Rattle.system_tables.specs.EsisTables.Gone.{all_gone, ended_keys, gone, gone_from, gone_keys}
use Rattle.system_tables.specs.EsisTables.Keeps.{Keeps, without}
use Rattle.system_tables.specs.EsisTables.NextHop.{current_neighbour, is_at, last, neighbour_of}
use Rattle.system_tables.specs.EsisTables.Stands.{FlushesFirst, KeepsCurrent, Stands}
use Rattle.system_tables.specs.EsisTables.State.{TableState, is_kept_at, is_of, key_in, latest_kept, neighbour_in, neighbour_while_kept}
use Rattle.system_tables.proofs.EsisTables.Current.{current_is, currents_later, later_keeps}
use Rattle.system_tables.proofs.EsisTables.Keeping.{rising_of}
use Rattle.system_tables.proofs.EsisTables.Latest.{last_kept}
use Rattle.system_tables.proofs.EsisTables.LookingUp.{at_kept, place_kept}

-- no keys are left where each table has none
pub record AllEmpty (systems routers redirects : List (List ℕ)) : Type 0 where
  pub systems_none : [] ≡ systems
  pub routers_none : [] ≡ routers
  pub redirects_none : [] ≡ redirects

pub all_empty : (systems routers redirects : List (List ℕ)) → [] ≡ all_gone systems routers redirects → AllEmpty systems routers redirects
all_empty [] [] [] none = record { systems_none = refl; routers_none = refl; redirects_none = refl }
all_empty [] [] (x ∷ l) none = absurd (cc)
all_empty [] (x ∷ l) redirects none = absurd (cc)
all_empty (x ∷ l) routers redirects none = absurd (cc)

-- nothing is left in any table
pub record StandsReady (tables : Tables) (facts : List Fact) (now : ℕ) : Type 0 where
  pub systems : KeepsCurrent Es tables.systems facts now []
  pub routers : KeepsCurrent Is tables.routers facts now []
  pub redirects : KeepsCurrent Rd tables.redirects facts now []

pub ready_from : (tables : Tables) (facts : List Fact) (now : ℕ) → Stands tables facts now [] → StandsReady tables facts now
ready_from tables facts now stands =
    let empty = all_empty stands.systems_left stands.routers_left stands.redirects_left stands.left_is in
    record {
      systems = subst (KeepsCurrent Es tables.systems facts now) (sym empty.systems_none) stands.systems;
      routers = subst (KeepsCurrent Is tables.routers facts now) (sym empty.routers_none) stands.routers;
      redirects = subst (KeepsCurrent Rd tables.redirects facts now) (sym empty.redirects_none) stands.redirects;
    }

pub stands_from : (tables : Tables) (facts : List Fact) (now : ℕ) → StandsReady tables facts now → Stands tables facts now []
stands_from tables facts now ready = record {
  systems_left = [];
  routers_left = [];
  redirects_left = [];
  systems = ready.systems;
  routers = ready.routers;
  redirects = ready.redirects;
  left_is = refl;
}

-- time goes on
pub stands_later : (tables : Tables) (facts : List Fact) (before now : ℕ) → Stands tables facts before [] → before ≤ now
    → Stands tables facts now (gone before now facts)
stands_later tables facts before now stands le =
    let ready = ready_from tables facts before stands in
    record {
      systems_left = gone_keys before now Es facts;
      routers_left = gone_keys before now Is facts;
      redirects_left = gone_keys before now Rd facts;
      systems = later_keeps Es tables.systems facts before now ready.systems le;
      routers = later_keeps Is tables.routers facts before now ready.routers le;
      redirects = later_keeps Rd tables.redirects facts before now ready.redirects le;
      left_is = refl;
    }

-- a new table keeps nothing
pub keeps_nothing : (table : TableKind) (state : TableState) (now : ℕ) → state.entries ≡ [] → KeepsCurrent table state [] now []
keeps_nothing table state now empty = record {
  kept = [];
  keeps = record { number = λ key. 0; entries = empty; numbered = tt; distinct = tt };
  current = refl;
  left_is = refl;
}

module _ (table : TableKind) (state : TableState) (facts : List Fact) (before now : ℕ) (left : List (List ℕ))
    (keeps : KeepsCurrent table state facts before left) (le : before ≤ now) where
  pub place_is : (key : List ℕ) → neighbour_while_kept now (find (is_of key) state.entries) ≡ current_neighbour now table key facts
  place_is key =
      place_kept now key state keeps.kept keeps.keeps ∙ ap (option_map neighbour_of) (current_is table state facts before now left keeps key le)

  held_is : filter (is_held now) keeps.kept ≡ currents now table facts
  held_is = currents_later before now table keeps.kept facts le keeps.current

  pub last_is : option_map neighbour_in (latest_kept now None state.entries) ≡ option_map neighbour_of (last (currents now table facts))
  last_is = last_kept now state keeps.kept keeps.keeps ∙ ap (λ l. option_map neighbour_of (last l)) held_is

  pub router_is : (snpa : List ℕ) → list_any (is_kept_at now snpa) state.entries ≡ list_any (is_at snpa) (currents now table facts)
  router_is snpa = at_kept now snpa state keeps.kept keeps.keeps ∙ ap (list_any (is_at snpa)) held_is

  pub rising_is : IsRising key_in state.entries
  rising_is = rising_of state keeps.kept keeps.keeps

-- a key is flushed from a table
pub record Flushed (table : TableKind) (new : TableState) (facts : List Fact) (now : ℕ) (left : List (List ℕ)) (key : List ℕ) : Type 0 where
  pub others : List (List ℕ)
  pub left_is : left ≡ key ∷ others
  pub keeps : KeepsCurrent table new facts now others

pub flushed_one : (table : TableKind) (old new : TableState) (facts : List Fact) (now : ℕ) (left : List (List ℕ)) (key : List ℕ)
    → (keeps : KeepsCurrent table old facts now left)
    → ended_keys now keeps.kept ≡ key ∷ ended_keys now (without key keeps.kept)
    → Keeps new (without key keeps.kept)
    → filter (is_held now) (without key keeps.kept) ≡ filter (is_held now) keeps.kept
    → Flushed table new facts now left key
flushed_one table old new facts now left key keeps first keeps' held = record {
  others = ended_keys now (without key keeps.kept);
  left_is = keeps.left_is ∙ first;
  keeps = record { kept = without key keeps.kept; keeps = keeps'; current = held ∙ keeps.current; left_is = refl };
}

pub flushed_none : (table : TableKind) (old new : TableState) (facts : List Fact) (now : ℕ) (left : List (List ℕ))
    → (keeps : KeepsCurrent table old facts now left) → ended_keys now keeps.kept ≡ [] → Keeps new keeps.kept
    → (left ≡ []) × KeepsCurrent table new facts now []
flushed_none table old new facts now left keeps none keeps' =
    (keeps.left_is ∙ none, record { kept = keeps.kept; keeps = keeps'; current = keeps.current; left_is = sym none })

-- what a flush of all tables gives
module _ (old new : Tables) (facts : List Fact) (now : ℕ) (left : List Gone) (stands : Stands old facts now left) where
  pub flush_system : (key : List ℕ) → Flushed Es new.systems facts now stands.systems_left key
      → KeepsCurrent Is new.routers facts now stands.routers_left → KeepsCurrent Rd new.redirects facts now stands.redirects_left
      → FlushesFirst (Some (gone_from Es key)) new facts now left
  flush_system key flushed routers redirects = (
    all_gone flushed.others stands.routers_left stands.redirects_left,
    stands.left_is ∙ ap (λ l. all_gone l stands.routers_left stands.redirects_left) flushed.left_is,
    record {
      systems_left = flushed.others;
      routers_left = stands.routers_left;
      redirects_left = stands.redirects_left;
      systems = flushed.keeps;
      routers = routers;
      redirects = redirects;
      left_is = refl;
    },
  )

  pub flush_router : (key : List ℕ) → (stands.systems_left ≡ []) × KeepsCurrent Es new.systems facts now []
      → Flushed Is new.routers facts now stands.routers_left key → KeepsCurrent Rd new.redirects facts now stands.redirects_left
      → FlushesFirst (Some (gone_from Is key)) new facts now left
  flush_router key systems flushed redirects = (
    all_gone [] flushed.others stands.redirects_left,
    stands.left_is ∙ ap (λ l. all_gone l stands.routers_left stands.redirects_left) systems.0
        ∙ ap (λ l. all_gone [] l stands.redirects_left) flushed.left_is,
    record {
      systems_left = [];
      routers_left = flushed.others;
      redirects_left = stands.redirects_left;
      systems = systems.1;
      routers = flushed.keeps;
      redirects = redirects;
      left_is = refl;
    },
  )

  pub flush_redirect : (key : List ℕ) → (stands.systems_left ≡ []) × KeepsCurrent Es new.systems facts now []
      → (stands.routers_left ≡ []) × KeepsCurrent Is new.routers facts now []
      → Flushed Rd new.redirects facts now stands.redirects_left key
      → FlushesFirst (Some (gone_from Rd key)) new facts now left
  flush_redirect key systems routers flushed = (
    all_gone [] [] flushed.others,
    stands.left_is ∙ ap (λ l. all_gone l stands.routers_left stands.redirects_left) systems.0
        ∙ ap (λ l. all_gone [] l stands.redirects_left) routers.0 ∙ ap (all_gone [] []) flushed.left_is,
    record {
      systems_left = [];
      routers_left = [];
      redirects_left = flushed.others;
      systems = systems.1;
      routers = routers.1;
      redirects = flushed.keeps;
      left_is = refl;
    },
  )

  pub flush_nothing : (stands.systems_left ≡ []) × KeepsCurrent Es new.systems facts now []
      → (stands.routers_left ≡ []) × KeepsCurrent Is new.routers facts now []
      → (stands.redirects_left ≡ []) × KeepsCurrent Rd new.redirects facts now []
      → FlushesFirst None new facts now left
  flush_nothing systems routers redirects = (
    stands.left_is ∙ ap (λ l. all_gone l stands.routers_left stands.redirects_left) systems.0
        ∙ ap (λ l. all_gone [] l stands.redirects_left) routers.0 ∙ ap (all_gone [] []) redirects.0,
    stands_from new facts now (record { systems = systems.1; routers = routers.1; redirects = redirects.1 }),
  )
