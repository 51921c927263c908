-- The earliest segment that has a place, where segments come and go.
use Rattle.std.proofs.Common.{◌≡◌, ◌≢◌, ℕ, zero, suc, ◌+◌, ◌-◌, ◌≤◌, ◌&&◌, ◌||◌, nat_le, nat_lt, Bool, true, false, cond, List, [], ◌∷◌, ◌++◌, length, map, take, Option, None, Some, inl, inr, refl, sym, ap, ◌∙◌, arith, add-zero}
use Rattle.std.specs.Prelude.{drop, not, is_none, is_some, slice_get, slice_set}
use Rattle.std.specs.List.{find, list_any, position_from}
use Rattle.std.proofs.lemmas.Bool.{both_ways, cases_Bool, and_left, and_parts, ltb-true, le-leb}
use Rattle.std.proofs.lemmas.Option.{none-some, same_Some}
use Rattle.pdus.proofs.ClnpBase.Found.{is_first, position_none}
use Rattle.system_tables.specs.declared.reassembly.segment.Key.{Key}
use Rattle.system_tables.specs.declared.reassembly.segment.Segment.{Segment}
use Rattle.system_tables.specs.Reassembly.Arrival.{arrival_of, has, is_covered, same_key}
use Rattle.system_tables.specs.Reassembly.Entries.{emptied_of, full, inside, places_present, present, without_key}
use Rattle.system_tables.specs.Reassembly.Index.{entry_gives, giver, lack}
use Rattle.system_tables.specs.Reassembly.Runs.{named_in}
use Rattle.system_tables.specs.Reassembly.State.{segments_of}
use Rattle.system_tables.proofs.ReassemblyFacts.Entries.{present-full}
use Rattle.system_tables.proofs.ReassemblyFacts.Keys.{same_key-other}
use Rattle.system_tables.proofs.ReassemblyFacts.Filling.{or_else}
use Rattle.system_tables.proofs.ReassemblyFacts.Run.{arrivals_of, covered_is, gives}
use Rattle.pdus.proofs.ClnpBase.ListSteps.{drop_next}

module _ {X : Type 0} (p : X → Bool) where
  pub position-push : (n : ℕ) (xs : List X) (x : X)
      → position_from p n (xs ++ x ∷ []) ≡ or_else (position_from p n xs) (cond (p x) (Some (n + length xs)) None)
  position-push n [] x = ap (λ (k : ℕ). cond (p x) (Some k) None) (sym (add-zero n))
  position-push n (y ∷ ys) x =
      elim (cases_Bool (p y)) [
        | inl t ↦ rw t refl
        | inr f ↦ rw f (position-push (n + 1) ys x
            ∙ ap (λ (k : ℕ). or_else (position_from p (n + 1) ys) (cond (p x) (Some k) None)) (let e : n + 1 + length ys ≡ n + suc (length ys) = omega arith in e))
      ]

  pub any-position : (n : ℕ) (xs : List X) → list_any p xs ≡ is_some (position_from p n xs)
  any-position n [] = refl
  any-position n (y ∷ ys) =
      elim (cases_Bool (p y)) [
        | inl t ↦ rw t refl
        | inr f ↦ rw f (any-position (n + 1) ys)
      ]

  position-mapped : (f : X → X) → ((x : X) → p (f x) ≡ p x) → (n : ℕ) (xs : List X) → position_from p n (map f xs) ≡ position_from p n xs
  position-mapped f same n [] = refl
  position-mapped f same n (x ∷ xs) =
      ap (λ (b : Bool). cond b (Some n) (position_from p (n + 1) (map f xs))) (same x)
      ∙ ap (λ (o : Option ℕ). cond (p x) (Some n) o) (position-mapped f same (n + 1) xs)

-- ---- entries and the segments that are in them

module _ (key : Key) (place : ℕ) where
  any-present : (entries : List (Option Segment)) → list_any (gives key place) (present entries) ≡ list_any (entry_gives key place) entries
  any-present [] = refl
  any-present (None ∷ others) = any-present others
  any-present (Some segment ∷ others) = ap (λ (b : Bool). gives key place segment || b) (any-present others)

  pub find-present : (entries : List (Option Segment)) → find (gives key place) (present entries) ≡ inside (find (entry_gives key place) entries)
  find-present [] = refl
  find-present (None ∷ others) = find-present others
  find-present (Some segment ∷ others) =
      elim (cases_Bool (gives key place segment)) [
        | inl t ↦ rw t refl
        | inr f ↦ rw f (find-present others)
      ]

  pub covered-giver : (entries : List (Option Segment)) → is_covered (arrivals_of key (present entries)) place ≡ is_some (giver key place entries)
  covered-giver entries = covered_is key (present entries) place ∙ any-present entries ∙ any-position (entry_gives key place) 0 entries

  -- a key without segments
  pub giver-none : (entries : List (Option Segment)) → segments_of key (present entries) ≡ [] → giver key place entries ≡ None
  giver-none entries none =
      position_none (entry_gives key place) 0 entries
      (sym (covered_is key (present entries) place ∙ any-present entries) ∙ ap (λ (l : List Segment). is_covered (map arrival_of l) place) none)

or_else-none : (by : Option ℕ) → or_else by None ≡ by
or_else-none None = refl
or_else-none (Some x) = refl

-- ---- an entry more

module _ (key : Key) (place : ℕ) (entries : List (Option Segment)) where
  pub giver-empty : giver key place (entries ++ None ∷ []) ≡ giver key place entries
  giver-empty = position-push (entry_gives key place) 0 entries None ∙ or_else-none (giver key place entries)

  pub giver-other : (segment : Segment) → same_key segment.key key ≡ false → giver key place (entries ++ Some segment ∷ []) ≡ giver key place entries
  giver-other segment other =
      position-push (entry_gives key place) 0 entries (Some segment)
      ∙ (rw other (or_else-none (giver key place entries)))

  pub giver-same : (from to : ℕ) (segment : Segment) → same_key segment.key key ≡ true
      → from ≡ segment.offset → to ≡ segment.offset + (arrival_of segment).len
      → giver key place (entries ++ Some segment ∷ []) ≡ or_else (giver key place entries) (cond (nat_le from place && nat_lt place to) (Some (length entries)) None)
  giver-same from to segment same from_is to_is =
      position-push (entry_gives key place) 0 entries (Some segment)
      ∙ (rw (same, from_is, to_is) (ap (λ (k : ℕ). or_else (giver key place entries)
      (cond (nat_le segment.offset place && nat_lt place (segment.offset + (arrival_of segment).len)) (Some k) None)) (let e : 0 + length entries ≡ length entries = omega arith in e)))

  -- one that is there stays the earliest
  pub giver-still : (entry : Option Segment) (index : ℕ) → giver key place entries ≡ Some index → giver key place (entries ++ entry ∷ []) ≡ Some index
  giver-still entry index is = position-push (entry_gives key place) 0 entries entry ∙ (rw is refl)

  pub giver-before : (index : ℕ) → giver key place entries ≡ Some index → giver key place (take index entries) ≡ None
  giver-before index is = position_none (entry_gives key place) 0 (take index entries) (is_first (entry_gives key place) index entries is).before

-- what a segment lets lack at the first place, and at the last
lack_less : (old : Option ℕ) (place from to by : ℕ) (edge : Bool) → ((nat_le from place && nat_lt place to) ≡ true → edge ≡ true)
    → cond (is_none old) 1 0 ≤ cond (is_none (or_else old (cond (nat_le from place && nat_lt place to) (Some by) None))) 1 0 + cond edge 1 0
lack_less (Some x) place from to by edge tells = omega arith
lack_less None place from to by edge tells =
    elim (cases_Bool (nat_le from place && nat_lt place to)) [
      | inl t ↦ rw (t, tells t) (omega arith)
      | inr f ↦ rw f (omega arith)
    ]

pub lack_first : (key : Key) (from to : ℕ) (entries : List (Option Segment)) (segment : Segment) → same_key segment.key key ≡ true
    → from ≡ segment.offset → to ≡ segment.offset + (arrival_of segment).len
    → lack key 0 entries ≤ lack key 0 (entries ++ Some segment ∷ []) + cond (nat_le from 0) 1 0
lack_first key from to entries segment same from_is to_is =
    rw (giver-same key 0 entries from to segment same from_is to_is)
    (lack_less (giver key 0 entries) 0 from to (length entries) (nat_le from 0) (λ t. (and_parts (nat_le from 0) (nat_lt 0 to) t).0))

pub lack_last : (key : Key) (from to high : ℕ) (entries : List (Option Segment)) (segment : Segment) → same_key segment.key key ≡ true
    → from ≡ segment.offset → to ≡ segment.offset + (arrival_of segment).len
    → lack key (high - 1) entries ≤ lack key (high - 1) (entries ++ Some segment ∷ []) + cond (nat_le high to) 1 0
lack_last key from to high entries segment same from_is to_is =
    rw (giver-same key (high - 1) entries from to segment same from_is to_is)
    (lack_less (giver key (high - 1) entries) (high - 1) from to (length entries) (nat_le high to)
    (λ t. le-leb high to (let l = ltb-true (high - 1) to (and_parts (nat_le from (high - 1)) (nat_lt (high - 1) to) t).1 in omega arith)))

-- ---- the empty entries are closed up

drop_head : (n : ℕ) (xs : List ℕ) (y : ℕ) (ys : List ℕ) → drop n xs ≡ y ∷ ys → slice_get xs n ≡ Some y
drop_head zero [] y ys e = absurd (cc)
drop_head zero (x ∷ xs) y ys e = let f : x ≡ y = cc in ap (λ (k : ℕ). Some k) f
drop_head (suc n) [] y ys e = absurd (cc)
drop_head (suc n) (x ∷ xs) y ys e = drop_head n xs y ys e

names_follow : (p : Option Segment → Bool) → p None ≡ false → (names : List ℕ) (n next : ℕ) (entries : List (Option Segment))
    → drop n names ≡ places_present next entries → named_in names (position_from p n entries) ≡ position_from p next (full (present entries))
names_follow p fails names n next [] e = refl
names_follow p fails names n next (None ∷ others) e =
    let rest : drop (n + 1) names ≡ places_present next others = drop_next n names next _ e in
    rw fails (names_follow p fails names (n + 1) next others rest)
names_follow p fails names n next (Some segment ∷ others) e =
    let rest : drop (n + 1) names ≡ places_present (next + 1) others = drop_next n names next _ e in
    elim (cases_Bool (p (Some segment))) [
      | inl passes ↦ rw passes (drop_head n names next _ e)
      | inr misses ↦ rw misses (names_follow p fails names (n + 1) (next + 1) others rest)
    ]

pub giver-closed : (key : Key) (place : ℕ) (entries : List (Option Segment))
    → giver key place (full (present entries)) ≡ named_in (places_present 0 entries) (giver key place entries)
giver-closed key place entries =
    sym (names_follow (entry_gives key place) refl (places_present 0 entries) 0 0 entries refl)

abbrev lack_if : Bool → ℕ
lack_if b = cond (not b) 1 0

pub lack-closed : (key : Key) (place : ℕ) (entries : List (Option Segment)) → lack key place (full (present entries)) ≡ lack key place entries
lack-closed key place entries =
    ap lack_if
    (sym (covered-giver key place (full (present entries))) ∙ ap (λ (l : List Segment). is_covered (arrivals_of key l) place) (present-full (present entries))
    ∙ covered-giver key place entries)

-- from where a segment came
pub came_from : (next : ℕ) (entries : List (Option Segment)) (index : ℕ) (segment : Segment) → slice_get (full (present entries)) index ≡ Some (Some segment)
    → (old : ℕ) × (slice_get entries old ≡ Some (Some segment)) × (slice_get (places_present next entries) old ≡ Some (next + index))
came_from next [] index segment e = absurd (none-some (Some segment) e)
came_from next (None ∷ others) index segment e =
    let rest = came_from next others index segment e in (suc rest.0, rest.1, rest.2)
came_from next (Some first ∷ others) zero segment e = (zero, e, ap (λ (n : ℕ). Some n) (sym (add-zero next)))
came_from next (Some first ∷ others) (suc index) segment e =
    let rest = came_from (next + 1) others index segment e in
    (suc rest.0, rest.1, rest.2 ∙ ap (λ (n : ℕ). Some n) (let same : next + 1 + index ≡ next + suc index = omega arith in same))

-- ---- all segments of another key are taken out

not_given : (own key : Key) (place : ℕ) (entry : Option Segment) → same_key own key ≡ false → entry_gives own place (without_key key entry) ≡ entry_gives own place entry
not_given own key place None other = refl
not_given own key place (Some segment) other =
    elim (cases_Bool (same_key segment.key key)) [
      | inr f ↦ rw f refl
      | inl t ↦
          let apart : same_key segment.key own ≡ false = elim (cases_Bool (same_key segment.key own)) [
            | inl mine ↦ absurd (both_ways (same_key segment.key key) (same_key-other segment.key own key mine other) t)
            | inr f ↦ f
          ] in
          rw t (sym (and_left (same_key segment.key own) (has place (arrival_of segment)) apart))
    ]

pub giver-emptied : (own key : Key) (place : ℕ) (entries : List (Option Segment)) → same_key own key ≡ false
    → giver own place (emptied_of key entries) ≡ giver own place entries
giver-emptied own key place entries other =
    position-mapped (entry_gives own place) (without_key key) (λ entry. not_given own key place entry other) 0 entries

pub lack-emptied : (own key : Key) (place : ℕ) (entries : List (Option Segment)) → same_key own key ≡ false
    → lack own place (emptied_of key entries) ≡ lack own place entries
lack-emptied own key place entries other = ap (λ (o : Option ℕ). cond (is_none o) 1 0) (giver-emptied own key place entries other)

-- ---- one segment is taken out

first_stays : (p : Option Segment → Bool) → p None ≡ false → (n index taken : ℕ) (entries : List (Option Segment))
    → position_from p n entries ≡ Some index → n + taken ≢ index → position_from p n (slice_set entries taken None) ≡ Some index
first_stays p fails n index taken [] e other = absurd (none-some index e)
first_stays p fails n index zero (first ∷ others) e other =
    elim (cases_Bool (p first)) [
      | inl t ↦ absurd (other (add-zero n ∙ same_Some n index (rw t at e)))
      | inr f ↦ rw fails (rw f at e)
    ]
first_stays p fails n index (suc taken) (first ∷ others) e other =
    elim (cases_Bool (p first)) [
      | inl t ↦ rw t (rw t at e)
      | inr f ↦ rw f (first_stays p fails (n + 1) index taken others (rw f at e) (λ same. other (omega (arith, same))))
    ]

pub giver-set : (key : Key) (place index taken : ℕ) (entries : List (Option Segment)) → giver key place entries ≡ Some index → taken ≢ index
    → giver key place (slice_set entries taken None) ≡ Some index
giver-set key place index taken entries e other =
    first_stays (entry_gives key place) refl 0 index taken entries e (λ same. other (omega (arith, same)))
