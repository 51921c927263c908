-- What a walk over entries comes to, one place further on.
use Rattle.std.proofs.Common.{◌≡◌, ℕ, zero, suc, refl, slice_set, ◌+◌, ◌<◌, ◌≤◌, min, true, false, ◌&&◌, ◌||◌, not, List, [], ◌∷◌, ◌++◌, Option, Some, sym, ap, subst, ◌∙◌, arith, length, map, slice_get, take, drop}
use Rattle.std.proofs.lemmas.Bool.{cond-true, cond-false, lt-ltb, le-ltb, or_left}
use Rattle.std.proofs.lemmas.List.{drop_more, take_more, length-append, length-map, length-take, length-drop}
use Rattle.std.proofs.lemmas.Option.{slice_get_within, get_or_from_slice_get}
use Rattle.std.specs.List.{AllByRecursion, list_any, position_from}
use Rattle.system_tables.specs.declared.esis_tables.table.Entry.{Entry}
use Rattle.system_tables.specs.EsisTables.Numbers.{is_above, is_less_than, least_above}
use Rattle.system_tables.specs.EsisTables.State.{AreWalked, is_kept, is_kept_at, is_later_than, latest_kept}
use Rattle.pdus.proofs.ClnpBase.Lists.{AllByRecursion-implies, AllByRecursion-push}
use Rattle.system_tables.proofs.EsisTables.Flushing.{has_ended}

drop_there : {X : Type 0} (xs : List X) (at : ℕ) (x : X) → slice_get xs at ≡ Some x → drop at xs ≡ x ∷ drop (at + 1) xs
drop_there xs at x there =
    drop_more xs at x (slice_get_within xs at x there) ∙ ap (λ y. y ∷ drop (at + 1) xs) (get_or_from_slice_get xs at x x there)

take_there : {X : Type 0} (xs : List X) (at : ℕ) (x : X) → slice_get xs at ≡ Some x → take (at + 1) xs ≡ take at xs ++ x ∷ []
take_there xs at x there =
    take_more xs at x (slice_get_within xs at x there) ∙ ap (λ y. take at xs ++ y ∷ []) (get_or_from_slice_get xs at x x there)

module _ (entries : List Entry) (at : ℕ) (entry : Entry) (there : slice_get entries at ≡ Some entry) where
  -- the first one that has ended
  pub ended_here : (now : ℕ) → entry.until ≤ now → position_from (has_ended now) at (drop at entries) ≡ Some at
  ended_here now ended =
      ap (position_from (has_ended now) at) (drop_there entries at entry there)
      ∙ cond-true (has_ended now entry) (Some at) (position_from (has_ended now) (at + 1) (drop (at + 1) entries)) (ap not (le-ltb now entry.until ended))

  pub held_here : (now : ℕ) → now < entry.until
      → position_from (has_ended now) (at + 1) (drop (at + 1) entries) ≡ position_from (has_ended now) at (drop at entries)
  held_here now holds =
      sym (ap (position_from (has_ended now) at) (drop_there entries at entry there)
      ∙ cond-false (has_ended now entry) (Some at) (position_from (has_ended now) (at + 1) (drop (at + 1) entries)) (ap not (lt-ltb now entry.until holds)))

  -- whether one is held at an address
  pub is_here : (now : ℕ) (snpa : List ℕ) → is_kept_at now snpa entry ≡ true → list_any (is_kept_at now snpa) (drop at entries) ≡ true
  is_here now snpa t =
      ap (list_any (is_kept_at now snpa)) (drop_there entries at entry there)
      ∙ or_left (is_kept_at now snpa entry) (list_any (is_kept_at now snpa) (drop (at + 1) entries)) t

  pub not_here : (now : ℕ) (snpa : List ℕ) → is_kept_at now snpa entry ≡ false
      → list_any (is_kept_at now snpa) (drop (at + 1) entries) ≡ list_any (is_kept_at now snpa) (drop at entries)
  not_here now snpa f =
      sym (ap (list_any (is_kept_at now snpa)) (drop_there entries at entry there)
      ∙ ap (λ b. b || list_any (is_kept_at now snpa) (drop (at + 1) entries)) f)

  -- the latest one
  pub latest_here : (now : ℕ) (found : Option Entry) → (is_kept now entry && is_later_than entry found) ≡ true
      → latest_kept now (Some entry) (drop (at + 1) entries) ≡ latest_kept now found (drop at entries)
  latest_here now found t =
      sym (ap (latest_kept now found) (drop_there entries at entry there)
      ∙ ap (λ (o : Option Entry). latest_kept now o (drop (at + 1) entries)) (cond-true (is_kept now entry && is_later_than entry found) (Some entry) found t))

  pub latest_before : (now : ℕ) (found : Option Entry) → (is_kept now entry && is_later_than entry found) ≡ false
      → latest_kept now found (drop (at + 1) entries) ≡ latest_kept now found (drop at entries)
  latest_before now found f =
      sym (ap (latest_kept now found) (drop_there entries at entry there)
      ∙ ap (λ (o : Option Entry). latest_kept now o (drop (at + 1) entries)) (cond-false (is_kept now entry && is_later_than entry found) (Some entry) found f))

  -- the least number above another
  pub least_here : (number : ℕ) (found : Option ℕ) → (is_above number entry && is_less_than entry.number found) ≡ true
      → least_above number (Some entry.number) (drop (at + 1) entries) ≡ least_above number found (drop at entries)
  least_here number found t =
      sym (ap (least_above number found) (drop_there entries at entry there)
      ∙ ap (λ (o : Option ℕ). least_above number o (drop (at + 1) entries)) (cond-true (is_above number entry && is_less_than entry.number found) (Some entry.number) found t))

  pub least_before : (number : ℕ) (found : Option ℕ) → (is_above number entry && is_less_than entry.number found) ≡ false
      → least_above number found (drop (at + 1) entries) ≡ least_above number found (drop at entries)
  least_before number found f =
      sym (ap (least_above number found) (drop_there entries at entry there)
      ∙ ap (λ (o : Option ℕ). least_above number o (drop (at + 1) entries)) (cond-false (is_above number entry && is_less_than entry.number found) (Some entry.number) found f))

  -- the soonest end
  pub soonest_more : (soonest sooner : ℕ) → sooner ≡ min soonest entry.until → AllByRecursion (λ (e : Entry). soonest ≤ e.until) (take at entries)
      → AllByRecursion (λ (e : Entry). sooner ≤ e.until) (take (at + 1) entries)
  soonest_more soonest sooner is all =
      subst (AllByRecursion (λ (e : Entry). sooner ≤ e.until)) (sym (take_there entries at entry there))
      (AllByRecursion-push (λ (e : Entry). sooner ≤ e.until) (take at entries) entry
      (AllByRecursion-implies (λ (e : Entry). soonest ≤ e.until) (λ (e : Entry). sooner ≤ e.until) (λ e h. omega (arith, h, is)) (take at entries) all) (omega (arith, is)))

-- what is so of the first entries is so of the first of these, whatever comes behind them
pub walked_less : (soonest number fewer : ℕ) (entries : List Entry) → fewer ≤ number → AreWalked number soonest entries → AreWalked fewer soonest entries
walked_less soonest number zero entries less walked = tt
walked_less soonest zero (suc fewer) entries less walked = absurd (omega (arith, less))
walked_less soonest (suc number) (suc fewer) [] less walked = tt
walked_less soonest (suc number) (suc fewer) (entry ∷ rest) less walked = (walked.0, walked_less soonest number fewer rest (omega (arith, less)) walked.1)

pub walked_front : (soonest number : ℕ) (entries later : List Entry) (at : ℕ) → at ≤ length entries → number ≤ at
    → AreWalked number soonest entries → AreWalked number soonest (take at entries ++ later)
walked_front soonest zero entries later at within less walked = tt
walked_front soonest (suc number) entries later zero within less walked = absurd (omega (arith, less))
walked_front soonest (suc number) [] later (suc at) within less walked = absurd (omega (arith, within))
walked_front soonest (suc number) (entry ∷ rest) later (suc at) within less walked =
    (walked.0, walked_front soonest number rest later at (omega (arith, within)) (omega (arith, less)) walked.1)

pub walked_set : (soonest number : ℕ) (entries : List Entry) (at : ℕ) (entry : Entry) → number ≤ at
    → AreWalked number soonest entries → AreWalked number soonest (slice_set entries at entry)
walked_set soonest zero entries at entry less walked = tt
walked_set soonest (suc number) entries zero entry less walked = absurd (omega (arith, less))
walked_set soonest (suc number) [] (suc at) entry less walked = tt
walked_set soonest (suc number) (first ∷ rest) (suc at) entry less walked = (walked.0, walked_set soonest number rest at entry (omega (arith, less)) walked.1)

-- of the entries that were walked over none has ended before their soonest end
pub ended_behind : (now soonest start number : ℕ) (entries : List Entry) → now < soonest → AreWalked number soonest entries
    → position_from (has_ended now) (start + number) (drop number entries) ≡ position_from (has_ended now) start entries
ended_behind now soonest start zero entries before walked = ap (λ n. position_from (has_ended now) n entries) (omega arith)
ended_behind now soonest start (suc number) [] before walked = refl
ended_behind now soonest start (suc number) (entry ∷ rest) before walked =
    ap (λ n. position_from (has_ended now) n (drop number rest)) (omega arith)
    ∙ ended_behind now soonest (start + 1) number rest before walked.1
    ∙ sym (cond-false (has_ended now entry) (Some start) (position_from (has_ended now) (start + 1) rest) (ap not (lt-ltb now entry.until (omega (arith, before, walked.0)))))

-- as many entries, where something was made of some of them
pub as_many : (f : Entry → Entry) (entries made : List Entry) (at : ℕ) → made ≡ map f (take at entries) ++ drop at entries → length made ≡ length entries
as_many f entries made at is =
    omega (arith, ap length is, length-append (map f (take at entries)) (drop at entries), length-map (take at entries) f, length-take at entries, length-drop at entries)
