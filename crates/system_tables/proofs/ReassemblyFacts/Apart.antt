-- Runs of which none has a place between two, as the first and the last of them tell.
use Rattle.std.proofs.Common.{◌≡◌, ℕ, suc, ◌-◌, ◌≤◌, ◌&&◌, max, min, nat_le, nat_lt, false, cond, List, [], ◌∷◌, Some, length, map, inl, inr, refl, sym, ap, ◌∙◌, arith}
use Rattle.std.specs.Prelude.{slice_get}
use Rattle.std.specs.List.{AllByRecursion, list_any}
use Rattle.std.proofs.lemmas.Bool.{and_left, and_right, le-ltb, lt-leb}
use Rattle.std.proofs.lemmas.Option.{same_Some}
use Rattle.pdus.proofs.ClnpBase.Lists.{AllByRecursion-implies}
use Rattle.system_tables.specs.declared.reassembly.runs.Run.{Run}
use Rattle.system_tables.specs.Reassembly.Pages.{IsApart, ends_behind}
use Rattle.system_tables.specs.Reassembly.Runs.{AreInOrder, AreJoined, is_gap, is_hole, marked}
use Rattle.system_tables.proofs.ReassemblyFacts.Filling.{joined_order}

-- the last run, where it is asked for by its index
pub ends_at : (place : ℕ) (runs : List Run) (run : Run) → slice_get runs (length runs - 1) ≡ Some run → ends_behind place runs ≡ nat_lt place run.to
ends_at place [] run e = absurd (cc)
ends_at place (first ∷ []) run e = ap (λ (r : Run). nat_lt place r.to) (same_Some first run e)
ends_at place (first ∷ next ∷ others) run e =
    let index : length (first ∷ next ∷ others) - 1 ≡ suc (length (next ∷ others) - 1) = omega arith in
    ends_at place (next ∷ others) run (ap (slice_get (first ∷ next ∷ others)) (sym index) ∙ e)

pub last_to : (low high : ℕ) (runs : List Run) (run : Run) → AreJoined low high runs → slice_get runs (length runs - 1) ≡ Some run → run.to ≡ high
last_to low high [] run joined e = absurd (cc)
last_to low high (first ∷ []) run joined e = ap (λ (r : Run). r.to) (sym (same_Some first run e)) ∙ joined.1.1
last_to low high (first ∷ next ∷ others) run joined e =
    let index : length (first ∷ next ∷ others) - 1 ≡ suc (length (next ∷ others) - 1) = omega arith in
    last_to first.to high (next ∷ others) run joined.1.1 (ap (slice_get (first ∷ next ∷ others)) (sym index) ∙ e)

pub all_end : (low high : ℕ) (runs : List Run) → AreJoined low high runs → AllByRecursion (λ run. run.to ≤ high) runs
all_end low high [] joined = tt
all_end low high (run ∷ others) joined = (joined_order run.to high others joined.1.1, all_end run.to high others joined.1.1)

pub all_begin : (place low high : ℕ) (runs : List Run) → AreJoined low high runs → place ≤ low → AllByRecursion (λ run. place ≤ run.from) runs
all_begin place low high [] joined least = tt
all_begin place low high (run ∷ others) joined least =
    (omega (arith, joined.0, least), all_begin place run.to high others joined.1.1 (omega (arith, joined.0, joined.1.0, least)))

module _ (from to : ℕ) (runs : List Run) (order : AreInOrder runs) where
  pub ended_apart : (last : Run) → slice_get runs (length runs - 1) ≡ Some last → last.to ≤ from → IsApart from to runs
  ended_apart last e ended =
      let high = last_to order.0 order.1 runs last order.2 e in
      inl (AllByRecursion-implies (λ (run : Run). run.to ≤ order.1) (λ (run : Run). run.to ≤ from) (λ run h. omega (arith, h, high, ended)) runs
      (all_end order.0 order.1 runs order.2))

  pub begun_apart : (first : Run) → slice_get runs 0 ≡ Some first → to ≤ first.from → IsApart from to runs
  begun_apart first e begun = inr (all_begin to order.0 order.1 runs order.2 (low runs order.2 e))
    where
      low : (some : List Run) → AreJoined order.0 order.1 some → slice_get some 0 ≡ Some first → to ≤ order.0
      low [] joined e = absurd (cc)
      low (run ∷ others) joined e = omega (arith, ap (λ (r : Run). r.from) (same_Some run first e), joined.0, begun)

pub none_apart : (from to : ℕ) → IsApart from to []
none_apart from to = inl tt

-- ---- a hole between the places

pub no_gap : (from to : ℕ) (runs : List Run) → IsApart from to runs → false ≡ list_any (is_gap from to) runs
no_gap from to runs (inl all) = ended runs all
  where
    ended : (some : List Run) → AllByRecursion (λ run. run.to ≤ from) some → false ≡ list_any (is_gap from to) some
    ended [] all = refl
    ended (run ∷ others) all =
        rw (and_right (is_hole run) (nat_lt (max run.from from) (min run.to to)) (le-ltb (max run.from from) (min run.to to) (omega (arith, all.0))))
        (ended others all.1)
no_gap from to runs (inr all) = begun runs all
  where
    begun : (some : List Run) → AllByRecursion (λ run. to ≤ run.from) some → false ≡ list_any (is_gap from to) some
    begun [] all = refl
    begun (run ∷ others) all =
        rw (and_right (is_hole run) (nat_lt (max run.from from) (min run.to to)) (le-ltb (max run.from from) (min run.to to) (omega (arith, all.0))))
        (begun others all.1)

-- ---- and none to be a piece

unmarked : (from to by : ℕ) (run : Run) → (is_hole run && (nat_le from run.from && nat_le run.to to)) ≡ false → run ≡ marked from to by run
unmarked from to by run f = sym (ap (λ b. cond b (record run { by = Some by }) run) f)

pub none_marked : (from to by : ℕ) (runs : List Run) → AreInOrder runs → IsApart from to runs → runs ≡ map (marked from to by) runs
none_marked from to by runs order (inl all) = ended order.0 order.1 runs order.2 all
  where
    ended : (low high : ℕ) (some : List Run) → AreJoined low high some → AllByRecursion (λ run. run.to ≤ from) some → some ≡ map (marked from to by) some
    ended low high [] joined all = refl
    ended low high (run ∷ others) joined all =
        ap (λ r. r ∷ others) (unmarked from to by run (and_right (is_hole run) (nat_le from run.from && nat_le run.to to)
        (and_left (nat_le from run.from) (nat_le run.to to) (lt-leb from run.from (omega (arith, all.0, joined.1.0))))))
        ∙ ap (λ l. marked from to by run ∷ l) (ended run.to high others joined.1.1 all.1)
none_marked from to by runs order (inr all) = begun order.0 order.1 runs order.2 all
  where
    begun : (low high : ℕ) (some : List Run) → AreJoined low high some → AllByRecursion (λ run. to ≤ run.from) some → some ≡ map (marked from to by) some
    begun low high [] joined all = refl
    begun low high (run ∷ others) joined all =
        ap (λ r. r ∷ others) (unmarked from to by run (and_right (is_hole run) (nat_le from run.from && nat_le run.to to)
        (and_right (nat_le from run.from) (nat_le run.to to) (lt-leb run.to to (omega (arith, all.0, joined.1.0))))))
        ∙ ap (λ l. marked from to by run ∷ l) (begun run.to high others joined.1.1 all.1)
