-- Clocks that go on, all of them or one alone, and when they stand together.
use Rattle.std.proofs.Common.{◌≡◌, ◌≢◌, ◌∙◌, ◌⊎◌, refl, sym, ap, subst, ℕ, zero, suc, ◌+◌, ◌≤◌, inl, inr, Bool, false, List, [], ◌∷◌, ◌++◌, map, Some, arith}
use Rattle.std.specs.Prelude.{nat_lt, replicate, slice_get}
use Rattle.std.specs.List.{list_any}
use Rattle.std.proofs.lemmas.Bool.{cases_Bool, true≢false}
use Rattle.std.proofs.lemmas.Option.{same_Some}
use Rattle.clnp_machine.specs.ScenarioPlan.Standing.{AreTogether, changed_at, is_ahead}
use Rattle.clnp_machine.specs.ClnpPlan.declared.scenario_plan.event.Move.{Move}
use Rattle.clnp_machine.specs.ClnpPlan.declared.scenario_plan.event.Move.TheVariants.{One, SettleOne, LoseOne, TickOne, TickSystem}
use Rattle.clnp_machine.specs.ClnpNetwork.Clocks.{StayTogether, TickTogether, TicksForAll, clocks_after}

-- Lists.

-- what is found in a mapped list comes from what was found before
pub mapped_from : {X Y : Type 0} (f : X → Y) (xs : List X) (place : ℕ) (y : Y) → slice_get (map f xs) place ≡ Some y
    → (x : X) × (slice_get xs place ≡ Some x) × (f x ≡ y)
mapped_from f [] place y there = absurd (cc)
mapped_from f (x ∷ xs) zero y there = (x, refl, same_Some (f x) y there)
mapped_from f (x ∷ xs) (suc place) y there = mapped_from f xs place y there

-- where one of a list passes no test, it doesn't
any_fails : {X : Type 0} (test : X → Bool) (xs : List X) (place : ℕ) (x : X) → list_any test xs ≡ false → slice_get xs place ≡ Some x → test x ≡ false
any_fails test [] place x none there = absurd (cc)
any_fails test (y ∷ xs) zero x none there =
    elim (cases_Bool (test y)) [
      | inl passes ↦ absurd (true≢false (rw passes at none))
      | inr fails ↦ ap test (sym (same_Some y x there)) ∙ fails
    ]
any_fails test (y ∷ xs) (suc place) x none there =
    elim (cases_Bool (test y)) [
      | inl passes ↦ absurd (true≢false (rw passes at none))
      | inr fails ↦ any_fails test xs place x (rw fails at none) there
    ]

-- an element of a list is the one at a place, changed, or another one
abbrev pub WasThere : {X : Type 0} → (X → X) → (place at : ℕ) → List X → X → Type 0
WasThere {X} f place at xs y = ((at ≡ place) × (x : X) × (slice_get xs at ≡ Some x) × (y ≡ f x)) ⊎ ((at ≢ place) × (slice_get xs at ≡ Some y))

was_behind : {X : Type 0} (f : X → X) (place at : ℕ) (x : X) (xs : List X) (y : X) → WasThere f place at xs y → WasThere f (suc place) (suc at) (x ∷ xs) y
was_behind f place at x xs y (inl here) = inl (ap suc here.0, here.1, here.2, here.3)
was_behind f place at x xs y (inr other) = inr ((λ same. other.0 (let e : at ≡ place = omega arith in e)), other.1)

pub was_there : {X : Type 0} (f : X → X) (place at : ℕ) (xs : List X) (y : X) → slice_get (changed_at f place xs) at ≡ Some y → WasThere f place at xs y
was_there f place at [] y there = absurd (cc)
was_there f zero zero (x ∷ xs) y there = inl (refl, x, refl, sym (same_Some (f x) y there))
was_there f zero (suc at) (x ∷ xs) y there = inr ((λ same. omega arith), there)
was_there f (suc place) zero (x ∷ xs) y there = inr ((λ same. omega arith), there)
was_there f (suc place) (suc at) (x ∷ xs) y there = was_behind f place at x xs y (was_there f place at xs y there)

changed_there : {X : Type 0} (f : X → X) (place at : ℕ) (xs : List X) (x : X) → at ≡ place → slice_get xs at ≡ Some x
    → slice_get (changed_at f place xs) at ≡ Some (f x)
changed_there f place at [] x same there = absurd (cc)
changed_there f zero zero (y ∷ xs) x same there = ap (λ z. Some (f z)) (same_Some y x there)
changed_there f zero (suc at) (y ∷ xs) x same there = absurd (omega arith)
changed_there f (suc place) zero (y ∷ xs) x same there = absurd (omega arith)
changed_there f (suc place) (suc at) (y ∷ xs) x same there = changed_there f place at xs x (omega arith) there

changed_other : {X : Type 0} (f : X → X) (place at : ℕ) (xs : List X) (x : X) → at ≢ place → slice_get xs at ≡ Some x
    → slice_get (changed_at f place xs) at ≡ Some x
changed_other f place at [] x apart there = absurd (cc)
changed_other f zero zero (y ∷ xs) x apart there = absurd (apart refl)
changed_other f zero (suc at) (y ∷ xs) x apart there = there
changed_other f (suc place) zero (y ∷ xs) x apart there = there
changed_other f (suc place) (suc at) (y ∷ xs) x apart there = changed_other f place at xs x (λ same. apart (ap suc same)) there

-- So many ticks later.

-- all clocks so many ticks later
abbrev pub all_later : ℕ → List ℕ → List ℕ
all_later count clocks = map (λ clock. clock + count) clocks

-- the one at a place so many ticks later
abbrev pub one_later : ℕ → ℕ → List ℕ → List ℕ
one_later count place clocks = changed_at (λ clock. clock + count) place clocks

all_none_later : (clocks : List ℕ) → all_later 0 clocks ≡ clocks
all_none_later [] = refl
all_none_later (clock ∷ clocks) =
    let same : clock + 0 ≡ clock = omega arith in ap (λ c. c ∷ all_later 0 clocks) same ∙ ap (λ cs. clock ∷ cs) (all_none_later clocks)

all_next_later : (count : ℕ) (clocks : List ℕ) → all_later count (all_later 1 clocks) ≡ all_later (suc count) clocks
all_next_later count [] = refl
all_next_later count (clock ∷ clocks) =
    let same : clock + 1 + count ≡ clock + suc count = omega arith in
    ap (λ c. c ∷ all_later count (all_later 1 clocks)) same ∙ ap (λ cs. (clock + suc count) ∷ cs) (all_next_later count clocks)

one_none_later : (place : ℕ) (clocks : List ℕ) → one_later 0 place clocks ≡ clocks
one_none_later place [] = refl
one_none_later zero (clock ∷ clocks) = let same : clock + 0 ≡ clock = omega arith in ap (λ c. c ∷ clocks) same
one_none_later (suc place) (clock ∷ clocks) = ap (λ cs. clock ∷ cs) (one_none_later place clocks)

one_next_later : (count place : ℕ) (clocks : List ℕ) → one_later count place (one_later 1 place clocks) ≡ one_later (suc count) place clocks
one_next_later count place [] = refl
one_next_later count zero (clock ∷ clocks) = let same : clock + 1 + count ≡ clock + suc count = omega arith in ap (λ c. c ∷ clocks) same
one_next_later count (suc place) (clock ∷ clocks) = ap (λ cs. clock ∷ cs) (one_next_later count place clocks)

-- Clocks that stand together.

pub not_past : (most now : ℕ) → nat_lt most now ≡ false → now ≤ most
not_past most now late = grind arith

module _ (skew : ℕ) where
  -- where all go on they stand as they stood
  pub all_together : (count : ℕ) (clocks : List ℕ) → AreTogether skew clocks → AreTogether skew (all_later count clocks)
  all_together count clocks together first second a b at there =
      let one = mapped_from (λ (clock : ℕ). clock + count) clocks first a at in
      let other = mapped_from (λ (clock : ℕ). clock + count) clocks second b there in
      let near = together first second one.0 other.0 one.1 other.1 in
      let here : one.0 + count ≡ a = one.2 in
      let beside : other.0 + count ≡ b = other.2 in
      omega arith

  -- where one goes on alone, and isn't ahead then
  pub one_together : (count place : ℕ) (clocks : List ℕ) → AreTogether skew clocks
      → is_ahead skew (slice_get (one_later count place clocks) place) (one_later count place clocks) ≡ false
      → AreTogether skew (one_later count place clocks)
  one_together count place clocks together ahead first second a b at there =
      let later : ℕ → ℕ = λ clock. clock + count in
      let after = one_later count place clocks in
      elim (was_there later place first clocks a at) [
        | inl here ↦ (
            let found : slice_get after place ≡ Some a = subst (λ n. slice_get after n ≡ Some a) here.0 at in
            let none : list_any (λ other. nat_lt (other + skew) a) after ≡ false = subst (λ clock. is_ahead skew clock after ≡ false) found ahead in
            not_past (b + skew) a (any_fails (λ other. nat_lt (other + skew) a) after second b none there))
        | inr apart ↦
            elim (was_there later place second clocks b there) [
              | inl beside ↦ (
                  let near = together first second a beside.1 apart.1 beside.2 in
                  let moved : b ≡ beside.1 + count = beside.3 in
                  omega arith)
              | inr other ↦ together first second a b apart.1 other.1
            ]
      ]

  -- and so it was on the way there
  one_between : (count place : ℕ) (clocks : List ℕ) → AreTogether skew clocks → AreTogether skew (one_later (suc count) place clocks)
      → AreTogether skew (one_later 1 place clocks)
  one_between count place clocks before after first second a b at there =
      let next : ℕ → ℕ = λ clock. clock + 1 in
      let last : ℕ → ℕ = λ clock. clock + suc count in
      elim (was_there next place first clocks a at) [
        | inl here ↦ (
            let moved : a ≡ here.1 + 1 = here.3 in
            elim (was_there next place second clocks b there) [
              | inl beside ↦ (
                  let near = before first second here.1 beside.1 here.2 beside.2 in
                  let too : b ≡ beside.1 + 1 = beside.3 in
                  omega arith)
              | inr other ↦ (
                  let near = after first second (here.1 + suc count) b (changed_there last place first clocks here.1 here.0 here.2)
                  (changed_other last place second clocks b other.0 other.1) in
                  omega arith)
            ])
        | inr apart ↦
            elim (was_there next place second clocks b there) [
              | inl beside ↦ (
                  let near = before first second a beside.1 apart.1 beside.2 in
                  let moved : b ≡ beside.1 + 1 = beside.3 in
                  omega arith)
              | inr other ↦ before first second a b apart.1 other.1
            ]
      ]

  -- Moves.

  pub stay_front : (moves more : List Move) (clocks : List ℕ) → StayTogether skew clocks (moves ++ more) → StayTogether skew clocks moves
  stay_front [] more clocks stay = tt
  stay_front (move ∷ moves) more clocks stay = (stay.0, stay_front moves more (clocks_after clocks move) stay.1)

  -- a move that takes on no clock alone
  move_together : (clocks : List ℕ) (move : Move) → TicksForAll move → AreTogether skew clocks → AreTogether skew (clocks_after clocks move)
  move_together clocks (One place) all together = together
  move_together clocks SettleOne all together = together
  move_together clocks LoseOne all together = together
  move_together clocks TickOne all together = all_together 1 clocks together
  move_together clocks (TickSystem place) all together = absurd all

  pub ticks_together : (moves : List Move) (clocks : List ℕ) → TickTogether moves → AreTogether skew clocks → StayTogether skew clocks moves
  ticks_together [] clocks all together = tt
  ticks_together (move ∷ moves) clocks all together =
      let next = move_together clocks move all.0 together in (next, ticks_together moves (clocks_after clocks move) all.1 next)

  -- the moves of one event, and then more
  pub settles_stay : (move : Move) → ((clocks : List ℕ) → clocks_after clocks move ≡ clocks) → (count : ℕ) (moves : List Move) (clocks : List ℕ)
      → AreTogether skew clocks → StayTogether skew clocks moves → StayTogether skew clocks (replicate count move ++ moves)
  settles_stay move same zero moves clocks together rest = rest
  settles_stay move same (suc count) moves clocks together rest =
      let more = settles_stay move same count moves clocks together rest in (
        subst (AreTogether skew) (sym (same clocks)) together,
        subst (λ cs. StayTogether skew cs (replicate count move ++ moves)) (sym (same clocks)) more,
      )

  pub ticks_stay : (count : ℕ) (moves : List Move) (clocks : List ℕ) → AreTogether skew clocks → StayTogether skew (all_later count clocks) moves
      → StayTogether skew clocks (replicate count TickOne ++ moves)
  ticks_stay zero moves clocks together rest = subst (λ cs. StayTogether skew cs moves) (all_none_later clocks) rest
  ticks_stay (suc count) moves clocks together rest =
      let next = all_together 1 clocks together in (
        next,
        ticks_stay count moves (all_later 1 clocks) next (subst (λ cs. StayTogether skew cs moves) (sym (all_next_later count clocks)) rest),
      )

  alone_stays : (place count : ℕ) (moves : List Move) (clocks : List ℕ) → AreTogether skew clocks → AreTogether skew (one_later count place clocks)
      → StayTogether skew (one_later count place clocks) moves → StayTogether skew clocks (replicate count (TickSystem place) ++ moves)
  alone_stays place zero moves clocks before after rest = subst (λ cs. StayTogether skew cs moves) (one_none_later place clocks) rest
  alone_stays place (suc count) moves clocks before after rest =
      let next = one_between count place clocks before after in
      let same = sym (one_next_later count place clocks) in (
        next,
        alone_stays place count moves (one_later 1 place clocks) next (subst (AreTogether skew) same after)
            (subst (λ cs. StayTogether skew cs moves) same rest),
      )

  pub ticking_alone_stays : (place count : ℕ) (moves : List Move) (clocks : List ℕ) → AreTogether skew clocks
      → is_ahead skew (slice_get (one_later count place clocks) place) (one_later count place clocks) ≡ false
      → StayTogether skew (one_later count place clocks) moves → StayTogether skew clocks (replicate count (TickSystem place) ++ moves)
  ticking_alone_stays place count moves clocks together ahead rest =
      alone_stays place count moves clocks together (one_together count place clocks together ahead) rest
