-- Runs joined one behind the other, and the segment that fills a place, where holes are cut and filled.
use Rattle.std.proofs.Common.{◌≡◌, ℕ, zero, suc, ◌+◌, ◌<◌, ◌≤◌, ◌&&◌, ◌⊎◌, not, max, min, nat_le, nat_lt, Bool, true, false, cond, List, [], ◌∷◌, length, map, Option, None, Some, inl, inr, refl, sym, ap, subst, ◌∙◌, arith}
use Rattle.std.specs.Prelude.{is_none, is_some}
use Rattle.std.specs.List.{Contains, list_all, list_any, range_with_len}
use Rattle.std.proofs.lemmas.Bool.{cases_Bool, cases_lt, and_parts, and_from, leb-true, ltb-true, le-leb, lt-ltb, lt-leb, both_ways, false_from_ne_true}
use Rattle.std.proofs.lemmas.List.{length-map}
use Rattle.pdus.proofs.ClnpBase.Choices.{below_not, none_is}
use Rattle.pdus.proofs.ClnpBase.Found.{any_contains, contains_any}
use Rattle.pdus.proofs.ClnpBase.Ranges.{all_by_each, each_of_all}
use Rattle.system_tables.specs.declared.reassembly.runs.Run.{Run}
use Rattle.system_tables.specs.Reassembly.Runs.{AreJoined, cut, filled, filler, has_place, is_across, is_gap, is_hole, marked, named_in, renamed}

-- whether a run has a place, as facts
pub does_have : (place : ℕ) (run : Run) → has_place place run ≡ true → (run.from ≤ place) × (place < run.to)
does_have place run e =
    let parts = and_parts (nat_le run.from place) (nat_lt place run.to) e in
    (leb-true run.from place parts.0, ltb-true place run.to parts.1)

pub have_from : (place : ℕ) (run : Run) → run.from ≤ place → place < run.to → has_place place run ≡ true
have_from place run low high = and_from (nat_le run.from place) (nat_lt place run.to) (le-leb run.from place low) (lt-ltb place run.to high)

pub not_before : (place : ℕ) (run : Run) → place < run.from → has_place place run ≡ false
not_before place run low = rw (lt-leb run.from place low) refl

pub not_behind : (place : ℕ) (run : Run) → run.to ≤ place → has_place place run ≡ false
not_behind place run high =
    elim (nat_le run.from place) as (λ b. (b && nat_lt place run.to) ≡ false) [
      | true ↦ below_not place run.to high
      | false ↦ refl
    ]

pub joined_order : (from to : ℕ) (runs : List Run) → AreJoined from to runs → from ≤ to
joined_order from to [] joined = omega (arith, joined)
joined_order from to (run ∷ others) joined = omega (arith, joined.0, joined.1.0, joined_order run.to to others joined.1.1)

-- the run that has a place
pub record IsRunAt (place : ℕ) (runs : List Run) (run : Run) : Type 0 where
  pub contained : Contains runs run
  pub has : has_place place run ≡ true
  pub fills : filler place runs ≡ run.by

pub run_at : (place from to : ℕ) (runs : List Run) → AreJoined from to runs → from ≤ place → place < to → (run : Run) × IsRunAt place runs run
run_at place from to [] joined low high = absurd (omega (arith, joined))
run_at place from to (run ∷ others) joined low high =
    elim (cases_lt place run.to) [
      | inl inside ↦
          let has = have_from place run (omega (arith, joined.0)) inside in
          (run, record { contained = (0, omega arith, refl); has = has; fills = rw has refl })
      | inr behind ↦
          let rest = run_at place run.to to others joined.1.1 behind high in (
            rest.0,
            record {
              contained = (suc rest.1.contained.0, (let l = rest.1.contained.1 in omega arith), rest.1.contained.2);
              has = rest.1.has;
              fills = rw (not_behind place run behind) rest.1.fills;
            },
          )
    ]

-- no other run has its places
contains_cases : (x y : Run) (xs : List Run) → Contains (x ∷ xs) y → (x ≡ y) ⊎ Contains xs y
contains_cases x y xs (zero, within, e) = inl e
contains_cases x y xs (suc i, within, e) = inr (i, (let l : suc i < length (x ∷ xs) = within in omega arith), e)

pub lies_within : (from to : ℕ) (runs : List Run) (run : Run) → AreJoined from to runs → Contains runs run
    → (from ≤ run.from) × (run.from < run.to) × (run.to ≤ to)
lies_within from to [] run joined there = absurd (let l : there.0 < 0 = there.1 in omega arith)
lies_within from to (first ∷ others) run joined there =
    elim (contains_cases first run others there) [
      | inl e ↦ subst (λ (r : Run). (from ≤ r.from) × (r.from < r.to) × (r.to ≤ to)) e
          (omega (arith, joined.0), joined.1.0, joined_order first.to to others joined.1.1)
      | inr rest ↦ (let h = lies_within first.to to others run joined.1.1 rest in
          (omega (arith, joined.0, joined.1.0, h.0), h.1, h.2))
    ]

pub fills_own : (place from to : ℕ) (runs : List Run) (run : Run) → AreJoined from to runs → Contains runs run → has_place place run ≡ true
    → filler place runs ≡ run.by
fills_own place from to [] run joined there has = absurd (let l : there.0 < 0 = there.1 in omega arith)
fills_own place from to (first ∷ others) run joined there has =
    elim (contains_cases first run others there) [
      | inl e ↦ rw (ap (has_place place) e ∙ has) (ap (λ (r : Run). r.by) e)
      | inr rest ↦ (let h = lies_within first.to to others run joined.1.1 rest in
          let p = does_have place run has in
          rw (not_behind place first (omega (arith, h.0, p.0))) (fills_own place first.to to others run joined.1.1 rest has))
    ]

-- ---- a hole that is cut

record Across (place : ℕ) (run : Run) : Type 0 where
  pub hole : run.by ≡ None
  pub low : run.from < place
  pub high : place < run.to

across : (place : ℕ) (run : Run) → is_across place run ≡ true → Across place run
across place run e =
    let a = and_parts (is_hole run) (nat_lt run.from place && nat_lt place run.to) e in
    let b = and_parts (nat_lt run.from place) (nat_lt place run.to) a.1 in
    record { hole = none_is run.by a.0; low = ltb-true run.from place b.0; high = ltb-true place run.to b.1 }

pub cut-joined : (place from to : ℕ) (runs : List Run) → AreJoined from to runs → AreJoined from to (cut place runs)
cut-joined place from to [] joined = joined
cut-joined place from to (run ∷ others) joined =
    elim (cases_Bool (is_across place run)) [
      | inl t ↦ (let a = across place run t in rw t (joined.0, (a.low, (refl, (a.high, joined.1.1)))))
      | inr f ↦ rw f (joined.0, (joined.1.0, cut-joined place run.to to others joined.1.1))
    ]

-- two parts of a hole fill what it does
parts_fill : (at place : ℕ) (run : Run) (others : List Run) → Across place run
    → filler at (record run { to = place } ∷ record run { from = place } ∷ others) ≡ filler at (run ∷ others)
parts_fill at place run others a =
    elim (cases_lt at run.from) [
      | inl early ↦ rw (lt-leb run.from at early, lt-leb place at (omega (arith, a.low))) refl
      | inr late ↦ elim (cases_lt at place) [
        | inl first ↦ rw (le-leb run.from at late, lt-ltb at place first, lt-ltb at run.to (omega (arith, a.high))) refl
        | inr second ↦ rw (le-leb run.from at late, below_not at place second, le-leb place at second) refl
      ]
    ]

pub cut-filler : (at place : ℕ) (runs : List Run) → filler at (cut place runs) ≡ filler at runs
cut-filler at place [] = refl
cut-filler at place (run ∷ others) =
    elim (cases_Bool (is_across place run)) [
      | inl t ↦ rw t (parts_fill at place run others (across place run t))
      | inr f ↦ rw f (ap (λ (o : Option ℕ). cond (has_place at run) run.by o) (cut-filler at place others))
    ]

-- no hole has the place but at its beginning
abbrev pub NoneAcross : ℕ → List Run → Type 0
NoneAcross place runs = list_any (is_across place) runs ≡ false

not_across : (place : ℕ) (run : Run) → (Across place run → ⊥) → is_across place run ≡ false
not_across place run never =
    elim (cases_Bool (is_across place run)) [
      | inl t ↦ absurd (never (across place run t))
      | inr f ↦ f
    ]

pub none_behind : (place from to : ℕ) (runs : List Run) → AreJoined from to runs → place ≤ from → NoneAcross place runs
none_behind place from to [] joined low = refl
none_behind place from to (run ∷ others) joined low =
    rw (not_across place run (λ a. omega (arith, a.low, joined.0))) (none_behind place run.to to others joined.1.1 (omega (arith, joined.0, joined.1.0)))

pub cut-none_across : (place from to : ℕ) (runs : List Run) → AreJoined from to runs → NoneAcross place (cut place runs)
cut-none_across place from to [] joined = refl
cut-none_across place from to (run ∷ others) joined =
    elim (cases_Bool (is_across place run)) [
      | inl t ↦ (let a = across place run t in
          rw (t, not_across place (record run { to = place }) (λ h. omega (arith, h.high)), not_across place (record run { from = place }) (λ h. omega (arith, h.low)))
          (none_behind place run.to to others joined.1.1 (omega (arith, a.high))))
      | inr f ↦ rw (f, f) (cut-none_across place run.to to others joined.1.1)
    ]

pub any_parts : (place : ℕ) (run : Run) (others : List Run) → NoneAcross place (run ∷ others) → (is_across place run ≡ false) × NoneAcross place others
any_parts place run others none =
    elim (cases_Bool (is_across place run)) [
      | inl t ↦ absurd (let h = rw t at none in cc)
      | inr f ↦ (f, rw f at none)
    ]

is_across_from : (place : ℕ) (run : Run) → Across place run → is_across place run ≡ true
is_across_from place run a = rw (a.hole, lt-ltb run.from place a.low, lt-ltb place run.to a.high) refl

across_not : (place : ℕ) (run : Run) → is_across place run ≡ false → Across place run → ⊥
across_not place run f a = let t = is_across_from place run a in cc

pub cut-still_none : (place other : ℕ) (runs : List Run) → NoneAcross place runs → NoneAcross place (cut other runs)
cut-still_none place other [] none = none
cut-still_none place other (run ∷ others) none =
    let parts = any_parts place run others none in
    elim (cases_Bool (is_across other run)) [
      | inl t ↦ (let a = across other run t in
          rw (
            t,
            not_across place (record run { to = other }) (λ h. across_not place run parts.0 (record { hole = a.hole; low = h.low; high = omega (arith, h.high, a.high) })),
            not_across place (record run { from = other }) (λ h. across_not place run parts.0 (record { hole = a.hole; low = omega (arith, h.low, a.low); high = h.high })),
          )
          parts.1)
      | inr f ↦ rw (f, parts.0) (cut-still_none place other others parts.1)
    ]

-- ---- holes that are filled

-- the first of two that there is
abbrev pub or_else : Option ℕ → Option ℕ → Option ℕ
or_else None second = second
or_else (Some x) second = Some x

pub marked-from : (from to by : ℕ) (run : Run) → (marked from to by run).from ≡ run.from
marked-from from to by run = elim (cases_Bool (is_hole run && (nat_le from run.from && nat_le run.to to))) [
  | inl t ↦ rw t refl
  | inr f ↦ rw f refl
]

pub marked-to : (from to by : ℕ) (run : Run) → (marked from to by run).to ≡ run.to
marked-to from to by run = elim (cases_Bool (is_hole run && (nat_le from run.from && nat_le run.to to))) [
  | inl t ↦ rw t refl
  | inr f ↦ rw f refl
]

pub mark-joined : (from to by low high : ℕ) (runs : List Run) → AreJoined low high runs → AreJoined low high (map (marked from to by) runs)
mark-joined from to by low high [] joined = joined
mark-joined from to by low high (run ∷ others) joined =
    let f = marked-from from to by run in
    let t = marked-to from to by run in (
      f ∙ joined.0,
      (
        omega (arith, joined.1.0),
        subst (λ (n : ℕ). AreJoined n high (map (marked from to by) others)) (sym t)
            (mark-joined from to by run.to high others joined.1.1),
      ),
    )

mark-has : (from to by place : ℕ) (run : Run) → has_place place (marked from to by run) ≡ has_place place run
mark-has from to by place run = rw (marked-from from to by run, marked-to from to by run) refl

filled_stays : (by : Option ℕ) → is_none by ≡ false → (other : Option ℕ) → by ≡ or_else by other
filled_stays None f other = absurd (cc)
filled_stays (Some x) f other = refl

-- what fills the places of one run
mark-run : (from to by place : ℕ) (run : Run) → is_across from run ≡ false → is_across to run ≡ false → run.from ≤ place → place < run.to
    → (marked from to by run).by ≡ or_else run.by (cond (nat_le from place && nat_lt place to) (Some by) None)
mark-run from to by place run not_from not_to low high =
    elim (cases_Bool (is_hole run)) [
      | inr piece ↦ rw piece (filled_stays run.by piece _)
      | inl hole ↦
          let none = none_is run.by hole in
          elim (cases_lt run.from from) [
            | inl before ↦ (let apart : place < from = elim (cases_lt place from) [
              | inl l ↦ l
              | inr l ↦ absurd (across_not from run not_from (record { hole = none; low = before; high = omega arith }))
            ] in
                rw (hole, none, lt-leb from run.from before, lt-leb from place apart) refl)
            | inr behind ↦ elim (cases_lt to run.to) [
              | inl cuts ↦ (let apart : to ≤ place = elim (cases_lt place to) [
                | inl l ↦ absurd (across_not to run not_to (record { hole = none; low = omega arith; high = cuts }))
                | inr l ↦ l
              ] in
                  rw (hole, none, le-leb from run.from behind, lt-leb run.to to cuts, le-leb from place (omega arith), below_not place to apart) refl)
              | inr within ↦
                  rw (hole, none, le-leb from run.from behind, le-leb run.to to within, le-leb from place (omega arith), lt-ltb place to (omega arith)) refl
            ]
          ]
    ]

pub mark-filler : (from to by place low high : ℕ) (runs : List Run) → AreJoined low high runs → NoneAcross from runs → NoneAcross to runs
    → low ≤ place → place < high
    → filler place (map (marked from to by) runs) ≡ or_else (filler place runs) (cond (nat_le from place && nat_lt place to) (Some by) None)
mark-filler from to by place low high [] joined none_from none_to least most = absurd (omega (arith, joined))
mark-filler from to by place low high (run ∷ others) joined none_from none_to least most =
    let parts_from = any_parts from run others none_from in
    let parts_to = any_parts to run others none_to in
    elim (cases_lt place run.to) [
      | inl inside ↦
          let has = have_from place run (omega (arith, joined.0)) inside in
          rw (mark-has from to by place run, has) (mark-run from to by place run parts_from.0 parts_to.0 (omega (arith, joined.0)) inside)
      | inr behind ↦
          let has = not_behind place run behind in
          rw (mark-has from to by place run, has) (mark-filler from to by place run.to high others joined.1.1 parts_from.1 parts_to.1 behind most)
    ]

-- ---- a segment that comes

pub filled-joined : (from to by low high : ℕ) (runs : List Run) → AreJoined low high runs → AreJoined low high (filled from to by runs)
filled-joined from to by low high runs joined =
    mark-joined from to by low high (cut to (cut from runs)) (cut-joined to low high (cut from runs) (cut-joined from low high runs joined))

pub filled-filler : (from to by place low high : ℕ) (runs : List Run) → AreJoined low high runs → low ≤ place → place < high
    → filler place (filled from to by runs) ≡ or_else (filler place runs) (cond (nat_le from place && nat_lt place to) (Some by) None)
filled-filler from to by place low high runs joined least most =
    let once = cut-joined from low high runs joined in
    mark-filler from to by place low high (cut to (cut from runs)) (cut-joined to low high (cut from runs) once)
    (cut-still_none from to (cut from runs) (cut-none_across from low high runs joined))
    (cut-none_across to low high (cut from runs) once) least most
    ∙ ap (λ (o : Option ℕ). or_else o (cond (nat_le from place && nat_lt place to) (Some by) None)) (cut-filler place to (cut from runs) ∙ cut-filler place from runs)

-- how many runs there are
pub length-cut : (place : ℕ) (runs : List Run) → length (cut place runs) ≤ length runs + 1
length-cut place [] = omega arith
length-cut place (run ∷ others) =
    elim (cases_Bool (is_across place run)) [
      | inl t ↦ rw t (omega arith)
      | inr f ↦ rw f (let rest = length-cut place others in omega arith)
    ]

-- a place that no hole has but at its beginning cuts none
pub cut_none : (place : ℕ) (runs : List Run) → NoneAcross place runs → cut place runs ≡ runs
cut_none place [] none = refl
cut_none place (run ∷ others) none =
    let parts = any_parts place run others none in
    rw parts.0 (ap (λ l. run ∷ l) (cut_none place others parts.1))

pub none_at_end : (place from to : ℕ) (runs : List Run) → AreJoined from to runs → to ≤ place → NoneAcross place runs
none_at_end place from to [] joined high = refl
none_at_end place from to (run ∷ others) joined high =
    let order = joined_order run.to to others joined.1.1 in
    rw (not_across place run (λ a. omega (arith, a.high, order))) (none_at_end place run.to to others joined.1.1 high)

pub length-filled : (from to by high : ℕ) (runs : List Run) → AreJoined 0 high runs
    → length (filled from to by runs) + (cond (nat_le from 0) 1 0 + cond (nat_le high to) 1 0) ≤ length runs + 2
length-filled from to by high runs joined =
    let once = cut-joined from 0 high runs joined in
    let same = length-map (cut to (cut from runs)) (marked from to by) in
    let first : length (cut from runs) + cond (nat_le from 0) 1 0 ≤ length runs + 1 =
    elim (cases_lt 0 from) [
      | inl l ↦ rw (lt-leb from 0 l) (let n = length-cut from runs in omega arith)
      | inr l ↦ rw (le-leb from 0 l, cut_none from runs (none_behind from 0 high runs joined l)) (omega arith)
    ] in
    let second : length (cut to (cut from runs)) + cond (nat_le high to) 1 0 ≤ length (cut from runs) + 1 =
    elim (cases_lt to high) [
      | inl l ↦ rw (lt-leb high to l) (let n = length-cut to (cut from runs) in omega arith)
      | inr l ↦ rw (le-leb high to l, cut_none to (cut from runs) (none_at_end to 0 high (cut from runs) once l)) (omega arith)
    ] in
    omega arith

-- ---- other indices

pub renamed-joined : (names : List ℕ) (low high : ℕ) (runs : List Run) → AreJoined low high runs → AreJoined low high (map (renamed names) runs)
renamed-joined names low high [] joined = joined
renamed-joined names low high (run ∷ others) joined = (joined.0, (joined.1.0, renamed-joined names run.to high others joined.1.1))

pub renamed-filler : (names : List ℕ) (place : ℕ) (runs : List Run) → filler place (map (renamed names) runs) ≡ named_in names (filler place runs)
renamed-filler names place [] = refl
renamed-filler names place (run ∷ others) =
    elim (cases_Bool (has_place place run)) [
      | inl t ↦ rw t refl
      | inr f ↦ rw f (renamed-filler names place others)
    ]

-- ---- places that are filled

some_of : (by : Option ℕ) → is_none by ≡ false → is_some by ≡ true
some_of None f = absurd (cc)
some_of (Some x) f = refl

-- no hole has a place between two exactly where each is filled
pub filled_tells : (test : ℕ → Bool) (from len to high : ℕ) (runs : List Run) → AreJoined 0 high runs → from + len ≡ to → to ≤ high
    → ((place : ℕ) → place < high → test place ≡ is_some (filler place runs))
    → not (list_any (is_gap from to) runs) ≡ list_all test (range_with_len from len)
filled_tells test from len to high runs joined counted within tells =
    elim (cases_Bool (list_any (is_gap from to) runs)) [
      | inl t ↦
          let gap = any_contains (is_gap from to) runs t in
          let run = gap.0 in
          let parts = and_parts (is_hole run) (nat_lt (max run.from from) (min run.to to)) gap.2 in
          let l = ltb-true (max run.from from) (min run.to to) parts.1 in
          let place = max run.from from in
          let least : from ≤ place = omega arith in
          let most : place < to = omega arith in
          let fills = fills_own place 0 high runs run joined gap.1 (have_from place run (omega arith) (omega arith)) in
          let unfilled : test place ≡ false = tells place (omega arith) ∙ ap is_some (fills ∙ none_is run.by parts.0) in
          rw t (sym (false_from_ne_true (list_all test (range_with_len from len))
          (λ all. both_ways (test place) unfilled (each_of_all test from len place all least (omega arith)))))
      | inr f ↦
          rw f (sym (all_by_each test from len (λ place least most.
          let found = run_at place 0 high runs joined (omega arith) (omega arith) in
          let run = found.0 in
          let has = does_have place run found.1.has in
          let whole : is_hole run ≡ false = elim (cases_Bool (is_hole run)) [
            | inr no_hole ↦ no_hole
            | inl hole ↦ absurd (both_ways (list_any (is_gap from to) runs) f
                (contains_any (is_gap from to) runs run found.1.contained
                (and_from (is_hole run) (nat_lt (max run.from from) (min run.to to)) hole (lt-ltb (max run.from from) (min run.to to) (omega (arith, has.0, has.1))))))
          ] in
          tells place (omega arith) ∙ ap is_some found.1.fills ∙ some_of run.by whole)))
    ]
