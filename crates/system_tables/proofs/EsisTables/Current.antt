-- A table that keeps the current facts, as time goes on and as facts are heard.
use Rattle.std.proofs.Common.{◌≡◌, ℕ, ◌<◌, ◌≤◌, ◌==◌, Bool, true, false, cond, not, if◌then◌else◌, nat_le, List, [], ◌∷◌, ◌++◌, Option, None, Some, is_some, refl, sym, ap, subst, ◌∙◌, inl, inr, arith, length, map}
use Rattle.std.proofs.lemmas.Bool.{cases_Bool, cond_both, cond-true, cond-false, lt-ltb, le-ltb, ltb-true, eqb-true, eqb-false}
use Rattle.std.proofs.lemmas.List.Elements.{filter-append}
use Rattle.std.specs.List.{AllByRecursion, filter, find, list_any}
use Rattle.system_tables.specs.declared.esis_tables.fact.EsisLimits.{EsisLimits}
use Rattle.system_tables.specs.declared.esis_tables.fact.Heard.{Heard}
use Rattle.system_tables.specs.declared.esis_tables.fact.Heard.TheVariants.{New, Again, Zero, Full}
use Rattle.system_tables.specs.declared.esis_tables.fact.TableKind.{TableKind}
use Rattle.system_tables.specs.declared.esis_tables.fact.TableKind.TheVariants.{Es, Is, Rd}
use Rattle.system_tables.specs.EsisTables.Fact.{Fact, after, answer, current, currents, end_of, has_key, is_held, is_noted, latest, limit_of, same_table, while_held}
use Rattle.system_tables.specs.EsisTables.Gone.{ended_keys, gone_keys, key_of}
use Rattle.system_tables.specs.EsisTables.Keeps.{AreDistinct, Keeps, answer_of, kept_after, kept_with, without}
use Rattle.system_tables.specs.EsisTables.Order.{in_order}
use Rattle.system_tables.specs.EsisTables.Stands.{KeepsCurrent}
use Rattle.system_tables.specs.EsisTables.State.{TableState}
use Rattle.system_tables.proofs.EsisTables.Histories.{distinct-latest, find_latest, latest-elsewhere, latest-there}
use Rattle.system_tables.proofs.EsisTables.Numbers.{distinct-key}
use Rattle.system_tables.proofs.EsisTables.Rising.{all_filter, filter_all, filter_none}
use Rattle.system_tables.proofs.EsisTables.Sorting.{length-sorted}
use Rattle.pdus.proofs.ClnpBase.Lists.{AllByRecursion-push, AllByRecursion-implies}
use Rattle.pdus.proofs.ClnpBase.Found.{is_some-find}

pub same_table-itself : (table : TableKind) → same_table table table ≡ true
same_table-itself Es = refl
same_table-itself Is = refl
same_table-itself Rd = refl

filter_both : (p q : Fact → Bool) → ((fact : Fact) → p fact ≡ true → q fact ≡ true) → (facts : List Fact)
    → filter p (filter q facts) ≡ filter p facts
filter_both p q weaker [] = refl
filter_both p q weaker (fact ∷ later) =
    elim (cases_Bool (p fact)) [
      | inl t ↦ let s = weaker fact t in rw s (rw t (ap (λ l. fact ∷ l) (filter_both p q weaker later)))
      | inr f ↦ rw f (elim (cases_Bool (q fact)) [
        | inl t ↦ rw t (rw f (filter_both p q weaker later))
        | inr e ↦ rw e (filter_both p q weaker later)
      ])
    ]

filter_swap : (p q : Fact → Bool) (facts : List Fact) → filter p (filter q facts) ≡ filter q (filter p facts)
filter_swap p q [] = refl
filter_swap p q (fact ∷ later) =
    elim (cases_Bool (p fact)) [
      | inl t ↦ rw t (elim (cases_Bool (q fact)) [
        | inl s ↦ rw s (rw t (ap (λ l. fact ∷ l) (filter_swap p q later)))
        | inr e ↦ rw e (filter_swap p q later)
      ])
      | inr f ↦ rw f (elim (cases_Bool (q fact)) [
        | inl s ↦ rw s (rw f (filter_swap p q later))
        | inr e ↦ rw e (filter_swap p q later)
      ])
    ]

held_before : (before now : ℕ) → before ≤ now → (fact : Fact) → is_held now fact ≡ true → is_held before fact ≡ true
held_before before now le fact held =
    let below : now < end_of fact = ltb-true now (end_of fact) held in lt-ltb before (end_of fact) (omega arith)

-- what was current and still holds is current
pub currents_later : (before now : ℕ) (table : TableKind) (kept facts : List Fact) → before ≤ now
    → filter (is_held before) kept ≡ currents before table facts → filter (is_held now) kept ≡ currents now table facts
currents_later before now table kept facts le is =
    let weaker = held_before before now le in
    sym (filter_both (is_held now) (is_held before) weaker kept)
    ∙ ap (filter (is_held now)) is
    ∙ filter_both (is_held now) (is_held before) weaker (latest table facts)

find_filter : (now : ℕ) (key : List ℕ) (facts : List Fact) → AreDistinct facts
    → find (has_key key) (filter (is_held now) facts) ≡ while_held now (find (has_key key) facts)
find_filter now key [] distinct = refl
find_filter now key (fact ∷ later) distinct =
    elim (cases_Bool (has_key key fact)) [
      | inl t ↦
          let alone : find (has_key key) (filter (is_held now) later) ≡ None =
          found_none (filter (is_held now) later) (all_filter (λ other. has_key key other ≡ false) (is_held now) later (distinct-key key fact later distinct t)) in
          elim (cases_Bool (is_held now fact)) [
            | inl h ↦ ap (λ b. find (has_key key) (cond b (fact ∷ filter (is_held now) later) (filter (is_held now) later))) h
                ∙ cond-true (has_key key fact) (Some fact) (find (has_key key) (filter (is_held now) later)) t
                ∙ sym (ap (while_held now) (cond-true (has_key key fact) (Some fact) (find (has_key key) later) t) ∙ cond-true (is_held now fact) (Some fact) None h)
            | inr e ↦ ap (λ b. find (has_key key) (cond b (fact ∷ filter (is_held now) later) (filter (is_held now) later))) e
                ∙ alone
                ∙ sym (ap (while_held now) (cond-true (has_key key fact) (Some fact) (find (has_key key) later) t) ∙ cond-false (is_held now fact) (Some fact) None e)
          ]
      | inr f ↦
          passed (is_held now fact) f (find_filter now key later distinct.1)
          ∙ ap (while_held now) (sym (cond-false (has_key key fact) (Some fact) (find (has_key key) later) f))
    ]
  where
    found_none : (xs : List Fact) → AllByRecursion (λ other. has_key key other ≡ false) xs → find (has_key key) xs ≡ None
    found_none [] none = refl
    found_none (x ∷ xs) none = rw none.0 (found_none xs none.1)

    passed : (b : Bool) {o : Option Fact} → has_key key fact ≡ false → find (has_key key) (filter (is_held now) later) ≡ o
        → find (has_key key) (cond b (fact ∷ filter (is_held now) later) (filter (is_held now) later)) ≡ o
    passed true f step = cond-false (has_key key fact) (Some fact) (find (has_key key) (filter (is_held now) later)) f ∙ step
    passed false f step = step

-- all of them hold
abbrev pub AllHold : ℕ → List Fact → Type 0
AllHold now facts = AllByRecursion (λ fact. is_held now fact ≡ true) facts

none_passes : (now : ℕ) (facts : List Fact) → filter (λ fact. not (is_held now fact)) facts ≡ [] → AllHold now facts
none_passes now [] none = tt
none_passes now (fact ∷ later) none =
    elim (cases_Bool (is_held now fact)) [
      | inl t ↦ (t, none_passes now later (rw t at none))
      | inr f ↦ absurd (some_none (rw f at none))
    ]
  where
    some_none : {l : List Fact} → fact ∷ l ≡ [] → ⊥
    some_none e = cc

pub all_hold : (now : ℕ) (facts : List Fact) → [] ≡ ended_keys now facts → AllHold now facts
all_hold now facts none = none_passes now facts (empty_from (filter (λ fact. not (is_held now fact)) facts) (ap length none))
  where
    empty_from : (some : List Fact) → 0 ≡ length (in_order (λ key. key) (map key_of some)) → some ≡ []
    empty_from [] long = refl
    empty_from (fact ∷ later) long = absurd (omega (arith, length-sorted (λ (key : List ℕ). key) (map key_of (fact ∷ later))))

pub none_ended : (now : ℕ) (facts : List Fact) → AllHold now facts → [] ≡ ended_keys now facts
none_ended now facts all =
    sym (ap (λ l. in_order (λ key. key) (map key_of l))
    (filter_none (λ fact. not (is_held now fact)) facts (AllByRecursion-implies (λ fact. is_held now fact ≡ true) (λ fact. not (is_held now fact) ≡ false) (λ fact e. ap not e) facts all)))

module _ (table : TableKind) (state : TableState) (facts : List Fact) where
  -- the kept fact of a key, while it is held, is the current one
  pub current_is : (before now : ℕ) (left : List (List ℕ)) (keeps : KeepsCurrent table state facts before left) (key : List ℕ) → before ≤ now
      → while_held now (find (has_key key) keeps.kept) ≡ current now table key facts
  current_is before now left keeps key le =
      sym (find_filter now key keeps.kept keeps.keeps.distinct)
      ∙ ap (find (has_key key)) (currents_later before now table keeps.kept facts le keeps.current)
      ∙ find_filter now key (latest table facts) (distinct-latest table facts)
      ∙ ap (while_held now) (find_latest table key facts)

  -- with nothing left, what is kept is what is current
  pub kept_is : (now : ℕ) (keeps : KeepsCurrent table state facts now []) → keeps.kept ≡ currents now table facts
  kept_is now keeps = sym (filter_all (is_held now) keeps.kept (all_hold now keeps.kept keeps.left_is)) ∙ keeps.current

  -- time goes on
  pub later_keeps : (before now : ℕ) → KeepsCurrent table state facts before [] → before ≤ now
      → KeepsCurrent table state facts now (gone_keys before now table facts)
  later_keeps before now keeps le = record {
    kept = keeps.kept;
    keeps = keeps.keeps;
    current = currents_later before now table keeps.kept facts le keeps.current;
    left_is = ap (ended_keys now) (sym (kept_is before keeps));
  }

-- a hearing of another table
pub after-elsewhere : (table : TableKind) (now : ℕ) (limits : EsisLimits) (fact : Fact) (facts : List Fact) → same_table fact.table table ≡ false
    → currents now table (after limits fact facts) ≡ currents now table facts
after-elsewhere table now limits fact facts other =
    cond_both (is_noted (answer limits fact facts)) (facts ++ fact ∷ []) facts (λ l. currents now table l ≡ currents now table facts)
    (λ t. ap (filter (is_held now)) (latest-elsewhere table facts fact other)) (λ f. refl)

pub keeps-elsewhere : (table : TableKind) (state : TableState) (now : ℕ) (limits : EsisLimits) (fact : Fact) (facts : List Fact) (left : List (List ℕ))
    → same_table fact.table table ≡ false → KeepsCurrent table state facts now left → KeepsCurrent table state (after limits fact facts) now left
keeps-elsewhere table state now limits fact facts left other keeps =
    record {
      kept = keeps.kept;
      keeps = keeps.keeps;
      current = keeps.current ∙ sym (after-elsewhere table now limits fact facts other);
      left_is = keeps.left_is;
    }

-- the current facts of a table after a hearing of it
pub currents-there : (now : ℕ) (fact : Fact) (facts : List Fact) → same_table fact.table fact.table ≡ true
    → currents now fact.table (facts ++ fact ∷ []) ≡ without fact.key (currents now fact.table facts) ++ filter (is_held now) (fact ∷ [])
currents-there now fact facts same =
    ap (filter (is_held now)) (latest-there fact.table facts fact same)
    ∙ filter-append (is_held now) (without fact.key (latest fact.table facts)) (fact ∷ [])
    ∙ ap (λ l. l ++ filter (is_held now) (fact ∷ [])) (filter_swap (is_held now) (λ other. not (has_key fact.key other)) (latest fact.table facts))

answer_with : ℕ → Fact → Bool → ℕ → Heard
answer_with limit fact known entries =
    if fact.holding == 0 then Zero else if known then Again else if nat_le limit entries then Full entries else New

-- a hearing of this table
module _ (state : TableState) (limits : EsisLimits) (fact : Fact) (facts : List Fact) (same : same_table fact.table fact.table ≡ true)
    (limit : state.limit ≡ limit_of fact.table limits) (keeps : KeepsCurrent fact.table state facts fact.moment []) where
  hold : AllHold fact.moment keeps.kept
  hold = all_hold fact.moment keeps.kept keeps.left_is

  known_is : list_any (has_key fact.key) keeps.kept ≡ is_some (current fact.moment fact.table fact.key facts)
  known_is =
      sym (is_some-find (has_key fact.key) keeps.kept)
      ∙ ap is_some (ap (find (has_key fact.key)) (sym (filter_all (is_held fact.moment) keeps.kept hold))
      ∙ find_filter fact.moment fact.key keeps.kept keeps.keeps.distinct
      ∙ current_is fact.table state facts fact.moment fact.moment [] keeps fact.key (omega arith))

  pub answer_is : answer_of state.limit fact keeps.kept ≡ answer limits fact facts
  unfolding answer_with
  answer_is =
      ap (λ b. answer_with state.limit fact b (length keeps.kept)) known_is
      ∙ ap (λ n. answer_with n fact (is_some (current fact.moment fact.table fact.key facts)) (length keeps.kept)) limit
      ∙ ap (λ l. answer_with (limit_of fact.table limits) fact (is_some (current fact.moment fact.table fact.key facts)) (length l)) (kept_is fact.table state facts fact.moment keeps)

  -- what is kept after it
  record Heard' (kept' facts' : List Fact) : Type 0 where
    pub all : AllHold fact.moment kept'
    pub is : kept' ≡ currents fact.moment fact.table facts'

  noted_zero : (fact.holding == 0) ≡ true → Heard' (without fact.key keeps.kept) (facts ++ fact ∷ [])
  noted_zero zero =
      let ended : end_of fact ≤ fact.moment = omega (arith, eqb-true fact.holding 0 zero) in
      let not_held : is_held fact.moment fact ≡ false = le-ltb fact.moment (end_of fact) ended in
      record {
        all = all_filter (λ other. is_held fact.moment other ≡ true) (λ other. not (has_key fact.key other)) keeps.kept hold;
        is = ap (without fact.key) (kept_is fact.table state facts fact.moment keeps)
            ∙ sym (append_none (without fact.key (currents fact.moment fact.table facts)))
            ∙ ap (λ b. without fact.key (currents fact.moment fact.table facts) ++ cond b (fact ∷ []) []) (sym not_held)
            ∙ sym (currents-there fact.moment fact facts same);
      }
    where
      append_none : (l : List Fact) → l ++ [] ≡ l
      append_none [] = refl
      append_none (x ∷ l) = ap (λ r. x ∷ r) (append_none l)

  noted_held : (fact.holding == 0) ≡ false → Heard' (kept_with fact keeps.kept) (facts ++ fact ∷ [])
  noted_held lasts =
      let holds : fact.moment < end_of fact = omega (arith, eqb-false fact.holding 0 lasts) in
      let held : is_held fact.moment fact ≡ true = lt-ltb fact.moment (end_of fact) holds in
      record {
        all = AllByRecursion-push (λ other. is_held fact.moment other ≡ true) (without fact.key keeps.kept) fact
            (all_filter (λ other. is_held fact.moment other ≡ true) (λ other. not (has_key fact.key other)) keeps.kept hold) held;
        is = ap (λ l. without fact.key l ++ fact ∷ []) (kept_is fact.table state facts fact.moment keeps)
            ∙ ap (λ b. without fact.key (currents fact.moment fact.table facts) ++ cond b (fact ∷ []) []) (sym held)
            ∙ sym (currents-there fact.moment fact facts same);
      }

  heard : Heard' (kept_after state.limit fact keeps.kept) (after limits fact facts)
  heard =
      elim (cases_Bool (fact.holding == 0)) [
        | inl zero ↦
            let kept' : kept_after state.limit fact keeps.kept ≡ without fact.key keeps.kept =
            cond-true (fact.holding == 0) (without fact.key keeps.kept) (if is_noted (answer_of state.limit fact keeps.kept) then kept_with fact keeps.kept else keeps.kept) zero in
            let answered : answer limits fact facts ≡ Zero = rw zero refl in
            let facts' : after limits fact facts ≡ facts ++ fact ∷ [] = ap (λ a. if is_noted a then facts ++ fact ∷ [] else facts) answered in
            subst (λ k. Heard' k (after limits fact facts)) (sym kept') (subst (Heard' (without fact.key keeps.kept)) (sym facts') (noted_zero zero))
        | inr lasts ↦
            let kept' : kept_after state.limit fact keeps.kept ≡ (if is_noted (answer_of state.limit fact keeps.kept) then kept_with fact keeps.kept else keeps.kept) =
            cond-false (fact.holding == 0) (without fact.key keeps.kept) (if is_noted (answer_of state.limit fact keeps.kept) then kept_with fact keeps.kept else keeps.kept) lasts in
            let both : Heard' (if is_noted (answer_of state.limit fact keeps.kept) then kept_with fact keeps.kept else keeps.kept) (if is_noted (answer_of state.limit fact keeps.kept) then facts ++ fact ∷ [] else facts) =
            either (is_noted (answer_of state.limit fact keeps.kept)) lasts in
            let facts' : (if is_noted (answer_of state.limit fact keeps.kept) then facts ++ fact ∷ [] else facts) ≡ after limits fact facts =
            ap (λ a. if is_noted a then facts ++ fact ∷ [] else facts) answer_is in
            subst (λ k. Heard' k (after limits fact facts)) (sym kept')
            (subst (Heard' (if is_noted (answer_of state.limit fact keeps.kept) then kept_with fact keeps.kept else keeps.kept)) facts' both)
      ]
    where
      either : (b : Bool) → (fact.holding == 0) ≡ false → Heard' (if b then kept_with fact keeps.kept else keeps.kept) (if b then facts ++ fact ∷ [] else facts)
      either true lasts = noted_held lasts
      either false lasts = record { all = hold; is = kept_is fact.table state facts fact.moment keeps }

  pub heard_keeps : (new : TableState) → Keeps new (kept_after state.limit fact keeps.kept)
      → KeepsCurrent fact.table new (after limits fact facts) fact.moment []
  heard_keeps new keeps' = record {
    kept = kept_after state.limit fact keeps.kept;
    keeps = keeps';
    current = filter_all (is_held fact.moment) (kept_after state.limit fact keeps.kept) heard.all ∙ heard.is;
    left_is = none_ended fact.moment (kept_after state.limit fact keeps.kept) heard.all;
  }

-- the current fact of a key is among the current ones
pub found_current : (now : ℕ) (table : TableKind) (key : List ℕ) (facts : List Fact)
    → find (has_key key) (currents now table facts) ≡ current now table key facts
found_current now table key facts =
    find_filter now key (latest table facts) (distinct-latest table facts) ∙ ap (while_held now) (find_latest table key facts)

-- as time goes on, no more facts are current
pub fewer_later : (before now : ℕ) (table : TableKind) (facts : List Fact) → before ≤ now
    → length (currents now table facts) ≤ length (currents before table facts)
fewer_later before now table facts le = fewer (latest table facts)
  where
    fewer : (some : List Fact) → length (filter (is_held now) some) ≤ length (filter (is_held before) some)
    fewer [] = omega arith
    fewer (fact ∷ later) =
        let step = fewer later in
        elim (cases_Bool (is_held now fact)) [
          | inl t ↦ let s = held_before before now le fact t in rw s (rw t (omega arith))
          | inr f ↦ rw f (elim (cases_Bool (is_held before fact)) [
            | inl s ↦ rw s (omega arith)
            | inr e ↦ rw e step
          ])
        ]
