-- Each event is done once, in order, and as soon as it is due.
use Rattle.std.proofs.Common.{◌≡◌, ◌∙◌, ap, refl, append_assoc, ℕ, ◌+◌, ◌<◌, ◌≤◌, Bool, true, false, List, [], ◌∷◌, ◌++◌, inl, inr, arith}
use Rattle.std.specs.Prelude.{nat_le, not}
use Rattle.std.specs.List.{AllByRecursion}
use Rattle.std.proofs.lemmas.Bool.{cases_Bool}
use Rattle.std.proofs.lemmas.Bool.Decides.{nat_tests}
use Rattle.clnp_plan.proofs.ClnpBase.Filters.{AllByRecursion-filter}
use Rattle.clnp_plan.proofs.ClnpBase.Lists.{AllByRecursion-any, AllByRecursion-both, AllByRecursion-implies}
use Rattle.clnp_plan.specs.declared.scenario_plan.event.Event.{Event}
use Rattle.clnp_plan.specs.declared.scenario_plan.event.Event.TheVariants.{Send, Deliver, Settle, Lose, Tick, TickSystem, Restart, Echo, Congest, Inject, Mtu, Route, Unroute, Port}
use Rattle.clnp_machine.specs.LiveModel.Turn.{Due, due_behind, due_by, dues_from, is_due}
use Rattle.clnp_machine.specs.LiveModel.Events.{IsFirstDue, IsLaterThan, done_in, waiting_behind}

at_least : (now moment : ℕ) → nat_le moment now ≡ true → moment ≤ now
at_least now moment e = grind (arith, nat_tests)

less_than : (now moment : ℕ) → nat_le moment now ≡ false → now < moment
less_than now moment e = grind (arith, nat_tests)

not_yet : (now moment : ℕ) → now < moment → nat_le moment now ≡ false
not_yet now moment e = grind (arith, nat_tests)

was_not : (b : Bool) → not b ≡ true → b ≡ false
was_not true e = absurd (cc)
was_not false e = refl

-- ---- as soon as it is due

waiting_keep : (P : Due → Type 0) (moments : List ℕ) (dues : List Due) → AllByRecursion P dues → AllByRecursion P (waiting_behind moments dues)
waiting_keep P [] dues h = h
waiting_keep P (now ∷ moments) dues h =
    waiting_keep P moments (due_behind now dues) (AllByRecursion-filter (λ due. not (is_due now due)) P P (λ due t p. p) dues h)

pub waiting_are_later : (moments : List ℕ) (dues : List Due) → AllByRecursion (IsLaterThan moments) (waiting_behind moments dues)
waiting_are_later [] dues = AllByRecursion-any (IsLaterThan []) (λ due. tt) dues
waiting_are_later (now ∷ moments) dues =
    AllByRecursion-both (λ (due : Due). now < due.moment) (IsLaterThan moments) (IsLaterThan (now ∷ moments)) (λ due first others. (first, others))
    (waiting_behind moments (due_behind now dues))
    (waiting_keep (λ (due : Due). now < due.moment) moments (due_behind now dues)
    (AllByRecursion-filter (λ due. not (is_due now due)) (λ (due : Due). Unit {0}) (λ (due : Due). now < due.moment)
    (λ due t p. less_than now due.moment (was_not (is_due now due) t)) dues (AllByRecursion-any (λ (due : Due). Unit {0}) (λ due. tt) dues)))
    (waiting_are_later moments (due_behind now dues))

pub due_first : (before : List ℕ) (now : ℕ) (dues : List Due) → AllByRecursion (IsFirstDue before now) (due_by now (waiting_behind before dues))
due_first before now dues =
    AllByRecursion-filter (is_due now) (IsLaterThan before) (IsFirstDue before now) (λ due t p. record { reached = at_least now due.moment t; later = p })
    (waiting_behind before dues) (waiting_are_later before dues)

-- ---- once, in order

abbrev IsFrom : ℕ → List Due → Type 0
IsFrom moment dues = AllByRecursion (λ (due : Due). moment ≤ due.moment) dues

abbrev AreRising : List Due → Type 0
AreRising [] = Unit {0}
AreRising (due ∷ dues) = IsFrom due.moment dues × AreRising dues

record AreDues (moment : ℕ) (dues : List Due) : Type 0 where
  rising : AreRising dues
  from_then : IsFrom moment dues

sooner : (early late : ℕ) → early ≤ late → (dues : List Due) → IsFrom late dues → IsFrom early dues
sooner early late le dues h =
    AllByRecursion-implies (λ (due : Due). late ≤ due.moment) (λ (due : Due). early ≤ due.moment) (λ due k. omega arith) dues h

-- an event that is done at once
one_more : (moment : ℕ) (event : Event) (dues : List Due) → AreDues (moment + 0) dues → AreDues moment (record { moment = moment; event = event } ∷ dues)
one_more moment event dues h =
    record {
      rising = (sooner moment (moment + 0) (omega arith) dues h.from_then, h.rising);
      from_then = (omega arith, sooner moment (moment + 0) (omega arith) dues h.from_then);
    }

dues_are : (events : List Event) (moment : ℕ) → AreDues moment (dues_from moment events)
dues_are [] moment = record { rising = tt; from_then = tt }
dues_are (Tick count ∷ events) moment =
    let h = dues_are events (moment + count) in
    record { rising = h.rising; from_then = sooner moment (moment + count) (omega arith) (dues_from (moment + count) events) h.from_then }
dues_are (TickSystem system count ∷ events) moment =
    let h = dues_are events (moment + count) in
    record { rising = h.rising; from_then = sooner moment (moment + count) (omega arith) (dues_from (moment + count) events) h.from_then }
dues_are (Send system from to body ask ∷ events) moment = one_more moment (Send system from to body ask) (dues_from (moment + 0) events) (dues_are events (moment + 0))
dues_are (Echo system from to body ∷ events) moment = one_more moment (Echo system from to body) (dues_from (moment + 0) events) (dues_are events (moment + 0))
dues_are (Deliver copy system ∷ events) moment = one_more moment (Deliver copy system) (dues_from (moment + 0) events) (dues_are events (moment + 0))
dues_are (Settle count ∷ events) moment = one_more moment (Settle count) (dues_from (moment + 0) events) (dues_are events (moment + 0))
dues_are (Lose count ∷ events) moment = one_more moment (Lose count) (dues_from (moment + 0) events) (dues_are events (moment + 0))
dues_are (Restart system ∷ events) moment = one_more moment (Restart system) (dues_from (moment + 0) events) (dues_are events (moment + 0))
dues_are (Congest system on ∷ events) moment = one_more moment (Congest system on) (dues_from (moment + 0) events) (dues_are events (moment + 0))
dues_are (Inject subnet from to octets ∷ events) moment =
    one_more moment (Inject subnet from to octets) (dues_from (moment + 0) events) (dues_are events (moment + 0))
dues_are (Mtu subnet mtu ∷ events) moment = one_more moment (Mtu subnet mtu) (dues_from (moment + 0) events) (dues_are events (moment + 0))
dues_are (Route system route ∷ events) moment =
    one_more moment (Route system route) (dues_from (moment + 0) events) (dues_are events (moment + 0))
dues_are (Unroute system prefix ∷ events) moment =
    one_more moment (Unroute system prefix) (dues_from (moment + 0) events) (dues_are events (moment + 0))
dues_are (Port system number subnet snpa ∷ events) moment =
    one_more moment (Port system number subnet snpa) (dues_from (moment + 0) events) (dues_are events (moment + 0))

-- behind one that isn't due none is
none_due : (now moment : ℕ) (dues : List Due) → now < moment → IsFrom moment dues → due_by now dues ≡ []
none_due now moment [] late h = refl
none_due now moment (due ∷ dues) late h =
    let le : moment ≤ due.moment = h.0 in
    let lt : now < due.moment = omega arith in
    rw (not_yet now due.moment lt) (none_due now moment dues late h.1)

all_later : (now moment : ℕ) (dues : List Due) → now < moment → IsFrom moment dues → due_behind now dues ≡ dues
all_later now moment [] late h = refl
all_later now moment (due ∷ dues) late h =
    let le : moment ≤ due.moment = h.0 in
    let lt : now < due.moment = omega arith in
    rw (not_yet now due.moment lt) (ap (λ ds. due ∷ ds) (all_later now moment dues late h.1))

due_and_later : (now : ℕ) (dues : List Due) → AreRising dues → due_by now dues ++ due_behind now dues ≡ dues
due_and_later now [] h = refl
due_and_later now (due ∷ dues) h =
    elim (cases_Bool (is_due now due)) [
      | inl t ↦ rw t (ap (λ ds. due ∷ ds) (due_and_later now dues h.1))
      | inr f ↦
          let late = less_than now due.moment f in
          rw f (ap (λ ds. ds ++ due ∷ due_behind now dues) (none_due now due.moment dues late h.0)
          ∙ ap (λ ds. due ∷ ds) (all_later now due.moment dues late h.0))
    ]

later_rise : (now : ℕ) (dues : List Due) → AreRising dues → AreRising (due_behind now dues)
later_rise now [] h = tt
later_rise now (due ∷ dues) h =
    elim (cases_Bool (is_due now due)) [
      | inl t ↦ rw t (later_rise now dues h.1)
      | inr f ↦
          rw f (
            AllByRecursion-filter (λ d. not (is_due now d)) (λ (d : Due). due.moment ≤ d.moment) (λ (d : Due). due.moment ≤ d.moment) (λ d t p. p) dues h.0,
            later_rise now dues h.1,
          )
    ]

each_once : (moments : List ℕ) (dues : List Due) → AreRising dues → done_in moments dues ++ waiting_behind moments dues ≡ dues
each_once [] dues h = refl
each_once (now ∷ moments) dues h =
    append_assoc (due_by now dues) (done_in moments (due_behind now dues)) (waiting_behind moments (due_behind now dues))
    ∙ (ap (λ ds. due_by now dues ++ ds) (each_once moments (due_behind now dues) (later_rise now dues h)) ∙ due_and_later now dues h)

pub events_once : (start : ℕ) (events : List Event) (moments : List ℕ)
    → done_in moments (dues_from start events) ++ waiting_behind moments (dues_from start events) ≡ dues_from start events
events_once start events moments = each_once moments (dues_from start events) (dues_are events start).rising
