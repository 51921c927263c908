-- Events that are due, one after another.
use Rattle.std.proofs.Common.{◌≡◌, ℕ, ◌+◌, ◌<◌, ◌≤◌, ◌⊎◌, inl, inr, Bool, true, false, not, nat_le, zero, suc, List, [], ◌∷◌, ◌++◌, drop, length, get_or, add-one, refl, sym, ap, ◌∙◌, append-nil, arith}
use Rattle.std.specs.List.{filter, flat_map}
use Rattle.std.proofs.lemmas.Grind.{flat_map-append}
use Rattle.std.proofs.lemmas.List.Elements.{filter-append}
use Rattle.clnp_machine.specs.ClnpPlan.declared.config.Role.{Role}
use Rattle.clnp_machine.specs.System.{Input}
use Rattle.clnp_plan.specs.ScenarioPlan.Plan.{ticks_of}
use Rattle.clnp_plan.specs.declared.scenario_plan.event.Event.{Event}
use Rattle.clnp_plan.specs.declared.scenario_plan.event.Event.TheVariants.{Send, Deliver, Settle, Lose, Tick, TickSystem, Restart, Echo, Congest, Inject, Mtu, Route, Unroute, Port}
use Rattle.clnp_machine.specs.LiveModel.Turn.{Due, asked_by, due_behind, due_by, due_of, dues_from, is_due}
use Rattle.clnp_program.specs.LiveNode.Agenda.{asks_by, dues_of}
use Rattle.clnp_program.specs.declared.live_node.agenda.Agenda.{Agenda}

-- ---- one event

abbrev due_at : ℕ → Event → Due
due_at moment event = record { moment = moment; event = event }

-- one that is waited for asks nothing
abbrev IsWaitedFor : ℕ → Event → Type 0
IsWaitedFor moment event = (due_of moment event ≡ []) × ((role : Role) → asked_by role event ≡ [])

waited_or_due : (moment : ℕ) (event : Event) → IsWaitedFor moment event ⊎ (due_of moment event ≡ due_at moment event ∷ [])
waited_or_due moment (Tick count) = inl (refl, λ role. refl)
waited_or_due moment (TickSystem system count) = inl (refl, λ role. refl)
waited_or_due moment (Send system from to body ask) = inr refl
waited_or_due moment (Deliver copy system) = inr refl
waited_or_due moment (Settle count) = inr refl
waited_or_due moment (Lose count) = inr refl
waited_or_due moment (Restart system) = inr refl
waited_or_due moment (Echo system from to body) = inr refl
waited_or_due moment (Congest system on) = inr refl
waited_or_due moment (Inject subnet from to octets) = inr refl
waited_or_due moment (Mtu subnet mtu) = inr refl
waited_or_due moment (Route system route) = inr refl
waited_or_due moment (Unroute system prefix) = inr refl
waited_or_due moment (Port system number subnet snpa) = inr refl

passes : {X : Type 0} (test : X → Bool) (x : X) → test x ≡ true → filter test (x ∷ []) ≡ x ∷ []
passes test x e = rw e refl

falls : {X : Type 0} (test : X → Bool) (x : X) → test x ≡ false → filter test (x ∷ []) ≡ []
falls test x e = rw e refl

reached : (moment now : ℕ) → moment ≤ now → nat_le moment now ≡ true
reached moment now h = grind (arith, h)

not_reached : (moment now : ℕ) → now < moment → nat_le moment now ≡ false
not_reached moment now h = grind (arith, h)

-- ---- where it is due by a moment, it is done

asks_of : (now moment : ℕ) (role : Role) (event : Event) → moment ≤ now → asks_by now role (due_of moment event) ≡ asked_by role event
asks_of now moment role event h =
    elim (waited_or_due moment event) [
      | inl none ↦ ap (asks_by now role) none.0 ∙ sym (none.1 role)
      | inr one ↦
          ap (asks_by now role) one
          ∙ (ap (λ (dues : List Due). flat_map (λ (due : Due). asked_by role due.event) dues)
          (passes (is_due now) (due_at moment event) (reached moment now h))
          ∙ append-nil (asked_by role event))
    ]

left_of : (now moment : ℕ) (event : Event) → moment ≤ now → due_behind now (due_of moment event) ≡ []
left_of now moment event h =
    elim (waited_or_due moment event) [
      | inl none ↦ ap (due_behind now) none.0
      | inr one ↦ ap (due_behind now) one ∙ falls (λ (due : Due). not (is_due now due)) (due_at moment event) (ap not (reached moment now h))
    ]

-- the first of some events is done, and then the others
pub asks_first : (now moment : ℕ) (role : Role) (event : Event) (events : List Event) → moment ≤ now
    → asks_by now role (dues_from moment (event ∷ events)) ≡ asked_by role event ++ asks_by now role (dues_from (moment + ticks_of event) events)
asks_first now moment role event events h =
    let rest = dues_from (moment + ticks_of event) events in
    let asked : Due → List Input = λ due. asked_by role due.event in
    ap (λ (dues : List Due). flat_map asked dues) (filter-append (is_due now) (due_of moment event) rest)
    ∙ (flat_map-append asked (due_by now (due_of moment event)) (due_by now rest)
    ∙ ap (λ (inputs : List Input). inputs ++ asks_by now role rest) (asks_of now moment role event h))

-- and what is left is left of the others
pub left_first : (now moment : ℕ) (event : Event) (events : List Event) → moment ≤ now
    → due_behind now (dues_from moment (event ∷ events)) ≡ due_behind now (dues_from (moment + ticks_of event) events)
left_first now moment event events h =
    let rest = dues_from (moment + ticks_of event) events in
    filter-append (λ (due : Due). not (is_due now due)) (due_of moment event) rest
    ∙ ap (λ (dues : List Due). dues ++ due_behind now rest) (left_of now moment event h)

-- ---- where it is due later, it is left

none_of : (now moment : ℕ) (event : Event) → now < moment → due_by now (due_of moment event) ≡ []
none_of now moment event h =
    elim (waited_or_due moment event) [
      | inl none ↦ ap (due_by now) none.0
      | inr one ↦ ap (due_by now) one ∙ falls (is_due now) (due_at moment event) (not_reached moment now h)
    ]

kept_of : (now moment : ℕ) (event : Event) → now < moment → due_behind now (due_of moment event) ≡ due_of moment event
kept_of now moment event h =
    elim (waited_or_due moment event) [
      | inl none ↦ ap (due_behind now) none.0 ∙ sym none.0
      | inr one ↦
          ap (due_behind now) one
          ∙ (passes (λ (due : Due). not (is_due now due)) (due_at moment event) (ap not (not_reached moment now h)) ∙ sym one)
    ]

none_due : (now moment : ℕ) (events : List Event) → now < moment → due_by now (dues_from moment events) ≡ []
none_due now moment [] h = refl
none_due now moment (event ∷ events) h =
    let rest = dues_from (moment + ticks_of event) events in
    filter-append (is_due now) (due_of moment event) rest
    ∙ (ap (λ (dues : List Due). dues ++ due_by now rest) (none_of now moment event h)
    ∙ none_due now (moment + ticks_of event) events (omega (arith, h)))

-- nothing is asked by then
pub asks_none : (now moment : ℕ) (role : Role) (events : List Event) → now < moment → asks_by now role (dues_from moment events) ≡ []
asks_none now moment role events h = ap (λ (dues : List Due). flat_map (λ (due : Due). asked_by role due.event) dues) (none_due now moment events h)

-- and all are left
pub left_all : (now moment : ℕ) (events : List Event) → now < moment → due_behind now (dues_from moment events) ≡ dues_from moment events
left_all now moment [] h = refl
left_all now moment (event ∷ events) h =
    let rest = dues_from (moment + ticks_of event) events in
    filter-append (λ (due : Due). not (is_due now due)) (due_of moment event) rest
    ∙ (ap (λ (dues : List Due). dues ++ due_behind now rest) (kept_of now moment event h)
    ∙ ap (λ (dues : List Due). due_of moment event ++ dues) (left_all now (moment + ticks_of event) events (omega (arith, h))))

-- ---- one event of an agenda, and then the next

here : {X : Type 0} (xs : List X) (i : ℕ) (x : X) → x ≡ get_or xs i x → i < length xs → drop i xs ≡ x ∷ drop (i + 1) xs
here [] i x e h = absurd (omega (arith, h))
here (y ∷ xs) zero x e h = ap (λ z. z ∷ xs) (sym e)
here (y ∷ xs) (suc i) x e h =
    let r : drop i xs ≡ x ∷ drop (i + 1) xs = here xs i x e (omega (arith, h)) in
    rw add-one (rw add-one at r)

drop_none : {X : Type 0} (xs : List X) (i : ℕ) → length xs ≤ i → drop i xs ≡ []
drop_none [] zero h = refl
drop_none [] (suc i) h = refl
drop_none (x ∷ xs) zero h = absurd (omega (arith, h))
drop_none (x ∷ xs) (suc i) h = drop_none xs i (omega (arith, h))

module _ (now : ℕ) (agenda other : Agenda) (events : List Event) (event : Event) (due : agenda.moment ≤ now)
    (is : event ≡ get_or events agenda.next event) (within : agenda.next < length events) (next : other ≡ record { next = agenda.next + 1; moment = agenda.moment + ticks_of event }) where
  first_here : dues_of agenda events ≡ dues_from agenda.moment (event ∷ drop (agenda.next + 1) events)
  first_here = ap (λ (es : List Event). dues_from agenda.moment es) (here events agenda.next event is within)

  others_are : dues_from (agenda.moment + ticks_of event) (drop (agenda.next + 1) events) ≡ dues_of other events
  others_are = ap (λ (a : Agenda). dues_of a events) (sym next)

  pub asks_next : (role asked : Role) → asked ≡ role → asks_by now role (dues_of agenda events) ≡ asked_by asked event ++ asks_by now role (dues_of other events)
  asks_next role asked same =
      ap (λ (dues : List Due). asks_by now role dues) first_here
      ∙ (asks_first now agenda.moment role event (drop (agenda.next + 1) events) due
      ∙ (ap (λ (dues : List Due). asked_by role event ++ asks_by now role dues) others_are
      ∙ ap (λ (r : Role). asked_by r event ++ asks_by now role (dues_of other events)) (sym same)))

  pub left_next : due_behind now (dues_of other events) ≡ due_behind now (dues_of agenda events)
  left_next =
      sym (ap (λ (dues : List Due). due_behind now dues) first_here
      ∙ (left_first now agenda.moment event (drop (agenda.next + 1) events) due
      ∙ ap (λ (dues : List Due). due_behind now dues) others_are))

-- no event is left
pub no_dues : (agenda : Agenda) (events : List Event) → length events ≤ agenda.next → dues_of agenda events ≡ []
no_dues agenda events h = ap (λ (es : List Event). dues_from agenda.moment es) (drop_none events agenda.next h)
