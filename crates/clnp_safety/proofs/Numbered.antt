-- Each transmission that a line tells of is the copy with its number, since all that is sent goes by a port that is there.
use Rattle.clnp_machine.proofs.ClnpBase.Lists.{AllByRecursion-append, AllByRecursion-implies, set_each, slice_get-push, slice_get_some}
use Rattle.std.proofs.Common.{◌≡◌, ◌∙◌, refl, sym, ap, subst, ℕ, zero, suc, ◌+◌, ◌<◌, inl, inr, true, List, [], ◌∷◌, ◌++◌, append-nil, length, Option, None, Some, arith}
use Rattle.std.specs.Prelude.{◌==◌, max, nat_lt, slice_get, slice_set}
use Rattle.std.specs.List.{AllByRecursion, list_any, range_with_len}
use Rattle.std.proofs.lemmas.Bool.{cases_Bool}
use Rattle.std.proofs.lemmas.Option.{same_Some}
use Rattle.clnp_machine.specs.Pdus.declared.nsap.target.Target.{Target}
use Rattle.clnp_machine.specs.ClnpPlan.Configuration.{SystemConfiguration}
use Rattle.clnp_machine.specs.ClnpPlan.Journal.{Line, Noted, Transmitted, Void, Late, Resized}
use Rattle.clnp_machine.specs.ClnpPlan.declared.config.Limits.{Limits}
use Rattle.clnp_machine.specs.ClnpPlan.declared.config.PortConfig.{PortConfig}
use Rattle.clnp_machine.specs.ClnpPlan.declared.note.Note.{Note}
use Rattle.clnp_machine.specs.ClnpPlan.declared.note.Note.TheVariants as note
use Rattle.clnp_machine.specs.Forwarding.Distinct.{has_prefix}
use Rattle.clnp_machine.specs.SystemTables.declared.forwarding.route.Route as forwarding
use Rattle.clnp_machine.specs.ClnpPlan.declared.config.Role.{Role}
use Rattle.clnp_machine.specs.ClnpPlan.declared.config.Role.TheVariants.{Host, Router}
use Rattle.clnp_machine.specs.ScenarioPlan.Plan.{Plan, Subnetwork, octets_of}
use Rattle.clnp_machine.specs.ClnpPlan.declared.scenario_plan.event.Event.{Event}
use Rattle.clnp_machine.specs.ClnpPlan.declared.scenario_plan.event.Event.TheVariants.{Send, Echo, Deliver, Settle, Lose, Tick, Restart, Congest, Inject, Mtu, Route, Unroute, Port}
use Rattle.clnp_machine.specs.ClnpPlan.declared.scenario_plan.event.Event.TheVariants as event
use Rattle.clnp_machine.specs.ClnpPlan.declared.scenario_plan.event.Move.{Move}
use Rattle.clnp_machine.specs.ClnpPlan.declared.scenario_plan.event.Move.TheVariants.{One, SettleOne, LoseOne, TickOne, TickSystem}
use Rattle.clnp_machine.specs.Unit.{Maker, DeclaredAt}
use Rattle.clnp_machine.specs.Content.{Content, Labelled, Esis, frame_of}
use Rattle.clnp_machine.specs.Attachment.{Attachment}
use Rattle.clnp_machine.specs.Change.{Change, PortIsAt, PortTakes, RouteIsGone, RouteIsSet}
use Rattle.clnp_machine.specs.System.{SystemState, Input, AsksToSend, AsksForEcho, MomentComes, IsRestarted, IsCongested, IsChanged, Output, Transmits, SendsEsis, Notes, Effect}
use Rattle.clnp_machine.specs.Ports.{ComesByPort, GoesByPort}
use Rattle.clnp_machine.specs.Step.{step}
use Rattle.clnp_machine.specs.ClnpNetwork.LabelledNetwork.{LabelledNetwork, Copy, Numbered, Step, addressees_from, after, asks_role, asks_system, comes, comes_to, copy_from, copy_numbered, deliver_at, deliver_to, enters, event_happens, first_port, followed_by, for_nobody, frame_to, give, give_each, give_to, injects_on, is_addressee, is_late, lose_copy, nothing, put_all_out, put_out, sends_frame, settle_copy, takes_effect, goes_on, tick_alone, tick_each, with_effect, writes, tells_of, ports_of, moved, moves_port_to, moves_port_of, moves_port_on, sets_route_as, sets_route_of, removes_route_as, removes_route_of, resizes_port_of, resizes_port, resizes_ports, resizes_at, resizes_each, resizes_on}
use Rattle.clnp_safety.specs.Growth.{IsCopyAt, IsFront, TellsItsCopy}
use Rattle.clnp_safety.specs.StepLaws.{StepLaws}
use Rattle.clnp_machine.proofs.ClnpBase.Choices.{one_of}
use Rattle.clnp_safety.proofs.Grows.{front-more}
use Rattle.clnp_safety.proofs.Redirects.{systems_after}

-- Copies stay where they are.

got_before : {X : Type 0} (xs ys : List X) (i : ℕ) (x : X) → slice_get xs i ≡ Some x → slice_get (xs ++ ys) i ≡ Some x
got_before [] ys i x e = absurd (cc)
got_before (y ∷ xs) ys zero x e = e
got_before (y ∷ xs) ys (suc i) x e = got_before xs ys i x e

numbered_before : (xs ys : List Copy) (number : ℕ) (copy : Copy) → copy_numbered number xs ≡ Some copy → copy_numbered number (xs ++ ys) ≡ Some copy
numbered_before xs ys zero copy e = absurd (cc)
numbered_before xs ys (suc at) copy e = got_before xs ys at copy e

-- a copy that is put behind others has the next number
numbered_push : (xs : List Copy) (number : ℕ) (copy : Copy) → number ≡ length xs + 1 → copy_numbered number (xs ++ copy ∷ []) ≡ Some copy
numbered_push xs zero copy is = absurd (omega arith)
numbered_push xs (suc at) copy is = slice_get-push xs at copy (omega arith)

line_later : (copies more : List Copy) (line : Line) → TellsItsCopy copies line → TellsItsCopy (copies ++ more) line
line_later copies more (Transmitted now name number port target octets) h = record {
  copy = h.copy;
  there = numbered_before copies more number h.copy h.there;
  for_target = h.for_target;
  carries = h.carries;
}
line_later copies more _ h = tt

-- the copies of a world stay after a part of a move, and each line tells of its copy
record Tells (w : LabelledNetwork) (taken : Step) : Type 0 where
  front : IsFront w.copies taken.world.copies
  lines : AllByRecursion (TellsItsCopy taken.world.copies) taken.lines

tells_both : (w : LabelledNetwork) (first : Step) (next : LabelledNetwork → Step) → Tells w first → Tells first.world (next first.world) → Tells w (followed_by first next)
tells_both w first next h k =
    let later : List Copy = (next first.world).world.copies in
    let more = k.front in
    record {
      front = subst (IsFront w.copies) (sym more.1) (front-more w.copies first.world.copies more.0 h.front);
      lines = AllByRecursion-append (TellsItsCopy later) first.lines (next first.world).lines
          (subst (λ (copies : List Copy). AllByRecursion (TellsItsCopy copies) first.lines) (sym more.1)
          (AllByRecursion-implies (TellsItsCopy first.world.copies) (TellsItsCopy (first.world.copies ++ more.0)) (line_later first.world.copies more.0) first.lines
          h.lines))
          k.lines;
    }

tells_nothing : (w : LabelledNetwork) → Tells w (nothing w)
tells_nothing w = record { front = ([], sym (append-nil w.copies)); lines = tt }

tells_line : (w : LabelledNetwork) (line : Line) → TellsItsCopy w.copies line → Tells w (writes w line)
tells_line w line h = record { front = ([], sym (append-nil w.copies)); lines = (h, tt) }

-- What a system gives out.

frame_tells : (system : SystemState) (w : LabelledNetwork) (port : ℕ) (target : Target) (maker : Maker) (birth : ℕ) (content : Content)
    → port < length system.attached.ports → Tells w (sends_frame system w port target maker birth content)
frame_tells system w port target maker birth content within =
    let found = slice_get_some system.attached.ports port within in
    let copy : Copy = record { subnet = found.0.subnet; sender = found.0.snpa; target = target; maker = maker; birth = birth; content = content } in
    record {
      front = (copy_from (slice_get system.attached.ports port) target maker birth content, refl);
      lines = (
        subst (λ (config : Option PortConfig).
            IsCopyAt (w.copies ++ copy_from config target maker birth content) (length w.copies + 1) target (frame_of content)) (sym found.1)
            (record { copy = copy; there = numbered_push w.copies (length w.copies + 1) copy refl; for_target = refl; carries = refl }),
        tt,
      );
    }

output_tells : (system : SystemState) (output : Output) → GoesByPort system output → (w : LabelledNetwork) → Tells w (put_out system w output)
output_tells system (Notes note) goes w = tells_line w _ tt
output_tells system (Transmits port target packet) goes w =
    frame_tells system w port target packet.unit.maker packet.unit.made (Labelled packet []) goes
output_tells system (SendsEsis port target value) goes w = frame_tells system w port target (DeclaredAt system.place) system.moment (Esis value []) goes

outputs_tell : (system : SystemState) (outputs : List Output) → AllByRecursion (GoesByPort system) outputs → (w : LabelledNetwork) → Tells w (put_all_out system w outputs)
outputs_tell system [] all w = tells_nothing w
outputs_tell system (output ∷ outputs) all w =
    tells_both w (put_out system w output) (λ v. put_all_out system v outputs) (output_tells system output all.0 w)
    (outputs_tell system outputs all.1 (put_out system w output).world)

goes_after : (s t : SystemState) → length t.attached.ports ≡ length s.attached.ports → (output : Output) → GoesByPort s output → GoesByPort t output
goes_after s t same (Transmits port target packet) h = subst (λ (number : ℕ). port < number) (sym same) h
goes_after s t same (SendsEsis port target value) h = subst (λ (number : ℕ). port < number) (sym same) h
goes_after s t same (Notes note) h = tt

-- the machine's law on ports
abbrev pub GoByPorts : Type 0
GoByPorts = (s : SystemState) (input : Input) → ComesByPort s input → AllByRecursion (GoesByPort s) (step s input).outputs

-- the first port by which a copy comes in is there, where there is one
first_is_there : (copy : Copy) (role : Role) (ports : List PortConfig) → list_any (enters copy role) ports ≡ true → first_port copy role ports < length ports
first_is_there copy role [] any = absurd (cc)
first_is_there copy role (port ∷ ports) any =
    elim (cases_Bool (enters copy role port)) [
      | inl here ↦ rw here (omega arith)
      | inr other ↦ let rest = first_is_there copy role ports (rw other at any) in rw other (omega arith)
    ]

-- the system at a place is configured and attached as one of some others there
record IsAsBefore (base : List SystemState) (place : ℕ) (s : SystemState) : Type 0 where
  before : SystemState
  there : slice_get base place ≡ Some before
  configuration : s.configuration ≡ before.configuration
  attached : s.attached ≡ before.attached

-- so are the systems of a world
abbrev AreAsBefore : List SystemState → LabelledNetwork → Type 0
AreAsBefore base w = (place : ℕ) (s : SystemState) → slice_get w.systems place ≡ Some s → IsAsBefore base place s

-- a copy is for the system at a place
abbrev IsFor : List SystemState → Copy → ℕ → Type 0
IsFor base copy place = (s : SystemState) → slice_get base place ≡ Some s → is_addressee copy s ≡ true

-- and so it is for one that is as that was
still_for : (base : List SystemState) (copy : Copy) (place : ℕ) (s : SystemState) → IsAsBefore base place s → IsFor base copy place → is_addressee copy s ≡ true
still_for base copy place s was for =
    subst (λ (c : SystemConfiguration). list_any (enters copy c.role) s.attached.ports ≡ true) (sym was.configuration)
    (subst (λ (a : Attachment). list_any (enters copy was.before.configuration.role) a.ports ≡ true) (sym was.attached) (for was.before was.there))

each_is_for : (base : List SystemState) (copy : Copy) (from : ℕ) (systems : List SystemState) → ((k : ℕ) → slice_get systems k ≡ slice_get base (from + k))
    → AllByRecursion (IsFor base copy) (addressees_from from copy systems)
each_is_for base copy from [] same = tt
each_is_for base copy from (system ∷ systems) same =
    let first : slice_get base from ≡ Some system =
    ap (slice_get base) (let none : from ≡ from + 0 = omega arith in none) ∙ sym (same 0) in
    let rest = each_is_for base copy (from + 1) systems
    (λ k. same (suc k) ∙ ap (slice_get base) (let next : from + suc k ≡ from + 1 + k = omega arith in next)) in
    elim (cases_Bool (is_addressee copy system)) [
      | inl is ↦ rw is ((λ s e. subst (λ (t : SystemState). is_addressee copy t ≡ true) (same_Some system s (sym first ∙ e)) is), rest)
      | inr isnt ↦ rw isnt rest
    ]

nobody_tells : (copies : List Copy) (now number : ℕ) (places : List ℕ) → AllByRecursion (TellsItsCopy copies) (for_nobody now number places)
nobody_tells copies now number [] = (tt, tt)
nobody_tells copies now number (place ∷ places) = tt

module _ (laws : StepLaws) (ports : GoByPorts) where
  effect_tells : (w : LabelledNetwork) (place : ℕ) (s : SystemState) (input : Input) → ComesByPort s input → Tells w (takes_effect w place (step s input))
  effect_tells w place s input comes =
      let effect : Effect = step s input in
      let told = outputs_tell effect.after effect.outputs
      (AllByRecursion-implies (GoesByPort s) (GoesByPort effect.after) (goes_after s effect.after (laws.steps.ports s input)) effect.outputs
      (ports s input comes)) (with_effect w place effect) in
      record { front = told.front; lines = told.lines }

  comes_to_tells : (w : LabelledNetwork) (place : ℕ) (input : Input) → ((s : SystemState) → ComesByPort s input) → (found : Option SystemState) → Tells w (comes_to w place input found)
  comes_to_tells w place input any None = tells_nothing w
  comes_to_tells w place input any (Some s) = effect_tells w place s input (any s)

  comes_tells : (w : LabelledNetwork) (place : ℕ) (input : Input) → ((s : SystemState) → ComesByPort s input) → Tells w (comes w place input)
  comes_tells w place input any = comes_to_tells w place input any (slice_get w.systems place)

  role_tells : (role : Role) (w : LabelledNetwork) (place : ℕ) (input : Input) → ((s : SystemState) → ComesByPort s input) → Tells w (asks_role role w place input)
  role_tells Host w place input any = comes_tells w place input any
  role_tells Router w place input any = tells_nothing w

  asks_tells : (w : LabelledNetwork) (place : ℕ) (input : Input) → ((s : SystemState) → ComesByPort s input) → (found : Option SystemState) → Tells w (asks_system w place input found)
  asks_tells w place input any None = tells_nothing w
  asks_tells w place input any (Some system) = role_tells system.configuration.role w place input any

  goes_on_tells : (w : LabelledNetwork) (place : ℕ) (found : Option SystemState) → Tells w (goes_on w place found)
  goes_on_tells w place None = tells_nothing w
  goes_on_tells w place (Some s) = comes_tells w place (MomentComes (s.moment + 1)) (λ t. tt)

  tick_each_tells : (places : List ℕ) (w : LabelledNetwork) → Tells w (tick_each w places)
  tick_each_tells [] w = tells_nothing w
  tick_each_tells (place ∷ places) w =
      let next = goes_on w place (slice_get w.systems place) in
      tells_both w next (λ v. tick_each v places) (goes_on_tells w place (slice_get w.systems place)) (tick_each_tells places next.world)

  tick_alone_tells : (w : LabelledNetwork) (place : ℕ) (found : Option SystemState) → Tells w (tick_alone w place found)
  tick_alone_tells w place None = tells_nothing w
  tick_alone_tells w place (Some s) =
      let told = goes_on_tells (record w { clock = max w.clock (s.moment + 1) }) place (Some s) in
      record { front = told.front; lines = told.lines }

  -- Copies that are given.

  module _ (limits : Limits) (given : Numbered) where
    give_to_tells : (w : LabelledNetwork) (place : ℕ) (found : Option SystemState) → ((s : SystemState) → found ≡ Some s → is_addressee given.copy s ≡ true)
        → Tells w (give_to limits given w place found)
    give_to_tells w place None for = tells_nothing w
    give_to_tells w place (Some s) for =
        elim (cases_Bool (is_late limits w given.copy)) [
          | inl late ↦ rw late (tells_line w (Late s.moment s.configuration.name given.number) tt)
          | inr soon ↦
              rw soon
              (let told = effect_tells w place s (frame_to s given.copy)
              (first_is_there given.copy s.configuration.role s.attached.ports (for s refl)) in
              record { front = told.front; lines = (tt, told.lines) })
        ]

    module _ (base : List SystemState) where
      given_as_before : (w : LabelledNetwork) (place : ℕ) (found : Option SystemState) → slice_get w.systems place ≡ found → AreAsBefore base w
          → AreAsBefore base (give_to limits given w place found).world
      given_as_before w place None e k = k
      given_as_before w place (Some s) e k =
          let input = frame_to s given.copy in
          let effect : Effect = step s input in
          let was = k place s e in
          elim (cases_Bool (is_late limits w given.copy)) [
            | inl late ↦ rw late k
            | inr soon ↦
                rw soon
                (subst (λ (systems : List SystemState). (at : ℕ) (t : SystemState) → slice_get systems at ≡ Some t → IsAsBefore base at t)
                (sym (systems_after w place effect))
                (set_each (IsAsBefore base) (IsAsBefore base) w.systems place effect.after k (λ other t apart h. h)
                (record {
                  before = was.before;
                  there = was.there;
                  configuration = (laws.steps.itself s input).configuration ∙ was.configuration;
                  attached = laws.steps.attached s input ∙ was.attached;
                })))
          ]

      give_each_tells : (places : List ℕ) → AllByRecursion (IsFor base given.copy) places → (w : LabelledNetwork) → AreAsBefore base w → Tells w (give_each limits given w places)
      give_each_tells [] for w k = tells_nothing w
      give_each_tells (place ∷ places) for w k =
          tells_both w (give limits given w place) (λ v. give_each limits given v places)
          (give_to_tells w place (slice_get w.systems place)
          (λ s e. still_for base given.copy place s (k place s e) for.0))
          (give_each_tells places for.1 (give limits given w place).world (given_as_before w place (slice_get w.systems place) refl k))

  settle_tells : (limits : Limits) (w : LabelledNetwork) (found : Option Copy) → Tells w (settle_copy limits w found)
  settle_tells limits w None = tells_nothing w
  settle_tells limits w (Some copy) =
      let given : Numbered = record { number = w.cursor + 1; copy = copy } in
      let told = give_each_tells limits given w.systems (addressees_from 0 copy w.systems)
      (each_is_for w.systems copy 0 w.systems (λ k. ap (slice_get w.systems) (let same : k ≡ 0 + k = omega arith in same)))
      (record w { cursor = w.cursor + 1 }) (λ place s e. record { before = s; there = e; configuration = refl; attached = refl }) in
      let next : LabelledNetwork = record w { cursor = w.cursor + 1 } in
      record {
        front = told.front;
        lines = AllByRecursion-append (TellsItsCopy (give_each limits given next (addressees_from 0 copy w.systems)).world.copies)
            (for_nobody w.clock (w.cursor + 1) (addressees_from 0 copy w.systems))
            (give_each limits given next (addressees_from 0 copy w.systems)).lines
            (nobody_tells (give_each limits given next (addressees_from 0 copy w.systems)).world.copies w.clock (w.cursor + 1) (addressees_from 0 copy w.systems))
            told.lines;
      }

  lose_tells : (w : LabelledNetwork) (found : Option Copy) → Tells w (lose_copy w found)
  lose_tells w None = tells_nothing w
  lose_tells w (Some copy) = record { front = ([], sym (append-nil w.copies)); lines = (tt, tt) }

  deliver_to_tells : (limits : Limits) (w : LabelledNetwork) (number place : ℕ) (found : Option Copy) (system : SystemState) → slice_get w.systems place ≡ Some system
      → Tells w (deliver_to limits w number place found system)
  deliver_to_tells limits w number place None system e = tells_line w (Void system.moment system.configuration.name number) tt
  deliver_to_tells limits w number place (Some copy) system e =
      elim (cases_Bool (is_addressee copy system)) [
        | inl is ↦
            rw is
            (give_to_tells limits (record { number = number; copy = copy }) w place (slice_get w.systems place)
            (λ s there. subst (λ (t : SystemState). is_addressee copy t ≡ true) (same_Some system s (sym e ∙ there)) is))
        | inr isnt ↦ rw isnt (tells_line w (Void system.moment system.configuration.name number) tt)
      ]

  deliver_tells : (limits : Limits) (w : LabelledNetwork) (number place : ℕ) (found : Option SystemState) → slice_get w.systems place ≡ found
      → Tells w (deliver_at limits w number place found)
  deliver_tells limits w number place None e = tells_nothing w
  deliver_tells limits w number place (Some system) e = deliver_to_tells limits w number place (copy_numbered number w.copies) system e

  injects_tells : (w : LabelledNetwork) (subnet : ℕ) (found : Option Subnetwork) (sender : List ℕ) (target : Target) (octets : List ℕ)
      → Tells w (injects_on w subnet found sender target octets)
  injects_tells w subnet None sender target octets = tells_nothing w
  injects_tells w subnet (Some declared) sender target octets = record { front = (_, refl); lines = (tt, tt) }

  -- Changes.

  told_tells : (w : LabelledNetwork) (place : ℕ) (system : SystemState) (change : Change) (told : Note)
      → Tells w (followed_by (comes w place (IsChanged change)) (tells_of system told))
  told_tells w place system change told =
      let changed = comes w place (IsChanged change) in
      tells_both w changed (tells_of system told) (comes_tells w place (IsChanged change) (λ s. tt))
      (tells_line changed.world (Noted system.moment system.configuration.name told) tt)

  port_to_tells : (w : LabelledNetwork) (place number subnet : ℕ) (snpa : List ℕ) (mtu : ℕ) (declared : Subnetwork) (system : SystemState) (found : Option PortConfig)
      → Tells w (moves_port_to w place number subnet snpa mtu declared system found)
  port_to_tells w place number subnet snpa mtu declared system None = tells_nothing w
  port_to_tells w place number subnet snpa mtu declared system (Some port) =
      told_tells w place system (PortIsAt number (moved port subnet mtu snpa)) (note.Port number declared.name snpa)

  port_of_tells : (w : LabelledNetwork) (place number subnet : ℕ) (snpa : List ℕ) (mtu : ℕ) (declared : Subnetwork) (found : Option SystemState)
      → Tells w (moves_port_of w place number subnet snpa mtu declared found)
  port_of_tells w place number subnet snpa mtu declared None = tells_nothing w
  port_of_tells w place number subnet snpa mtu declared (Some system) =
      port_to_tells w place number subnet snpa mtu declared system (slice_get system.attached.ports number)

  port_tells : (w : LabelledNetwork) (place number subnet : ℕ) (snpa : List ℕ) (declared : Option Subnetwork) (mtu : Option ℕ)
      → Tells w (moves_port_on w place number subnet snpa declared mtu)
  port_tells w place number subnet snpa None mtu = tells_nothing w
  port_tells w place number subnet snpa (Some declared) None = tells_nothing w
  port_tells w place number subnet snpa (Some declared) (Some mtu) =
      port_of_tells w place number subnet snpa mtu declared (slice_get w.systems place)

  route_as_tells : (role : Role) (w : LabelledNetwork) (place : ℕ) (system : SystemState) (route : forwarding.Route) → Tells w (sets_route_as role w place system route)
  route_as_tells Host w place system route = tells_nothing w
  route_as_tells Router w place system route =
      one_of (Tells w) (nat_lt route.port (length system.attached.ports))
      (followed_by (comes w place (IsChanged (RouteIsSet route))) (tells_of system (note.Route route.prefix))) (nothing w)
      (told_tells w place system (RouteIsSet route) (note.Route route.prefix)) (tells_nothing w)

  route_tells : (w : LabelledNetwork) (place : ℕ) (route : forwarding.Route) (found : Option SystemState) → Tells w (sets_route_of w place route found)
  route_tells w place route None = tells_nothing w
  route_tells w place route (Some system) = route_as_tells system.configuration.role w place system route

  unroute_as_tells : (role : Role) (w : LabelledNetwork) (place : ℕ) (system : SystemState) (prefix : List ℕ) → Tells w (removes_route_as role w place system prefix)
  unroute_as_tells Host w place system prefix = tells_nothing w
  unroute_as_tells Router w place system prefix =
      told_tells w place system (RouteIsGone prefix) (note.Unroute prefix (list_any (has_prefix prefix) system.attached.routes))

  unroute_tells : (w : LabelledNetwork) (place : ℕ) (prefix : List ℕ) (found : Option SystemState) → Tells w (removes_route_of w place prefix found)
  unroute_tells w place prefix None = tells_nothing w
  unroute_tells w place prefix (Some system) = unroute_as_tells system.configuration.role w place system prefix

  module _ (subnet mtu : ℕ) where
    resize_port_tells : (w : LabelledNetwork) (place number : ℕ) (found : Option PortConfig) → Tells w (resizes_port_of w place number subnet mtu found)
    resize_port_tells w place number None = tells_nothing w
    resize_port_tells w place number (Some port) =
        one_of (Tells w) (port.subnet == subnet) (comes w place (IsChanged (PortTakes number mtu))) (nothing w)
        (comes_tells w place (IsChanged (PortTakes number mtu)) (λ s. tt)) (tells_nothing w)

    resize_ports_tell : (place : ℕ) (numbers : List ℕ) (w : LabelledNetwork) → Tells w (resizes_ports w place subnet mtu numbers)
    resize_ports_tell place [] w = tells_nothing w
    resize_ports_tell place (number ∷ numbers) w =
        tells_both w (resizes_port w place number subnet mtu) (λ v. resizes_ports v place subnet mtu numbers)
        (resize_port_tells w place number (slice_get (ports_of (slice_get w.systems place)) number))
        (resize_ports_tell place numbers (resizes_port w place number subnet mtu).world)

    resize_each_tells : (places : List ℕ) (w : LabelledNetwork) → Tells w (resizes_each w subnet mtu places)
    resize_each_tells [] w = tells_nothing w
    resize_each_tells (place ∷ places) w =
        tells_both w (resizes_at w place subnet mtu) (λ v. resizes_each v subnet mtu places)
        (resize_ports_tell place (range_with_len 0 (length (ports_of (slice_get w.systems place)))) w)
        (resize_each_tells places (resizes_at w place subnet mtu).world)

    resize_tells : (w : LabelledNetwork) (found : Option Subnetwork) → Tells w (resizes_on w subnet mtu found)
    resize_tells w None = tells_nothing w
    resize_tells w (Some declared) =
        let first : LabelledNetwork = record w { mtus = slice_set w.mtus subnet mtu } in
        let each = resizes_each first subnet mtu (range_with_len 0 (length w.systems)) in
        let told = tells_both first each (λ v. writes v (Resized v.clock declared.name mtu)) (resize_each_tells (range_with_len 0 (length w.systems)) first)
        (tells_line each.world (Resized each.world.clock declared.name mtu) tt) in
        record { front = told.front; lines = told.lines }

  event_tells : (subnets : List Subnetwork) (limits : Limits) (w : LabelledNetwork) (asked : Option Event) → Tells w (event_happens subnets limits w asked)
  event_tells subnets limits w None = tells_nothing w
  event_tells subnets limits w (Some (Settle count)) = tells_nothing w
  event_tells subnets limits w (Some (Lose count)) = tells_nothing w
  event_tells subnets limits w (Some (Tick count)) = tells_nothing w
  event_tells subnets limits w (Some (event.TickSystem system count)) = tells_nothing w
  event_tells subnets limits w (Some (Deliver copy system)) = deliver_tells limits w copy system (slice_get w.systems system) refl
  event_tells subnets limits w (Some (Restart system)) = comes_tells w system IsRestarted (λ s. tt)
  event_tells subnets limits w (Some (Congest system on)) = comes_tells w system (IsCongested on) (λ s. tt)
  event_tells subnets limits w (Some (Send system from to body ask)) =
      asks_tells w system (AsksToSend from to (octets_of body) ask) (λ s. tt) (slice_get w.systems system)
  event_tells subnets limits w (Some (Echo system from to body)) = comes_tells w system (AsksForEcho from to (octets_of body)) (λ s. tt)
  event_tells subnets limits w (Some (Inject subnet from to octets)) = injects_tells w subnet (slice_get subnets subnet) from to octets
  event_tells subnets limits w (Some (Mtu subnet mtu)) = resize_tells subnet mtu w (slice_get subnets subnet)
  event_tells subnets limits w (Some (Route system route)) = route_tells w system route (slice_get w.systems system)
  event_tells subnets limits w (Some (Unroute system prefix)) = unroute_tells w system prefix (slice_get w.systems system)
  event_tells subnets limits w (Some (Port system number subnet snpa)) =
      port_tells w system number subnet snpa (slice_get subnets subnet) (slice_get w.mtus subnet)

  move_tells : (plan : Plan) (w : LabelledNetwork) (move : Move) → Tells w (after plan w move)
  move_tells plan w (One place) = event_tells plan.subnets plan.limits w (slice_get plan.events place)
  move_tells plan w SettleOne = settle_tells plan.limits w (slice_get w.copies w.cursor)
  move_tells plan w LoseOne = lose_tells w (slice_get w.copies w.cursor)
  move_tells plan w TickOne =
      let told = tick_each_tells (range_with_len 0 (length w.systems)) (record w { clock = w.clock + 1 }) in
      record { front = told.front; lines = told.lines }
  move_tells plan w (TickSystem place) = tick_alone_tells w place (slice_get w.systems place)

  pub lines_tell : (plan : Plan) (w : LabelledNetwork) (move : Move) → AllByRecursion (TellsItsCopy (after plan w move).world.copies) (after plan w move).lines
  lines_tell plan w move = (move_tells plan w move).lines
