-- A packet that is sent wasn't forwarded yet, or goes on from the one that came.
use Rattle.std.proofs.Common.{◌≡◌, refl, ℕ, ◌+◌, inl, inr, Bool, List, [], ◌∷◌, Option, None, Some, arith}
use Rattle.std.specs.Prelude.{slice_get}
use Rattle.std.specs.List.{AllByRecursion, flat_map}
use Rattle.clnp_plan.proofs.ClnpBase.Lists.{AllByRecursion-append, AllByRecursion-contains, AllByRecursion-implies, AllByRecursion-mapped}
use Rattle.clnp_plan.specs.Pdus.declared.pdu_header.kind.Kind.TheVariants.{Dt}
use Rattle.clnp_plan.specs.SystemTables.declared.esis_tables.fact.Neighbour.{Neighbour}
use Rattle.clnp_plan.specs.declared.config.PortConfig.{PortConfig}
use Rattle.clnp_machine.specs.Unit.{DataUnit, Packet, cut, whole_packet}
use Rattle.clnp_machine.specs.Content.{Labelled, Esis, Unlabelled}
use Rattle.clnp_machine.specs.System.{SystemState, Input, AsksToSend, AsksForEcho, FrameComes, MomentComes, IsRestarted, IsCongested, IsChanged, Output, Transmits, SendsEsis, Notes, Effect, then_does}
use Rattle.clnp_machine.specs.EditLaws.{EditLaws}
use Rattle.clnp_machine.specs.Esis.{esis_comes, forgets, says_hello}
use Rattle.clnp_machine.specs.Local.{Action, Deed, Sends, Tells, discard, make, receive, requests_echo, tick}
use Rattle.clnp_machine.specs.Step.{Hop, effect_of, first_sent, octets_come, options_behind, outputs_of, packet_comes, responds, sent_on, step, transmissions, unit_hop}
use Rattle.clnp_machine.specs.EveryStep.{GoesOnOf, IsFresh, IsOfHellos, OnlyHellos, SendsOn, SendsRangesOrGoesOn, moment_after}
use Rattle.clnp_machine.specs.Ways.{IsFirstOrGoesOn, IsOwnWhereFirst}
use Rattle.clnp_machine.proofs.Deeds.{step_fresh}
use Rattle.clnp_machine.proofs.Hellos.{only_comes, only_forgets, only_responds, only_says_hello, only_then}
use Rattle.clnp_machine.proofs.Passing.{going, packet_does}
use Rattle.clnp_machine.proofs.Sent.{IsPartOf, cut_is_parts, onward, step_sends}

-- Units that are made are sent in packets without hops.

abbrev SendsFirst : Output → Type 0
SendsFirst (Transmits port target packet) = packet.hops ≡ 0
SendsFirst _ = Unit {0}

transmitted_first : (u : DataUnit) (hop : Hop) (found : Option (List Packet))
    → ((packets : List Packet) → found ≡ Some packets → AllByRecursion (IsPartOf (whole_packet u)) packets) → AllByRecursion SendsFirst (transmissions hop found)
transmitted_first u hop None h = (tt, tt)
transmitted_first u hop (Some packets) h =
    AllByRecursion-mapped (IsPartOf (whole_packet u)) SendsFirst (λ packet. Transmits hop.port hop.target packet) packets (λ packet part. part.hops)
    (h packets refl)

sent_first : (hop : Hop) (port : Option PortConfig) (u : DataUnit) → AllByRecursion SendsFirst (sent_on hop port u)
sent_first hop None u = (tt, tt)
sent_first hop (Some port) u =
    transmitted_first u hop (cut (whole_packet u) port.mtu) (λ packets gives. cut_is_parts (whole_packet u) port.mtu packets gives)

first_first : (s : SystemState) (u : DataUnit) (hop : Option Hop) → AllByRecursion SendsFirst (first_sent s u hop)
first_first s u None = (tt, tt)
first_first s u (Some hop) = sent_first hop (slice_get s.attached.ports hop.port) u

deeds_first : (s : SystemState) (actions : List Action) → AllByRecursion SendsFirst (flat_map (outputs_of s) actions)
deeds_first s [] = tt
deeds_first s (Tells told ∷ actions) = (tt, deeds_first s actions)
deeds_first s (Sends u ∷ actions) =
    AllByRecursion-append SendsFirst (first_sent s u (unit_hop s u)) (flat_map (outputs_of s) actions) (first_first s u (unit_hop s u)) (deeds_first s actions)

-- All that is sent in a step.

module _ (laws : EditLaws) (s : SystemState) (input : Input) where
  abbrev pub AreSuch : List Output → Type 0
  AreSuch outputs = AllByRecursion (IsFirstOrGoesOn s input) outputs

  first_such : (output : Output) → SendsFirst output → IsFirstOrGoesOn s input output
  first_such (Transmits port target packet) h = inl h
  first_such (SendsEsis port target value) h = tt
  first_such (Notes note) h = tt

  hello_such : (output : Output) → IsOfHellos output → IsFirstOrGoesOn s input output
  hello_such (Transmits port target packet) h = absurd h
  hello_such (SendsEsis port target value) h = tt
  hello_such (Notes note) h = tt

  deed_such : (deed : Deed) → AreSuch (effect_of deed).outputs
  deed_such deed =
      AllByRecursion-implies SendsFirst (IsFirstOrGoesOn s input) first_such (flat_map (outputs_of deed.after) deed.actions)
      (deeds_first deed.after deed.actions)

  hellos_such : (t : SystemState) (effect : Effect) → OnlyHellos t effect → AreSuch effect.outputs
  hellos_such t effect h = AllByRecursion-implies IsOfHellos (IsFirstOrGoesOn s input) hello_such effect.outputs h.outputs

  then_such : (effect : Effect) (next : SystemState → Effect) → AreSuch effect.outputs → OnlyHellos effect.after (next effect.after)
      → AreSuch (then_does effect next).outputs
  then_such effect next h k =
      AllByRecursion-append (IsFirstOrGoesOn s input) effect.outputs (next effect.after).outputs h (hellos_such effect.after (next effect.after) k)

on_such : (s : SystemState) (at : ℕ) (sender : List ℕ) (to_group : Bool) (p : Packet) (following : List ℕ) (output : Output) → SendsOn s p output
    → IsFirstOrGoesOn s (FrameComes at sender to_group (Labelled p following)) output
on_such s at sender to_group p following (Transmits port target packet) h = inr h
on_such s at sender to_group p following (SendsEsis port target value) h = tt
on_such s at sender to_group p following (Notes note) h = tt

packet_such : (laws : EditLaws) (s : SystemState) (at : ℕ) (sender : List ℕ) (to_group : Bool) (p : Packet) (following : List ℕ)
    → AreSuch laws s (FrameComes at sender to_group (Labelled p following)) (packet_comes s (record { port = at; snpa = sender }) p following).outputs
packet_such laws s at sender to_group p following =
    let input : Input = FrameComes at sender to_group (Labelled p following) in
    let came : Neighbour = record { port = at; snpa = sender } in
    packet_does (λ effect. AreSuch laws s input effect.outputs) s came p following
    (λ reason of_none. deed_such laws s input (discard s (Labelled p following) reason 0))
    (λ router way port given there alive gives known.
    AllByRecursion-implies (SendsOn s p) (IsFirstOrGoesOn s input) (on_such s at sender to_group p following)
    (going s came p (options_behind s p.options) way given) (onward laws s p came way port given there alive gives))
    (tt, tt) (λ own. deed_such laws s input (receive s p following))

pub step_such : EditLaws → (s : SystemState) (input : Input) → AllByRecursion (IsFirstOrGoesOn s input) (step s input).outputs
step_such laws s (AsksToSend from to octets ask) = deed_such laws s (AsksToSend from to octets ask) (make s Dt from to octets ask)
step_such laws s (AsksForEcho from to octets) = deed_such laws s (AsksForEcho from to octets) (requests_echo s from to octets)
step_such laws s (FrameComes port sender to_group (Labelled p following)) =
    let neighbour : Neighbour = record { port = port; snpa = sender } in
    then_such laws s (FrameComes port sender to_group (Labelled p following)) (packet_comes s neighbour p following) (λ t. responds t neighbour to_group p)
    (packet_such laws s port sender to_group p following) (only_responds (packet_comes s neighbour p following).after neighbour to_group p)
step_such laws s (FrameComes port sender to_group (Esis value following)) =
    let neighbour : Neighbour = record { port = port; snpa = sender } in
    hellos_such laws s (FrameComes port sender to_group (Esis value following)) s (esis_comes s neighbour value) (only_comes s neighbour value)
step_such laws s (FrameComes port sender to_group (Unlabelled octets)) = deed_such laws s (FrameComes port sender to_group (Unlabelled octets)) (octets_come s octets)
step_such laws s (MomentComes now) =
    let ticked = (tick s now).after in
    then_such laws s (MomentComes now) (effect_of (tick s now)) (λ t. then_does (forgets s.moment t) says_hello) (deed_such laws s (MomentComes now) (tick s now))
    (only_then ticked (forgets s.moment ticked) says_hello (only_forgets s.moment ticked) (only_says_hello ticked))
step_such laws s IsRestarted = (tt, tt)
step_such laws s (IsCongested on) = (tt, tt)
step_such laws s (IsChanged change) = tt

-- What goes on has hops, so what has none is of a unit that was made.

on_hops : (s : SystemState) (port : ℕ) (input : Input) (p : Packet) → GoesOnOf s port input p → p.hops ≡ 0 → ⊥
on_hops s port (FrameComes at sender to_group (Labelled came following)) p on none =
    let hops : p.hops ≡ came.hops + 1 = on.hops in
    omega arith
on_hops s port (FrameComes at sender to_group (Esis value following)) p on none = on
on_hops s port (FrameComes at sender to_group (Unlabelled octets)) p on none = on
on_hops s port (AsksToSend from to octets ask) p on none = on
on_hops s port (AsksForEcho from to octets) p on none = on
on_hops s port (MomentComes now) p on none = on
on_hops s port IsRestarted p on none = on
on_hops s port (IsCongested congested) p on none = on
on_hops s port (IsChanged change) p on none = on

own_first : (s : SystemState) (input : Input) (output : Output) → SendsRangesOrGoesOn s input (step s input).units output → IsOwnWhereFirst s output
own_first s input (Transmits port target packet) (inl range) = λ first.
    (AllByRecursion-contains (IsFresh s (moment_after s input)) (step s input).units packet.unit range.unit (step_fresh s input)).maker
own_first s input (Transmits port target packet) (inr on) = λ first. absurd (on_hops s port input packet on first)
own_first s input (SendsEsis port target value) h = tt
own_first s input (Notes note) h = tt

pub step_own_first : EditLaws → (s : SystemState) (input : Input) → AllByRecursion (IsOwnWhereFirst s) (step s input).outputs
step_own_first laws s input =
    AllByRecursion-implies (SendsRangesOrGoesOn s input (step s input).units) (IsOwnWhereFirst s) (own_first s input) (step s input).outputs
    (step_sends laws s input)
