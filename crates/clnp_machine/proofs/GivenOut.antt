-- Each unit that is made in a step is sent or dropped in it.
use Rattle.std.proofs.Common.{◌≡◌, refl, sym, ap, subst, ◌∙◌, ℕ, ◌≤◌, true, List, [], ◌∷◌, ◌++◌, length, All}
use Rattle.std.specs.List.{AllByRecursion, flat_map}
use Rattle.std.proofs.lemmas.List.{append_assoc}
use Rattle.clnp_plan.proofs.ClnpBase.Lists.{AllByRecursion-append, AllByRecursion-implies}
use Rattle.clnp_plan.specs.Nsap.Address.{IsAddress}
use Rattle.clnp_plan.specs.Pdus.declared.pdu_header.kind.Kind.TheVariants.{Dt, Erq}
use Rattle.clnp_plan.specs.Configuration.{IsPort, IsSystem}
use Rattle.clnp_plan.specs.SystemTables.declared.esis_tables.fact.Neighbour.{Neighbour}
use Rattle.clnp_machine.specs.Unit.{DataUnit, Packet}
use Rattle.clnp_machine.specs.Content.{Esis, Labelled, Unlabelled}
use Rattle.clnp_machine.specs.System.{SystemState, Input, AsksToSend, AsksForEcho, FrameComes, MomentComes, IsRestarted, IsCongested, IsChanged, Output, Notes, Effect, then_does}
use Rattle.clnp_machine.specs.Esis.{esis_comes, forgets, says_hello}
use Rattle.clnp_machine.specs.Local.{Action, Deed, Sends, Tells, at_moment, discard, echo_ask, header_size, made_in, make, receive, tick}
use Rattle.clnp_machine.specs.Step.{effect_of, first_sent, octets_come, outputs_of, packet_comes, responds, step, unit_hop}
use Rattle.clnp_machine.specs.EveryStep.{IsFair, KeepsAsOffered, OnlyHellos, moment_after}
use Rattle.clnp_machine.specs.Whereabouts.{GivesOutFor, IsSentOrDropped}
use Rattle.clnp_machine.proofs.Deeds.{AllSuch, CausesSuch, Does, does_discard, does_make, does_receive, does_tick, does_with_octets, goes-nowhere}
use Rattle.clnp_machine.proofs.Hellos.{only_comes, only_forgets, only_responds, only_says_hello, only_then}
use Rattle.clnp_machine.proofs.Passing.{packet_does}
use Rattle.clnp_machine.proofs.Sendable.{IsSendable, all_sendable}
use Rattle.clnp_machine.proofs.SentUnits.{AreAlike, sent_alike, sent_or_dropped}

-- what is given out for a unit among some outputs is among these with others before or behind them

given_behind : (s : SystemState) (front outputs : List Output) (u : DataUnit) → GivesOutFor s outputs u → GivesOutFor s (front ++ outputs) u
given_behind s front outputs u h = record {
  before = front ++ h.before;
  given = h.given;
  behind = h.behind;
  among = ap (λ (more : List Output). front ++ more) h.among
      ∙ sym (append_assoc front (h.before ++ h.given) h.behind)
      ∙ ap (λ (more : List Output). more ++ h.behind) (sym (append_assoc front h.before h.given));
  goes = h.goes;
}

given_before : (s : SystemState) (outputs more : List Output) (u : DataUnit) → GivesOutFor s outputs u → GivesOutFor s (outputs ++ more) u
given_before s outputs more u h = record {
  before = h.before;
  given = h.given;
  behind = h.behind ++ more;
  among = ap (λ (front : List Output). front ++ more) h.among ∙ append_assoc (h.before ++ h.given) h.behind more;
  goes = h.goes;
}

-- each unit of an effect is given out for
abbrev GivesOut : SystemState → Effect → Type 0
GivesOut s effect = AllByRecursion (GivesOutFor s effect.outputs) effect.units

module _ (s t : SystemState) (are : AreAlike s t) (each : AllByRecursion IsPort s.attached.ports) where
  actions_give : (actions : List Action) → AllByRecursion IsSendable (made_in actions)
      → AllByRecursion (GivesOutFor s (flat_map (outputs_of t) actions)) (made_in actions)
  actions_give [] such = tt
  actions_give (Tells told ∷ actions) such =
      let rest = flat_map (outputs_of t) actions in
      AllByRecursion-implies (GivesOutFor s rest) (GivesOutFor s (Notes told ∷ rest)) (given_behind s (Notes told ∷ []) rest) (made_in actions)
      (actions_give actions such)
  actions_give (Sends u ∷ actions) such =
      let rest = flat_map (outputs_of t) actions in
      let sent = first_sent t u (unit_hop t u) in
      let fits : header_size u ≤ 254 = such.0.header in (
        record {
          before = [];
          given = sent;
          behind = rest;
          among = refl;
          goes = subst (IsSentOrDropped s u) (sym (sent_alike s t are u)) (sent_or_dropped s each u fits);
        },
        AllByRecursion-implies (GivesOutFor s rest) (GivesOutFor s (sent ++ rest)) (given_behind s sent rest) (made_in actions) (actions_give actions such.1),
      )

deed_gives : (s : SystemState) (deed : Deed) → AllByRecursion IsPort s.attached.ports → Does IsSendable s deed → GivesOut s (effect_of deed)
deed_gives s deed each h =
    actions_give s deed.after
    (record { configuration = h.goes.itself.configuration; moment = h.goes.moment; facts = h.heard.facts; attached = h.goes.attached }) each
    deed.actions h.makes.such

none_gives : (s : SystemState) (effect : Effect) → effect.units ≡ [] → GivesOut s effect
none_gives s effect none = subst (AllByRecursion (GivesOutFor s effect.outputs)) (sym none) tt

then_gives : (s : SystemState) (effect : Effect) (next : SystemState → Effect) → GivesOut s effect → OnlyHellos effect.after (next effect.after)
    → GivesOut s (then_does effect next)
then_gives s effect next h only =
    let more = (next effect.after).outputs in
    let units = (next effect.after).units in
    AllByRecursion-append (GivesOutFor s (effect.outputs ++ more)) effect.units units
    (AllByRecursion-implies (GivesOutFor s effect.outputs) (GivesOutFor s (effect.outputs ++ more)) (given_before s effect.outputs more) effect.units h)
    (subst (AllByRecursion (GivesOutFor s (effect.outputs ++ more))) (sym only.units) tt)

packet_gives : (s : SystemState) (came : Neighbour) (p : Packet) (following : List ℕ) → AllByRecursion IsPort s.attached.ports
    → CausesSuch IsSendable s p following → GivesOut s (packet_comes s came p following)
packet_gives s came p following each such =
    packet_does (GivesOut s) s came p following
    (λ reason of_none. deed_gives s (discard s (Labelled p following) reason 0) each
    (does_discard IsSendable s s (goes-nowhere s) (Labelled p following) reason 0 (such.reported reason of_none)))
    (λ router way port pieces there alive cuts known. tt) tt
    (λ own. deed_gives s (receive s p following) each (does_receive IsSendable s p following such s (goes-nowhere s)))

step_gives : (s : SystemState) (input : Input) → AllByRecursion IsPort s.attached.ports → AllSuch IsSendable s input
    → GivesOut (at_moment (moment_after s input) s) (step s input)
step_gives s (AsksToSend from to octets ask) each such =
    deed_gives s (make s Dt from to octets ask) each (does_make IsSendable s Dt from to octets ask such)
step_gives s (AsksForEcho from to octets) each such =
    let ask = echo_ask s from to (length octets) true in
    deed_gives s (make s Erq from to octets ask) each (does_make IsSendable s Erq from to octets ask such)
step_gives s (FrameComes port sender to_group (Labelled p following)) each such =
    let neighbour : Neighbour = record { port = port; snpa = sender } in
    let come = packet_comes s neighbour p following in
    then_gives s come (λ t. responds t neighbour to_group p) (packet_gives s neighbour p following each such) (only_responds come.after neighbour to_group p)
step_gives s (FrameComes port sender to_group (Esis value following)) each such =
    let neighbour : Neighbour = record { port = port; snpa = sender } in none_gives s (esis_comes s neighbour value) (only_comes s neighbour value).units
step_gives s (FrameComes port sender to_group (Unlabelled octets)) each such =
    deed_gives s (octets_come s octets) each (does_with_octets IsSendable s s (goes-nowhere s) octets such)
step_gives s (MomentComes now) each such =
    let ticked = (tick s now).after in
    then_gives (at_moment now s) (effect_of (tick s now)) (λ t. then_does (forgets s.moment t) says_hello)
    (deed_gives (at_moment now s) (tick s now) each (does_tick IsSendable s now such))
    (only_then ticked (forgets s.moment ticked) says_hello (only_forgets s.moment ticked) (only_says_hello ticked))
step_gives s IsRestarted each such = tt
step_gives s (IsCongested on) each such = tt
step_gives s (IsChanged change) each such = tt

pub each_given_out : (s : SystemState) (input : Input) → IsSystem s.configuration → AllByRecursion IsPort s.attached.ports → IsFair input
    → All IsAddress s.configuration.addresses → KeepsAsOffered s
    → GivesOut (at_moment (moment_after s input) s) (step s input)
each_given_out s input system each fair addresses keeps = step_gives s input each (all_sendable s input system fair addresses keeps)
