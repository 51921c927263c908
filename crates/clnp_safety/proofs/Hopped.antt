-- Hops count copies: a packet with hops went on from one with a hop less, which another copy carries.
use Rattle.clnp_machine.proofs.ClnpBase.Lists.{AllByRecursion-append, AllByRecursion-implies}
use Rattle.std.proofs.Common.{◌≡◌, refl, sym, subst, ℕ, ◌+◌, inl, inr, Bool, true, false, List, [], ◌∷◌, ◌++◌, length, Option, None, Some}
use Rattle.std.specs.Prelude.{if◌then◌else◌, is_none, slice_get}
use Rattle.std.specs.List.{AllByRecursion}
use Rattle.clnp_machine.specs.Pdus.declared.nsap.target.Target.{Target}
use Rattle.clnp_machine.specs.PduHeader.Reading.{rest_of}
use Rattle.clnp_machine.specs.EsisPdus.Reading as esis_reading
use Rattle.clnp_machine.specs.EsisPdus.Rules.{why_refused}
use Rattle.clnp_machine.specs.ClnpPlan.declared.config.PortConfig.{PortConfig}
use Rattle.clnp_machine.specs.ScenarioPlan.Plan.{Plan}
use Rattle.clnp_machine.specs.ClnpPlan.declared.scenario_plan.event.Move.{Move}
use Rattle.clnp_machine.specs.Unit.{Maker, DeclaredAt, Packet}
use Rattle.clnp_machine.specs.Content.{Content, Labelled, Esis, Unlabelled, esis_value_in, is_accepted, packet_from_outside, value_in}
use Rattle.clnp_machine.specs.System.{SystemState, Input, FrameComes, Output, Transmits, SendsEsis, Notes, Effect}
use Rattle.clnp_machine.specs.Step.{step}
use Rattle.clnp_machine.specs.EveryStep.{GoesOnOf}
use Rattle.clnp_machine.specs.Ways.{IsFirstOrGoesOn}
use Rattle.clnp_machine.specs.ClnpNetwork.LabelledNetwork.{LabelledNetwork, Copy, copy_from, copy_from_outside, first_world, put_out, sends_frame, takes_effect, with_effect}
use Rattle.clnp_machine.specs.ClnpNetwork.Run.{world_after}
use Rattle.clnp_machine.specs.ClnpNetwork.Safe.{HasItsHops, HopsCountCopies, WentOn}
use Rattle.clnp_safety.specs.StepLaws.{StepLaws}
use Rattle.clnp_safety.proofs.EveryMove.{AnyFrame, IsOfNow, asked_by_all, keeps-moves}
use Rattle.clnp_safety.proofs.Grows.{effect_copies}
use Rattle.clnp_safety.proofs.Lines.{AnyLine, any_line_changes, any_line_is_fine}
use Rattle.clnp_safety.proofs.Standing.{ComesStanding, frame_stands, stands_later}
use Rattle.clnp_safety.proofs.Steps.{Keeps, keeps-put_all_out, with_outside}

-- Copies stay.

hops_later : (copies more : List Copy) (content : Content) → HasItsHops copies content → HasItsHops (copies ++ more) content
hops_later copies more (Labelled packet following) (inl none) = inl none
hops_later copies more (Labelled packet following) (inr on) =
    inr (record {
      came = on.came;
      following = on.following;
      stands = stands_later copies more on.came on.following on.stands;
      unit = on.unit;
      hops = on.hops;
      from = on.from;
      to = on.to;
    })
hops_later copies more (Esis value following) h = tt
hops_later copies more (Unlabelled octets) h = tt

abbrev Hops : List Copy → Copy → Type 0
Hops copies copy = HasItsHops copies copy.content

all_later : (copies more some : List Copy) → AllByRecursion (Hops copies) some → AllByRecursion (Hops (copies ++ more)) some
all_later copies more some h = AllByRecursion-implies (Hops copies) (Hops (copies ++ more)) (λ copy k. hops_later copies more copy.content k) some h

-- What a step sends.

on_hops : (w : LabelledNetwork) (s : SystemState) (port : ℕ) (input : Input) (p : Packet) → ComesStanding w input → GoesOnOf s port input p → WentOn w.copies p
on_hops w s port (FrameComes at sender to_group (Labelled came following)) p stands on = record {
  came = came;
  following = following;
  stands = stands;
  unit = on.unit;
  hops = on.hops;
  from = on.from;
  to = on.to;
}
on_hops w s port _ p stands on = absurd on

module _ (base : List Copy) where
  abbrev Has : LabelledNetwork → Type 0
  Has v = AllByRecursion (Hops base) v.copies

  copy_hops : (found : Option PortConfig) (target : Target) (maker : Maker) (birth : ℕ) (content : Content) → HasItsHops base content
      → AllByRecursion (Hops base) (copy_from found target maker birth content)
  copy_hops None target maker birth content h = tt
  copy_hops (Some port) target maker birth content h = (h, tt)

  frame_hops : (system : SystemState) (v : LabelledNetwork) (port : ℕ) (target : Target) (maker : Maker) (birth : ℕ) (content : Content) → HasItsHops base content → Has v
      → Keeps Has AnyLine (sends_frame system v port target maker birth content)
  frame_hops system v port target maker birth content h k = record {
    world = AllByRecursion-append (Hops base) v.copies (copy_from (slice_get system.attached.ports port) target maker birth content) k
        (copy_hops (slice_get system.attached.ports port) target maker birth content h);
    lines = (tt, tt);
  }

output_hops : (w : LabelledNetwork) (s system : SystemState) (input : Input) → ComesStanding w input → (output : Output) → IsFirstOrGoesOn s input output
    → (v : LabelledNetwork) → Has w.copies v → Keeps (Has w.copies) AnyLine (put_out system v output)
output_hops w s system input stands (Notes note) h v k = record { world = k; lines = (tt, tt) }
output_hops w s system input stands (Transmits port target packet) h v k =
    frame_hops w.copies system v port target packet.unit.maker packet.unit.made (Labelled packet [])
    (elim h [ inl none ↦ inl none | inr on ↦ inr (on_hops w s port input packet stands on) ]) k
output_hops w s system input stands (SendsEsis port target value) h v k =
    frame_hops w.copies system v port target (DeclaredAt system.place) system.moment (Esis value []) tt k

step_hops : StepLaws → (w : LabelledNetwork) (place : ℕ) (s : SystemState) (input : Input) → slice_get w.systems place ≡ Some s → ComesStanding w input
    → IsOfNow w s input → HopsCountCopies w → Keeps HopsCountCopies AnyLine (takes_effect w place (step s input))
step_hops laws w place s input there stands at k =
    let effect : Effect = step s input in
    let later : LabelledNetwork = (takes_effect w place effect).world in
    let more = effect_copies w place effect in
    let done = keeps-put_all_out (Has w.copies) AnyLine effect.after effect.outputs
    (AllByRecursion-implies (IsFirstOrGoesOn s input) (λ output. (v : LabelledNetwork) → Has w.copies v → Keeps (Has w.copies) AnyLine (put_out effect.after v output))
    (output_hops w s effect.after input stands) effect.outputs (laws.steps.hops s input))
    (with_effect w place effect) k in
    record {
      world = subst (λ (copies : List Copy). AllByRecursion (Hops copies) later.copies) (sym more.1) (all_later w.copies more.0 later.copies done.world);
      lines = done.lines;
    }

-- A packet from outside was not forwarded yet.

content_hops : (copies : List Copy) (number moment : ℕ) (octets : List ℕ) (accepted unrefused : Bool)
    → HasItsHops copies
    (if accepted then Labelled (packet_from_outside number moment (value_in octets)) (rest_of octets)
    else if unrefused then Esis (esis_value_in octets) (esis_reading.rest_of octets) else Unlabelled octets)
content_hops copies number moment octets true unrefused = inl refl
content_hops copies number moment octets false true = tt
content_hops copies number moment octets false false = tt

outside_hops : (w : LabelledNetwork) (subnet : ℕ) (sender : List ℕ) (target : Target) (octets : List ℕ) → AnyFrame sender octets → HopsCountCopies w
    → HopsCountCopies (with_outside w subnet sender target octets)
outside_hops w subnet sender target octets any k =
    let new : Copy = copy_from_outside (length w.copies + 1) w.clock subnet sender target octets in
    AllByRecursion-append (Hops (w.copies ++ new ∷ [])) w.copies (new ∷ []) (all_later w.copies (new ∷ []) w.copies k)
    (content_hops (w.copies ++ new ∷ []) (length w.copies + 1) w.clock octets (is_accepted octets) (is_none (why_refused octets)), tt)

pub hops_are_counted : StepLaws → (plan : Plan) (moves : List Move) → HopsCountCopies (world_after plan (first_world plan) moves)
hops_are_counted laws plan moves =
    keeps-moves ComesStanding AnyFrame HopsCountCopies AnyLine
    (record {
      steps = step_hops laws;
      frames = λ w at copy e k v follows s. frame_stands w at copy e v follows s;
      moments = λ w now. tt;
      restarts = λ w. tt;
      congestion = λ w on. tt;
      cursor = λ w next k. k;
      clock = λ w clock k. k;
      outside = outside_hops;
      sizes = λ w subnet mtu takes k. k;
      injected = λ now copy subnet sender target. tt;
      fine = any_line_is_fine;
      changing = any_line_changes;
    })
    plan (λ w. asked_by_all (ComesStanding w) (λ from to octets ask. tt) (λ from to octets. tt) (λ change. tt) plan.events) moves (first_world plan) tt
