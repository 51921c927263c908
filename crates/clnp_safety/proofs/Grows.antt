-- The copies of a world stay as a front of those after each move, and the cursor stays within them.
use Rattle.clnp_machine.proofs.ClnpBase.Lists.{AllByRecursion-any}
use Rattle.std.proofs.Common.{◌≡◌, ◌≤◌, ℕ, List, [], ◌∷◌, ◌++◌, ◌+◌, length, refl, sym, ap, ◌∙◌, arith, length-append, append_assoc}
use Rattle.std.specs.Prelude.{max, slice_get, Option, None, Some}
use Rattle.std.specs.List.{range_with_len}
use Rattle.std.proofs.lemmas.Option.{slice_get_within}
use Rattle.std.proofs.lemmas.List.{append-nil}
use Rattle.clnp_machine.specs.Pdus.declared.nsap.target.Target.{Target}
use Rattle.clnp_machine.specs.ClnpPlan.declared.config.Limits.{Limits}
use Rattle.clnp_machine.specs.ScenarioPlan.Plan.{Plan, Subnetwork, octets_of}
use Rattle.clnp_machine.specs.ClnpPlan.declared.scenario_plan.event.Event.{Event}
use Rattle.clnp_machine.specs.ClnpPlan.declared.scenario_plan.event.Event.TheVariants.{Send, Echo, Deliver, Settle, Lose, Tick, Restart, Congest, Inject, Mtu, Route, Unroute, Port}
use Rattle.clnp_machine.specs.ClnpPlan.declared.scenario_plan.event.Event.TheVariants as event
use Rattle.clnp_machine.specs.ClnpPlan.declared.scenario_plan.event.Move.{Move}
use Rattle.clnp_machine.specs.ClnpPlan.declared.scenario_plan.event.Move.TheVariants.{One, SettleOne, LoseOne, TickOne, TickSystem}
use Rattle.clnp_machine.specs.Unit.{Maker, DeclaredAt}
use Rattle.clnp_machine.specs.Content.{Content, Labelled, Esis}
use Rattle.clnp_machine.specs.Change.{PortIsAt, PortTakes, RouteIsGone, RouteIsSet}
use Rattle.clnp_machine.specs.System.{SystemState, Input, AsksToSend, AsksForEcho, MomentComes, IsRestarted, IsCongested, IsChanged, Output, Transmits, SendsEsis, Notes, Effect}
use Rattle.clnp_machine.specs.Step.{step}
use Rattle.clnp_machine.specs.ClnpNetwork.LabelledNetwork.{LabelledNetwork, Copy, copy_from, copy_from_outside, sends_frame, put_out, with_effect, takes_effect, comes, asks, frame_to, addressees_from, settle_copy, deliver, lose_copy, goes_on, tick_alone, tick_each, tick_one, injects, moved, moves_port, removes_route, resizes, sets_route, event_happens, after, first_world}
use Rattle.clnp_machine.specs.ClnpNetwork.Run.{world_after}
use Rattle.clnp_safety.specs.Growth.{IsFront, IsWithinCopies}
use Rattle.clnp_safety.proofs.Lines.{AnyLine, any_line_changes, any_line_is_fine}
use Rattle.clnp_safety.proofs.Steps.{Keeps, keeps-nothing, keeps-followed_by, keeps-put_all_out, keeps-comes_to, keeps-asks, keeps-give_each, keeps-deliver, keeps-injects, keeps-moves_port, keeps-removes_route, keeps-resizes, keeps-sets_route}

-- a world with more copies behind these, and this cursor
record Grown (copies : List Copy) (cursor : ℕ) (w : LabelledNetwork) : Type 0 where
  front : IsFront copies w.copies
  at : w.cursor ≡ cursor

pub front-more : {A : Type 0} (xs ys zs : List A) → IsFront xs ys → IsFront xs (ys ++ zs)
front-more xs ys zs h = (h.0 ++ zs, ap (λ l. l ++ zs) h.1 ∙ append_assoc xs h.0 zs)

module _ (copies : List Copy) (cursor : ℕ) where
  frame_grows : (system : SystemState) (v : LabelledNetwork) (port : ℕ) (target : Target) (maker : Maker) (birth : ℕ) (content : Content) → Grown copies cursor v
      → Keeps (Grown copies cursor) AnyLine (sends_frame system v port target maker birth content)
  frame_grows system v port target maker birth content k = record {
    world = record {
      front = front-more copies v.copies (copy_from (slice_get system.attached.ports port) target maker birth content) k.front;
      at = k.at;
    };
    lines = (tt, tt);
  }

  put_out_grows : (system : SystemState) (output : Output) (v : LabelledNetwork) → Grown copies cursor v
      → Keeps (Grown copies cursor) AnyLine (put_out system v output)
  put_out_grows system (Notes note) v k = record { world = k; lines = (tt, tt) }
  put_out_grows system (Transmits port target packet) v k =
      frame_grows system v port target packet.unit.maker packet.unit.made (Labelled packet []) k
  put_out_grows system (SendsEsis port target value) v k =
      frame_grows system v port target (DeclaredAt system.place) system.moment (Esis value []) k

  takes_effect_grows : (w : LabelledNetwork) (place : ℕ) (effect : Effect) → Grown copies cursor w → Keeps (Grown copies cursor) AnyLine (takes_effect w place effect)
  takes_effect_grows w place effect k =
      keeps-put_all_out (Grown copies cursor) AnyLine effect.after effect.outputs
      (AllByRecursion-any (λ output. (v : LabelledNetwork) → Grown copies cursor v → Keeps (Grown copies cursor) AnyLine (put_out effect.after v output))
      (put_out_grows effect.after) effect.outputs)
      (with_effect w place effect) (record { front = k.front; at = k.at })

  comes_grows : (w : LabelledNetwork) (place : ℕ) (input : Input) → Grown copies cursor w → Keeps (Grown copies cursor) AnyLine (comes w place input)
  comes_grows w place input k =
      keeps-comes_to (Grown copies cursor) AnyLine w place input (slice_get w.systems place) (λ none. k) (λ s there. takes_effect_grows w place (step s input) k)

  goes_on_grows : (w : LabelledNetwork) (place : ℕ) (found : Option SystemState) → Grown copies cursor w → Keeps (Grown copies cursor) AnyLine (goes_on w place found)
  goes_on_grows w place None k = keeps-nothing (Grown copies cursor) AnyLine w k
  goes_on_grows w place (Some s) k = comes_grows w place (MomentComes (s.moment + 1)) k

  tick_each_grows : (places : List ℕ) (w : LabelledNetwork) → Grown copies cursor w → Keeps (Grown copies cursor) AnyLine (tick_each w places)
  tick_each_grows [] w k = keeps-nothing (Grown copies cursor) AnyLine w k
  tick_each_grows (place ∷ places) w k =
      keeps-followed_by (Grown copies cursor) AnyLine (Grown copies cursor) (goes_on w place (slice_get w.systems place)) (λ v. tick_each v places)
      (goes_on_grows w place (slice_get w.systems place) k) (tick_each_grows places)

-- the world after a move, with the copies before it as a front, and the cursor within them
record GrowsFrom (w v : LabelledNetwork) : Type 0 where
  front : IsFront w.copies v.copies
  within : IsWithinCopies w → IsWithinCopies v

grows_to : (w v : LabelledNetwork) (cursor : ℕ) → (IsWithinCopies w → cursor ≤ length w.copies) → Grown w.copies cursor v → GrowsFrom w v
grows_to w v cursor bound h = record {
  front = h.front;
  within = λ k.
      let e : length v.copies ≡ length w.copies + length h.front.0 = ap length h.front.1 ∙ length-append w.copies h.front.0 in
      let at : v.cursor ≡ cursor = h.at in
      let below : cursor ≤ length w.copies = bound k in
      omega arith;
}

stays : (w : LabelledNetwork) → Grown w.copies w.cursor w
stays w = record { front = ([], sym (append-nil w.copies)); at = refl }

-- a system that takes a step only adds copies
pub effect_copies : (w : LabelledNetwork) (place : ℕ) (effect : Effect) → IsFront w.copies (takes_effect w place effect).world.copies
effect_copies w place effect = (takes_effect_grows w.copies w.cursor w place effect (stays w)).world.front

nothing_grows : (w : LabelledNetwork) → GrowsFrom w w
nothing_grows w = grows_to w w w.cursor (λ k. k) (stays w)

does_grow : (w : LabelledNetwork) (place : ℕ) (input : Input) → GrowsFrom w (comes w place input).world
does_grow w place input = grows_to w (comes w place input).world w.cursor (λ k. k) (comes_grows w.copies w.cursor w place input (stays w)).world

event_grows : (subnets : List Subnetwork) (limits : Limits) (w : LabelledNetwork) (asked : Option Event) → GrowsFrom w (event_happens subnets limits w asked).world
event_grows subnets limits w None = nothing_grows w
event_grows subnets limits w (Some (Settle count)) = nothing_grows w
event_grows subnets limits w (Some (Lose count)) = nothing_grows w
event_grows subnets limits w (Some (Tick count)) = nothing_grows w
event_grows subnets limits w (Some (event.TickSystem system count)) = nothing_grows w
event_grows subnets limits w (Some (Deliver number place)) =
    grows_to w (deliver limits w number place).world w.cursor (λ k. k)
    (keeps-deliver (Grown w.copies w.cursor) AnyLine any_line_is_fine limits w number place (stays w)
    (λ copy e s there soon. takes_effect_grows w.copies w.cursor w place (step s (frame_to s copy)) (stays w))).world
event_grows subnets limits w (Some (Restart system)) = does_grow w system IsRestarted
event_grows subnets limits w (Some (Congest system on)) = does_grow w system (IsCongested on)
event_grows subnets limits w (Some (Echo system from to body)) = does_grow w system (AsksForEcho from to (octets_of body))
event_grows subnets limits w (Some (Send system from to body ask)) =
    let asked = AsksToSend from to (octets_of body) ask in
    grows_to w (asks w system asked).world w.cursor (λ k. k)
    (keeps-asks (Grown w.copies w.cursor) AnyLine w system asked (stays w) (comes_grows w.copies w.cursor w system asked (stays w))).world
event_grows subnets limits w (Some (Inject subnet from to octets)) =
    grows_to w (injects subnets w subnet from to octets).world w.cursor (λ k. k)
    (keeps-injects (Grown w.copies w.cursor) AnyLine w subnet from to octets (stays w)
    (record { front = (copy_from_outside (length w.copies + 1) w.clock subnet from to octets ∷ [], refl); at = refl })
    (λ now copy name sender target. tt) subnets).world
event_grows subnets limits w (Some (Mtu subnet mtu)) =
    grows_to w (resizes subnets w subnet mtu).world w.cursor (λ k. k)
    (keeps-resizes (Grown w.copies w.cursor) AnyLine any_line_changes subnet mtu
    (λ v place number k. comes_grows w.copies w.cursor v place (IsChanged (PortTakes number mtu)) k) subnets w (stays w)
    (record { front = ([], sym (append-nil w.copies)); at = refl })).world
event_grows subnets limits w (Some (Route system route)) =
    grows_to w (sets_route w system route).world w.cursor (λ k. k)
    (keeps-sets_route (Grown w.copies w.cursor) AnyLine any_line_changes w system (stays w) route
    (λ s there leads. comes_grows w.copies w.cursor w system (IsChanged (RouteIsSet route)) (stays w))).world
event_grows subnets limits w (Some (Unroute system prefix)) =
    grows_to w (removes_route w system prefix).world w.cursor (λ k. k)
    (keeps-removes_route (Grown w.copies w.cursor) AnyLine any_line_changes w system (stays w) prefix
    (comes_grows w.copies w.cursor w system (IsChanged (RouteIsGone prefix)) (stays w))).world
event_grows subnets limits w (Some (Port system number subnet snpa)) =
    grows_to w (moves_port subnets w system number subnet snpa).world w.cursor (λ k. k)
    (keeps-moves_port (Grown w.copies w.cursor) AnyLine any_line_changes w system (stays w) number subnet snpa subnets
    (λ s port mtu there has takes.
    comes_grows w.copies w.cursor w system (IsChanged (PortIsAt number (moved port subnet mtu snpa))) (stays w))).world

settle_copy_grows : (limits : Limits) (w : LabelledNetwork) (found : Option Copy) → ((copy : Copy) → found ≡ Some copy → w.cursor + 1 ≤ length w.copies)
    → GrowsFrom w (settle_copy limits w found).world
settle_copy_grows limits w None bound = nothing_grows w
settle_copy_grows limits w (Some copy) bound =
    grows_to w (settle_copy limits w (Some copy)).world (w.cursor + 1) (λ k. bound copy refl)
    (keeps-give_each (Grown w.copies (w.cursor + 1)) AnyLine any_line_is_fine limits (record { number = w.cursor + 1; copy = copy }) (addressees_from 0 copy w.systems)
    (λ v place k s there soon. takes_effect_grows w.copies (w.cursor + 1) v place (step s (frame_to s copy)) k)
    (record w { cursor = w.cursor + 1 }) (record { front = ([], sym (append-nil w.copies)); at = refl })).world

lose_copy_grows : (w : LabelledNetwork) (found : Option Copy) → ((copy : Copy) → found ≡ Some copy → w.cursor + 1 ≤ length w.copies)
    → GrowsFrom w (lose_copy w found).world
lose_copy_grows w None bound = nothing_grows w
lose_copy_grows w (Some copy) bound =
    grows_to w (lose_copy w (Some copy)).world (w.cursor + 1) (λ k. bound copy refl)
    (record { front = ([], sym (append-nil w.copies)); at = refl })

tick_alone_grows : (w : LabelledNetwork) (place : ℕ) (found : Option SystemState) → GrowsFrom w (tick_alone w place found).world
tick_alone_grows w place None = nothing_grows w
tick_alone_grows w place (Some s) =
    grows_to w (tick_alone w place (Some s)).world w.cursor (λ k. k)
    (goes_on_grows w.copies w.cursor (record w { clock = max w.clock (s.moment + 1) }) place (Some s)
    (record { front = ([], sym (append-nil w.copies)); at = refl })).world

move_grows : (plan : Plan) (w : LabelledNetwork) (move : Move) → GrowsFrom w (after plan w move).world
move_grows plan w (One place) = event_grows plan.subnets plan.limits w (slice_get plan.events place)
move_grows plan w SettleOne =
    settle_copy_grows plan.limits w (slice_get w.copies w.cursor)
    (λ copy e. let l = slice_get_within w.copies w.cursor copy e in omega arith)
move_grows plan w LoseOne =
    lose_copy_grows w (slice_get w.copies w.cursor)
    (λ copy e. let l = slice_get_within w.copies w.cursor copy e in omega arith)
move_grows plan w TickOne =
    grows_to w (tick_one w).world w.cursor (λ k. k)
    (tick_each_grows w.copies w.cursor (range_with_len 0 (length w.systems)) (record w { clock = w.clock + 1 })
    (record { front = ([], sym (append-nil w.copies)); at = refl })).world
move_grows plan w (TickSystem place) = tick_alone_grows w place (slice_get w.systems place)

pub copies_stay : (plan : Plan) (w : LabelledNetwork) (move : Move) → IsFront w.copies (after plan w move).world.copies
copies_stay plan w move = (move_grows plan w move).front

within_copies_after : (plan : Plan) (moves : List Move) (w : LabelledNetwork) → IsWithinCopies w → IsWithinCopies (world_after plan w moves)
within_copies_after plan [] w h = h
within_copies_after plan (move ∷ moves) w h =
    within_copies_after plan moves (after plan w move).world ((move_grows plan w move).within h)

pub cursor_within : (plan : Plan) (moves : List Move) → IsWithinCopies (world_after plan (first_world plan) moves)
cursor_within plan moves = within_copies_after plan moves (first_world plan) (omega arith)
