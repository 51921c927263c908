-- There is an event at the place, or none.
use Rattle.std.proofs.Common.{◌≡◌, Option, None, Some, arith, refl, subst, sym}
use Rattle.std.specs.Prelude.{slice_get}
use Rattle.std.proofs.lemmas.Option.{slice_get_past, slice_get_read}
use Rattle.std.proofs.lemmas.Result.{on_ok_weaker}
use Rattle.clnp_machine.specs.ClnpPlan.declared.scenario_plan.event.Event.{Event}
use Rattle.clnp_machine.specs.ClnpNetwork.LabelledNetwork as network
use Rattle.clnp_program.specs.ClnpWorld.Parts.{Follows}
use Rattle.clnp_program.proofs.ClnpWorld.GiveSteps.{follows_nothing}
use Rattle.clnp_program.proofs.clnp_world.network.Network.event_at.Goals as goal

pub returns-then-place-events : goal.returns-then-place-events
returns-then-place-events g c = λ model h.
    let lines = g.L.LineSink.taken c.args.lines.now in
    let none : slice_get c.args.events.now c.args.place ≡ None = slice_get_past c.args.events.now c.args.place (omega arith) in
    subst (λ (event : Option Event). Follows c.args.self.now lines lines (network.event_happens c.args.subnets.now c.args.limits model event)) (sym none)
    (follows_nothing c.args.self.now lines model h)

pub returns : goal.returns
returns g c =
    let event = c.index-events-place.result in
    let there : slice_get c.args.events.now c.args.place ≡ Some event = slice_get_read c.args.events.now _ c.args.place event refl (omega arith) c.index-events-place.is in
    on_ok_weaker c.event_happens.result (λ follows model h.
    subst (λ (event : Option Event). Follows c.event_happens.new.self (g.L.LineSink.taken c.args.lines.now) (g.L.LineSink.taken c.event_happens.new.lines)
    (network.event_happens c.args.subnets.now c.args.limits model event)) (sym there) (follows model h))
    c.event_happens.ensures

pub event_happens-requires-clause-running : goal.event_happens-requires-clause-running
event_happens-requires-clause-running g c = c.requires.running
