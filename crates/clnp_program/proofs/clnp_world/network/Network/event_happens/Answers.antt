-- The system at the event's place sends.
use Rattle.std.proofs.Common.{ℕ, OnOk, Some, sym, subst}
use Rattle.std.proofs.lemmas.Result.{on_ok_weaker}
use Rattle.clnp_machine.specs.ScenarioPlan.Plan.{octets_of}
use Rattle.clnp_machine.specs.ClnpPlan.declared.scenario_plan.event.Event.{Event}
use Rattle.clnp_machine.specs.ClnpPlan.declared.ask.Ask.{Ask}
use Rattle.clnp_machine.specs.System.{AsksForEcho, AsksToSend, IsCongested, IsRestarted}
use Rattle.clnp_machine.specs.ClnpNetwork.LabelledNetwork as network
use Rattle.clnp_program.specs.ClnpWorld.Parts.{Follows, Holds}
use Rattle.clnp_program.proofs.clnp_world.network.Network.event_happens.Goals as goal

pub returns-in-Send : goal.returns-in-Send
returns-in-Send g c =
    on_ok_weaker c.send.result (λ sends model h.
    subst (λ (event : Event). Follows c.send.new.self (g.L.LineSink.taken c.args.lines.now) (g.L.LineSink.taken c.send.new.lines)
    (network.event_happens c.args.subnets.now c.args.limits model (Some event))) (sym c.in-Send.is)
    (subst (λ (place : ℕ). Follows c.send.new.self (g.L.LineSink.taken c.args.lines.now) (g.L.LineSink.taken c.send.new.lines)
    (network.asks model place (AsksToSend c.in-Send.from c.in-Send.to (octets_of c.in-Send.body) c.in-Send.ask))) c.from.ensures
    (subst (λ (ask : Ask). Follows c.send.new.self (g.L.LineSink.taken c.args.lines.now) (g.L.LineSink.taken c.send.new.lines)
    (network.asks model c.from.result (AsksToSend c.in-Send.from c.in-Send.to (octets_of c.in-Send.body) ask))) c.ask-ask.ensures
    (sends model h))))
    c.send.ensures

pub returns-in-Echo : goal.returns-in-Echo
returns-in-Echo g c =
    subst (λ (event : Event). OnOk c.echo.result ((model : network.LabelledNetwork) → Holds c.args.self.now model
    → Follows c.echo.new.self (g.L.LineSink.taken c.args.lines.now) (g.L.LineSink.taken c.echo.new.lines)
    (network.event_happens c.args.subnets.now c.args.limits model (Some event))))
    (sym c.in-Echo.is) (subst (λ (place : ℕ). OnOk c.echo.result ((model : network.LabelledNetwork) → Holds c.args.self.now model
    → Follows c.echo.new.self (g.L.LineSink.taken c.args.lines.now) (g.L.LineSink.taken c.echo.new.lines)
    (network.comes model place (AsksForEcho c.in-Echo.from c.in-Echo.to (octets_of c.in-Echo.body)))))
    c.from-in-Echo.ensures c.echo.ensures)

pub returns-in-Deliver : goal.returns-in-Deliver
returns-in-Deliver g c =
    subst (λ (event : Event). OnOk c.deliver.result ((model : network.LabelledNetwork) → Holds c.args.self.now model
    → Follows c.deliver.new.self (g.L.LineSink.taken c.args.lines.now) (g.L.LineSink.taken c.deliver.new.lines)
    (network.event_happens c.args.subnets.now c.args.limits model (Some event))))
    (sym c.in-Deliver.is) (subst (λ (place : ℕ). OnOk c.deliver.result ((model : network.LabelledNetwork) → Holds c.args.self.now model
    → Follows c.deliver.new.self (g.L.LineSink.taken c.args.lines.now) (g.L.LineSink.taken c.deliver.new.lines)
    (network.deliver c.args.limits model c.in-Deliver.copy place)))
    c.from-in-Deliver.ensures c.deliver.ensures)

pub returns-in-Restart : goal.returns-in-Restart
returns-in-Restart g c =
    subst (λ (event : Event). OnOk c.restart.result ((model : network.LabelledNetwork) → Holds c.args.self.now model
    → Follows c.restart.new.self (g.L.LineSink.taken c.args.lines.now) (g.L.LineSink.taken c.restart.new.lines)
    (network.event_happens c.args.subnets.now c.args.limits model (Some event))))
    (sym c.in-Restart.is) (subst (λ (place : ℕ). OnOk c.restart.result ((model : network.LabelledNetwork) → Holds c.args.self.now model
    → Follows c.restart.new.self (g.L.LineSink.taken c.args.lines.now) (g.L.LineSink.taken c.restart.new.lines)
    (network.comes model place IsRestarted)))
    c.from-in-Restart.ensures c.restart.ensures)

pub returns-in-Congest : goal.returns-in-Congest
returns-in-Congest g c =
    subst (λ (event : Event). OnOk c.congest.result ((model : network.LabelledNetwork) → Holds c.args.self.now model
    → Follows c.congest.new.self (g.L.LineSink.taken c.args.lines.now) (g.L.LineSink.taken c.congest.new.lines)
    (network.event_happens c.args.subnets.now c.args.limits model (Some event))))
    (sym c.in-Congest.is) (subst (λ (place : ℕ). OnOk c.congest.result ((model : network.LabelledNetwork) → Holds c.args.self.now model
    → Follows c.congest.new.self (g.L.LineSink.taken c.args.lines.now) (g.L.LineSink.taken c.congest.new.lines)
    (network.comes model place (IsCongested c.in-Congest.on))))
    c.from-in-Congest.ensures c.congest.ensures)

pub returns-in-Inject : goal.returns-in-Inject
returns-in-Inject g c =
    subst (λ (event : Event). OnOk c.inject.result ((model : network.LabelledNetwork) → Holds c.args.self.now model
    → Follows c.inject.new.self (g.L.LineSink.taken c.args.lines.now) (g.L.LineSink.taken c.inject.new.lines)
    (network.event_happens c.args.subnets.now c.args.limits model (Some event))))
    (sym c.in-Inject.is) c.inject.ensures

pub returns-in-Mtu : goal.returns-in-Mtu
returns-in-Mtu g c =
    subst (λ (event : Event). OnOk c.resize.result ((model : network.LabelledNetwork) → Holds c.args.self.now model
    → Follows c.resize.new.self (g.L.LineSink.taken c.args.lines.now) (g.L.LineSink.taken c.resize.new.lines)
    (network.event_happens c.args.subnets.now c.args.limits model (Some event))))
    (sym c.in-Mtu.is) c.resize.ensures

pub returns-in-Route : goal.returns-in-Route
returns-in-Route g c =
    subst (λ (event : Event). OnOk c.set_route.result ((model : network.LabelledNetwork) → Holds c.args.self.now model
    → Follows c.set_route.new.self (g.L.LineSink.taken c.args.lines.now) (g.L.LineSink.taken c.set_route.new.lines)
    (network.event_happens c.args.subnets.now c.args.limits model (Some event))))
    (sym c.in-Route.is) (subst (λ (place : ℕ). OnOk c.set_route.result ((model : network.LabelledNetwork) → Holds c.args.self.now model
    → Follows c.set_route.new.self (g.L.LineSink.taken c.args.lines.now) (g.L.LineSink.taken c.set_route.new.lines)
    (network.sets_route model place c.in-Route.route)))
    c.from-in-Route.ensures c.set_route.ensures)

pub returns-in-Unroute : goal.returns-in-Unroute
returns-in-Unroute g c =
    subst (λ (event : Event). OnOk c.remove_route.result ((model : network.LabelledNetwork) → Holds c.args.self.now model
    → Follows c.remove_route.new.self (g.L.LineSink.taken c.args.lines.now) (g.L.LineSink.taken c.remove_route.new.lines)
    (network.event_happens c.args.subnets.now c.args.limits model (Some event))))
    (sym c.in-Unroute.is) (subst (λ (place : ℕ). OnOk c.remove_route.result ((model : network.LabelledNetwork) → Holds c.args.self.now model
    → Follows c.remove_route.new.self (g.L.LineSink.taken c.args.lines.now) (g.L.LineSink.taken c.remove_route.new.lines)
    (network.removes_route model place c.in-Unroute.prefix)))
    c.from-in-Unroute.ensures c.remove_route.ensures)

pub returns-in-Port : goal.returns-in-Port
returns-in-Port g c =
    subst (λ (event : Event). OnOk c.move_port.result ((model : network.LabelledNetwork) → Holds c.args.self.now model
    → Follows c.move_port.new.self (g.L.LineSink.taken c.args.lines.now) (g.L.LineSink.taken c.move_port.new.lines)
    (network.event_happens c.args.subnets.now c.args.limits model (Some event))))
    (sym c.in-Port.is) (subst (λ (place : ℕ). OnOk c.move_port.result ((model : network.LabelledNetwork) → Holds c.args.self.now model
    → Follows c.move_port.new.self (g.L.LineSink.taken c.args.lines.now) (g.L.LineSink.taken c.move_port.new.lines)
    (network.moves_port c.args.subnets.now model place c.in-Port.number c.in-Port.subnet c.in-Port.snpa)))
    c.from-place.ensures c.move_port.ensures)
