-- What an event asks.
use Rattle.std.proofs.Common.{[], ap, refl, sym}
use Rattle.clnp_systems.specs.Stands as clnp_systems
use Rattle.clnp_plan.specs.declared.scenario_plan.event.Event.{Event}
use Rattle.clnp_machine.specs.LiveModel.Node.{Goes, come_all}
use Rattle.clnp_machine.specs.LiveModel.Turn.{asked_by}
use Rattle.clnp_program.proofs.LiveNode.Playing.{plays_as, plays_nothing}
use Rattle.clnp_program.proofs.live_node.node.LiveNode.do_event.Goals as goal

pub returns-in-Send-clause-plays : goal.returns-in-Send-clause-plays
returns-in-Send-clause-plays g c = rw (c.in-Send.is, sym c.ask.ensures) c.send.ensures.plays

pub returns-in-Send-clause-breaks : goal.returns-in-Send-clause-breaks
returns-in-Send-clause-breaks g c = rw (c.in-Send.is, sym c.ask.ensures) c.send.ensures.breaks

pub returns-in-Deliver-clause-plays : goal.returns-in-Deliver-clause-plays
returns-in-Deliver-clause-plays g c = λ node h.
    plays_as (λ outcomes. Goes node outcomes []) (come_all node (asked_by (clnp_systems.configuration_of c.args.self.now.system).role c.args.event.now)) node node
    c.args.self.now _ _ _ _
    (λ outcomes. ap (λ (event : Event). come_all node (asked_by (clnp_systems.configuration_of c.args.self.now.system).role event) outcomes) c.in-Deliver.is) refl
    (plays_nothing node c.args.self.now (g.B.Ports.ports c.args.board.now) (g.K.Sink.written c.args.sink.now) h)

pub returns-in-Settle-clause-plays : goal.returns-in-Settle-clause-plays
returns-in-Settle-clause-plays g c = λ node h.
    plays_as (λ outcomes. Goes node outcomes []) (come_all node (asked_by (clnp_systems.configuration_of c.args.self.now.system).role c.args.event.now)) node node
    c.args.self.now _ _ _ _
    (λ outcomes. ap (λ (event : Event). come_all node (asked_by (clnp_systems.configuration_of c.args.self.now.system).role event) outcomes) c.in-Settle.is) refl
    (plays_nothing node c.args.self.now (g.B.Ports.ports c.args.board.now) (g.K.Sink.written c.args.sink.now) h)

pub returns-in-Lose-clause-plays : goal.returns-in-Lose-clause-plays
returns-in-Lose-clause-plays g c = λ node h.
    plays_as (λ outcomes. Goes node outcomes []) (come_all node (asked_by (clnp_systems.configuration_of c.args.self.now.system).role c.args.event.now)) node node
    c.args.self.now _ _ _ _
    (λ outcomes. ap (λ (event : Event). come_all node (asked_by (clnp_systems.configuration_of c.args.self.now.system).role event) outcomes) c.in-Lose.is) refl
    (plays_nothing node c.args.self.now (g.B.Ports.ports c.args.board.now) (g.K.Sink.written c.args.sink.now) h)

pub returns-in-Tick-clause-plays : goal.returns-in-Tick-clause-plays
returns-in-Tick-clause-plays g c = λ node h.
    plays_as (λ outcomes. Goes node outcomes []) (come_all node (asked_by (clnp_systems.configuration_of c.args.self.now.system).role c.args.event.now)) node node
    c.args.self.now _ _ _ _
    (λ outcomes. ap (λ (event : Event). come_all node (asked_by (clnp_systems.configuration_of c.args.self.now.system).role event) outcomes) c.in-Tick.is) refl
    (plays_nothing node c.args.self.now (g.B.Ports.ports c.args.board.now) (g.K.Sink.written c.args.sink.now) h)

pub returns-in-Restart-clause-plays : goal.returns-in-Restart-clause-plays
returns-in-Restart-clause-plays g c = λ node h.
    plays_as (λ outcomes. Goes node outcomes []) (come_all node (asked_by (clnp_systems.configuration_of c.args.self.now.system).role c.args.event.now)) node node
    c.args.self.now _ _ _ _
    (λ outcomes. ap (λ (event : Event). come_all node (asked_by (clnp_systems.configuration_of c.args.self.now.system).role event) outcomes) c.in-Restart.is) refl
    (plays_nothing node c.args.self.now (g.B.Ports.ports c.args.board.now) (g.K.Sink.written c.args.sink.now) h)

pub returns-in-Congest-clause-plays : goal.returns-in-Congest-clause-plays
returns-in-Congest-clause-plays g c = λ node h.
    plays_as (λ outcomes. Goes node outcomes []) (come_all node (asked_by (clnp_systems.configuration_of c.args.self.now.system).role c.args.event.now)) node node
    c.args.self.now _ _ _ _
    (λ outcomes. ap (λ (event : Event). come_all node (asked_by (clnp_systems.configuration_of c.args.self.now.system).role event) outcomes) c.in-Congest.is) refl
    (plays_nothing node c.args.self.now (g.B.Ports.ports c.args.board.now) (g.K.Sink.written c.args.sink.now) h)

pub returns-in-Inject-clause-plays : goal.returns-in-Inject-clause-plays
returns-in-Inject-clause-plays g c = λ node h.
    plays_as (λ outcomes. Goes node outcomes []) (come_all node (asked_by (clnp_systems.configuration_of c.args.self.now.system).role c.args.event.now)) node node
    c.args.self.now _ _ _ _
    (λ outcomes. ap (λ (event : Event). come_all node (asked_by (clnp_systems.configuration_of c.args.self.now.system).role event) outcomes) c.in-Inject.is) refl
    (plays_nothing node c.args.self.now (g.B.Ports.ports c.args.board.now) (g.K.Sink.written c.args.sink.now) h)

pub returns-in-Mtu-clause-plays : goal.returns-in-Mtu-clause-plays
returns-in-Mtu-clause-plays g c = λ node h.
    plays_as (λ outcomes. Goes node outcomes []) (come_all node (asked_by (clnp_systems.configuration_of c.args.self.now.system).role c.args.event.now)) node node
    c.args.self.now _ _ _ _
    (λ outcomes. ap (λ (event : Event). come_all node (asked_by (clnp_systems.configuration_of c.args.self.now.system).role event) outcomes) c.in-Mtu.is) refl
    (plays_nothing node c.args.self.now (g.B.Ports.ports c.args.board.now) (g.K.Sink.written c.args.sink.now) h)

pub returns-in-Route-clause-plays : goal.returns-in-Route-clause-plays
returns-in-Route-clause-plays g c = λ node h.
    plays_as (λ outcomes. Goes node outcomes []) (come_all node (asked_by (clnp_systems.configuration_of c.args.self.now.system).role c.args.event.now)) node node
    c.args.self.now _ _ _ _
    (λ outcomes. ap (λ (event : Event). come_all node (asked_by (clnp_systems.configuration_of c.args.self.now.system).role event) outcomes) c.in-Route.is) refl
    (plays_nothing node c.args.self.now (g.B.Ports.ports c.args.board.now) (g.K.Sink.written c.args.sink.now) h)

pub returns-in-Unroute-clause-plays : goal.returns-in-Unroute-clause-plays
returns-in-Unroute-clause-plays g c = λ node h.
    plays_as (λ outcomes. Goes node outcomes []) (come_all node (asked_by (clnp_systems.configuration_of c.args.self.now.system).role c.args.event.now)) node node
    c.args.self.now _ _ _ _
    (λ outcomes. ap (λ (event : Event). come_all node (asked_by (clnp_systems.configuration_of c.args.self.now.system).role event) outcomes) c.in-Unroute.is) refl
    (plays_nothing node c.args.self.now (g.B.Ports.ports c.args.board.now) (g.K.Sink.written c.args.sink.now) h)

pub returns-in-TickSystem-clause-plays : goal.returns-in-TickSystem-clause-plays
returns-in-TickSystem-clause-plays g c = λ node h.
    plays_as (λ outcomes. Goes node outcomes []) (come_all node (asked_by (clnp_systems.configuration_of c.args.self.now.system).role c.args.event.now)) node node
    c.args.self.now _ _ _ _
    (λ outcomes. ap (λ (event : Event). come_all node (asked_by (clnp_systems.configuration_of c.args.self.now.system).role event) outcomes) c.in-TickSystem.is) refl
    (plays_nothing node c.args.self.now (g.B.Ports.ports c.args.board.now) (g.K.Sink.written c.args.sink.now) h)

pub returns-in-Port-clause-plays : goal.returns-in-Port-clause-plays
returns-in-Port-clause-plays g c = λ node h.
    plays_as (λ outcomes. Goes node outcomes []) (come_all node (asked_by (clnp_systems.configuration_of c.args.self.now.system).role c.args.event.now)) node node
    c.args.self.now _ _ _ _
    (λ outcomes. ap (λ (event : Event). come_all node (asked_by (clnp_systems.configuration_of c.args.self.now.system).role event) outcomes) c.in-Port.is) refl
    (plays_nothing node c.args.self.now (g.B.Ports.ports c.args.board.now) (g.K.Sink.written c.args.sink.now) h)
