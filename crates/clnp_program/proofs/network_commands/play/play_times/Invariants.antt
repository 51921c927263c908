use Rattle.std.proofs.Common.{ℕ, ◌≤◌, List, ◌++◌, Option, replicate}
use Rattle.clnp_machine.specs.ClnpPlan.declared.scenario_plan.event.Move.{Move}
use Rattle.clnp_machine.specs.ClnpNetwork.LabelledNetwork as network
use Rattle.clnp_machine.specs.ClnpNetwork.Run.{world_after}
use Rattle.clnp_program.specs.ClnpWorld.Stands.{Stands}
use Rattle.clnp_program.specs.NetworkCommands.Playing.{IsUnderWay, Kind}
use Rattle.clnp_program.proofs.network_commands.play.play_times.Given as goal

abbrev pub invariant-loop-made : goal.invariant-loop-made
invariant-loop-made g l =
    ((model : network.LabelledNetwork) → Stands l.initial.world model → Stands l.world (world_after l.scenario model (replicate l._made l.mv)))
    × ((kind : Kind) (model : network.LabelledNetwork) (past : List Move) (before : Option (List ℕ))
    → IsUnderWay kind l.scenario model past l.initial.world before (g.K.Sink.written l.initial.sink) (g.P.Player.played l.initial.player)
    → IsUnderWay kind l.scenario model (past ++ replicate l._made l.mv) l.world before (g.K.Sink.written l.sink) (g.P.Player.played l.player))
    × (g.K.Sink.faults l.initial.sink ≤ g.K.Sink.faults l.sink)
