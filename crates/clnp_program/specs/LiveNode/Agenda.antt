-- Which events of a scenario a node has still to do, and what they ask.
use Rattle.std.specs.Prelude.{ℕ, List, drop}
use Rattle.std.specs.List.{flat_map}
use Rattle.clnp_machine.specs.ClnpPlan.declared.config.Role.{Role}
use Rattle.clnp_machine.specs.System.{Input}
use Rattle.clnp_plan.specs.declared.scenario_plan.event.Event.{Event}
use Rattle.clnp_machine.specs.LiveModel.Turn.{Due, asked_by, due_by, dues_from}
use Rattle.clnp_program.specs.declared.live_node.agenda.Agenda.{Agenda}

-- the events that are still to be done, each with the moment from which on it is due
abbrev pub dues_of : Agenda → List Event → List Due
dues_of agenda events = dues_from agenda.moment (drop agenda.next events)

-- what events ask of a system in this role that are due by a moment
abbrev pub asks_by : (now : ℕ) → Role → List Due → List Input
asks_by now role dues = flat_map (λ (due : Due). asked_by role due.event) (due_by now dues)
