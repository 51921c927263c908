-- A turn of a live node: a moment comes, each event that is due by then is done, and each port whose link is attached is looked
-- at once.
use Rattle.std.specs.Prelude.{ℕ, ◌+◌, nat_le, not, Bool, List, [], ◌∷◌, ◌++◌, filter}
use Rattle.std.specs.List.{flat_map}
use Rattle.clnp_plan.specs.declared.config.Role.{Role}
use Rattle.clnp_plan.specs.declared.config.Role.TheVariants.{Host, Router}
use Rattle.clnp_machine.specs.System.{Input, AsksToSend, AsksForEcho, MomentComes}
use Rattle.clnp_plan.specs.ScenarioPlan.Plan.{octets_of, ticks_of}
use Rattle.clnp_plan.specs.declared.scenario_plan.event.Event.{Event}
use Rattle.clnp_plan.specs.declared.scenario_plan.event.Event.TheVariants.{Send, Echo, Tick, TickSystem}
use Rattle.clnp_machine.specs.LiveModel.Node.{Node, Outcome, Played, and_then, come_all, looks_at_each, ports_of}

-- an event, and the moment from which on it is due
pub record Due : Type 0 where
  pub moment : ℕ
  pub event : Event

-- ticks are waited for, not done
abbrev pub due_of : ℕ → Event → List Due
due_of moment (Tick count) = []
due_of moment (TickSystem system count) = []
due_of moment event = record { moment = moment; event = event } ∷ []

-- Events, the first of which comes at a moment: each is due from the moment on at which all ticks that stand before it are over.
abbrev pub dues_from : ℕ → List Event → List Due
dues_from moment [] = []
dues_from moment (event ∷ events) = due_of moment event ++ dues_from (moment + ticks_of event) events

abbrev pub is_due : (now : ℕ) → Due → Bool
is_due now due = nat_le due.moment now

-- the events that are due by a moment
abbrev pub due_by : (now : ℕ) → List Due → List Due
due_by now dues = filter (is_due now) dues

-- those that are due later
abbrev pub due_behind : (now : ℕ) → List Due → List Due
due_behind now dues = filter (λ due. not (is_due now due)) dues

-- Octets are asked to be sent of a host; nobody asks a router.
abbrev pub of_host : Role → Input → List Input
of_host Host asked = asked ∷ []
of_host Router asked = []

-- what an event asks of a system in this role, which is the only one of its scenario
abbrev pub asked_by : Role → Event → List Input
asked_by role (Send system from to body ask) = of_host role (AsksToSend from to (octets_of body) ask)
asked_by role (Echo system from to body) = AsksForEcho from to (octets_of body) ∷ []
asked_by role event = []

-- what comes to a system in a turn before it looks: the moment, and what the events ask that are due by then
abbrev pub comes_at : (now : ℕ) → Role → List Due → List Input
comes_at now role dues = MomentComes now ∷ flat_map (λ (due : Due). asked_by role due.event) (due_by now dues)

-- a turn, in which this comes before the looks
abbrev pub takes_turn : List Input → Node → List Outcome → Played
takes_turn inputs node outcomes =
    and_then (come_all node inputs outcomes) (λ other left. looks_at_each other (ports_of other.attached) left)
