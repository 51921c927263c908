use Rattle.clnp_machine.proofs.LiveModel.Events.{due_first, events_once, waiting_are_later}
use Rattle.clnp_machine.proofs.live_model.laws.events_are_done_in_order.Goals as goal

pub returns-clause-once : goal.returns-clause-once
returns-clause-once c = events_once

pub returns-clause-first : goal.returns-clause-first
returns-clause-first c = due_first

pub returns-clause-waiting : goal.returns-clause-waiting
returns-clause-waiting c = waiting_are_later
