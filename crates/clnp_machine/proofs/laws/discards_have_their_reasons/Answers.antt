use Rattle.clnp_machine.proofs.Reasoned.{no_way_in_route, no_way_known, not_next, off_route, over_at_once, over_on_the_way, uncut}
use Rattle.clnp_machine.proofs.laws.discards_have_their_reasons.Goals as goal

pub returns-clause-over : goal.returns-clause-over
returns-clause-over c = over_at_once

pub returns-clause-off_route : goal.returns-clause-off_route
returns-clause-off_route c = off_route

pub returns-clause-unknown : goal.returns-clause-unknown
returns-clause-unknown c = no_way_known

pub returns-clause-unknown_in_route : goal.returns-clause-unknown_in_route
returns-clause-unknown_in_route c = no_way_in_route

pub returns-clause-not_next : goal.returns-clause-not_next
returns-clause-not_next c = not_next

pub returns-clause-transit : goal.returns-clause-transit
returns-clause-transit c = over_on_the_way

pub returns-clause-uncut : goal.returns-clause-uncut
returns-clause-uncut c = uncut
