use Rattle.clnp_machine.proofs.GoingOn.{led_elsewhere}
use Rattle.clnp_machine.proofs.laws.a_source_route_leads_elsewhere.Goals as goal

pub returns : goal.returns
returns c s =
    led_elsewhere
    (record {
      recorded = c.edits_leave_the_source_route.ensures.target_recorded;
      marked = c.edits_leave_the_source_route.ensures.target_marked;
      formed = c.edits_keep_options_formed.ensures.advanced;
      left = c.a_source_route_leads_on.ensures.left;
    })
    s
