use Rattle.clnp_machine.proofs.NextHops.{content_keeps}
use Rattle.clnp_machine.proofs.laws.a_redirect_changes_one_next_hop.Goals as goal

pub returns : goal.returns
returns c =
    content_keeps
    (record {
      others = c.a_redirect_changes_its_destination_alone.ensures.next_hop;
      systems = c.a_redirect_changes_its_destination_alone.ensures.systems;
    })
