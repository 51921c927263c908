use Rattle.clnp_safety.proofs.Redirects.{redirects_change_one}
use Rattle.clnp_safety.proofs.laws.a_redirect_changes_one_next_hop.Goals as goal

pub returns : goal.returns
returns c = redirects_change_one c.a_redirect_changes_one_next_hop.ensures
