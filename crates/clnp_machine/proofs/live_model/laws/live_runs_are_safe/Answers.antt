use Rattle.clnp_machine.proofs.LiveModel.Safe.{live_runs_are_safe}
use Rattle.clnp_machine.proofs.live_model.laws.live_runs_are_safe.Goals as goal

pub returns : goal.returns
returns c = live_runs_are_safe c.a_redirect_changes_one_next_hop.ensures
