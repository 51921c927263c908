use Rattle.std.proofs.Common.{length}
use Rattle.clnp_program.proofs.command.+no_link_from.Given as goal

abbrev pub decreases-no_link_from : goal.decreases-no_link_from
decreases-no_link_from l = length l.words.now
